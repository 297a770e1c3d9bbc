use Rattle.std.proofs.Common.{◌≡◌, drop}
use Rattle.rc_flow.specs.inside.Spread.{with_all}
use Rattle.rc_flow.proofs.spread.add_all.Given as goal

-- the names that are left do the rest
abbrev pub invariant-loop-name : goal.invariant-loop-name
invariant-loop-name l = with_all l.names l.initial.set ≡ with_all (drop l.name-index l.names) l.set
