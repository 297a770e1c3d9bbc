use Rattle.std.proofs.Common.{◌≡◌, drop}
use Rattle.rc_flow.specs.inside.Spread.{with_declared}
use Rattle.rc_flow.proofs.spread.add_outputs.Given as goal

-- the declarations that are left do the rest
abbrev pub invariant-loop-entry : goal.invariant-loop-entry
invariant-loop-entry l =
    with_declared l.scope.declarations l.initial.set ≡ with_declared (drop l.entry-index l.entry-items) l.set
