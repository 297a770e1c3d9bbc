use Rattle.std.proofs.Common.{◌≡◌, drop}
use Rattle.rc_flow.specs.inside.Marks.{with_reassigned}
use Rattle.rc_flow.proofs.always_invalidating.marks.add_reassigned.Given as goal

-- the names that are left do the rest
abbrev pub invariant-loop-name : goal.invariant-loop-name
invariant-loop-name l =
    with_reassigned l.others l.names l.initial.set ≡ with_reassigned l.others (drop l.name-index l.names) l.set
