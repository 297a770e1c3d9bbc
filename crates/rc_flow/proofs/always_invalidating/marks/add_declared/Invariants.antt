use Rattle.std.proofs.Common.{◌≡◌, drop}
use Rattle.rc_flow.specs.inside.Marks.{with_declared}
use Rattle.rc_flow.proofs.always_invalidating.marks.add_declared.Given as goal

-- the declarations that are left do the rest
abbrev pub invariant-loop-entry : goal.invariant-loop-entry
invariant-loop-entry l =
    with_declared l.others l.entries l.initial.set ≡ with_declared l.others (drop l.entry-index l.entries) l.set
