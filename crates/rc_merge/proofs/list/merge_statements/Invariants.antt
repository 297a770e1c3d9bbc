-- What is done so far, with the statements that are left, makes the whole list.
use Rattle.std.proofs.Common.{◌≡◌, length, map}
use Rattle.rc_merge.proofs.ListWalk.{through}
use Rattle.rc_merge.specs.inside.LastUsesMet.{uses_of}
use Rattle.rc_merge.specs.inside.ListSteps.{close, went}
use Rattle.rc_merge.specs.inside.OpenGroups.{IsHeldIf, going}
use Rattle.rc_tree.specs.declared.statement.ReactiveStatement.{out-ReactiveStatement}
use Rattle.rc_merge.proofs.list.merge_statements.Given as goal

abbrev pub invariant-loop-statement : goal.invariant-loop-statement
invariant-loop-statement l = record {
  held : IsHeldIf l.known.env.now (uses_of l.known.uses.now) l.list.group;
  so_far : close (through l.known.env.now (uses_of l.known.uses.now) (going l.list l.tables) l.left)
      ≡ went l.known.env.now (uses_of l.known.uses.now) (map out-ReactiveStatement l.fn.statements) l.fn.tables.scopes
      l.fn.tables.copies l.fn.tables.log;
}

abbrev pub decreases-loop-statement : goal.decreases-loop-statement
decreases-loop-statement l = length l.left
