use Rattle.std.proofs.Common.{◌≡◌, take}
use Rattle.rc_tree.proofs.copies.statement.+copy_tree.Given as goal

abbrev pub invariant-ReactiveBlockCloneIn::clone_in-loop-statement :
    goal.invariant-ReactiveBlockCloneIn::clone_in-loop-statement
invariant-ReactiveBlockCloneIn::clone_in-loop-statement l = l.statements ≡ take l.statement-index l.statement-items

abbrev pub invariant-copied_cases-loop-case : goal.invariant-copied_cases-loop-case
invariant-copied_cases-loop-case l = l.copies ≡ take l.case-index l.case-items
