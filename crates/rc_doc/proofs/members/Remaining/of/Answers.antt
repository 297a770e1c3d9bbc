use Rattle.rc_doc.proofs.FoundLemmas.{next_ascends}
use Rattle.rc_doc.proofs.members.Remaining.of.Goals as goal

pub returns-in-Some-clause-ascend : goal.returns-in-Some-clause-ascend
returns-in-Some-clause-ascend c =
    next_ascends _ _ _ (rw c.iter-later.ensures.rest c.iter-later.ensures.ordered) c.next-next.ensures.steps
