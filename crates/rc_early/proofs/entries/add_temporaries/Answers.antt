use Rattle.rc_early.proofs.GrowsLemmas.{grows_on}
use Rattle.rc_early.proofs.entries.add_temporaries.Goals as goal

pub returns-in_err-add_temporary-2-clause-grows : goal.returns-in_err-add_temporary-2-clause-grows
returns-in_err-add_temporary-2-clause-grows c = grows_on _ _ _ c.add_temporary.ensures.grows
    c.add_temporary-2.ensures.grows

pub returns-in_err-add_temporary-3-clause-grows : goal.returns-in_err-add_temporary-3-clause-grows
returns-in_err-add_temporary-3-clause-grows c = grows_on _ _ _
    (grows_on _ _ _ c.add_temporary.ensures.grows c.add_temporary-2.ensures.grows) c.add_temporary-3.ensures.grows

pub returns-clause-grows : goal.returns-clause-grows
returns-clause-grows c = grows_on _ _ _
    (grows_on _ _ _ c.add_temporary.ensures.grows c.add_temporary-2.ensures.grows)
    (grows_on _ _ _ c.add_temporary-3.ensures.grows c.add_temporary-4.ensures.grows)
