-- A status says when it comes.
use Rattle.rc_program.specs.declared.status.Status.TheVariants.{Done}
use Rattle.rc_program.proofs.StatusLemmas.{completes, exactly, usage_exactly}
use Rattle.rc_program.proofs.top.program.Goals as goal

pub returns-clause-usage : goal.returns-clause-usage
returns-clause-usage g c = rw c.status_from.ensures (usage_exactly _ _ _ _ _ _ c.run.ensures.outcome)

pub returns-clause-exact : goal.returns-clause-exact
returns-clause-exact g c = λ command due is told.
    rw c.status_from.ensures
    (exactly _ _ _ _ _ command due _ _ _ is c.run.ensures.outcome c.run.ensures.read c.run.ensures.write told)

pub returns-clause-complete : goal.returns-clause-complete
returns-clause-complete g c = λ command is told source sink.
    rw c.status_from.ensures
    (completes _ (exactly _ _ _ _ _ command Done _ _ _ is c.run.ensures.outcome c.run.ensures.read c.run.ensures.write told)
    source sink)
