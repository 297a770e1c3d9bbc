use Rattle.rc_memo.proofs.ExpandedLemmas.{PutsBut, puts_next}
use Rattle.rc_memo.proofs.StepsLemmas.{one_more}
use Rattle.rc_memo.proofs.expanding.put_names.Goals as goal

pub loop-other-preserved : goal.loop-other-preserved
loop-other-preserved c =
    one_more (PutsBut c.args.name) (puts_next c.args.name) c.args.names.now c.loop-other.other-index _ c.args.set.now
    c.loop-other.set c.put_other.new.set c.loop-other-test.true c.loop-other.invariant c.in_ok-put_other.ensures
