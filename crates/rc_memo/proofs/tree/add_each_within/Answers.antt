use Rattle.std.proofs.Common.{[], ◌∷◌}
use Rattle.rc_memo.proofs.StepsLemmas.{part_more}
use Rattle.rc_memo.proofs.TellsLemmas.{tells_next, tells_nothing}
use Rattle.rc_hir.specs.Environment.{declaration_of}
use Rattle.rc_memo.specs.declared.event.MemoEvent.TheVariants as kinds
use Rattle.rc_memo.specs.inside.Recording.{Tells}
use Rattle.rc_memo.proofs.tree.add_each_within.Goals as goal

pub loop-number-init : goal.loop-number-init
loop-number-init c = tells_nothing c.args.reader.now.env.now c.args.recording.now

pub loop-number-preserved : goal.loop-number-preserved
loop-number-preserved c =
    let env = c.args.reader.now.env.now in
    part_more (Tells env) (tells_next env)
    (λ number. kinds.Within (declaration_of env number) c.args.scopes.now ∷ []) c.as_slice-number-items.result.now
    c.loop-number.number-index _ c.args.recording.now c.loop-number.recording c.record_within.new.recording
    c.loop-number-test.true c.loop-number.invariant c.in_ok-record_within.ensures
