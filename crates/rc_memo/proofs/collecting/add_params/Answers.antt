use Rattle.std.proofs.Common.{[], ◌∷◌, refl, subst}
use Rattle.rc_memo.proofs.GrowingLemmas.{adds_no_scopes}
use Rattle.rc_memo.proofs.RecordingLemmas.{adds_by, adds_next, adds_nothing}
use Rattle.rc_memo.proofs.StepsLemmas.{part_more}
use Rattle.rc_memo.specs.Facts.{GivesLevel}
use Rattle.rc_memo.specs.Record.{param_name}
use Rattle.rc_memo.specs.declared.level.MemoizationLevel.TheVariants.{Never}
use Rattle.rc_memo.specs.declared.recording.Recording.{Recording}
use Rattle.rc_memo.specs.inside.Recording.{Adds}
use Rattle.rc_memo.specs.inside.RowNodes.{AddsFacts}
use Rattle.rc_memo.proofs.collecting.add_params.Goals as goal

pub loop-param-init : goal.loop-param-init
loop-param-init c = adds_nothing c.args.reader.now.env.now c.args.recording.now

pub loop-param-preserved : goal.loop-param-preserved
loop-param-preserved c =
    let env = c.args.reader.now.env.now in
    let mid = c.loop-param.recording in
    let new : Recording = record mid { held = c.add_level.new.self } in
    part_more (λ facts. Adds env facts []) (λ xs ys. adds_next env xs ys [] [])
    (λ param. GivesLevel (param_name env param) Never ∷ []) c.as_slice-param-items.result.now
    c.loop-param.param-index _ c.args.recording.now mid new c.loop-param-test.true c.loop-param.invariant
    (adds_by env _ [] mid new (subst (λ w. AddsFacts (GivesLevel w Never ∷ []) mid.held c.add_level.new.self)
    c.param_of-name.ensures c.in_ok-add_level.ensures) (adds_no_scopes env mid.scopes) refl refl refl)
