use Rattle.std.proofs.Common.{◌∙◌, ◌++◌, ap}
use Rattle.rc_memo.proofs.RowEventsLemmas.{row_told}
use Rattle.rc_memo.proofs.StepsLemmas.{onward}
use Rattle.rc_memo.specs.RowEvents.{own_events, parts_of}
use Rattle.rc_memo.specs.Table.{own}
use Rattle.rc_memo.specs.declared.level.MemoizationLevel.TheVariants.{Conditional}
use Rattle.rc_memo.proofs.reader.RowReader.add_expression.Goals as goal

pub returns : goal.returns
unfolding own_events
returns c =
    let env = c.args.self.now.env.now in
    onward c.record_row.result (row_told env c.args.id c.args.recording.now c.record_row.new.recording
    (c.as_slice.ensures ∙ c.in_ok-add_places.ensures.places
    ∙ ap (λ w. w ++ (parts_of env c.args.value.now).places) c.new-places.ensures)
    (c.in_ok-push_own.ensures ∙ ap (λ w. w ++ own c.args.target Conditional) c.new-levels.ensures))
    c.record_row.ensures
