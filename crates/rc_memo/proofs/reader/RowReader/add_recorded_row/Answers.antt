use Rattle.std.proofs.Common.{◌∙◌, ◌++◌, ap}
use Rattle.rc_memo.proofs.RowEventsLemmas.{context_is, row_told}
use Rattle.rc_memo.proofs.TellsLemmas.{tells_with_room}
use Rattle.rc_memo.specs.RowEvents.{recorded_operands}
use Rattle.rc_memo.specs.Table.{levels_of, memo_rule, recorded_of, written_levels}
use Rattle.rc_memo.proofs.reader.RowReader.add_recorded_row.Goals as goal

pub record_row-requires : goal.record_row-requires
unfolding recorded_operands
record_row-requires c =
    let env = c.args.self.now.env.now in
    let value = c.args.value.now in
    context_is env c.function_named.result (recorded_operands env value) c.recorded.result.now
    (c.recorded.ensures ∙ ap (λ w. recorded_of env w c.in_ok-all.all) c.memo_rule-line.ensures
    ∙ ap (recorded_of env (memo_rule value)) c.in_ok-all.ensures) c.function_named.ensures

pub returns : goal.returns
unfolding recorded_operands
returns c =
    let env = c.args.self.now.env.now in
    let value = c.args.value.now in
    let written = written_levels value in
    tells_with_room env _ c.args.recording.now c.record_row.new.recording
    c.take-levels.new.self _
    (row_told env c.args.id _ c.record_row.new.recording
    (c.recorded.ensures ∙ ap (λ w. recorded_of env w c.in_ok-all.all) c.memo_rule-line.ensures
    ∙ ap (recorded_of env (memo_rule value)) c.in_ok-all.ensures)
    (c.in_ok-push_levels.ensures
    ∙ ap (λ w. w ++ levels_of env c.memo_rule-line.result c.args.target c.in_ok-all.all written) c.clear.ensures
    ∙ ap (λ w. levels_of env w c.args.target c.in_ok-all.all written) c.memo_rule-line.ensures
    ∙ ap (λ w. levels_of env (memo_rule value) c.args.target w written) c.in_ok-all.ensures)
    c.in_ok-record_row.ensures)
