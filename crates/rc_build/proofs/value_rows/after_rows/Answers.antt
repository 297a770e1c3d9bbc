use Rattle.std.proofs.Common.{sym, ◌∙◌, true≢false}
use Rattle.rc_build.proofs.ValueRowsLemmas.{sequence_is, boxed_is}
use Rattle.rc_build.proofs.value_rows.after_rows.Goals as goal

pub returns : goal.returns
returns c = boxed_is c.new.result c.new.ensures
    (sequence_is c.args.rows c.args.id c.args.value
    (λ none. true≢false (sym (c.is_empty.ensures.1 none) ∙ c.if-is_empty.false)))
