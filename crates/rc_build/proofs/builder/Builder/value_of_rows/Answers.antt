use Rattle.std.proofs.Common.{refl, ap, ◌∙◌}
use Rattle.rc_build.specs.inside.ValueRows.{behind_rows}
use Rattle.rc_build.proofs.BuildsLemmas.{passed_on}
use Rattle.rc_build.proofs.ValueMadeLemmas.{listed_front, listed_last, rows_made, rows_without_front, rows_without_last}
use Rattle.rc_build.proofs.builder.Builder.value_of_rows.Goals as goal

pub row_with_id-requires : goal.row_with_id-requires
row_with_id-requires c = listed_last c.args.front.now c.args.last c.requires

pub sequence_rows-requires : goal.sequence_rows-requires
sequence_rows-requires c = listed_front c.args.front.now c.args.last c.requires

pub returns-in_err-row-clause-refused : goal.returns-in_err-row-clause-refused
returns-in_err-row-clause-refused c = λ named rule e. rows_without_last c.args.front.now c.args.last
    (c.in_err-row.ensures.refused named rule (passed_on c.from_residual.ensures.1 e))

pub returns-in_err-rows-clause-refused : goal.returns-in_err-rows-clause-refused
returns-in_err-rows-clause-refused c = λ named rule e. rows_without_front c.args.front.now c.args.last
    (c.in_err-rows.ensures.refused named rule (passed_on c.from_residual-in_err-rows.ensures.1 e))

pub returns-clause-ok : goal.returns-clause-ok
returns-clause-ok c = rows_made c.args.front.now c.args.last c.in_ok-rows.rows c.in_ok-row.row.now _
    c.in_ok-rows.ensures.ok c.in_ok-row.ensures.ok
    (c.in_ok-after_rows.ensures ∙ ap (behind_rows c.in_ok-rows.rows c.in_ok-row.row.now.id) c.in_ok-value.ensures)
    c.last_answer.ensures refl refl refl refl
