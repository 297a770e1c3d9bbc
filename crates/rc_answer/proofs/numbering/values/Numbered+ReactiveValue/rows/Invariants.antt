use Rattle.std.proofs.Common.{drop}
use Rattle.rc_flat.specs.Values.{flat_row, flat_rows, nested, nested_in_rows}
use Rattle.rc_answer.proofs.NumberingLemmas.{IsDone}
use Rattle.rc_answer.proofs.numbering.values.Numbered+ReactiveValue.rows.Given as goal

abbrev pub invariant-loop-row : goal.invariant-loop-row
invariant-loop-row l =
    IsDone flat_row (λ row. nested row.value) flat_rows nested_in_rows (drop l.row-index l.rows) l.rows l.views
    l.initial.self l.self
