-- Rows and cases get their numbers one after the other.
use Rattle.std.proofs.Common.{refl}
use Rattle.rc_flat.specs.Blocks.{block_if, block_of_case, blocks_in_cases, flat_cases}
use Rattle.rc_flat.specs.Values.{flat_row, flat_rows, nested, nested_in_rows}
use Rattle.rc_answer.proofs.NumberingLemmas.{GoesThrough}
use Rattle.rc_answer.specs.inside.Cases.{flat_case}

pub rows_go : GoesThrough flat_row (λ row. nested row.value) flat_rows nested_in_rows
rows_go = record {
  none = λ n. refl;
  some = λ n row rows. refl;
  none_inside = refl;
  some_inside = λ row rows. refl;
}

pub cases_go : GoesThrough flat_case (λ case. block_if (block_of_case case)) flat_cases blocks_in_cases
cases_go = record {
  none = λ n. refl;
  some = λ n case cases. refl;
  none_inside = refl;
  some_inside = λ case cases. refl;
}
