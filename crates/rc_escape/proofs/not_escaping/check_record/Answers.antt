-- The record is the one that the rows stand for.
use Rattle.rc_memo.specs.RowRecord.{record_of_rows}
use Rattle.rc_escape.proofs.not_escaping.check_record.Goals as goal

pub returns-clause-ok : goal.returns-clause-ok
returns-clause-ok c = record {
  rec = record_of_rows c.in_ok-rows.rows;
  recorded = c.in_ok-rows.ensures.ok;
  whole = c.in_default.ensures;
}

pub returns-in-Some-clause-refused : goal.returns-in-Some-clause-refused
returns-in-Some-clause-refused c = record {
  rec = record_of_rows c.in_ok-rows.rows;
  recorded = c.in_ok-rows.ensures.ok;
  lowest = c.in-Some.ensures;
}
