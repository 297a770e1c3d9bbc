-- The names are those of the record that the rows stand for.
use Rattle.std.proofs.lemmas.Result.{err_from_is_err_and}
use Rattle.rc_escape.proofs.NotEscaping.EscapeFaults.{escape_fault}
use Rattle.rc_memo.specs.RowRecord.{record_of_rows}
use Rattle.rc_escape.proofs.not_escaping.deciding_names.Goals as goal

pub returns-clause-ok : goal.returns-clause-ok
returns-clause-ok c = record {
  rec = record_of_rows c.in_ok-rows.rows;
  recorded = c.in_ok-rows.ensures.ok;
  whole = c.in_ok-set.ensures.recorded;
  memoized = c.in_ok-set.ensures.ok;
}

pub returns-in_err-set-clause-refused : goal.returns-in_err-set-clause-refused
returns-in_err-set-clause-refused c =
    let p = err_from_is_err_and c.from_residual-in_err-set.result c.from_residual-in_err-set.ensures.1 in
    rw (p.1, p.2)
    (escape_fault c.args.env.now c.args.func.now _ (record_of_rows c.in_ok-rows.rows) c.in_ok-rows.ensures.ok
    c.in_err-set.ensures.no_scope_node)
