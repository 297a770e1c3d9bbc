use Rattle.rc_escape.proofs.FitsLemmas.{fits_at_start}
use Rattle.rc_escape.proofs.walk_state.WalkState.new.Goals as goal

pub returns-clause-fits : goal.returns-clause-fits
returns-clause-fits c =
    fits_at_start c.args.rows.now (record {
      marks = c.in_ok-new.field-0;
      taken = c.in_ok-new-2.field-0;
      passed = c.in_ok-new-3.field-0;
      answered = c.in_ok-new-4.field-0;
      users = c.in_ok-row_users.field-0;
    }) c.len-nodes.result c.len.result c.len-operands.result c.len-nodes.ensures.value c.len.ensures.value
    c.len-operands.ensures c.in_ok-new.ensures c.in_ok-new-2.ensures c.in_ok-new-3.ensures c.in_ok-new-4.ensures
    c.in_ok-row_users.ensures c.len-nodes.ensures.distinct
