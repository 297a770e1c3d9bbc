use Rattle.std.proofs.Common.{◌∙◌, inr, Ok, Err, ap, arith}
use Rattle.std.proofs.lemmas.List.{reverse-reverse}
use Rattle.std.proofs.lemmas.Result.{err_from_is_err_and}
use Rattle.rc_tree.proofs.PlaceLemmas.{most_pop}
use Rattle.rc_tree.proofs.FuelLemmas.{meets_inside_fault, so_far_next, most-reverse}
use Rattle.rc_tree.proofs.RewriteValueLemmas.{meets_instruction_at, meets_value_to, rows_at-in_turn}
use Rattle.rc_tree.specs.Fuel.{kept_into}
use Rattle.rc_tree.specs.Rewrite.Values.{instruction_at, instruction_inside, rows_at, value_inside, value_to}
use Rattle.rc_tree.proofs.value.ReactiveInstruction.TheLaws.{the_size}
use Rattle.rc_walk.proofs.rewrite.value.+rewrite_value.Goals as goal

pub walk_rows-loop-row-init : goal.walk_rows-loop-row-init
walk_rows-loop-row-init g t c = record {
  no_deeper = rw (c.reverse.ensures, c.take-left.ensures.list) (omega (arith, most-reverse the_size c.args.rows.now));
  so_far = λ n.
      let steps = g.T.ReactiveFunctionTransform.steps in
      let functions = g.T.ReactiveFunctionTransform.functions in
      rw (c.reverse.ensures, c.take-left.ensures.list, c.take-left.ensures.left, reverse-reverse c.args.rows.now)
      (inr (rows_at-in_turn steps functions (value_to steps functions n) (c.args.transform.now, c.args.state.now)
      c.args.rows.now));
}

pub walk_rows-loop-row-preserved : goal.walk_rows-loop-row-preserved
walk_rows-loop-row-preserved g t c = record {
  no_deeper = omega (
    arith,
    c.loop-row.invariant.no_deeper,
    (most_pop the_size c.loop-row.left c.pop.new.self c.in-Some.row c.in-Some.ensures.last).1,
  );
  so_far = λ n.
      let steps = g.T.ReactiveFunctionTransform.steps in
      let functions = g.T.ReactiveFunctionTransform.functions in
      so_far_next (kept_into (instruction_at steps functions (value_to steps functions n)))
      (rows_at steps functions (value_to steps functions n) (c.args.transform.now, c.args.state.now)
      c.args.rows.now)
      (c.loop-row.transform, c.loop-row.state) c.loop-row.rows c.loop-row.left c.pop.new.self c.in-Some.row
      (c.walk_row_into.new.transform, c.walk_row_into.new.state) c.walk_row_into.new.done
      (c.loop-row.invariant.so_far n) c.in-Some.ensures.last (c.in_ok-walk_row_into.ensures n);
}

-- the inside fails
pub walk_row-returns-in_err-walk_inside_row-in-Inside : goal.walk_row-returns-in_err-walk_inside_row-in-Inside
walk_row-returns-in_err-walk_inside_row-in-Inside g t c = λ n.
    let steps = g.T.ReactiveFunctionTransform.steps in
    let functions = g.T.ReactiveFunctionTransform.functions in
    let fault = c.in_err-walk_inside_row-in-Inside.field-0.0 in
    let p = err_from_is_err_and c.from_residual-in_err-walk_inside_row-in-Inside.result
    c.from_residual-in_err-walk_inside_row-in-Inside.ensures.1 in
    rw (p.1, p.2) (meets_instruction_at steps functions (value_to steps functions n)
    (c.args.transform.now, c.args.state.now) c.args.row.now (Err fault)
    ((c.walk_inside_row.new.transform, c.walk_inside_row.new.state), c.walk_inside_row.new.row)
    (meets_inside_fault (steps.enter_instruction (c.args.transform.now, c.args.state.now) c.args.row.now)
    (instruction_inside steps functions (value_to steps functions n)) steps.leave_instruction
    ((c.enter_instruction.new.self, c.enter_instruction.new.state), c.enter_instruction.new.instruction)
    ((c.walk_inside_row.new.transform, c.walk_inside_row.new.state), c.walk_inside_row.new.row) fault
    ((c.walk_inside_row.new.transform, c.walk_inside_row.new.state), c.walk_inside_row.new.row)
    (c.in_ok-enter_instruction.ensures.step ∙ ap (λ a. Ok
    (a, ((c.enter_instruction.new.self, c.enter_instruction.new.state), c.enter_instruction.new.instruction)))
    c.in-Inside.is) (c.in_err-walk_inside_row-in-Inside.ensures n)))

-- the inside fails
pub walk_value_to-returns-in_err-walk_inside_value-in-Inside :
    goal.walk_value_to-returns-in_err-walk_inside_value-in-Inside
walk_value_to-returns-in_err-walk_inside_value-in-Inside g t c = λ n.
    let steps = g.T.ReactiveFunctionTransform.steps in
    let functions = g.T.ReactiveFunctionTransform.functions in
    let fault = c.in_err-walk_inside_value-in-Inside.field-0.0 in
    let p = err_from_is_err_and c.from_residual-in_err-walk_inside_value-in-Inside.result
    c.from_residual-in_err-walk_inside_value-in-Inside.ensures.1 in
    rw (p.1, p.2) (meets_value_to steps functions c.args.id (c.args.transform.now, c.args.state.now) c.args.value.now
    (Err fault) ((c.walk_inside_value.new.transform, c.walk_inside_value.new.state), c.walk_inside_value.new.value)
    (λ m. meets_inside_fault (steps.enter_value c.args.id (c.args.transform.now, c.args.state.now) c.args.value.now)
    (value_inside steps functions (value_to steps functions m) c.args.id) (steps.leave_value c.args.id)
    ((c.enter_value.new.self, c.enter_value.new.state), c.enter_value.new.value)
    ((c.walk_inside_value.new.transform, c.walk_inside_value.new.state), c.walk_inside_value.new.value) fault
    ((c.walk_inside_value.new.transform, c.walk_inside_value.new.state), c.walk_inside_value.new.value)
    (c.in_ok-enter_value.ensures.step
    ∙ ap (λ a. Ok (a, ((c.enter_value.new.self, c.enter_value.new.state), c.enter_value.new.value))) c.in-Inside.is)
    (c.in_err-walk_inside_value-in-Inside.ensures m)) n)
