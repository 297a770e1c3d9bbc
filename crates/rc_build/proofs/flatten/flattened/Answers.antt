use Rattle.std.proofs.Common.{◌++◌, sym, ap, ◌∙◌}
use Rattle.rc_tree.specs.declared.value.ReactiveValue.TheVariants as reactive_values
use Rattle.rc_runs.specs.TreeOf.{instructions_of}
use Rattle.rc_runs.specs.Flattened.{final_row, final_value, flat_rows, rows_join}
use Rattle.rc_build.proofs.ValueRowsLemmas.{boxed_is, instructions_of-rows_join}
use Rattle.rc_build.proofs.flatten.flattened.Goals as goal

pub returns : goal.returns
returns c = λ plain is.
    let flat = c.in_ok-flat.ensures plain is in
    let id = c.args.id in
    let last = final_row c.args.answer id c.args.span (final_value plain) in
    boxed_is c.new.result c.new.ensures
    (ap (λ z. reactive_values.SequenceExpression z id c.in_ok-base_value.field-0)
    (c.in_ok-instructions.ensures (final_value plain) flat.1 ∙ ap (λ z. z ++ instructions_of last) flat.0
    ∙ sym (instructions_of-rows_join (flat_rows plain) last))
    ∙ ap (λ z. reactive_values.SequenceExpression (instructions_of (rows_join (flat_rows plain) last)) id z)
    c.in_ok-base_value.ensures)
