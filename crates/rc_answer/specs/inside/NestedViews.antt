-- What views of nested values are seen as.
use Rattle.rc_flat.specs.Model.{NestedValue}
use Rattle.rc_flat.specs.declared.value.NestedValue.TheVariants as entry
use Rattle.rc_answer.specs.declared.view.nested.NestedForm.{NestedForm}
use Rattle.rc_answer.specs.declared.view.nested.NestedForm.TheVariants as nested_form

-- the nested value of a form
abbrev pub nested_seen : NestedForm → NestedValue
nested_seen (nested_form.LogicalExpression operator left right) = entry.LogicalExpression operator.now left right
nested_seen (nested_form.ConditionalExpression test consequent alternate) =
    entry.ConditionalExpression test consequent alternate
nested_seen (nested_form.SequenceExpression rows id x) = entry.SequenceExpression rows id x
nested_seen (nested_form.OptionalExpression x optional) = entry.OptionalExpression x optional
