-- What views of values and of rows are seen as.
use Rattle.rc_tree.specs.Model.{ReactiveInstruction}
use Rattle.rc_flat.specs.Model.{FlatInstruction, FlatValue}
use Rattle.rc_flat.specs.declared.value.FlatValue.TheVariants as values
use Rattle.rc_answer.specs.declared.view.value.ValueForm.{ValueForm}
use Rattle.rc_answer.specs.declared.view.value.ValueForm.TheVariants as value_form

-- the value of a form
abbrev pub value_seen : ValueForm → FlatValue
value_seen (value_form.Instruction x) = values.Instruction x.now
value_seen (value_form.Nested n) = values.Nested n

-- a row of the tree with that value in its place
abbrev pub row_seen : ReactiveInstruction → FlatValue → FlatInstruction
row_seen row x = record { id = row.id; lvalue = row.lvalue; value = x; span = row.span }
