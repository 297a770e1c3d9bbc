-- What taking a sequence apart gives.
use Rattle.std.specs.Prelude.{◌≡◌, List}
use Rattle.rc_names.specs.Numbers.{EvaluationOrder}
use Rattle.rc_tree.specs.Model.{ReactiveInstruction, ReactiveValue}
use Rattle.rc_tree.specs.declared.value.Opened.{Opened}
use Rattle.rc_tree.specs.declared.value.Opened.TheVariants as opened
use Rattle.rc_tree.specs.declared.value.ReactiveValue.TheVariants as reactive_values

-- the parts of a sequence, or another value
abbrev pub IsOpened : ReactiveValue → Opened → Type 0
IsOpened value (opened.Sequence rows behind) =
    (id : EvaluationOrder) × (value ≡ reactive_values.SequenceExpression rows id behind)
IsOpened value (opened.Last last) = (last ≡ value) × ((rows : List ReactiveInstruction) (id : EvaluationOrder)
    (behind : ReactiveValue) → value ≡ reactive_values.SequenceExpression rows id behind → ⊥)
