-- The steps of a value are those that were added for its parts.
use Rattle.std.proofs.Common.{◌≡◌, ◌∙◌, List, ◌++◌, map, sym, ap}
use Rattle.std.proofs.lemmas.List.{append-nil}
use Rattle.rc_hir.specs.Model.{Environment, LogicalOperator}
use Rattle.rc_names.specs.Numbers.{EvaluationOrder}
use Rattle.rc_tree.proofs.CollectedLemmas.{collected-Base, collected-Conditional, collected-Logical, collected-Optional}
use Rattle.rc_tree.proofs.CollectedLemmas.{collected-row, collected-Sequence}
use Rattle.rc_tree.specs.Joining.{all_of, lists}
use Rattle.rc_tree.specs.Model.{ReactiveInstruction, ReactiveValue}
use Rattle.rc_tree.specs.declared.value.ReactiveValue.TheVariants as reactive_values
use Rattle.rc_flow.proofs.ListLemmas.{added, added_three}
use Rattle.rc_flow.specs.Flows.Values.{row_flows}
use Rattle.rc_flow.specs.declared.step.Step.{Step}
use Rattle.rc_flow.specs.inside.PartFlows.{steps_of_row, steps_of_value}

module _ (env : Environment) (id : EvaluationOrder) where
  abbrev steps : ReactiveValue → List Step
  steps = steps_of_value env id

  pub added-Logical : (operator : LogicalOperator) (left right x y value : ReactiveValue) (old middle new : List Step)
      → value ≡ reactive_values.LogicalExpression operator left right → x ≡ left → y ≡ right
      → middle ≡ old ++ steps x → new ≡ middle ++ steps y → new ≡ old ++ steps value
  added-Logical operator left right x y value old middle new is e f a b =
      added old middle new (steps x) (steps y) (steps value) a
      (ap steps is ∙ collected-Logical (row_flows env) operator left right id
      ∙ (λ i. steps (sym e i) ++ steps (sym f i))) b

  pub added-Conditional : (test consequent alternate x y z value : ReactiveValue) (old one two new : List Step)
      → value ≡ reactive_values.ConditionalExpression test consequent alternate → x ≡ test → y ≡ consequent
      → z ≡ alternate → one ≡ old ++ steps x → two ≡ one ++ steps y → new ≡ two ++ steps z
      → new ≡ old ++ steps value
  added-Conditional test consequent alternate x y z value old one two new is e f g a b c =
      added_three old one two new (steps x) (steps y) (steps z) (steps value) a b
      (ap steps is ∙ collected-Conditional (row_flows env) test consequent alternate id
      ∙ (λ i. steps (sym e i) ++ (steps (sym f i) ++ steps (sym g i)))) c

  pub added-Sequence : (rows items : List ReactiveInstruction) (own : EvaluationOrder) (last x value : ReactiveValue)
      (old middle new : List Step) → value ≡ reactive_values.SequenceExpression rows own last → items ≡ rows → x ≡ last
      → middle ≡ old ++ all_of lists (map (steps_of_row env) items) → new ≡ middle ++ steps_of_value env own x
      → new ≡ old ++ steps value
  added-Sequence rows items own last x value old middle new is e f a b =
      added old middle new (all_of lists (map (steps_of_row env) items)) (steps_of_value env own x) (steps value) a
      (ap steps is ∙ collected-Sequence (row_flows env) rows own last id
      ∙ (λ i. all_of lists (map (steps_of_row env) (sym e i)) ++ steps_of_value env own (sym f i))) b

-- with these, `search` unfolds the steps of each form
pub ruleset value_forms = (
  collected-Base,
  collected-Logical,
  collected-Conditional,
  collected-Sequence,
  collected-Optional,
  collected-row,
  append-nil,
)
