use Rattle.std.proofs.Common.{◌≡◌, ◌++◌, drop}
use Rattle.rc_names.specs.Numbers.{EvaluationOrder}
use Rattle.rc_tree.specs.Collected.{collected_cases, collected_list}
use Rattle.rc_flow.specs.ValueSteps.{value_step_parts}
use Rattle.rc_flow.proofs.always_invalidating.steps.+value_steps.Given as goal

-- the steps added so far and those still to come are all the steps
abbrev pub invariant-add_statements-loop-statement : goal.invariant-add_statements-loop-statement
invariant-add_statements-loop-statement l =
    l.steps ++ collected_list value_step_parts (drop l.statement-index l.all) l.in_scope ≡ l.fn.steps
    ++ collected_list value_step_parts l.all l.in_scope

abbrev pub invariant-add_cases-loop-case : goal.invariant-add_cases-loop-case
invariant-add_cases-loop-case l = (id : EvaluationOrder) →
    l.steps ++ collected_cases value_step_parts id (drop l.case-index l.cases) l.in_scope ≡ l.fn.steps
    ++ collected_cases value_step_parts id l.cases l.in_scope
