use Rattle.std.proofs.Common.{◌≡◌, ◌++◌, drop}
use Rattle.rc_names.specs.Numbers.{EvaluationOrder}
use Rattle.rc_tree.specs.Collected.{collected_cases, collected_list}
use Rattle.rc_tree.specs.ScopesIn.{scope_parts}
use Rattle.rc_tree.proofs.scopes.+scopes.Given as goal

-- the scopes found so far and those still to come are all that are found
abbrev pub invariant-add_statements-loop-statement : goal.invariant-add_statements-loop-statement
invariant-add_statements-loop-statement l =
    l.found ++ collected_list scope_parts (drop l.statement-index l.all) ≡ l.fn.found
    ++ collected_list scope_parts l.all

abbrev pub invariant-add_cases-loop-case : goal.invariant-add_cases-loop-case
invariant-add_cases-loop-case l = (id : EvaluationOrder) →
    l.found ++ collected_cases scope_parts id (drop l.case-index l.cases) ≡ l.fn.found
    ++ collected_cases scope_parts id l.cases
