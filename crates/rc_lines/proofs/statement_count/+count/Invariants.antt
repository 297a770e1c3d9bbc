use Rattle.std.proofs.Common.{◌≡◌, ◌+◌, drop}
use Rattle.rc_names.specs.Numbers.{EvaluationOrder}
use Rattle.rc_tree.specs.Collected.{collected_cases, collected_list}
use Rattle.rc_lines.specs.Counts.{statement_parts}
use Rattle.rc_lines.proofs.statement_count.+count.Given as goal

-- the statements counted so far and those still to come are all that are counted
abbrev pub invariant-add_statements-loop-statement : goal.invariant-add_statements-loop-statement
invariant-add_statements-loop-statement l =
    l.count + collected_list statement_parts (drop l.statement-index l.all) ≡ l.fn.count
    + collected_list statement_parts l.all

abbrev pub invariant-add_cases-loop-case : goal.invariant-add_cases-loop-case
invariant-add_cases-loop-case l = (id : EvaluationOrder) →
    l.count + collected_cases statement_parts id (drop l.case-index l.cases) ≡ l.fn.count
    + collected_cases statement_parts id l.cases
