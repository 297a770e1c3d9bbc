use Rattle.std.proofs.Common.{◌≡◌, ◌++◌, drop}
use Rattle.rc_names.specs.Numbers.{EvaluationOrder}
use Rattle.rc_flow.specs.inside.PartFlows.{flows_of_cases, flows_of_list}
use Rattle.rc_flow.proofs.flows.PruneVisitor.+flows.Given as goal

-- the steps added so far and those still to come are all the steps
abbrev pub invariant-add_statements-loop-statement : goal.invariant-add_statements-loop-statement
invariant-add_statements-loop-statement l =
    l.steps ++ flows_of_list l.self.env.now (drop l.statement-index l.all) ≡ l.fn.steps
    ++ flows_of_list l.self.env.now l.all

abbrev pub invariant-add_cases-loop-case : goal.invariant-add_cases-loop-case
invariant-add_cases-loop-case l = (id : EvaluationOrder) →
    l.steps ++ flows_of_cases l.self.env.now id (drop l.case-index l.cases) ≡ l.fn.steps
    ++ flows_of_cases l.self.env.now id l.cases
