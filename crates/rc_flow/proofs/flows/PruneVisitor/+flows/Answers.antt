use Rattle.std.proofs.Common.{◌∙◌, [], ◌∷◌, ◌++◌, ap, sym}
use Rattle.std.proofs.lemmas.Result.{on_ok_weaker}
use Rattle.rc_flow.proofs.FlowsLemmas.{added_case, flows-DoWhile, flows-For, flows-ForIn, flows-ForOf, flows-If}
use Rattle.rc_flow.proofs.FlowsLemmas.{flows-Scope, flows-Switch, flows-Try, flows-While}
use Rattle.rc_flow.proofs.ListLemmas.{added, added_four, added_three}
use Rattle.rc_flow.proofs.flows.PruneVisitor.+flows.Goals as goal
use Rattle.rc_flow.specs.Flows.{flows_in}
use Rattle.rc_flow.specs.declared.step.Step.TheVariants.{Ends}
use Rattle.rc_flow.specs.inside.PartFlows.{flows_if, flows_of_cases, flows_of_statement, flows_of_terminal}
use Rattle.rc_flow.specs.inside.PartFlows.{steps_of_value, steps_of_value_if}

pub add_cases-loop-case-preserved : goal.add_cases-loop-case-preserved
add_cases-loop-case-preserved t c id =
    added_case c.args.self.now.env.now c.loop-case.steps c.add_block_if.new.steps _ c.args.cases.now
    c.loop-case.case-index c.case-item.result id c.loop-case-test.true c.case-item.is c.in_ok-add_block_if.ensures
    (c.loop-case.invariant id)

pub add_statement-returns-in_ok-add_block-in-Scope : goal.add_statement-returns-in_ok-add_block-in-Scope
add_statement-returns-in_ok-add_block-in-Scope t c =
    let block = c.in-Scope.block in
    let env = c.args.self.now.env.now in
    on_ok_weaker c.push.result
    (added c.args.steps.now c.add_block.new.steps c.push.new.self (flows_in env block.instructions)
    (Ends block.scope ∷ []) (flows_of_statement env c.args.statement.now) c.in_ok-add_block-in-Scope.ensures
    (ap (flows_of_statement env) c.in-Scope.is ∙ flows-Scope env block))
    c.push.ensures.ok

pub add_terminal-returns-in-Switch : goal.add_terminal-returns-in-Switch
add_terminal-returns-in-Switch t c =
    let arm = c.in-Switch in
    let env = c.args.self.now.env.now in
    on_ok_weaker c.add_cases.result
    (λ all. all arm.id ∙ ap (λ steps. c.args.steps.now ++ steps)
    (sym (ap (flows_of_terminal env) arm.is ∙ flows-Switch env arm.test arm.cases arm.id
    ∙ ap (flows_of_cases env arm.id) (sym c.as_slice.ensures))))
    c.add_cases.ensures

pub add_terminal-returns-in_ok-add_block-in-DoWhile : goal.add_terminal-returns-in_ok-add_block-in-DoWhile
add_terminal-returns-in_ok-add_block-in-DoWhile t c =
    let arm = c.in-DoWhile in
    let env = c.args.self.now.env.now in
    on_ok_weaker c.add_loop_value.result
    (λ last. added c.args.steps.now c.add_block.new.steps c.add_loop_value.new.steps (flows_in env arm.loop_block)
    (steps_of_value env arm.id arm.test) (flows_of_terminal env c.args.terminal.now)
    c.in_ok-add_block-in-DoWhile.ensures
    (ap (flows_of_terminal env) arm.is ∙ flows-DoWhile env arm.loop_block arm.test arm.id) (last arm.id))
    c.add_loop_value.ensures

pub add_terminal-returns-in_ok-add_loop_value-in-While : goal.add_terminal-returns-in_ok-add_loop_value-in-While
add_terminal-returns-in_ok-add_loop_value-in-While t c =
    let arm = c.in-While in
    let env = c.args.self.now.env.now in
    on_ok_weaker c.add_block-in-While.result
    (added c.args.steps.now c.add_loop_value-in-While.new.steps c.add_block-in-While.new.steps
    (steps_of_value env arm.id arm.test) (flows_in env arm.loop_block) (flows_of_terminal env c.args.terminal.now)
    (c.in_ok-add_loop_value-in-While.ensures arm.id)
    (ap (flows_of_terminal env) arm.is ∙ flows-While env arm.test arm.loop_block arm.id))
    c.add_block-in-While.ensures

pub add_terminal-returns-in_ok-add_value_if-in-For : goal.add_terminal-returns-in_ok-add_value_if-in-For
add_terminal-returns-in_ok-add_value_if-in-For t c =
    let arm = c.in-For in
    let env = c.args.self.now.env.now in
    on_ok_weaker c.add_block-in-For.result
    (added_four c.args.steps.now c.add_loop_value-in-For.new.steps c.add_loop_value-in-For-2.new.steps
    c.add_value_if.new.steps c.add_block-in-For.new.steps (steps_of_value env arm.id arm.init) (steps_of_value env arm.id arm.test)
    (steps_of_value_if env arm.id arm.update) (flows_in env arm.loop_block) (flows_of_terminal env c.args.terminal.now)
    (c.in_ok-add_loop_value-in-For.ensures arm.id) (c.in_ok-add_loop_value-in-For-2.ensures arm.id)
    (c.in_ok-add_value_if-in-For.ensures arm.id)
    (ap (flows_of_terminal env) arm.is ∙ flows-For env arm.init arm.test arm.update arm.loop_block arm.id))
    c.add_block-in-For.ensures

pub add_terminal-returns-in_ok-add_loop_value-in-ForOf-2 : goal.add_terminal-returns-in_ok-add_loop_value-in-ForOf-2
add_terminal-returns-in_ok-add_loop_value-in-ForOf-2 t c =
    let arm = c.in-ForOf in
    let env = c.args.self.now.env.now in
    on_ok_weaker c.add_block-in-ForOf.result
    (added_three c.args.steps.now c.add_loop_value-in-ForOf.new.steps c.add_loop_value-in-ForOf-2.new.steps
    c.add_block-in-ForOf.new.steps (steps_of_value env arm.id arm.init) (steps_of_value env arm.id arm.test)
    (flows_in env arm.loop_block) (flows_of_terminal env c.args.terminal.now)
    (c.in_ok-add_loop_value-in-ForOf.ensures arm.id) (c.in_ok-add_loop_value-in-ForOf-2.ensures arm.id)
    (ap (flows_of_terminal env) arm.is ∙ flows-ForOf env arm.init arm.test arm.loop_block arm.span arm.id))
    c.add_block-in-ForOf.ensures

pub add_terminal-returns-in_ok-add_loop_value-in-ForIn : goal.add_terminal-returns-in_ok-add_loop_value-in-ForIn
add_terminal-returns-in_ok-add_loop_value-in-ForIn t c =
    let arm = c.in-ForIn in
    let env = c.args.self.now.env.now in
    on_ok_weaker c.add_block-in-ForIn.result
    (added c.args.steps.now c.add_loop_value-in-ForIn.new.steps c.add_block-in-ForIn.new.steps
    (steps_of_value env arm.id arm.init) (flows_in env arm.loop_block) (flows_of_terminal env c.args.terminal.now)
    (c.in_ok-add_loop_value-in-ForIn.ensures arm.id)
    (ap (flows_of_terminal env) arm.is ∙ flows-ForIn env arm.init arm.loop_block arm.span arm.id))
    c.add_block-in-ForIn.ensures

pub add_terminal-returns-in_ok-add_block-in-If : goal.add_terminal-returns-in_ok-add_block-in-If
add_terminal-returns-in_ok-add_block-in-If t c =
    let arm = c.in-If in
    let env = c.args.self.now.env.now in
    on_ok_weaker c.add_block_if.result
    (added c.args.steps.now c.add_block-in-If.new.steps c.add_block_if.new.steps (flows_in env arm.consequent)
    (flows_if env arm.alternate) (flows_of_terminal env c.args.terminal.now) c.in_ok-add_block-in-If.ensures
    (ap (flows_of_terminal env) arm.is ∙ flows-If env arm.test arm.consequent arm.alternate arm.id))
    c.add_block_if.ensures

pub add_terminal-returns-in_ok-add_block-in-Try : goal.add_terminal-returns-in_ok-add_block-in-Try
add_terminal-returns-in_ok-add_block-in-Try t c =
    let arm = c.in-Try in
    let env = c.args.self.now.env.now in
    on_ok_weaker c.add_block-in-Try-2.result
    (added c.args.steps.now c.add_block-in-Try.new.steps c.add_block-in-Try-2.new.steps (flows_in env arm.block)
    (flows_in env arm.handler) (flows_of_terminal env c.args.terminal.now) c.in_ok-add_block-in-Try.ensures
    (ap (flows_of_terminal env) arm.is ∙ flows-Try env arm.block arm.handler_binding arm.handler arm.id))
    c.add_block-in-Try-2.ensures
