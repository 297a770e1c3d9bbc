use Rattle.std.proofs.Common.{◌∙◌, [], ◌∷◌, ◌++◌, sym, ap}
use Rattle.std.proofs.lemmas.Result.{on_ok_weaker}
use Rattle.rc_tree.proofs.CollectedLemmas.{collected-ForIn, collected-ForOf, collected-While}
use Rattle.rc_tree.proofs.CollectedLemmas.{collected-If, collected-Scope, collected-Switch, collected-Try}
use Rattle.rc_tree.specs.Collected.{collected, collected_cases, collected_if, collected_statement, collected_terminal}
use Rattle.rc_flow.proofs.ListLemmas.{added}
use Rattle.rc_flow.proofs.AlwaysInvalidating.ValueStepsLemmas.{added_case, added_form, steps-DoWhile, steps-For}
use Rattle.rc_flow.proofs.always_invalidating.steps.+value_steps.Goals as goal
use Rattle.rc_flow.specs.ValueSteps.{value_step_parts as parts}
use Rattle.rc_flow.specs.declared.value_step.ValueStep.TheVariants.{Ends}

pub add_cases-loop-case-preserved : goal.add_cases-loop-case-preserved
add_cases-loop-case-preserved t c id =
    added_case c.args.in_scope c.loop-case.steps c.add_if_there.new.steps _ c.args.cases.now c.loop-case.case-index
    c.case-item.result id c.loop-case-test.true c.case-item.is c.in_ok-add_if_there.ensures (c.loop-case.invariant id)

pub add_statement-returns-in_ok-add_block-in-Scope : goal.add_statement-returns-in_ok-add_block-in-Scope
add_statement-returns-in_ok-add_block-in-Scope t c =
    let block = c.in-Scope.block in
    let in_scope = c.args.in_scope in
    on_ok_weaker c.push.result
    (added c.args.steps.now c.add_block.new.steps c.push.new.self _ (Ends block.scope ∷ [])
    (collected_statement parts c.args.statement.now in_scope) c.in_ok-add_block-in-Scope.ensures
    (ap (λ x. collected_statement parts x in_scope) c.in-Scope.is
    ∙ ap (λ steps. steps in_scope) (collected-Scope parts block)))
    c.push.ensures.ok

pub add_terminal-returns-in-Switch : goal.add_terminal-returns-in-Switch
add_terminal-returns-in-Switch t c =
    let id = c.in-Switch.id in
    let in_scope = c.args.in_scope in
    on_ok_weaker c.add_cases.result
    (λ all. all id ∙ ap (λ steps. c.args.steps.now ++ steps)
    (sym (ap (λ x. collected_terminal parts x in_scope) c.in-Switch.is
    ∙ ap (λ steps. steps in_scope) (collected-Switch parts c.in-Switch.test c.in-Switch.cases id)
    ∙ ap (λ cases. collected_cases parts id cases in_scope) (sym c.as_slice.ensures))))
    c.add_cases.ensures

pub add_terminal-returns-in_ok-add_block-in-If : goal.add_terminal-returns-in_ok-add_block-in-If
add_terminal-returns-in_ok-add_block-in-If t c =
    let first = c.in-If.consequent in
    let second = c.in-If.alternate in
    let in_scope = c.args.in_scope in
    on_ok_weaker c.add_if_there.result
    (added c.args.steps.now c.add_block-in-If.new.steps c.add_if_there.new.steps (collected parts first in_scope)
    (collected_if parts second in_scope) (collected_terminal parts c.args.terminal.now in_scope)
    c.in_ok-add_block-in-If.ensures
    (ap (λ x. collected_terminal parts x in_scope) c.in-If.is
    ∙ ap (λ steps. steps in_scope) (collected-If parts c.in-If.test first second c.in-If.id)))
    c.add_if_there.ensures

pub add_terminal-returns-in_ok-add_block-in-Try : goal.add_terminal-returns-in_ok-add_block-in-Try
add_terminal-returns-in_ok-add_block-in-Try t c =
    let first = c.in-Try.block in
    let second = c.in-Try.handler in
    let in_scope = c.args.in_scope in
    on_ok_weaker c.add_block-in-Try-2.result
    (added c.args.steps.now c.add_block-in-Try.new.steps c.add_block-in-Try-2.new.steps
    (collected parts first in_scope) (collected parts second in_scope)
    (collected_terminal parts c.args.terminal.now in_scope) c.in_ok-add_block-in-Try.ensures
    (ap (λ x. collected_terminal parts x in_scope) c.in-Try.is
    ∙ ap (λ steps. steps in_scope) (collected-Try parts first c.in-Try.handler_binding second c.in-Try.id)))
    c.add_block-in-Try-2.ensures

pub add_terminal-returns-in-DoWhile : goal.add_terminal-returns-in-DoWhile
add_terminal-returns-in-DoWhile t c =
    let arm = c.in-DoWhile in
    on_ok_weaker c.add_block.result (added_form c.args.in_scope c.args.steps.now arm.is
    (steps-DoWhile arm.loop_block arm.test arm.id c.args.in_scope)) c.add_block.ensures

pub add_terminal-returns-in-For : goal.add_terminal-returns-in-For
add_terminal-returns-in-For t c =
    let arm = c.in-For in
    on_ok_weaker c.add_block-in-For.result (added_form c.args.in_scope c.args.steps.now arm.is
    (steps-For arm.init arm.test arm.update arm.loop_block arm.id c.args.in_scope)) c.add_block-in-For.ensures

pub add_terminal-returns-in-While : goal.add_terminal-returns-in-While
add_terminal-returns-in-While t c =
    let arm = c.in-While in
    on_ok_weaker c.add_block-in-While.result (added_form c.args.in_scope c.args.steps.now arm.is
    (ap (λ steps. steps c.args.in_scope) (collected-While parts arm.test arm.loop_block arm.id)))
    c.add_block-in-While.ensures

pub add_terminal-returns-in-ForOf : goal.add_terminal-returns-in-ForOf
add_terminal-returns-in-ForOf t c =
    let arm = c.in-ForOf in
    on_ok_weaker c.add_block-in-ForOf.result (added_form c.args.in_scope c.args.steps.now arm.is
    (ap (λ steps. steps c.args.in_scope)
    (collected-ForOf parts arm.init arm.test arm.loop_block arm.span arm.id))) c.add_block-in-ForOf.ensures

pub add_terminal-returns-in-ForIn : goal.add_terminal-returns-in-ForIn
add_terminal-returns-in-ForIn t c =
    let arm = c.in-ForIn in
    on_ok_weaker c.add_block-in-ForIn.result (added_form c.args.in_scope c.args.steps.now arm.is
    (ap (λ steps. steps c.args.in_scope)
    (collected-ForIn parts arm.init arm.loop_block arm.span arm.id))) c.add_block-in-ForIn.ensures
