use Rattle.std.proofs.Common.{◌∙◌, [], ◌∷◌, ◌++◌, sym, ap}
use Rattle.std.proofs.lemmas.Result.{on_ok_weaker}
use Rattle.rc_tree.proofs.CollectedLemmas.{collected-If, collected-Scope, collected-Switch, collected-Try}
use Rattle.rc_tree.specs.Collected.{collected_cases, collected_if, collected_statement, collected_terminal}
use Rattle.rc_tree.specs.ScopesIn.{scope_parts as parts, scopes_in}
use Rattle.rc_tree.proofs.ScopesLemmas.{added, added-case}
use Rattle.rc_tree.proofs.scopes.+scopes.Goals as goal

pub add_cases-loop-case-preserved : goal.add_cases-loop-case-preserved
add_cases-loop-case-preserved t c id =
    added-case c.loop-case.found c.add_if_there.new.found _ c.args.cases.now c.loop-case.case-index c.case-item.result
    id c.loop-case-test.true c.case-item.is c.in_ok-add_if_there.ensures (c.loop-case.invariant id)

pub add_statement-returns-in_ok-add_block-in-Scope : goal.add_statement-returns-in_ok-add_block-in-Scope
add_statement-returns-in_ok-add_block-in-Scope t c =
    let block = c.in-Scope.block in
    on_ok_weaker c.push.result
    (added c.args.found.now c.add_block.new.found c.push.new.self (scopes_in block.instructions)
    (block.scope ∷ []) (collected_statement parts c.args.statement.now) c.in_ok-add_block-in-Scope.ensures
    (ap (collected_statement parts) c.in-Scope.is ∙ collected-Scope parts block))
    c.push.ensures.ok

pub add_terminal-returns-in-Switch : goal.add_terminal-returns-in-Switch
add_terminal-returns-in-Switch t c =
    let id = c.in-Switch.id in
    on_ok_weaker c.add_cases.result
    (λ all. all id ∙ ap (λ scopes. c.args.found.now ++ scopes) (sym
    (ap (collected_terminal parts) c.in-Switch.is ∙ collected-Switch parts c.in-Switch.test c.in-Switch.cases id
    ∙ ap (collected_cases parts id) (sym c.as_slice.ensures))))
    c.add_cases.ensures

pub add_terminal-returns-in_ok-add_block-in-If : goal.add_terminal-returns-in_ok-add_block-in-If
add_terminal-returns-in_ok-add_block-in-If t c =
    let first = c.in-If.consequent in
    let second = c.in-If.alternate in
    on_ok_weaker c.add_if_there.result
    (added c.args.found.now c.add_block.new.found c.add_if_there.new.found (scopes_in first)
    (collected_if parts second) (collected_terminal parts c.args.terminal.now) c.in_ok-add_block-in-If.ensures
    (ap (collected_terminal parts) c.in-If.is ∙ collected-If parts c.in-If.test first second c.in-If.id))
    c.add_if_there.ensures

pub add_terminal-returns-in_ok-add_block-in-Try : goal.add_terminal-returns-in_ok-add_block-in-Try
add_terminal-returns-in_ok-add_block-in-Try t c =
    let first = c.in-Try.block in
    let second = c.in-Try.handler in
    on_ok_weaker c.add_block-in-Try-2.result
    (added c.args.found.now c.add_block-in-Try.new.found c.add_block-in-Try-2.new.found (scopes_in first)
    (scopes_in second) (collected_terminal parts c.args.terminal.now) c.in_ok-add_block-in-Try.ensures
    (ap (collected_terminal parts) c.in-Try.is
    ∙ collected-Try parts first c.in-Try.handler_binding second c.in-Try.id))
    c.add_block-in-Try-2.ensures
