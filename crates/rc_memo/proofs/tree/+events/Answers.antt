use Rattle.rc_tree.proofs.CollectedLemmas.{collected-DoWhile, collected-For, collected-ForIn, collected-ForOf, collected-If}
use Rattle.rc_tree.proofs.CollectedLemmas.{collected-Instruction, collected-Label, collected-PrunedScope, collected-Return}
use Rattle.rc_tree.proofs.CollectedLemmas.{collected-Switch, collected-Terminal, collected-Try, collected-While}
use Rattle.std.proofs.Common.{◌∙◌, ap, sym}
use Rattle.rc_tree.specs.Collected.{collected_cases, collected_terminal}
use Rattle.rc_memo.proofs.TreeEventsLemmas.{adds_scope_block, cases_next, in_four, in_one, in_three, in_two, next_told}
use Rattle.rc_memo.proofs.TreeEventsLemmas.{cases_told, statement_is, statements_next, statements_told, terminal_is}
use Rattle.rc_memo.specs.TreeEvents.{events_of_parts}
use Rattle.rc_memo.proofs.tree.+events.Goals as goal

pub add_statements-loop-statement-preserved : goal.add_statements-loop-statement-preserved
add_statements-loop-statement-preserved t c =
    let env = c.args.reader.now.env.now in
    next_told env c.args.recording.now c.loop-statement.recording c.add_statement.new.recording _ _ _ _
    (statements_next env c.args.around.now c.args.all.now c.loop-statement.statement-index c.statement-item.result
    c.loop-statement-test.true c.statement-item.is)
    c.in_ok-add_statement.ensures c.loop-statement.invariant

pub add_statements-returns : goal.add_statements-returns
add_statements-returns t c =
    statements_told c.args.reader.now.env.now c.args.around.now c.args.all.now c.loop-statement.statement-index
    c.args.recording.now c.loop-statement.recording c.loop-statement-test.false c.loop-statement.invariant

pub add_cases-returns : goal.add_cases-returns
add_cases-returns t c id =
    cases_told c.args.reader.now.env.now c.args.around.now c.args.cases.now c.loop-case.case-index id
    c.args.recording.now c.loop-case.recording c.loop-case-test.false (c.loop-case.invariant id)

pub add_cases-loop-case-preserved : goal.add_cases-loop-case-preserved
add_cases-loop-case-preserved t c id =
    let env = c.args.reader.now.env.now in
    next_told env c.args.recording.now c.loop-case.recording c.add_if_there.new.recording _ _ _ _
    (cases_next env c.args.around.now c.args.cases.now c.loop-case.case-index c.case-item.result id
    c.loop-case-test.true c.case-item.is)
    c.in_ok-add_if_there.ensures (c.loop-case.invariant id)

pub add_statement-returns-in_ok-add_row-in-Instruction : goal.add_statement-returns-in_ok-add_row-in-Instruction
add_statement-returns-in_ok-add_row-in-Instruction t c =
    let env = c.args.reader.now.env.now in
    in_one env c.args.recording.now c.add_row.new.recording _ _ (statement_is env c.args.around.now c.in-Instruction.is
    (collected-Instruction (events_of_parts env) c.in-Instruction.row)) c.in_ok-add_row-in-Instruction.ensures

pub add_statement-returns-in_ok-add_terminal-in-Terminal : goal.add_statement-returns-in_ok-add_terminal-in-Terminal
add_statement-returns-in_ok-add_terminal-in-Terminal t c =
    let env = c.args.reader.now.env.now in
    in_one env c.args.recording.now c.add_terminal.new.recording _ _ (statement_is env c.args.around.now c.in-Terminal.is
    (collected-Terminal (events_of_parts env) c.in-Terminal.statement)
    ∙ ap (λ w. collected_terminal (events_of_parts env) w.terminal c.args.around.now) (sym c.get.ensures))
    c.in_ok-add_terminal-in-Terminal.ensures

pub add_statement-returns-in_ok-add_block-in-Scope : goal.add_statement-returns-in_ok-add_block-in-Scope
add_statement-returns-in_ok-add_block-in-Scope t c =
    adds_scope_block c.args.reader.now.env.now c.args.statement.now c.in-Scope.block c.args.around.now
    c.in_ok-inside-in-Scope.inside c.args.recording.now c.add_reassigned.new.recording c.add_block.new.recording c.in-Scope.is
    c.in_ok-inside-in-Scope.ensures c.in_ok-add_reassigned-in-Scope.ensures c.in_ok-add_block-in-Scope.ensures

pub add_statement-returns-in_ok-add_block-in-PrunedScope : goal.add_statement-returns-in_ok-add_block-in-PrunedScope
add_statement-returns-in_ok-add_block-in-PrunedScope t c =
    let env = c.args.reader.now.env.now in
    in_one env c.args.recording.now c.add_block-in-PrunedScope.new.recording _ _ (statement_is env c.args.around.now
    c.in-PrunedScope.is (collected-PrunedScope (events_of_parts env) c.in-PrunedScope.block))
    c.in_ok-add_block-in-PrunedScope.ensures

pub add_terminal-returns-in_ok-add_returned-in-Return : goal.add_terminal-returns-in_ok-add_returned-in-Return
add_terminal-returns-in_ok-add_returned-in-Return t c =
    let env = c.args.reader.now.env.now in
    in_one env c.args.recording.now c.add_returned.new.recording _ _
    (terminal_is env c.args.around.now c.in-Return.is
    (collected-Return (events_of_parts env) c.in-Return.value c.in-Return.id))
    c.in_ok-add_returned-in-Return.ensures

pub add_terminal-returns-in_ok-add_cases-in-Switch : goal.add_terminal-returns-in_ok-add_cases-in-Switch
add_terminal-returns-in_ok-add_cases-in-Switch t c =
    let env = c.args.reader.now.env.now in
    let id = c.in-Switch.id in
    in_one env c.args.recording.now c.add_cases.new.recording _ _ (terminal_is env c.args.around.now c.in-Switch.is
    (collected-Switch (events_of_parts env) c.in-Switch.test c.in-Switch.cases id)
    ∙ ap (λ w. collected_cases (events_of_parts env) id w c.args.around.now) (sym c.as_slice.ensures))
    (c.in_ok-add_cases-in-Switch.ensures id)

pub add_terminal-returns-in_ok-add_value-in-DoWhile : goal.add_terminal-returns-in_ok-add_value-in-DoWhile
add_terminal-returns-in_ok-add_value-in-DoWhile t c =
    let env = c.args.reader.now.env.now in
    in_two env c.args.recording.now c.add_block.new.recording c.add_value.new.recording _ _ _
    (terminal_is env c.args.around.now c.in-DoWhile.is
    (collected-DoWhile (events_of_parts env) c.in-DoWhile.loop_block c.in-DoWhile.test c.in-DoWhile.id))
    c.in_ok-add_block-in-DoWhile.ensures c.in_ok-add_value-in-DoWhile.ensures

pub add_terminal-returns-in_ok-add_block-in-While : goal.add_terminal-returns-in_ok-add_block-in-While
add_terminal-returns-in_ok-add_block-in-While t c =
    let env = c.args.reader.now.env.now in
    in_two env c.args.recording.now c.add_value-in-While.new.recording c.add_block-in-While.new.recording _ _ _
    (terminal_is env c.args.around.now c.in-While.is
    (collected-While (events_of_parts env) c.in-While.test c.in-While.loop_block c.in-While.id))
    c.in_ok-add_value-in-While.ensures c.in_ok-add_block-in-While.ensures

pub add_terminal-returns-in_ok-add_value_if-in-For : goal.add_terminal-returns-in_ok-add_value_if-in-For
add_terminal-returns-in_ok-add_value_if-in-For t c =
    let env = c.args.reader.now.env.now in
    in_four env c.args.recording.now c.add_value-in-For.new.recording c.add_value-in-For-2.new.recording
    c.add_block-in-For.new.recording c.add_value_if.new.recording _ _ _ _ _
    (terminal_is env c.args.around.now c.in-For.is
    (collected-For (events_of_parts env) c.in-For.init c.in-For.test c.in-For.update c.in-For.loop_block c.in-For.id))
    c.in_ok-add_value-in-For.ensures c.in_ok-add_value-in-For-2.ensures c.in_ok-add_block-in-For.ensures
    c.in_ok-add_value_if-in-For.ensures

pub add_terminal-returns-in_ok-add_block-in-ForOf : goal.add_terminal-returns-in_ok-add_block-in-ForOf
add_terminal-returns-in_ok-add_block-in-ForOf t c =
    let env = c.args.reader.now.env.now in
    in_three env c.args.recording.now c.add_value-in-ForOf.new.recording c.add_value-in-ForOf-2.new.recording
    c.add_block-in-ForOf.new.recording _ _ _ _
    (terminal_is env c.args.around.now c.in-ForOf.is
    (collected-ForOf (events_of_parts env) c.in-ForOf.init c.in-ForOf.test c.in-ForOf.loop_block c.in-ForOf.span
    c.in-ForOf.id))
    c.in_ok-add_value-in-ForOf.ensures c.in_ok-add_value-in-ForOf-2.ensures c.in_ok-add_block-in-ForOf.ensures

pub add_terminal-returns-in_ok-add_block-in-ForIn : goal.add_terminal-returns-in_ok-add_block-in-ForIn
add_terminal-returns-in_ok-add_block-in-ForIn t c =
    let env = c.args.reader.now.env.now in
    in_two env c.args.recording.now c.add_value-in-ForIn.new.recording c.add_block-in-ForIn.new.recording _ _ _
    (terminal_is env c.args.around.now c.in-ForIn.is
    (collected-ForIn (events_of_parts env) c.in-ForIn.init c.in-ForIn.loop_block c.in-ForIn.span c.in-ForIn.id))
    c.in_ok-add_value-in-ForIn.ensures c.in_ok-add_block-in-ForIn.ensures

pub add_terminal-returns-in_ok-add_if_there-in-If : goal.add_terminal-returns-in_ok-add_if_there-in-If
add_terminal-returns-in_ok-add_if_there-in-If t c =
    let env = c.args.reader.now.env.now in
    in_two env c.args.recording.now c.add_block-in-If.new.recording c.add_if_there.new.recording _ _ _
    (terminal_is env c.args.around.now c.in-If.is
    (collected-If (events_of_parts env) c.in-If.test c.in-If.consequent c.in-If.alternate c.in-If.id))
    c.in_ok-add_block-in-If.ensures c.in_ok-add_if_there-in-If.ensures

pub add_terminal-returns-in_ok-add_block-in-Label : goal.add_terminal-returns-in_ok-add_block-in-Label
add_terminal-returns-in_ok-add_block-in-Label t c =
    let env = c.args.reader.now.env.now in
    in_one env c.args.recording.now c.add_block-in-Label.new.recording _ _
    (terminal_is env c.args.around.now c.in-Label.is
    (collected-Label (events_of_parts env) c.in-Label.block c.in-Label.id))
    c.in_ok-add_block-in-Label.ensures

pub add_terminal-returns-in_ok-add_block-in-Try-2 : goal.add_terminal-returns-in_ok-add_block-in-Try-2
add_terminal-returns-in_ok-add_block-in-Try-2 t c =
    let env = c.args.reader.now.env.now in
    in_two env c.args.recording.now c.add_block-in-Try.new.recording c.add_block-in-Try-2.new.recording _ _ _
    (terminal_is env c.args.around.now c.in-Try.is
    (collected-Try (events_of_parts env) c.in-Try.block c.in-Try.handler_binding c.in-Try.handler c.in-Try.id))
    c.in_ok-add_block-in-Try.ensures c.in_ok-add_block-in-Try-2.ensures
