use Rattle.std.proofs.Common.{◌≡◌, ℕ, ◌+◌, ◌-◌, suc, ◌<◌, ◌∙◌, List, [], ◌∷◌, None, IfOk, length, refl, sym, ap, subst, drop, arith}
use Rattle.std.proofs.lemmas.List.{drop_all, drop_more}
use Rattle.std.proofs.lemmas.Result.{IfOk-weaker}
use Rattle.rc_tree.specs.declared.statement.ReactiveStatement.TheVariants as reactive
use Rattle.rc_replay.specs.inside.Exits.{exit}
use Rattle.rc_replay.specs.inside.LaidBody.{LaysList, LaysCases, stored_before}
use Rattle.rc_replay.specs.inside.LaidExits.{exits_of, laid_around, laid_before, laid_switch}
use Rattle.rc_replay.specs.inside.Layout.{Lays, Has}
use Rattle.rc_replay.specs.inside.Lowered.{continue_completion}
use Rattle.rc_replay.specs.inside.Positions.{Chooses}
use Rattle.rc_replay.proofs.StatementLays.{lays_row_statement, lays_scope, lays_pruned_scope, lays_terminal_statement}
use Rattle.rc_replay.proofs.StatementLays.{lays_no_statement, lays_return, lays_throw, lays_continue, lays_label, lays_try}
use Rattle.rc_replay.proofs.BlockLays.{statement_step}
use Rattle.rc_replay.proofs.CasesLays.{alternate_absent, alternate_present, cases_begin, cases_step, lays_if, lays_switch}
use Rattle.rc_replay.proofs.PartLays.{part_unlabeled, part_labeled}
use Rattle.rc_replay.proofs.LoopLays.{lays_loop}
use Rattle.rc_replay.proofs.LoopStatementLays.{lays_while, lays_do_while, lays_for, lays_for_of, lays_for_in}
use Rattle.rc_replay.proofs.layout.Layout.+lay_statement.Goals as goal

pub alternate-returns-in-Some : goal.alternate-returns-in-Some
alternate-returns-in-Some t c = IfOk-weaker c.part.result _ _ (λ start l. alternate_present c.in-Some.is l) c.part.ensures

pub alternate-returns-in-None : goal.alternate-returns-in-None
alternate-returns-in-None t c = alternate_absent c.in-None.is

pub list-loop-i-init : goal.list-loop-i-init
list-loop-i-init t c =
    let statements = c.args.statements.now in
    let none : drop (length statements) statements ≡ [] = drop_all (length statements) statements (omega arith) in
    rw none (lays_no_statement (stored_before statements (length statements)))

pub list-loop-i-preserved : goal.list-loop-i-preserved
list-loop-i-preserved t c =
    let statements = c.args.statements.now in
    let i = c.loop-i.i - 1 in
    let next : c.loop-i.i ≡ suc i = omega (arith) in
    statement_step statements i c.index-statements-i.result (omega arith) c.index-statements-i.is
    c.stored_before-stored.ensures c.before-in-loop-i.ensures
    (subst (λ n. LaysList c.args.env.now (stored_before statements n) c.args.exits (drop n statements) c.args.self.now
    c.loop-i.self c.loop-i.start) next c.loop-i.invariant) c.in_ok-start.ensures

pub list-returns : goal.list-returns
list-returns t c =
    let statements = c.args.statements.now in
    let none : c.loop-i.i ≡ 0 = omega (arith) in
    subst (λ i. LaysList c.args.env.now (stored_before statements i) c.args.exits (drop i statements) c.args.self.now
    c.loop-i.self c.loop-i.start) none c.loop-i.invariant

pub block-returns : goal.block-returns
block-returns t c =
    subst (λ list. IfOk c.list.result (LaysList c.args.env.now None c.args.exits list c.args.self.now c.list.new.self))
    c.as_slice.ensures c.list.ensures

pub statement-returns-in-Instruction : goal.statement-returns-in-Instruction
statement-returns-in-Instruction t c = IfOk-weaker c.row.result _ _
    (λ start l. lays_row_statement c.args.stored c.in-Instruction.is c.at.ensures l) c.row.ensures

pub statement-returns-in-Terminal : goal.statement-returns-in-Terminal
statement-returns-in-Terminal t c =
    let is = c.in-Terminal.is ∙ ap reactive.Terminal (sym c.get-statement.ensures) in
    IfOk-weaker c.terminal.result _ _ (λ start l. lays_terminal_statement c.args.stored is l) c.terminal.ensures

pub statement-returns-in-Scope : goal.statement-returns-in-Scope
statement-returns-in-Scope t c = IfOk-weaker c.block.result _ _
    (λ start l. lays_scope c.args.stored c.in-Scope.is l) c.block.ensures

pub statement-returns-in-PrunedScope : goal.statement-returns-in-PrunedScope
statement-returns-in-PrunedScope t c = IfOk-weaker c.block-in-PrunedScope.result _ _
    (λ start l. lays_pruned_scope c.args.stored c.in-PrunedScope.is l) c.block-in-PrunedScope.ensures

pub part-returns-in_default : goal.part-returns-in_default
part-returns-in_default t c =
    IfOk-weaker c.block.result _ _ (λ start l. part_unlabeled c.in_default.is l) c.block.ensures

pub switch-loop-i-init : goal.switch-loop-i-init
switch-loop-i-init t c =
    let cases = c.args.cases.now in
    let none : drop (length cases) cases ≡ [] = drop_all (length cases) cases (omega arith) in
    rw none (rw c.new-choices.ensures (cases_begin c.args.exits))

pub switch-loop-i-preserved : goal.switch-loop-i-preserved
switch-loop-i-preserved t c =
    let cases = c.args.cases.now in
    let i = c.loop-i.i in
    let case = c.index-cases-i.result in
    let next : i - 1 + 1 ≡ i = omega (arith) in
    let at : drop (i - 1) cases ≡ case ∷ drop i cases =
    drop_more cases (i - 1) case (omega (arith)) ∙ (λ j. sym c.index-cases-i.is j ∷ drop (next j) cases) in
    let inside = c.before-inside.ensures ∙ ap (laid_before c.loop-i.start) c.in_switch.ensures in
    rw at (rw c.in_ok-push.ensures.ok (rw c.is_default_or-defaults.ensures
    (cases_step c.args.exits case inside c.around.ensures c.loop-i.invariant c.in_ok-start.ensures)))

pub switch-returns : goal.switch-returns
switch-returns t c =
    let exits = c.args.exits in
    let none : c.loop-i.i ≡ 0 = omega (arith) in
    let cases = subst (λ i. LaysCases c.args.env.now (laid_switch exits) (laid_around c.args.label exits)
    (drop i c.args.cases.now) c.args.self.now c.loop-i.self c.loop-i.start c.loop-i.choices c.loop-i.defaults) none
    c.loop-i.invariant in
    IfOk-weaker c.add.result _ _ (λ start l. lays_switch cases (subst (λ choices. Lays c.loop-i.self c.add.new.self
    (Has start (Chooses choices))) c.in_ok-add_past.ensures l)) c.add.ensures

pub terminal-returns-in-Label : goal.terminal-returns-in-Label
terminal-returns-in-Label t c = IfOk-weaker c.part-in-Label.result _ _
    (λ start l. lays_label c.args.stored c.args.label c.in-Label.id c.in-Label.is c.around-in-Label.ensures l)
    c.part-in-Label.ensures

pub terminal-returns-in-Return : goal.terminal-returns-in-Return
terminal-returns-in-Return t c = IfOk-weaker c.add.result _ _
    (λ start l. lays_return c.args.stored c.args.label c.in-Return.id c.in-Return.is l) c.add.ensures

pub terminal-returns-in-Throw : goal.terminal-returns-in-Throw
terminal-returns-in-Throw t c = IfOk-weaker c.add-in-Throw.result _ _
    (λ start l. lays_throw c.args.stored c.args.label c.in-Throw.id c.in-Throw.is
    (subst (λ position. Lays c.args.self.now c.add-in-Throw.new.self (Has start position)) c.thrown.ensures l))
    c.add-in-Throw.ensures

pub terminal-returns-in-Continue : goal.terminal-returns-in-Continue
terminal-returns-in-Continue t c =
    let completion = continue_completion c.in-Continue.target c.in-Continue.target_kind in
    lays_continue c.args.stored c.args.label c.in-Continue.id c.in-Continue.is
    (c.of_continue.ensures ∙ ap (λ labels. exit (exits_of c.args.exits labels) completion) c.as_slice.ensures)

pub terminal-returns-in-Try : goal.terminal-returns-in-Try
terminal-returns-in-Try t c =
    let form = c.in-Try in
    IfOk-weaker c.part-in-Try.result _ _ (λ start l. lays_try c.args.stored c.args.label form.handler form.id form.is
    c.around-in-Try.ensures c.protected.ensures l) c.part-in-Try.ensures

pub terminal-returns-in_ok-fails-in-If : goal.terminal-returns-in_ok-fails-in-If
terminal-returns-in_ok-fails-in-If t c =
    IfOk-weaker c.add-in-If.result _ _ (λ start l. lays_if c.args.stored c.in-If.id c.in-If.is c.around.ensures
    c.around-in-If.ensures c.in_ok-holds-in-If.ensures c.in_ok-fails-in-If.ensures l) c.add-in-If.ensures

pub terminal-returns-in_ok-turns-in-DoWhile : goal.terminal-returns-in_ok-turns-in-DoWhile
terminal-returns-in_ok-turns-in-DoWhile t c = lays_do_while c.args.stored c.in-DoWhile.id c.in-DoWhile.is
    c.get-in-DoWhile.ensures c.in_ok-turns-in-DoWhile.ensures

pub terminal-returns-in_ok-turns-in-ForIn : goal.terminal-returns-in_ok-turns-in-ForIn
terminal-returns-in_ok-turns-in-ForIn t c = lays_for_in c.args.stored c.in-ForIn.span c.in-ForIn.id c.in-ForIn.is
    c.get-in-ForIn.ensures c.in_ok-turns-in-ForIn.ensures

pub terminal-returns-in_ok-turns-in-ForOf : goal.terminal-returns-in_ok-turns-in-ForOf
terminal-returns-in_ok-turns-in-ForOf t c = lays_for_of c.args.stored c.in-ForOf.span c.in-ForOf.id c.in-ForOf.is
    c.get-in-ForOf.ensures c.get-in-ForOf-2.ensures c.in_ok-turns-in-ForOf.ensures

pub terminal-returns-in_ok-turns-in-For : goal.terminal-returns-in_ok-turns-in-For
terminal-returns-in_ok-turns-in-For t c =
    IfOk-weaker c.value.result _ _ (λ start l. lays_for c.args.stored c.in-For.id c.in-For.is c.get-in-For.ensures
    c.updated-update.ensures c.get-in-For-2.ensures c.in_ok-turns-in-For.ensures c.at.ensures l) c.value.ensures

pub terminal-returns-in_ok-turns-in-While : goal.terminal-returns-in_ok-turns-in-While
terminal-returns-in_ok-turns-in-While t c =
    lays_while c.args.stored c.in-While.id c.in-While.is c.get.ensures c.in_ok-turns-in-While.ensures

pub turns-returns : goal.turns-returns
turns-returns t c = lays_loop c.in_ok-turn.ensures refl c.in_loop.ensures c.in_ok-body.ensures c.in_ok-branch.ensures
    c.at.ensures c.in_ok-test.ensures c.in_ok-start.ensures c.fill.ensures.labels c.fill.ensures.positions
