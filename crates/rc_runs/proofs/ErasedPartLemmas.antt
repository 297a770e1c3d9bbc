-- The erased form of each form of part: one equation a form.
use Rattle.std.proofs.Common.{◌≡◌, Bool, List, [], ◌∷◌, Option, None, Some, option_map, map, refl, sym, ap, ◌∙◌}
use Rattle.std.proofs.lemmas.List.Folds.{flat_map-map}
use Rattle.rc_names.specs.Numbers.{BlockId, EvaluationOrder}
use Rattle.rc_names.specs.declared.span.Span.{Span}
use Rattle.rc_hir.specs.Model.{InstructionValue, LogicalOperator, Place}
use Rattle.rc_tree.specs.Unrolled.{UnrolledStatement, UnrolledTerminal}
use Rattle.rc_tree.proofs.Measures.{block}
use Rattle.rc_tree.specs.Model.{ReactiveTerminalTargetKind, ReactiveInstruction, ReactiveScopeBlock}
use Rattle.rc_tree.specs.Model.{PrunedReactiveScopeBlock, ReactiveBlock, ReactiveTerminalStatement}
use Rattle.rc_tree.specs.declared.value.ReactiveValue.{ReactiveValue, roll-ReactiveValue}
use Rattle.rc_tree.specs.declared.value.ReactiveValue.TheFolds.{map-ReactiveValue, fold-roll-ReactiveValue}
use Rattle.rc_tree.specs.declared.value.ReactiveValue.TheFolds.{fold-roll-ReactiveInstruction}
use Rattle.rc_tree.specs.declared.value.ReactiveValue.TheOpen as value_layers
use Rattle.rc_tree.specs.declared.value.ReactiveValue.TheOpen.{ReactiveValue-F}
use Rattle.rc_tree.specs.declared.value.ReactiveValue.TheVariants as reactive_values
use Rattle.rc_tree.specs.declared.statement.ReactiveStatement.{ReactiveStatement, roll-ReactiveStatement}
use Rattle.rc_tree.specs.declared.statement.ReactiveStatement.TheFolds.{map-ReactiveStatement, map-ReactiveTerminal}
use Rattle.rc_tree.specs.declared.statement.ReactiveStatement.TheOpen as layers
use Rattle.rc_tree.specs.declared.statement.ReactiveStatement.TheOpen.{ReactiveStatement-F, ReactiveTerminal-F}
use Rattle.rc_tree.specs.declared.statement.ReactiveStatement.TheShapes as shapes
use Rattle.rc_tree.specs.declared.statement.ReactiveStatement.TheVariants as reactive
use Rattle.rc_tree.specs.declared.terminal.ReactiveSwitchCase.{ReactiveSwitchCase, roll-ReactiveSwitchCase}
use Rattle.rc_tree.specs.declared.terminal.ReactiveTerminal.{ReactiveTerminal, roll-ReactiveTerminal}
use Rattle.rc_tree.specs.declared.terminal.ReactiveTerminal.TheVariants as tree
use Rattle.rc_tree.proofs.TreeFoldLemmas.{over_statement-roll, over_terminal-roll, over_case-roll, over_block-parts}
use Rattle.rc_tree.proofs.TreeFoldLemmas.{over_labeled-parts, over_scope-parts, over_pruned_scope-parts}
use Rattle.rc_runs.specs.Erase.{Erased, without_flag, of_value, of_row, erased_value, erased_row, of_statement}
use Rattle.rc_runs.specs.Erase.{of_terminal, erasing, erased_block, erased_statement, erased_case, erased_terminal}
use Rattle.rc_runs.specs.Erase.{erased_scope, erased_pruned_scope, erased_labeled, erased_statements}

-- values and rows
abbrev left_value : ReactiveValue-F ReactiveValue ReactiveInstruction
    → ReactiveValue-F ReactiveValue ReactiveInstruction
left_value = map-ReactiveValue ReactiveValue ReactiveInstruction ReactiveValue ReactiveInstruction erased_value
    erased_row

rolled_value : (l : ReactiveValue-F ReactiveValue ReactiveInstruction)
    → erased_value (roll-ReactiveValue l) ≡ of_value (left_value l)
unfolding erased_value erased_row
rolled_value l = fold-roll-ReactiveValue ReactiveValue ReactiveInstruction of_value of_row l

pub erased-Instruction : (value : InstructionValue) → erased_value (reactive_values.Instruction value)
    ≡ reactive_values.Instruction (without_flag value)
erased-Instruction value =
    ap erased_value (sym (reactive_values.rolls-Instruction value)) ∙ rolled_value (value_layers.Instruction value)

pub erased-LogicalExpression : (operator : LogicalOperator) (left right : ReactiveValue) →
    erased_value (reactive_values.LogicalExpression operator left right)
    ≡ reactive_values.LogicalExpression operator (erased_value left) (erased_value right)
erased-LogicalExpression operator left right =
    ap erased_value (sym (reactive_values.rolls-LogicalExpression operator left right))
    ∙ rolled_value (value_layers.LogicalExpression operator left right)
    ∙ reactive_values.rolls-LogicalExpression operator (erased_value left) (erased_value right)

pub erased-ConditionalExpression : (test consequent alternate : ReactiveValue) →
    erased_value (reactive_values.ConditionalExpression test consequent alternate)
    ≡ reactive_values.ConditionalExpression (erased_value test) (erased_value consequent) (erased_value alternate)
erased-ConditionalExpression test consequent alternate =
    ap erased_value (sym (reactive_values.rolls-ConditionalExpression test consequent alternate))
    ∙ rolled_value (value_layers.ConditionalExpression test consequent alternate)
    ∙ reactive_values.rolls-ConditionalExpression (erased_value test) (erased_value consequent) (erased_value alternate)

pub erased-SequenceExpression : (rows : List ReactiveInstruction) (id : EvaluationOrder) (value : ReactiveValue) →
    erased_value (reactive_values.SequenceExpression rows id value)
    ≡ reactive_values.SequenceExpression (map erased_row rows) id (erased_value value)
erased-SequenceExpression rows id value =
    ap erased_value (sym (reactive_values.rolls-SequenceExpression rows id value))
    ∙ rolled_value (value_layers.SequenceExpression rows id value)
    ∙ reactive_values.rolls-SequenceExpression (map erased_row rows) id (erased_value value)

pub erased-OptionalExpression : (value : ReactiveValue) (optional : Bool) →
    erased_value (reactive_values.OptionalExpression value optional)
    ≡ reactive_values.OptionalExpression (erased_value value) optional
erased-OptionalExpression value optional =
    ap erased_value (sym (reactive_values.rolls-OptionalExpression value optional))
    ∙ rolled_value (value_layers.OptionalExpression value optional)
    ∙ reactive_values.rolls-OptionalExpression (erased_value value) optional

pub erased-row : (row : ReactiveInstruction) →
    erased_row row ≡ record { id = row.id; lvalue = row.lvalue; value = erased_value row.value; span = row.span }
unfolding erased_value erased_row
erased-row row = fold-roll-ReactiveInstruction ReactiveValue ReactiveInstruction of_value of_row
    (record { id = row.id; lvalue = row.lvalue; value = row.value; span = row.span })

-- statements, cases and terminals, by their forms
abbrev left_statement : UnrolledStatement → Erased ReactiveStatement-F
left_statement = map-ReactiveStatement ReactiveStatement ReactiveTerminal PrunedReactiveScopeBlock ReactiveScopeBlock
    ReactiveBlock ReactiveSwitchCase ReactiveTerminalStatement
    (List ReactiveStatement) ReactiveTerminal (List ReactiveStatement) (List ReactiveStatement) ReactiveBlock
    ReactiveSwitchCase ReactiveTerminalStatement
    erased_statement erased_terminal erased_pruned_scope erased_scope erased_block erased_case erased_labeled

abbrev left_terminal : UnrolledTerminal → Erased ReactiveTerminal-F
left_terminal = map-ReactiveTerminal ReactiveStatement ReactiveTerminal PrunedReactiveScopeBlock ReactiveScopeBlock
    ReactiveBlock ReactiveSwitchCase ReactiveTerminalStatement
    (List ReactiveStatement) ReactiveTerminal (List ReactiveStatement) (List ReactiveStatement) ReactiveBlock
    ReactiveSwitchCase ReactiveTerminalStatement
    erased_statement erased_terminal erased_pruned_scope erased_scope erased_block erased_case erased_labeled

rolled_statement : (l : UnrolledStatement) → erased_statement (roll-ReactiveStatement l)
    ≡ of_statement (left_statement l)
unfolding erased_block erased_statement erased_case erased_terminal erased_scope erased_pruned_scope erased_labeled
rolled_statement = over_statement-roll erasing

rolled_terminal : (l : UnrolledTerminal) → erased_terminal (roll-ReactiveTerminal l) ≡ of_terminal (left_terminal l)
unfolding erased_block erased_statement erased_case erased_terminal erased_scope erased_pruned_scope erased_labeled
rolled_terminal = over_terminal-roll erasing

-- blocks and statements
pub erased-block : (block : ReactiveBlock) → erased_block block
    ≡ record { statements = erased_statements block.statements }
unfolding erased_block erased_statement erased_case erased_terminal erased_scope erased_pruned_scope erased_labeled
erased-block block = over_block-parts erasing block
    ∙ (λ i. record { statements = flat_map-map (λ statements. statements) erased_statement block.statements i })

left_scope : (scope : ReactiveScopeBlock) → erased_scope scope ≡ (erased_block scope.instructions).statements
unfolding erased_block erased_statement erased_case erased_terminal erased_scope erased_pruned_scope erased_labeled
left_scope = over_scope-parts erasing

left_pruned_scope : (scope : PrunedReactiveScopeBlock)
    → erased_pruned_scope scope ≡ (erased_block scope.instructions).statements
unfolding erased_block erased_statement erased_case erased_terminal erased_scope erased_pruned_scope erased_labeled
left_pruned_scope = over_pruned_scope-parts erasing

left_labeled : (statement : ReactiveTerminalStatement) →
    erased_labeled statement ≡ record { terminal = erased_terminal statement.terminal; label = statement.label }
unfolding erased_block erased_statement erased_case erased_terminal erased_scope erased_pruned_scope erased_labeled
left_labeled = over_labeled-parts erasing

pub erased-row_statement : (row : ReactiveInstruction)
    → erased_statement (reactive.Instruction row) ≡ reactive.Instruction (erased_row row) ∷ []
erased-row_statement row =
    ap erased_statement (sym (reactive.rolls-Instruction row)) ∙ rolled_statement (layers.Instruction row)

pub erased-labeled : (statement : ReactiveTerminalStatement) →
    erased_statement (reactive.Terminal statement)
    ≡ reactive.Terminal (record { terminal = erased_terminal statement.terminal; label = statement.label }) ∷ []
erased-labeled statement =
    ap erased_statement (sym (reactive.rolls-Terminal statement)) ∙ rolled_statement (layers.Terminal statement)
    ∙ ap (λ left. reactive.Terminal left ∷ []) (left_labeled statement)

pub erased-scope : (scope : ReactiveScopeBlock) → erased_statement (reactive.Scope scope)
    ≡ erased_statements scope.instructions.statements
erased-scope scope =
    ap erased_statement (sym (reactive.rolls-Scope scope)) ∙ rolled_statement (layers.Scope scope) ∙ left_scope scope
    ∙ ap (λ block. block.statements) (erased-block scope.instructions)

pub erased-pruned_scope : (scope : PrunedReactiveScopeBlock) →
    erased_statement (reactive.PrunedScope scope) ≡ erased_statements scope.instructions.statements
erased-pruned_scope scope =
    ap erased_statement (sym (reactive.rolls-PrunedScope scope)) ∙ rolled_statement (layers.PrunedScope scope)
    ∙ left_pruned_scope scope
    ∙ ap (λ block. block.statements) (erased-block scope.instructions)

left_if : (block : Option ReactiveBlock) → shapes.former-ReactiveTerminal-If-2.map ReactiveBlock ReactiveBlock
    erased_block block ≡ option_map erased_block block
left_if None = refl
left_if (Some block) = refl

pub erased-case : (test : Option Place) (block : Option ReactiveBlock) →
    erased_case (roll-ReactiveSwitchCase (record { test = test; block = block }))
    ≡ roll-ReactiveSwitchCase (record { test = test; block = option_map erased_block block })
unfolding erased_block erased_statement erased_case erased_terminal erased_scope erased_pruned_scope erased_labeled
erased-case test block = over_case-roll erasing (record { test = test; block = block })
    ∙ ap (λ left. roll-ReactiveSwitchCase (record { test = test; block = left })) (left_if block)

-- terminals
pub erased-Break : (target : BlockId) (kind : ReactiveTerminalTargetKind) (id : EvaluationOrder) →
    erased_terminal (tree.Break target kind id) ≡ tree.Break target kind id
erased-Break target kind id =
    ap erased_terminal (sym (tree.rolls-Break target kind id)) ∙ rolled_terminal (layers.Break target kind id)

pub erased-Continue : (target : BlockId) (kind : ReactiveTerminalTargetKind) (id : EvaluationOrder) →
    erased_terminal (tree.Continue target kind id) ≡ tree.Continue target kind id
erased-Continue target kind id = ap erased_terminal (sym (tree.rolls-Continue target kind id))
    ∙ rolled_terminal (layers.Continue target kind id)

pub erased-Return : (value : Place) (id : EvaluationOrder) →
    erased_terminal (tree.Return value id) ≡ tree.Return value id
erased-Return value id =
    ap erased_terminal (sym (tree.rolls-Return value id)) ∙ rolled_terminal (layers.Return value id)

pub erased-Throw : (value : Place) (id : EvaluationOrder) →
    erased_terminal (tree.Throw value id) ≡ tree.Throw value id
erased-Throw value id =
    ap erased_terminal (sym (tree.rolls-Throw value id)) ∙ rolled_terminal (layers.Throw value id)

pub erased-Switch : (test : Place) (cases : List ReactiveSwitchCase) (id : EvaluationOrder) →
    erased_terminal (tree.Switch test cases id) ≡ tree.Switch test (map erased_case cases) id
erased-Switch test cases id =
    ap erased_terminal (sym (tree.rolls-Switch test cases id)) ∙ rolled_terminal (layers.Switch test cases id)

pub erased-DoWhile : (body : ReactiveBlock) (test : ReactiveValue) (id : EvaluationOrder) →
    erased_terminal (tree.DoWhile body test id) ≡ tree.DoWhile (erased_block body) (erased_value test) id
erased-DoWhile body test id =
    ap erased_terminal (sym (tree.rolls-DoWhile body test id)) ∙ rolled_terminal (layers.DoWhile body test id)

pub erased-While : (test : ReactiveValue) (body : ReactiveBlock) (id : EvaluationOrder) →
    erased_terminal (tree.While test body id) ≡ tree.While (erased_value test) (erased_block body) id
erased-While test body id =
    ap erased_terminal (sym (tree.rolls-While test body id)) ∙ rolled_terminal (layers.While test body id)

pub erased-For : (init test : ReactiveValue) (update : Option ReactiveValue) (body : ReactiveBlock)
    (id : EvaluationOrder) →
    erased_terminal (tree.For init test update body id)
    ≡ tree.For (erased_value init) (erased_value test) (option_map erased_value update) (erased_block body) id
erased-For init test update body id = ap erased_terminal (sym (tree.rolls-For init test update body id))
    ∙ rolled_terminal (layers.For init test update body id)

pub erased-ForOf : (init test : ReactiveValue) (body : ReactiveBlock) (span : Option Span) (id : EvaluationOrder) →
    erased_terminal (tree.ForOf init test body span id)
    ≡ tree.ForOf (erased_value init) (erased_value test) (erased_block body) span id
erased-ForOf init test body span id = ap erased_terminal (sym (tree.rolls-ForOf init test body span id))
    ∙ rolled_terminal (layers.ForOf init test body span id)

pub erased-ForIn : (init : ReactiveValue) (body : ReactiveBlock) (span : Option Span) (id : EvaluationOrder) →
    erased_terminal (tree.ForIn init body span id) ≡ tree.ForIn (erased_value init) (erased_block body) span
    id
erased-ForIn init body span id = ap erased_terminal (sym (tree.rolls-ForIn init body span id))
    ∙ rolled_terminal (layers.ForIn init body span id)

pub erased-If : (test : Place) (consequent : ReactiveBlock) (alternate : Option ReactiveBlock) (id : EvaluationOrder) →
    erased_terminal (tree.If test consequent alternate id)
    ≡ tree.If test (erased_block consequent) (option_map erased_block alternate) id
erased-If test consequent alternate id = ap erased_terminal (sym (tree.rolls-If test consequent alternate id))
    ∙ rolled_terminal (layers.If test consequent alternate id)
    ∙ ap (λ other. tree.If test (erased_block consequent) other id) (left_if alternate)

pub erased-Label : (body : ReactiveBlock) (id : EvaluationOrder) →
    erased_terminal (tree.Label body id) ≡ tree.Label (erased_block body) id
erased-Label body id = ap erased_terminal (sym (tree.rolls-Label body id)) ∙ rolled_terminal (layers.Label body id)

pub erased-Try : (body : ReactiveBlock) (binding : Option Place) (handler : ReactiveBlock) (id : EvaluationOrder) →
    erased_terminal (tree.Try body binding handler id)
    ≡ tree.Try (erased_block body) binding (erased_block handler) id
erased-Try body binding handler id = ap erased_terminal (sym (tree.rolls-Try body binding handler id))
    ∙ rolled_terminal (layers.Try body binding handler id)
