-- The contents of each form of a tree: one equation a form, whatever the contributions are.
use Rattle.std.proofs.Common.{◌≡◌, ◌∙◌, List, [], ◌∷◌, Bool, Option, None, Some, map, refl, sym, ap}
use Rattle.rc_hir.specs.Model.{InstructionValue, LogicalOperator, Place}
use Rattle.rc_names.specs.Numbers.{BlockId, EvaluationOrder}
use Rattle.rc_names.specs.declared.span.Span.{Span}
use Rattle.rc_tree.specs.Collected.{Contributions, of_statement, of_terminal, collecting, collected}
use Rattle.rc_tree.specs.Collected.{collected_statement, collected_terminal, collected_pruned_scope, collected_scope}
use Rattle.rc_tree.specs.Collected.{collected_case, collected_cases, collected_if, collected_labeled, collected_list}
use Rattle.rc_tree.specs.CollectedValues.{ValueContributions, OfValue, OfRow, of_value, of_row, collected_value}
use Rattle.rc_tree.specs.CollectedValues.{collected_row}
use Rattle.rc_tree.specs.Joining.{all_of}
use Rattle.rc_tree.specs.Unrolled.{UnrolledStatement, UnrolledTerminal}
use Rattle.rc_tree.specs.Model.{ReactiveTerminalTargetKind, PrunedReactiveScopeBlock, ReactiveScopeBlock, ReactiveBlock}
use Rattle.rc_tree.specs.Model.{ReactiveStatement, ReactiveSwitchCase, ReactiveTerminal, ReactiveTerminalStatement}
use Rattle.rc_tree.specs.Model.{ReactiveInstruction}
use Rattle.rc_tree.specs.declared.statement.ReactiveStatement.TheFolds.{map-ReactiveStatement, map-ReactiveTerminal}
use Rattle.rc_tree.specs.declared.statement.ReactiveStatement.TheOpen as layer
use Rattle.rc_tree.specs.declared.statement.ReactiveStatement.TheOpen.{ReactiveStatement-F, ReactiveTerminal-F}
use Rattle.rc_tree.specs.declared.statement.ReactiveStatement.TheVariants as reactive
use Rattle.rc_tree.specs.declared.statement.ReactiveStatement.TheViews.{roll-ReactiveStatement, roll-ReactiveTerminal}
use Rattle.rc_tree.specs.declared.statement.ReactiveStatement.TheViews.{roll-ReactiveSwitchCase}
use Rattle.rc_tree.specs.declared.terminal.ReactiveTerminal.TheVariants as tree
use Rattle.rc_tree.specs.declared.value.ReactiveValue.{ReactiveValue, roll-ReactiveValue}
use Rattle.rc_tree.specs.declared.value.ReactiveValue.TheFolds.{para-roll-ReactiveValue, para-roll-ReactiveInstruction}
use Rattle.rc_tree.specs.declared.value.ReactiveValue.TheFolds.{map-ReactiveValue}
use Rattle.rc_tree.specs.declared.value.ReactiveValue.TheOpen as value
use Rattle.rc_tree.specs.declared.value.ReactiveValue.TheOpen.{ReactiveValue-F}
use Rattle.rc_tree.specs.declared.value.ReactiveValue.TheVariants as reactive_values
use Rattle.rc_tree.proofs.TreeFoldLemmas.{over_statement-roll, over_terminal-roll, over_case-roll, over_block-parts}
use Rattle.rc_tree.proofs.TreeFoldLemmas.{over_labeled-parts, over_scope-parts, over_pruned_scope-parts}

module _ {A : Type 0} (adds : ValueContributions A) where
  abbrev pub parts_of_value : ReactiveValue-F ReactiveValue ReactiveInstruction
      → ReactiveValue-F (OfValue adds) (OfRow adds)
  parts_of_value = map-ReactiveValue ReactiveValue ReactiveInstruction (OfValue adds) (OfRow adds)
      (λ x. (x, collected_value adds x)) (λ x. (x, collected_row adds x))

  -- each form of value, unfolded
  pub opened_value : (y : ReactiveValue-F ReactiveValue ReactiveInstruction) (id : EvaluationOrder)
      → collected_value adds (roll-ReactiveValue y) id ≡ of_value adds (parts_of_value y) id
  unfolding collected_value collected_row
  opened_value y id =
      ap (λ held. held id) (para-roll-ReactiveValue (EvaluationOrder → A) A (of_value adds) (of_row adds) y)

  pub collected-row : (x : ReactiveInstruction) → collected_row adds x
      ≡ adds.row x (adds.joining.both (adds.target x.id x.lvalue) (collected_value adds x.value x.id))
  unfolding collected_value collected_row
  collected-row x = para-roll-ReactiveInstruction (EvaluationOrder → A) A (of_value adds) (of_row adds)
      (record { id = x.id; lvalue = x.lvalue; value = x.value; span = x.span })

  -- the value of one instruction
  pub collected-Base : (x : InstructionValue) (id : EvaluationOrder)
      → collected_value adds (reactive_values.Instruction x) id ≡ adds.instruction id x
  collected-Base x id = ap (λ y. collected_value adds y id) (sym (reactive_values.rolls-Instruction x))
      ∙ opened_value (value.Instruction x) id

  pub collected-Logical : (operator : LogicalOperator) (x y : ReactiveValue) (id : EvaluationOrder)
      → collected_value adds (reactive_values.LogicalExpression operator x y) id
      ≡ adds.joining.both (collected_value adds x id) (collected_value adds y id)
  collected-Logical operator x y id =
      ap (λ z. collected_value adds z id) (sym (reactive_values.rolls-LogicalExpression operator x y))
      ∙ opened_value (value.LogicalExpression operator x y) id

  pub collected-Conditional : (x y z : ReactiveValue) (id : EvaluationOrder)
      → collected_value adds (reactive_values.ConditionalExpression x y z) id
      ≡ adds.joining.both (collected_value adds x id)
      (adds.joining.both (collected_value adds y id) (collected_value adds z id))
  collected-Conditional x y z id =
      ap (λ w. collected_value adds w id) (sym (reactive_values.rolls-ConditionalExpression x y z))
      ∙ opened_value (value.ConditionalExpression x y z) id

  contents_of : (rows : List ReactiveInstruction)
      → map (λ (row : OfRow adds). row.1) (map (λ x. (x, collected_row adds x)) rows) ≡ map (collected_row adds) rows
  contents_of [] = refl
  contents_of (row ∷ rows) = ap (λ all. collected_row adds row ∷ all) (contents_of rows)

  pub collected-Sequence : (rows : List ReactiveInstruction) (own : EvaluationOrder) (x : ReactiveValue)
      (id : EvaluationOrder) → collected_value adds (reactive_values.SequenceExpression rows own x) id
      ≡ adds.joining.both (all_of adds.joining (map (collected_row adds) rows)) (collected_value adds x own)
  collected-Sequence rows own x id =
      ap (λ y. collected_value adds y id) (sym (reactive_values.rolls-SequenceExpression rows own x))
      ∙ opened_value (value.SequenceExpression rows own x) id
      ∙ ap (λ all. adds.joining.both (all_of adds.joining all) (collected_value adds x own)) (contents_of rows)

  pub collected-Optional : (x : ReactiveValue) (optional : Bool) (id : EvaluationOrder)
      → collected_value adds (reactive_values.OptionalExpression x optional) id ≡ collected_value adds x id
  collected-Optional x optional id =
      ap (λ y. collected_value adds y id) (sym (reactive_values.rolls-OptionalExpression x optional))
      ∙ opened_value (value.OptionalExpression x optional) id

module _ {A : Type 0} (adds : Contributions A) where
  abbrev both : A → A → A
  both = adds.joining.both

  -- a statement and a terminal by their variants, with the contents of each part in the place of that part
  abbrev pub parts_of_statement : UnrolledStatement → ReactiveStatement-F A A A A A (EvaluationOrder → A) A
  parts_of_statement = map-ReactiveStatement ReactiveStatement ReactiveTerminal PrunedReactiveScopeBlock
      ReactiveScopeBlock ReactiveBlock ReactiveSwitchCase ReactiveTerminalStatement A A A A A (EvaluationOrder → A) A
      (collected_statement adds) (collected_terminal adds) (collected_pruned_scope adds) (collected_scope adds)
      (collected adds) (collected_case adds) (collected_labeled adds)

  abbrev pub parts_of_terminal : UnrolledTerminal → ReactiveTerminal-F A A A A A (EvaluationOrder → A) A
  parts_of_terminal = map-ReactiveTerminal ReactiveStatement ReactiveTerminal PrunedReactiveScopeBlock
      ReactiveScopeBlock ReactiveBlock ReactiveSwitchCase ReactiveTerminalStatement A A A A A (EvaluationOrder → A) A
      (collected_statement adds) (collected_terminal adds) (collected_pruned_scope adds) (collected_scope adds)
      (collected adds) (collected_case adds) (collected_labeled adds)

  -- each form of statement and of terminal, unfolded
  pub opened_statement : (x : UnrolledStatement)
      → collected_statement adds (roll-ReactiveStatement x) ≡ of_statement adds (parts_of_statement x)
  unfolding collected collected_statement collected_terminal collected_pruned_scope collected_scope collected_case
      collected_labeled
  opened_statement = over_statement-roll (collecting adds)

  pub opened_terminal : (x : UnrolledTerminal)
      → collected_terminal adds (roll-ReactiveTerminal x) ≡ of_terminal adds (parts_of_terminal x)
  unfolding collected collected_statement collected_terminal collected_pruned_scope collected_scope collected_case
      collected_labeled
  opened_terminal = over_terminal-roll (collecting adds)

  pub collected-block : (x : ReactiveBlock) → collected adds x ≡ collected_list adds x.statements
  unfolding collected collected_statement collected_terminal collected_pruned_scope collected_scope collected_case
      collected_labeled
  collected-block = over_block-parts (collecting adds)

  pub collected-scope : (x : ReactiveScopeBlock)
      → collected_scope adds x ≡ adds.scope x.scope (collected adds x.instructions)
  unfolding collected collected_statement collected_terminal collected_pruned_scope collected_scope collected_case
      collected_labeled
  collected-scope = over_scope-parts (collecting adds)

  pub collected-pruned_scope : (x : PrunedReactiveScopeBlock)
      → collected_pruned_scope adds x ≡ adds.pruned_scope x.scope (collected adds x.instructions)
  unfolding collected collected_statement collected_terminal collected_pruned_scope collected_scope collected_case
      collected_labeled
  collected-pruned_scope = over_pruned_scope-parts (collecting adds)

  pub collected-labeled : (x : ReactiveTerminalStatement)
      → collected_labeled adds x ≡ both (adds.label x.label) (collected_terminal adds x.terminal)
  unfolding collected collected_statement collected_terminal collected_pruned_scope collected_scope collected_case
      collected_labeled
  collected-labeled = over_labeled-parts (collecting adds)

  pub collected-case : (test : Option Place) (body : Option ReactiveBlock) (id : EvaluationOrder)
      → collected_case adds (roll-ReactiveSwitchCase (record { test = test; block = body })) id
      ≡ both (adds.place id test) (collected_if adds body)
  unfolding collected collected_statement collected_terminal collected_pruned_scope collected_scope collected_case
      collected_labeled
  collected-case test None id = ap (λ held. held id) (over_case-roll (collecting adds)
      (record { test = test; block = None }))
  collected-case test (Some body) id = ap (λ held. held id) (over_case-roll (collecting adds)
      (record { test = test; block = Some body }))

  -- statements
  pub collected-Instruction : (x : ReactiveInstruction)
      → collected_statement adds (reactive.Instruction x) ≡ adds.row x
  collected-Instruction x = ap (collected_statement adds) (sym (reactive.rolls-Instruction x))
      ∙ opened_statement (layer.Instruction x)

  pub collected-Terminal : (x : ReactiveTerminalStatement) → collected_statement adds (reactive.Terminal x)
      ≡ both (adds.label x.label) (collected_terminal adds x.terminal)
  collected-Terminal x = ap (collected_statement adds) (sym (reactive.rolls-Terminal x))
      ∙ opened_statement (layer.Terminal x) ∙ collected-labeled x

  pub collected-Scope : (x : ReactiveScopeBlock)
      → collected_statement adds (reactive.Scope x) ≡ adds.scope x.scope (collected adds x.instructions)
  collected-Scope x = ap (collected_statement adds) (sym (reactive.rolls-Scope x))
      ∙ opened_statement (layer.Scope x) ∙ collected-scope x

  pub collected-PrunedScope : (x : PrunedReactiveScopeBlock)
      → collected_statement adds (reactive.PrunedScope x) ≡ adds.pruned_scope x.scope (collected adds x.instructions)
  collected-PrunedScope x = ap (collected_statement adds) (sym (reactive.rolls-PrunedScope x))
      ∙ opened_statement (layer.PrunedScope x) ∙ collected-pruned_scope x

  -- terminals
  pub collected-Break : (target : BlockId) (kind : ReactiveTerminalTargetKind) (id : EvaluationOrder)
      → collected_terminal adds (tree.Break target kind id) ≡ adds.jump target
  collected-Break target kind id = ap (collected_terminal adds) (sym (tree.rolls-Break target kind id))
      ∙ opened_terminal (layer.Break target kind id)

  pub collected-Continue : (target : BlockId) (kind : ReactiveTerminalTargetKind) (id : EvaluationOrder)
      → collected_terminal adds (tree.Continue target kind id) ≡ adds.jump target
  collected-Continue target kind id = ap (collected_terminal adds) (sym (tree.rolls-Continue target kind id))
      ∙ opened_terminal (layer.Continue target kind id)

  pub collected-Return : (place : Place) (id : EvaluationOrder)
      → collected_terminal adds (tree.Return place id) ≡ adds.returned id place
  collected-Return place id = ap (collected_terminal adds) (sym (tree.rolls-Return place id))
      ∙ opened_terminal (layer.Return place id)

  pub collected-Throw : (place : Place) (id : EvaluationOrder)
      → collected_terminal adds (tree.Throw place id) ≡ adds.place id (Some place)
  collected-Throw place id = ap (collected_terminal adds) (sym (tree.rolls-Throw place id))
      ∙ opened_terminal (layer.Throw place id)

  pub collected-Switch : (test : Place) (cases : List ReactiveSwitchCase) (id : EvaluationOrder)
      → collected_terminal adds (tree.Switch test cases id)
      ≡ both (adds.place id (Some test)) (collected_cases adds id cases)
  collected-Switch test cases id = ap (collected_terminal adds) (sym (tree.rolls-Switch test cases id))
      ∙ opened_terminal (layer.Switch test cases id)

  pub collected-DoWhile : (body : ReactiveBlock) (test : ReactiveValue) (id : EvaluationOrder)
      → collected_terminal adds (tree.DoWhile body test id) ≡ both (collected adds body) (adds.value id (Some test))
  collected-DoWhile body test id = ap (collected_terminal adds) (sym (tree.rolls-DoWhile body test id))
      ∙ opened_terminal (layer.DoWhile body test id)

  pub collected-While : (test : ReactiveValue) (body : ReactiveBlock) (id : EvaluationOrder)
      → collected_terminal adds (tree.While test body id) ≡ both (adds.value id (Some test)) (collected adds body)
  collected-While test body id = ap (collected_terminal adds) (sym (tree.rolls-While test body id))
      ∙ opened_terminal (layer.While test body id)

  pub collected-For : (init test : ReactiveValue) (update : Option ReactiveValue) (body : ReactiveBlock)
      (id : EvaluationOrder) → collected_terminal adds (tree.For init test update body id)
      ≡ both (adds.value id (Some init)) (both (adds.value id (Some test))
      (both (collected adds body) (adds.value id update)))
  collected-For init test update body id = ap (collected_terminal adds)
      (sym (tree.rolls-For init test update body id)) ∙ opened_terminal (layer.For init test update body id)

  pub collected-ForOf : (init test : ReactiveValue) (body : ReactiveBlock) (span : Option Span) (id : EvaluationOrder)
      → collected_terminal adds (tree.ForOf init test body span id)
      ≡ both (adds.value id (Some init)) (both (adds.value id (Some test)) (collected adds body))
  collected-ForOf init test body span id = ap (collected_terminal adds)
      (sym (tree.rolls-ForOf init test body span id)) ∙ opened_terminal (layer.ForOf init test body span id)

  pub collected-ForIn : (init : ReactiveValue) (body : ReactiveBlock) (span : Option Span) (id : EvaluationOrder)
      → collected_terminal adds (tree.ForIn init body span id)
      ≡ both (adds.value id (Some init)) (collected adds body)
  collected-ForIn init body span id = ap (collected_terminal adds) (sym (tree.rolls-ForIn init body span id))
      ∙ opened_terminal (layer.ForIn init body span id)

  pub collected-If : (test : Place) (consequent : ReactiveBlock) (alternate : Option ReactiveBlock)
      (id : EvaluationOrder) → collected_terminal adds (tree.If test consequent alternate id)
      ≡ both (adds.place id (Some test)) (both (collected adds consequent) (collected_if adds alternate))
  collected-If test consequent None id = ap (collected_terminal adds) (sym (tree.rolls-If test consequent None id))
      ∙ opened_terminal (layer.If test consequent None id)
  collected-If test consequent (Some other) id = ap (collected_terminal adds)
      (sym (tree.rolls-If test consequent (Some other) id))
      ∙ opened_terminal (layer.If test consequent (Some other) id)

  pub collected-Label : (body : ReactiveBlock) (id : EvaluationOrder)
      → collected_terminal adds (tree.Label body id) ≡ collected adds body
  collected-Label body id = ap (collected_terminal adds) (sym (tree.rolls-Label body id))
      ∙ opened_terminal (layer.Label body id)

  pub collected-Try : (body : ReactiveBlock) (binding : Option Place) (handler : ReactiveBlock) (id : EvaluationOrder)
      → collected_terminal adds (tree.Try body binding handler id)
      ≡ both (collected adds body) (both (adds.place id binding) (collected adds handler))
  collected-Try body binding handler id = ap (collected_terminal adds) (sym (tree.rolls-Try body binding handler id))
      ∙ opened_terminal (layer.Try body binding handler id)

-- with these, `search` unfolds each form of a tree
pub ruleset collected_forms = (
  collected-block,
  collected-case,
  collected-Instruction,
  collected-Terminal,
  collected-Scope,
  collected-PrunedScope,
  collected-Break,
  collected-Continue,
  collected-Return,
  collected-Throw,
  collected-Switch,
  collected-DoWhile,
  collected-While,
  collected-For,
  collected-ForOf,
  collected-ForIn,
  collected-If,
  collected-Label,
  collected-Try,
)
