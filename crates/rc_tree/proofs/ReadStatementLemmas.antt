-- The equations of the read walk of blocks, statements and terminals: one for each form.
pub mod Layers
use Rattle.std.proofs.Common.{◌≡◌, List, Option, None, Some, refl, sym, ap, ◌∙◌}
use Rattle.rc_hir.specs.Model.{HirFunction, Place}
use Rattle.rc_names.specs.Numbers.{BlockId, EvaluationOrder}
use Rattle.rc_names.specs.declared.span.Span.{Span}
use Rattle.rc_tree.proofs.StepLemmas.{gives_next, gives_fault, each-map, same_rest}
use Rattle.rc_tree.specs.Step.{Walk, next_to, each, perhaps, around}
use Rattle.rc_tree.specs.ReadSteps.{ReadSteps}
use Rattle.rc_tree.specs.Read.{around_block, statement_step, parts_step, pruned_step, scope_step, block_step, case_step}
use Rattle.rc_tree.specs.Read.{terminal_step, read_statement, read_parts, read_case, inside_block, inside_scope}
use Rattle.rc_tree.specs.Read.{inside_pruned_scope, inside_terminal, read_block, read_scope, read_pruned_scope}
use Rattle.rc_tree.specs.Read.{read_terminal}
use Rattle.rc_tree.specs.Read.Values.{WalkAt, read_value, read_instruction}
use Rattle.rc_tree.specs.Model.{ReactiveTerminalTargetKind, PrunedReactiveScopeBlock, ReactiveScopeBlock, ReactiveBlock}
use Rattle.rc_tree.specs.Model.{ReactiveSwitchCase, ReactiveTerminalStatement, ReactiveInstruction, ReactiveValue}
use Rattle.rc_tree.specs.declared.statement.ReactiveStatement.TheShapes.{former-ReactiveTerminal-If-2}
use Rattle.rc_tree.specs.declared.statement.ReactiveStatement.TheOpen as layer
use Rattle.rc_tree.specs.declared.statement.ReactiveStatement.TheVariants as reactive
use Rattle.rc_tree.specs.declared.statement.ReactiveStatement.TheViews.{out-ReactiveSwitchCase}
use Rattle.rc_tree.specs.declared.statement.ReactiveStatement.TheViews.{roll-out-ReactiveSwitchCase}
use Rattle.rc_tree.specs.declared.statement.ReactiveStatement.TheFolds.{para-roll-PrunedReactiveScopeBlock}
use Rattle.rc_tree.specs.declared.statement.ReactiveStatement.TheFolds.{para-roll-ReactiveBlock}
use Rattle.rc_tree.specs.declared.statement.ReactiveStatement.TheFolds.{para-roll-ReactiveScopeBlock}
use Rattle.rc_tree.specs.declared.statement.ReactiveStatement.TheFolds.{para-roll-ReactiveSwitchCase}
use Rattle.rc_tree.specs.declared.statement.ReactiveStatement.TheFolds.{para-roll-ReactiveTerminalStatement}
use Rattle.rc_tree.specs.declared.terminal.ReactiveTerminal.TheVariants as tree
use Rattle.rc_tree.proofs.ReadStatementLemmas.Layers.{opened_parts, opened_statement}

-- a walk of an optional part, through a function of it
perhaps-map : {S X Y : Type 0} (step : Y → Walk S) (f : X → Y) (x : Option X) (s : S)
    → perhaps step (former-ReactiveTerminal-If-2.map X Y f x) s ≡ perhaps (λ y. step (f y)) x s
perhaps-map step f None s = refl
perhaps-map step f (Some x) s = refl

module _ {S : Type 0} (v : ReadSteps S) (functions : List HirFunction) where
  pub read_block-around : (x : ReactiveBlock) (s : S)
      → read_block v functions x s ≡ around (v.enter_block x) (inside_block v functions x) (v.leave_block x) s
  unfolding read_block
  read_block-around x s = refl

  pub read_scope-around : (x : ReactiveScopeBlock) (s : S)
      → read_scope v functions x s ≡ around (v.enter_scope x) (inside_scope v functions x) (v.leave_scope x) s
  unfolding read_scope
  read_scope-around x s = refl

  pub read_pruned_scope-around : (x : PrunedReactiveScopeBlock) (s : S)
      → read_pruned_scope v functions x s ≡ around (v.enter_pruned_scope x) (inside_pruned_scope v functions x)
      (v.leave_pruned_scope x) s
  unfolding read_pruned_scope
  read_pruned_scope-around x s = refl

  pub read_terminal-around : (x : ReactiveTerminalStatement) (s : S)
      → read_terminal v functions x s ≡ around (v.enter_terminal x) (inside_terminal v functions x) (v.leave_terminal x)
      s
  unfolding read_terminal
  read_terminal-around x s = refl

  pub inside_block-each : (x : ReactiveBlock) (s : S) → inside_block v functions x s
      ≡ each (read_statement v functions) x.statements s
  unfolding read_statement read_parts inside_pruned_scope inside_scope inside_block read_case inside_terminal
  inside_block-each x s =
      ap (λ f. f s) (para-roll-ReactiveBlock (Walk S) (Walk S) (Walk S) (Walk S) (Walk S) (WalkAt S) (Walk S)
      (statement_step v functions) (parts_step v functions) (pruned_step v functions)
      (scope_step v functions) (block_step v functions) (case_step v functions) (terminal_step v functions)
      (record { statements = x.statements }))
      ∙ each-map (λ e. e.1) (λ y. (y, read_statement v functions y)) x.statements s

  pub inside_scope-block : (x : ReactiveScopeBlock) (s : S)
      → inside_scope v functions x s ≡ read_block v functions x.instructions s
  unfolding read_statement read_parts inside_pruned_scope inside_scope inside_block read_case inside_terminal read_block
  inside_scope-block x s = ap (λ f. f s) (para-roll-ReactiveScopeBlock (Walk S) (Walk S) (Walk S) (Walk S) (Walk S)
      (WalkAt S) (Walk S) (statement_step v functions) (parts_step v functions) (pruned_step v functions)
      (scope_step v functions) (block_step v functions) (case_step v functions) (terminal_step v functions)
      (record { scope = x.scope; instructions = x.instructions }))

  pub inside_pruned_scope-block : (x : PrunedReactiveScopeBlock) (s : S)
      → inside_pruned_scope v functions x s ≡ read_block v functions x.instructions s
  unfolding read_statement read_parts inside_pruned_scope inside_scope inside_block read_case inside_terminal read_block
  inside_pruned_scope-block x s = ap (λ f. f s) (para-roll-PrunedReactiveScopeBlock (Walk S) (Walk S) (Walk S) (Walk S)
      (Walk S) (WalkAt S) (Walk S) (statement_step v functions) (parts_step v functions)
      (pruned_step v functions)
      (scope_step v functions) (block_step v functions) (case_step v functions) (terminal_step v functions)
      (record { scope = x.scope; instructions = x.instructions }))

  pub inside_terminal-parts : (x : ReactiveTerminalStatement) (s : S)
      → inside_terminal v functions x s ≡ read_parts v functions x.terminal s
  unfolding read_statement read_parts inside_pruned_scope inside_scope inside_block read_case inside_terminal
  inside_terminal-parts x s = ap (λ f. f s) (para-roll-ReactiveTerminalStatement (Walk S) (Walk S) (Walk S) (Walk S)
      (Walk S) (WalkAt S) (Walk S) (statement_step v functions) (parts_step v functions)
      (pruned_step v functions)
      (scope_step v functions) (block_step v functions) (case_step v functions) (terminal_step v functions)
      (record { terminal = x.terminal; label = x.label }))

  pub read_case-parts : (x : ReactiveSwitchCase) (id : EvaluationOrder) (s : S)
      → read_case v functions x id s
      ≡ next_to (perhaps (v.visit_place id) (out-ReactiveSwitchCase x).test)
      (perhaps (read_block v functions) (out-ReactiveSwitchCase x).block) s
  unfolding read_statement read_parts inside_pruned_scope inside_scope inside_block read_case inside_terminal read_block
  read_case-parts x id s =
      ap (λ y. read_case v functions y id s) (sym (roll-out-ReactiveSwitchCase x))
      ∙ ap (λ f. f id s) (para-roll-ReactiveSwitchCase (Walk S) (Walk S) (Walk S) (Walk S) (Walk S) (WalkAt S)
      (Walk S) (statement_step v functions) (parts_step v functions) (pruned_step v functions)
      (scope_step v functions) (block_step v functions) (case_step v functions) (terminal_step v functions)
      (out-ReactiveSwitchCase x))
      ∙ same_rest (perhaps (v.visit_place id) (out-ReactiveSwitchCase x).test s) _ _
      (λ r. perhaps-map (around_block v functions) (λ y. (y, inside_block v functions y))
      (out-ReactiveSwitchCase x).block r.1)

  pub statement-Instruction : (x : ReactiveInstruction) (s : S)
      → read_statement v functions (reactive.Instruction x) s ≡ read_instruction v functions x s
  statement-Instruction x s = ap (λ y. read_statement v functions y s) (sym (reactive.rolls-Instruction x))
      ∙ opened_statement v functions (layer.Instruction x) s

  pub statement-Terminal : (x : ReactiveTerminalStatement) (s : S)
      → read_statement v functions (reactive.Terminal x) s ≡ read_terminal v functions x s
  unfolding read_terminal
  statement-Terminal x s =
      ap (λ y. read_statement v functions y s) (sym (reactive.rolls-Terminal x))
      ∙ opened_statement v functions (layer.Terminal x) s

  pub statement-Scope : (x : ReactiveScopeBlock) (s : S)
      → read_statement v functions (reactive.Scope x) s ≡ read_scope v functions x s
  unfolding read_scope
  statement-Scope x s =
      ap (λ y. read_statement v functions y s) (sym (reactive.rolls-Scope x))
      ∙ opened_statement v functions (layer.Scope x) s

  pub statement-PrunedScope : (x : PrunedReactiveScopeBlock) (s : S)
      → read_statement v functions (reactive.PrunedScope x) s ≡ read_pruned_scope v functions x s
  unfolding read_pruned_scope
  statement-PrunedScope x s = ap (λ y. read_statement v functions y s) (sym (reactive.rolls-PrunedScope x))
      ∙ opened_statement v functions (layer.PrunedScope x) s

  pub parts-Break : (target : BlockId) (kind : ReactiveTerminalTargetKind) (id : EvaluationOrder) (s : S)
      → read_parts v functions (tree.Break target kind id) s
      ≡ v.visit_id id s
  parts-Break target kind id s =
      ap (λ y. read_parts v functions y s) (sym (tree.rolls-Break target kind id))
      ∙ opened_parts v functions (layer.Break target kind id) s

  pub parts-Continue : (target : BlockId) (kind : ReactiveTerminalTargetKind) (id : EvaluationOrder) (s : S)
      → read_parts v functions (tree.Continue target kind id) s
      ≡ v.visit_id id s
  parts-Continue target kind id s =
      ap (λ y. read_parts v functions y s) (sym (tree.rolls-Continue target kind id))
      ∙ opened_parts v functions (layer.Continue target kind id) s

  pub parts-Return : (place : Place) (id : EvaluationOrder) (s : S)
      → read_parts v functions (tree.Return place id) s
      ≡ next_to (v.visit_id id) (v.visit_place id place) s
  parts-Return place id s =
      ap (λ y. read_parts v functions y s) (sym (tree.rolls-Return place id))
      ∙ opened_parts v functions (layer.Return place id) s

  pub parts-Throw : (place : Place) (id : EvaluationOrder) (s : S)
      → read_parts v functions (tree.Throw place id) s
      ≡ next_to (v.visit_id id) (v.visit_place id place) s
  parts-Throw place id s =
      ap (λ y. read_parts v functions y s) (sym (tree.rolls-Throw place id))
      ∙ opened_parts v functions (layer.Throw place id) s

  pub parts-Switch : (test : Place) (cases : List ReactiveSwitchCase) (id : EvaluationOrder) (s : S)
      → read_parts v functions (tree.Switch test cases id) s
      ≡ next_to (v.visit_id id) (next_to (v.visit_place id test) (each (λ c. read_case v functions c id) cases)) s
  parts-Switch test cases id s =
      ap (λ y. read_parts v functions y s) (sym (tree.rolls-Switch test cases id))
      ∙ opened_parts v functions (layer.Switch test cases id) s
      ∙ same_rest (v.visit_id id s) _ _ (λ r. same_rest (v.visit_place id test r.1) _ _
      (λ q. each-map (λ e. e.1 id) (λ y. (y, read_case v functions y)) cases q.1))

  pub parts-DoWhile : (body : ReactiveBlock) (test : ReactiveValue) (id : EvaluationOrder) (s : S)
      → read_parts v functions (tree.DoWhile body test id) s
      ≡ next_to (v.visit_id id) (next_to (read_block v functions body) (read_value v functions test id)) s
  unfolding read_block
  parts-DoWhile body test id s =
      ap (λ y. read_parts v functions y s) (sym (tree.rolls-DoWhile body test id))
      ∙ opened_parts v functions (layer.DoWhile body test id) s

  pub parts-While : (test : ReactiveValue) (body : ReactiveBlock) (id : EvaluationOrder) (s : S)
      → read_parts v functions (tree.While test body id) s
      ≡ next_to (v.visit_id id) (next_to (read_value v functions test id) (read_block v functions body)) s
  unfolding read_block
  parts-While test body id s =
      ap (λ y. read_parts v functions y s) (sym (tree.rolls-While test body id))
      ∙ opened_parts v functions (layer.While test body id) s

  pub parts-For : (init : ReactiveValue) (test : ReactiveValue) (update : Option ReactiveValue) (body : ReactiveBlock)
      (id : EvaluationOrder) (s : S)
      → read_parts v functions (tree.For init test update body id) s
      ≡ next_to (v.visit_id id) (next_to (read_value v functions init id)
      (next_to (read_value v functions test id) (next_to (read_block v functions body)
      (perhaps (λ x. read_value v functions x id) update)))) s
  unfolding read_block
  parts-For init test update body id s =
      ap (λ y. read_parts v functions y s) (sym (tree.rolls-For init test update body id))
      ∙ opened_parts v functions (layer.For init test update body id) s

  pub parts-ForOf : (init : ReactiveValue) (test : ReactiveValue) (body : ReactiveBlock) (span : Option Span)
      (id : EvaluationOrder) (s : S)
      → read_parts v functions (tree.ForOf init test body span id) s
      ≡ next_to (v.visit_id id) (next_to (read_value v functions init id)
      (next_to (read_value v functions test id) (read_block v functions body))) s
  unfolding read_block
  parts-ForOf init test body span id s =
      ap (λ y. read_parts v functions y s) (sym (tree.rolls-ForOf init test body span id))
      ∙ opened_parts v functions (layer.ForOf init test body span id) s

  pub parts-ForIn : (init : ReactiveValue) (body : ReactiveBlock) (span : Option Span) (id : EvaluationOrder) (s : S)
      → read_parts v functions (tree.ForIn init body span id) s
      ≡ next_to (v.visit_id id) (next_to (read_value v functions init id) (read_block v functions body)) s
  unfolding read_block
  parts-ForIn init body span id s =
      ap (λ y. read_parts v functions y s) (sym (tree.rolls-ForIn init body span id))
      ∙ opened_parts v functions (layer.ForIn init body span id) s

  pub parts-If : (test : Place) (consequent : ReactiveBlock) (alternate : Option ReactiveBlock) (id : EvaluationOrder)
      (s : S)
      → read_parts v functions (tree.If test consequent alternate id) s
      ≡ next_to (v.visit_id id) (next_to (v.visit_place id test)
      (next_to (read_block v functions consequent) (perhaps (read_block v functions) alternate))) s
  unfolding read_block
  parts-If test consequent alternate id s =
      ap (λ y. read_parts v functions y s) (sym (tree.rolls-If test consequent alternate id))
      ∙ opened_parts v functions (layer.If test consequent alternate id) s
      ∙ same_rest (v.visit_id id s) _ _ (λ r. same_rest (v.visit_place id test r.1) _ _
      (λ q. same_rest (read_block v functions consequent q.1) _ _
      (λ p. perhaps-map (around_block v functions) (λ y. (y, inside_block v functions y)) alternate p.1)))

  pub parts-Label : (body : ReactiveBlock) (id : EvaluationOrder) (s : S)
      → read_parts v functions (tree.Label body id) s
      ≡ next_to (v.visit_id id) (read_block v functions body) s
  unfolding read_block
  parts-Label body id s =
      ap (λ y. read_parts v functions y s) (sym (tree.rolls-Label body id))
      ∙ opened_parts v functions (layer.Label body id) s

  pub parts-Try : (body : ReactiveBlock) (binding : Option Place) (handler : ReactiveBlock) (id : EvaluationOrder)
      (s : S)
      → read_parts v functions (tree.Try body binding handler id) s
      ≡ next_to (v.visit_id id) (next_to (read_block v functions body)
      (next_to (perhaps (v.visit_place id) binding) (read_block v functions handler))) s
  unfolding read_block
  parts-Try body binding handler id s =
      ap (λ y. read_parts v functions y s) (sym (tree.rolls-Try body binding handler id))
      ∙ opened_parts v functions (layer.Try body binding handler id) s

-- with these, `search` follows the walk of a statement through its calls
pub ruleset reading_statements = (
  gives_next,
  gives_fault,
  read_block-around,
  read_scope-around,
  read_pruned_scope-around,
  read_terminal-around,
  inside_block-each,
  inside_scope-block,
  inside_pruned_scope-block,
  inside_terminal-parts,
  read_case-parts,
  statement-Instruction,
  statement-Terminal,
  statement-Scope,
  statement-PrunedScope,
  parts-Break,
  parts-Continue,
  parts-Return,
  parts-Throw,
  parts-Switch,
  parts-DoWhile,
  parts-While,
  parts-For,
  parts-ForOf,
  parts-ForIn,
  parts-If,
  parts-Label,
  parts-Try,
)
