-- The steps of each form of statement and of terminal: one equation a form.
use Rattle.std.proofs.Common.{◌≡◌, ◌∙◌, ◌+◌, ◌<◌, ℕ, List, [], ◌∷◌, ◌++◌, Option, None, Some, drop, get_or, length}
use Rattle.std.proofs.Common.{append_assoc, sym, ap}
use Rattle.std.proofs.lemmas.List.{append-nil, drop_more}
use Rattle.rc_hir.specs.Model.{Environment, Place}
use Rattle.rc_names.specs.Numbers.{BlockId, EvaluationOrder}
use Rattle.rc_names.specs.declared.span.Span.{Span}
use Rattle.rc_tree.specs.Collected.{of_statement}
use Rattle.rc_tree.specs.TreeFold.{parts_of_statement, parts_of_terminal}
use Rattle.rc_tree.specs.Unrolled.{UnrolledStatement, UnrolledTerminal}
use Rattle.rc_tree.specs.Model.{PrunedReactiveScopeBlock, ReactiveBlock, ReactiveInstruction, ReactiveScopeBlock}
use Rattle.rc_tree.specs.Model.{ReactiveSwitchCase, ReactiveTerminalStatement}
use Rattle.rc_tree.specs.Model.{ReactiveTerminalTargetKind, ReactiveValue}
use Rattle.rc_tree.specs.declared.statement.ReactiveStatement.TheOpen as layer
use Rattle.rc_tree.specs.declared.statement.ReactiveStatement.TheVariants as reactive
use Rattle.rc_tree.specs.declared.statement.ReactiveStatement.TheViews.{roll-ReactiveStatement, roll-ReactiveTerminal}
use Rattle.rc_tree.specs.declared.statement.ReactiveStatement.TheViews.{out-ReactiveSwitchCase, roll-ReactiveSwitchCase}
use Rattle.rc_tree.specs.declared.statement.ReactiveStatement.TheViews.{roll-out-ReactiveSwitchCase}
use Rattle.rc_tree.specs.declared.terminal.ReactiveTerminal.TheVariants as tree
use Rattle.rc_tree.proofs.TreeFoldLemmas.{over_statement-roll, over_terminal-roll, over_case-roll, over_block-parts}
use Rattle.rc_tree.proofs.TreeFoldLemmas.{over_labeled-parts, over_scope-parts, over_pruned_scope-parts}
use Rattle.rc_flow.specs.Flows.{flow_parts, flowing, flows_in, of_terminal}
use Rattle.rc_flow.specs.declared.step.Step.{Step}
use Rattle.rc_flow.specs.declared.step.Step.TheVariants.{Ends}
use Rattle.rc_flow.specs.inside.PartFlows.{flows_if, flows_of_case, flows_of_cases, flows_of_list, flows_of_statement}
use Rattle.rc_flow.specs.inside.PartFlows.{flows_of_terminal, steps_of_row, steps_of_value, steps_of_value_if}

module _ (env : Environment) where
  -- each form of statement and of terminal, unfolded
  opened_statement : (x : UnrolledStatement)
      → flows_of_statement env (roll-ReactiveStatement x)
      ≡ of_statement (flow_parts env) (parts_of_statement (flowing env) x)
  unfolding flows_of_statement
  opened_statement = over_statement-roll (flowing env)

  opened_terminal : (x : UnrolledTerminal)
      → flows_of_terminal env (roll-ReactiveTerminal x) ≡ of_terminal env (parts_of_terminal (flowing env) x)
  unfolding flows_of_terminal
  opened_terminal = over_terminal-roll (flowing env)

  pub flows-block : (x : ReactiveBlock) → flows_in env x ≡ flows_of_list env x.statements
  unfolding flows_in flows_of_statement
  flows-block = over_block-parts (flowing env)

  pub flows-case : (test : Option Place) (body : Option ReactiveBlock) (id : EvaluationOrder)
      → flows_of_case env (roll-ReactiveSwitchCase (record { test = test; block = body })) id ≡ flows_if env body
  unfolding flows_in flows_of_case
  flows-case test None id =
      ap (λ steps. steps id) (over_case-roll (flowing env) (record { test = test; block = None }))
  flows-case test (Some body) id =
      ap (λ steps. steps id) (over_case-roll (flowing env) (record { test = test; block = Some body }))

  -- statements
  pub flows-Instruction : (x : ReactiveInstruction)
      → flows_of_statement env (reactive.Instruction x) ≡ steps_of_row env x
  flows-Instruction x = ap (flows_of_statement env) (sym (reactive.rolls-Instruction x))
      ∙ opened_statement (layer.Instruction x)

  pub flows-Terminal : (x : ReactiveTerminalStatement)
      → flows_of_statement env (reactive.Terminal x) ≡ flows_of_terminal env x.terminal
  unfolding flows_of_terminal
  flows-Terminal x = ap (flows_of_statement env) (sym (reactive.rolls-Terminal x))
      ∙ opened_statement (layer.Terminal x) ∙ over_labeled-parts (flowing env) x

  pub flows-Scope : (x : ReactiveScopeBlock)
      → flows_of_statement env (reactive.Scope x) ≡ flows_in env x.instructions ++ Ends x.scope ∷ []
  unfolding flows_in
  flows-Scope x = ap (flows_of_statement env) (sym (reactive.rolls-Scope x))
      ∙ opened_statement (layer.Scope x) ∙ over_scope-parts (flowing env) x

  pub flows-PrunedScope : (x : PrunedReactiveScopeBlock)
      → flows_of_statement env (reactive.PrunedScope x) ≡ flows_in env x.instructions
  unfolding flows_in
  flows-PrunedScope x = ap (flows_of_statement env) (sym (reactive.rolls-PrunedScope x))
      ∙ opened_statement (layer.PrunedScope x) ∙ over_pruned_scope-parts (flowing env) x

  -- terminals
  pub flows-Break : (target : BlockId) (kind : ReactiveTerminalTargetKind) (id : EvaluationOrder)
      → flows_of_terminal env (tree.Break target kind id) ≡ []
  flows-Break target kind id = ap (flows_of_terminal env) (sym (tree.rolls-Break target kind id))
      ∙ opened_terminal (layer.Break target kind id)

  pub flows-Continue : (target : BlockId) (kind : ReactiveTerminalTargetKind) (id : EvaluationOrder)
      → flows_of_terminal env (tree.Continue target kind id) ≡ []
  flows-Continue target kind id = ap (flows_of_terminal env) (sym (tree.rolls-Continue target kind id))
      ∙ opened_terminal (layer.Continue target kind id)

  pub flows-Return : (place : Place) (id : EvaluationOrder) → flows_of_terminal env (tree.Return place id) ≡ []
  flows-Return place id = ap (flows_of_terminal env) (sym (tree.rolls-Return place id))
      ∙ opened_terminal (layer.Return place id)

  pub flows-Throw : (place : Place) (id : EvaluationOrder) → flows_of_terminal env (tree.Throw place id) ≡ []
  flows-Throw place id = ap (flows_of_terminal env) (sym (tree.rolls-Throw place id))
      ∙ opened_terminal (layer.Throw place id)

  pub flows-Switch : (test : Place) (cases : List ReactiveSwitchCase) (id : EvaluationOrder)
      → flows_of_terminal env (tree.Switch test cases id) ≡ flows_of_cases env id cases
  unfolding flows_of_case
  flows-Switch test cases id = ap (flows_of_terminal env) (sym (tree.rolls-Switch test cases id))
      ∙ opened_terminal (layer.Switch test cases id)

  pub flows-DoWhile : (body : ReactiveBlock) (test : ReactiveValue) (id : EvaluationOrder)
      → flows_of_terminal env (tree.DoWhile body test id) ≡ flows_in env body ++ steps_of_value env id test
  unfolding flows_in
  flows-DoWhile body test id = ap (flows_of_terminal env) (sym (tree.rolls-DoWhile body test id))
      ∙ opened_terminal (layer.DoWhile body test id)

  pub flows-While : (test : ReactiveValue) (body : ReactiveBlock) (id : EvaluationOrder)
      → flows_of_terminal env (tree.While test body id) ≡ steps_of_value env id test ++ flows_in env body
  unfolding flows_in
  flows-While test body id = ap (flows_of_terminal env) (sym (tree.rolls-While test body id))
      ∙ opened_terminal (layer.While test body id)

  pub flows-For : (init test : ReactiveValue) (update : Option ReactiveValue) (body : ReactiveBlock)
      (id : EvaluationOrder) → flows_of_terminal env (tree.For init test update body id)
      ≡ steps_of_value env id init
      ++ (steps_of_value env id test ++ (steps_of_value_if env id update ++ flows_in env body))
  unfolding flows_in
  flows-For init test update body id = ap (flows_of_terminal env) (sym (tree.rolls-For init test update body id))
      ∙ opened_terminal (layer.For init test update body id)

  pub flows-ForOf : (init test : ReactiveValue) (body : ReactiveBlock) (span : Option Span) (id : EvaluationOrder)
      → flows_of_terminal env (tree.ForOf init test body span id)
      ≡ steps_of_value env id init ++ (steps_of_value env id test ++ flows_in env body)
  unfolding flows_in
  flows-ForOf init test body span id = ap (flows_of_terminal env) (sym (tree.rolls-ForOf init test body span id))
      ∙ opened_terminal (layer.ForOf init test body span id)

  pub flows-ForIn : (init : ReactiveValue) (body : ReactiveBlock) (span : Option Span) (id : EvaluationOrder)
      → flows_of_terminal env (tree.ForIn init body span id) ≡ steps_of_value env id init ++ flows_in env body
  unfolding flows_in
  flows-ForIn init body span id = ap (flows_of_terminal env) (sym (tree.rolls-ForIn init body span id))
      ∙ opened_terminal (layer.ForIn init body span id)

  pub flows-If : (test : Place) (consequent : ReactiveBlock) (alternate : Option ReactiveBlock) (id : EvaluationOrder)
      → flows_of_terminal env (tree.If test consequent alternate id) ≡ flows_in env consequent ++ flows_if env alternate
  unfolding flows_in
  flows-If test consequent None id = ap (flows_of_terminal env) (sym (tree.rolls-If test consequent None id))
      ∙ opened_terminal (layer.If test consequent None id)
  flows-If test consequent (Some other) id =
      ap (flows_of_terminal env) (sym (tree.rolls-If test consequent (Some other) id))
      ∙ opened_terminal (layer.If test consequent (Some other) id)

  pub flows-Label : (body : ReactiveBlock) (id : EvaluationOrder)
      → flows_of_terminal env (tree.Label body id) ≡ flows_in env body
  unfolding flows_in
  flows-Label body id = ap (flows_of_terminal env) (sym (tree.rolls-Label body id))
      ∙ opened_terminal (layer.Label body id)

  pub flows-Try : (body : ReactiveBlock) (binding : Option Place) (handler : ReactiveBlock) (id : EvaluationOrder)
      → flows_of_terminal env (tree.Try body binding handler id) ≡ flows_in env body ++ flows_in env handler
  unfolding flows_in
  flows-Try body binding handler id = ap (flows_of_terminal env) (sym (tree.rolls-Try body binding handler id))
      ∙ opened_terminal (layer.Try body binding handler id)

-- the steps of the next case are added
pub added_case : (env : Environment) (found new all : List Step) (cases : List ReactiveSwitchCase) (place : ℕ)
    (case : ReactiveSwitchCase) (id : EvaluationOrder) → place < length cases → case ≡ get_or cases place case
    → new ≡ found ++ flows_if env (out-ReactiveSwitchCase case).block
    → found ++ flows_of_cases env id (drop place cases) ≡ all
    → new ++ flows_of_cases env id (drop (place + 1) cases) ≡ all
added_case env found new all cases place case id below at here so_far =
    let inner = flows_if env (out-ReactiveSwitchCase case).block in
    let rest = flows_of_cases env id (drop (place + 1) cases) in
    let next : drop place cases ≡ case ∷ drop (place + 1) cases =
    drop_more cases place case below ∙ ap (λ x. x ∷ drop (place + 1) cases) (sym at)
    in
    let held : flows_of_case env case id ≡ inner =
    ap (λ x. flows_of_case env x id) (sym (roll-out-ReactiveSwitchCase case))
    ∙ flows-case env (out-ReactiveSwitchCase case).test (out-ReactiveSwitchCase case).block id
    in
    let whole : flows_of_cases env id (drop place cases) ≡ inner ++ rest =
    ap (flows_of_cases env id) next ∙ ap (λ it. it ++ rest) held
    in
    ap (λ steps. steps ++ rest) here ∙ append_assoc found inner rest ∙ ap (λ steps. found ++ steps) (sym whole) ∙ so_far

-- with these, `search` unfolds the steps of each form of a tree
pub ruleset flowing_forms = (
  flows-block,
  flows-case,
  flows-Instruction,
  flows-Terminal,
  flows-Scope,
  flows-PrunedScope,
  flows-Break,
  flows-Continue,
  flows-Return,
  flows-Throw,
  flows-Switch,
  flows-DoWhile,
  flows-While,
  flows-For,
  flows-ForOf,
  flows-ForIn,
  flows-If,
  flows-Label,
  flows-Try,
  append-nil,
)
