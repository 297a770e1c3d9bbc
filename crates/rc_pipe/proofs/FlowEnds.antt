-- The scopes of the blocks that end in the flows of a tree are those of its scope blocks.
use Rattle.std.proofs.Common.{◌≡◌, ◌∙◌, List, [], ◌∷◌, ◌++◌, Option, None, Some, append-nil, map, refl, sym, ap}
use Rattle.rc_flow.specs.Flows.{flow_parts, flowing, flows_in, of_terminal}
use Rattle.rc_flow.specs.Flows.Values.{own_steps, row_flows}
use Rattle.rc_flow.specs.declared.step.Step.{Step}
use Rattle.rc_flow.specs.declared.step.Step.TheVariants.{Carries, Ends, Marks}
use Rattle.rc_flow.specs.inside.PartFlows.{row_steps, steps_of_value, steps_of_value_if}
use Rattle.rc_hir.specs.Model.{Environment, InstructionValue, Place}
use Rattle.rc_hir.specs.declared.instruction.InstructionValue.TheVariants as kinds
use Rattle.rc_names.specs.Numbers.{EvaluationOrder, ScopeId}
use Rattle.rc_tree.proofs.CollectedLemmas.{collected-Instruction, collected-PrunedScope, collected-Scope}
use Rattle.rc_tree.proofs.CollectedLemmas.{collected-Switch, collected-Terminal, collected-block, collected-case}
use Rattle.rc_tree.proofs.CollectedRelated.{RelatedValues, rows_related, values_related, values_related_if}
use Rattle.rc_tree.proofs.TerminalShapes.{Leaf, OneBlock, TwoBlocks, collected-leaf, collected-one, collected-two}
use Rattle.rc_tree.proofs.TerminalShapes.{leaf, of_leaf, with_block, with_blocks}
use Rattle.rc_tree.proofs.TerminalShapes as shapes
use Rattle.rc_tree.proofs.TreeFoldLemmas.{over_block-parts, over_case-roll, over_labeled-parts, over_pruned_scope-parts}
use Rattle.rc_tree.proofs.TreeFoldLemmas.{over_scope-parts, over_statement-roll, over_terminal-roll}
use Rattle.rc_tree.proofs.TreeInduction.{IsInductive, TreeClaims, of_every_block}
use Rattle.rc_tree.specs.Collected.{collected_case, collected_cases, collected_list, collected_statement}
use Rattle.rc_tree.specs.Collected.{collected_terminal, of_statement}
use Rattle.rc_tree.specs.Joining.{all_of, lists}
use Rattle.rc_tree.specs.Model.{ReactiveBlock, ReactiveStatement, ReactiveTerminal, ReactiveValue}
use Rattle.rc_tree.specs.ScopesIn.{scope_parts, scopes_in}
use Rattle.rc_tree.specs.TreeFold.{TreeFold, over_block, over_case, over_statement, over_terminal, parts_of_statement}
use Rattle.rc_tree.specs.TreeFold.{parts_of_terminal}
use Rattle.rc_tree.specs.Unrolled.{UnrolledStatement, UnrolledTerminal}
use Rattle.rc_tree.specs.declared.statement.ReactiveStatement.{roll-ReactiveStatement}
use Rattle.rc_tree.specs.declared.statement.ReactiveStatement.TheOpen as layer
use Rattle.rc_tree.specs.declared.statement.ReactiveStatement.TheVariants as reactive
use Rattle.rc_tree.specs.declared.terminal.ReactiveTerminal.{roll-ReactiveTerminal}
use Rattle.rc_tree.specs.declared.terminal.ReactiveTerminal.TheVariants as tree
use Rattle.rc_tree.specs.declared.value.ReactiveValue.TheVariants as reactive_values
use Rattle.rc_escape.proofs.ScopelessTrees.{one_has, two_have}

-- the scopes of the blocks that end in a list of steps
abbrev pub ended : List Step → List ScopeId
ended [] = []
ended (Marks name ∷ steps) = ended steps
ended (Carries from to ∷ steps) = ended steps
ended (Ends scope ∷ steps) = scope ∷ ended steps

ended-append : (xs ys : List Step) → ended (xs ++ ys) ≡ ended xs ++ ended ys
ended-append [] ys = refl
ended-append (Marks name ∷ xs) ys = ended-append xs ys
ended-append (Carries from to ∷ xs) ys = ended-append xs ys
ended-append (Ends scope ∷ xs) ys = ap (λ l. scope ∷ l) (ended-append xs ys)

-- of two lists, the one where none ends may be left out
pub without_first : (xs ys : List Step) → ended xs ≡ [] → ended (xs ++ ys) ≡ ended ys
without_first xs ys none = ended-append xs ys ∙ ap (λ l. l ++ ended ys) none

without_last : (xs ys : List Step) → ended ys ≡ [] → ended (xs ++ ys) ≡ ended xs
without_last xs ys none = ended-append xs ys ∙ ap (λ l. ended xs ++ l) none ∙ append-nil (ended xs)

module _ (env : Environment) where
  -- no row is the end of a scope block
  instruction_none : (target : Option Place) (x : InstructionValue) → ended (own_steps env target x) ≡ []
  instruction_none target (kinds.LoadLocal place span) = refl
  instruction_none target (kinds.StoreLocal lvalue value span) = refl
  instruction_none target (kinds.Destructure lvalue value span) = refl
  instruction_none target (kinds.PropertyLoad object property span) = refl
  instruction_none target (kinds.ComputedLoad object property span) = refl
  instruction_none target _ = refl

  row_none : (target : Option Place) (x : ReactiveValue) → ended (row_steps env target x) ≡ []
  row_none target (reactive_values.Instruction x) = instruction_none target x
  row_none target _ = refl

  -- so none ends in a value
  abbrev EndNone : List Step → List Step → Type 0
  EndNone steps same = ended steps ≡ []

  rows_end_none : RelatedValues EndNone (row_flows env) (row_flows env)
  rows_end_none = record {
    joined = record { nothing = refl; both = λ x x1 y y1 h k. without_last x x1 k ∙ h };
    instruction = λ id x. refl;
    target = λ id x. refl;
    row = λ x y z h. without_last y (row_steps env x.lvalue x.value) (row_none x.lvalue x.value) ∙ h;
  }

  value_none : (id : EvaluationOrder) (x : ReactiveValue) → ended (steps_of_value env id x) ≡ []
  value_none id x = values_related EndNone (row_flows env) (row_flows env) rows_end_none x id

  -- what ends in a statement and in a terminal, unfolded
  abbrev flows : TreeFold (List Step) (List Step) (List Step) (List Step) (List Step) (EvaluationOrder → List Step)
      (List Step)
  flows = flowing env

  statement : {x : ReactiveStatement} (u : UnrolledStatement) → roll-ReactiveStatement u ≡ x
      → ended (over_statement flows x) ≡ ended (of_statement (flow_parts env) (parts_of_statement flows u))
  statement u is = ap (λ y. ended (over_statement flows y)) (sym is) ∙ ap ended (over_statement-roll flows u)

  terminal : {x : ReactiveTerminal} (u : UnrolledTerminal) → roll-ReactiveTerminal u ≡ x
      → ended (over_terminal flows x) ≡ ended (of_terminal env (parts_of_terminal flows u))
  terminal u is = ap (λ y. ended (over_terminal flows y)) (sym is) ∙ ap ended (over_terminal-roll flows u)

  -- what ends in a terminal of each shape ends in its blocks
  leaf_ends : (shape : Leaf) → ended (over_terminal flows (leaf shape)) ≡ of_leaf scope_parts shape
  leaf_ends (shapes.Break target kind id) = terminal (layer.Break target kind id) (tree.rolls-Break target kind id)
  leaf_ends (shapes.Continue target kind id) =
      terminal (layer.Continue target kind id) (tree.rolls-Continue target kind id)
  leaf_ends (shapes.Return value id) = terminal (layer.Return value id) (tree.rolls-Return value id)
  leaf_ends (shapes.Throw value id) = terminal (layer.Throw value id) (tree.rolls-Throw value id)

  one_ends : (shape : OneBlock) (x : ReactiveBlock)
      → ended (over_terminal flows (with_block shape x)) ≡ ended (over_block flows x)
  one_ends (shapes.DoWhile test id) x = terminal (layer.DoWhile x test id) (tree.rolls-DoWhile x test id)
      ∙ without_last (over_block flows x) _ (value_none id test)
  one_ends (shapes.While test id) x = terminal (layer.While test x id) (tree.rolls-While test x id)
      ∙ without_first (steps_of_value env id test) _ (value_none id test)
  one_ends (shapes.For init test update id) x =
      terminal (layer.For init test update x id) (tree.rolls-For init test update x id)
      ∙ without_first (steps_of_value env id init) _ (value_none id init)
      ∙ without_first (steps_of_value env id test) _ (value_none id test)
      ∙ without_first (steps_of_value_if env id update) _
      (values_related_if EndNone (row_flows env) (row_flows env) rows_end_none id update)
  one_ends (shapes.ForOf init test span id) x =
      terminal (layer.ForOf init test x span id) (tree.rolls-ForOf init test x span id)
      ∙ without_first (steps_of_value env id init) _ (value_none id init)
      ∙ without_first (steps_of_value env id test) _ (value_none id test)
  one_ends (shapes.ForIn init span id) x = terminal (layer.ForIn init x span id) (tree.rolls-ForIn init x span id)
      ∙ without_first (steps_of_value env id init) _ (value_none id init)
  one_ends (shapes.IfAlone test id) x = terminal (layer.If test x None id) (tree.rolls-If test x None id)
      ∙ without_last (over_block flows x) [] refl
  one_ends (shapes.Label id) x = terminal (layer.Label x id) (tree.rolls-Label x id)

  two_end : (shape : TwoBlocks) (x y : ReactiveBlock) → ended (over_terminal flows (with_blocks shape x y))
      ≡ ended (over_block flows x) ++ ended (over_block flows y)
  two_end (shapes.IfElse test id) x y = terminal (layer.If test x (Some y) id) (tree.rolls-If test x (Some y) id)
      ∙ ended-append (over_block flows x) (over_block flows y)
  two_end (shapes.Try binding id) x y = terminal (layer.Try x binding y id) (tree.rolls-Try x binding y id)
      ∙ ended-append (over_block flows x) (over_block flows y)

  abbrev claims : TreeClaims
  claims = record {
    Block = λ x. ended (over_block flows x) ≡ scopes_in x;
    Statements = λ xs. ended (all_of lists (map (over_statement flows) xs)) ≡ collected_list scope_parts xs;
    Statement = λ x. ended (over_statement flows x) ≡ collected_statement scope_parts x;
    Terminal = λ x. ended (over_terminal flows x) ≡ collected_terminal scope_parts x;
    Case = λ x. (id : EvaluationOrder) → ended (over_case flows x id) ≡ collected_case scope_parts x id;
    Cases = λ xs. (id : EvaluationOrder)
        → ended (all_of lists (map (λ case. case id) (map (over_case flows) xs))) ≡ collected_cases scope_parts id xs;
  }

  inductive : IsInductive claims
  inductive = record {
    none = refl;
    more = λ x xs k l. ended-append (over_statement flows x) _ ∙ (λ i. k i ++ l i);
    block = λ xs k.
        let x : ReactiveBlock = record { statements = xs } in
        ap ended (over_block-parts flows x) ∙ k ∙ sym (collected-block scope_parts x);
    row = λ x. statement (layer.Instruction x) (reactive.rolls-Instruction x)
        ∙ rows_related EndNone (row_flows env) (row_flows env) rows_end_none x ∙ sym (collected-Instruction scope_parts x);
    terminal = λ x k. statement (layer.Terminal x) (reactive.rolls-Terminal x)
        ∙ ap ended (over_labeled-parts flows x) ∙ k ∙ sym (collected-Terminal scope_parts x);
    scope = λ x k. statement (layer.Scope x) (reactive.rolls-Scope x) ∙ ap ended (over_scope-parts flows x)
        ∙ ended-append (over_block flows x.instructions) _ ∙ ap (λ l. l ++ x.scope ∷ []) k
        ∙ sym (collected-Scope scope_parts x);
    pruned_scope = λ x k. statement (layer.PrunedScope x) (reactive.rolls-PrunedScope x)
        ∙ ap ended (over_pruned_scope-parts flows x) ∙ k ∙ sym (collected-PrunedScope scope_parts x);
    no_block = λ shape. leaf_ends shape ∙ sym (collected-leaf scope_parts shape);
    one_block = λ shape x k. one_ends shape x ∙ k
        ∙ sym (collected-one scope_parts shape x ∙ one_has shape (scopes_in x));
    two_blocks = λ shape x y k l. two_end shape x y ∙ (λ i. k i ++ l i)
        ∙ sym (collected-two scope_parts shape x y ∙ two_have shape (scopes_in x) (scopes_in y));
    switch = λ test cases id k. terminal (layer.Switch test cases id) (tree.rolls-Switch test cases id) ∙ k id
        ∙ sym (collected-Switch scope_parts test cases id);
    empty_case = λ test id.
        ap (λ steps. ended (steps id)) (over_case-roll flows (record { test = test; block = None }))
        ∙ sym (collected-case scope_parts test None id);
    case = λ test x k id.
        ap (λ steps. ended (steps id)) (over_case-roll flows (record { test = test; block = Some x })) ∙ k
        ∙ sym (collected-case scope_parts test (Some x) id);
    no_cases = λ id. refl;
    more_cases = λ x xs k l id. ended-append (over_case flows x id) _ ∙ (λ i. k id i ++ l id i);
  }

  -- the blocks that end are those of the tree
  pub flows_end : (body : ReactiveBlock) → ended (flows_in env body) ≡ scopes_in body
  unfolding flows_in
  flows_end = of_every_block claims inductive
