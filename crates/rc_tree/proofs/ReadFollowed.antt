-- A read walk follows the contents of a tree if its hooks follow the contribution of each part.
--
-- By induction over the tree.
use Rattle.std.proofs.Common.{◌∙◌, List, [], ◌∷◌, Option, None, Some, map, refl, sym, ap, subst}
use Rattle.rc_hir.specs.Model.{HirFunction, Place}
use Rattle.rc_names.specs.Numbers.{BlockId, EvaluationOrder}
use Rattle.rc_tree.specs.Collected.{Contributions, of_statement, of_terminal, collected, collected_statement}
use Rattle.rc_tree.specs.Collected.{collected_terminal, collected_pruned_scope, collected_scope, collected_case}
use Rattle.rc_tree.specs.Collected.{collected_cases, collected_if, collected_labeled}
use Rattle.rc_tree.specs.Joining.{all_of, if_there}
use Rattle.rc_tree.specs.Unrolled.{UnrolledStatement, UnrolledTerminal}
use Rattle.rc_tree.specs.Step.{Walk, next_to, each, perhaps, around}
use Rattle.rc_tree.specs.Read.{around_block, statement_step, parts_step, inside_block, inside_scope}
use Rattle.rc_tree.specs.Read.{inside_pruned_scope, inside_terminal, read_statement, read_parts, read_case, read_block}
use Rattle.rc_tree.specs.Read.{read_scope, read_pruned_scope, read_terminal}
use Rattle.rc_tree.specs.Read.Values.{WalkAt, read_value, read_instruction}
use Rattle.rc_tree.specs.ReadSteps.{ReadSteps}
use Rattle.rc_tree.specs.Model.{PrunedReactiveScopeBlock, ReactiveScopeBlock, ReactiveTerminalStatement}
use Rattle.rc_tree.specs.Model.{ReactiveInstruction, ReactiveValue}
use Rattle.rc_tree.specs.declared.statement.ReactiveBlock.{ReactiveBlock, roll-ReactiveBlock}
use Rattle.rc_tree.specs.declared.statement.ReactiveStatement.{ReactiveStatement, roll-ReactiveStatement}
use Rattle.rc_tree.specs.declared.statement.ReactiveStatement.TheFolds.{map-ReactiveStatement, map-ReactiveTerminal}
use Rattle.rc_tree.specs.declared.statement.ReactiveStatement.TheFolds.{ind-ReactiveBlock}
use Rattle.rc_tree.specs.declared.statement.ReactiveStatement.TheOpen as layer
use Rattle.rc_tree.specs.declared.statement.ReactiveStatement.TheOpen.{ReactiveStatement-F, ReactiveTerminal-F}
use Rattle.rc_tree.specs.declared.statement.ReactiveStatement.TheShapes.{former-ReactiveTerminal-If-2}
use Rattle.rc_tree.specs.declared.terminal.ReactiveSwitchCase.{ReactiveSwitchCase, roll-ReactiveSwitchCase}
use Rattle.rc_tree.specs.declared.terminal.ReactiveSwitchCase.{out-roll-ReactiveSwitchCase}
use Rattle.rc_tree.specs.declared.terminal.ReactiveTerminal.{ReactiveTerminal, roll-ReactiveTerminal}
use Rattle.rc_tree.proofs.CollectedLemmas.{opened_statement, opened_terminal, parts_of_statement, parts_of_terminal}
use Rattle.rc_tree.proofs.CollectedLemmas.{collected-block, collected-scope, collected-pruned_scope}
use Rattle.rc_tree.proofs.CollectedLemmas.{collected-labeled, collected-case}
use Rattle.rc_tree.proofs.ReadStatementLemmas.Layers.{walked_parts, walked_statement, opened_parts}
use Rattle.rc_tree.proofs.ReadStatementLemmas.Layers.{opened_statement as read_opened_statement}
use Rattle.rc_tree.proofs.ReadStatementLemmas.{inside_block-each, inside_scope-block, inside_pruned_scope-block}
use Rattle.rc_tree.proofs.ReadStatementLemmas.{inside_terminal-parts, read_case-parts}
use Rattle.rc_tree.proofs.ReadFollowedValues.{FollowedInTurn, moved}

module _ {S A : Type 0} (v : ReadSteps S) (IsFollowed : Walk S → A → Type 0) where
  -- the conditions on the hooks of the other parts; the hook of a terminal's id comes before the terminal's parts
  pub record FollowedParts (functions : List HirFunction) (adds : Contributions A) : Type 0 where
    pub in_turn : FollowedInTurn IsFollowed adds.joining
    pub row : (x : ReactiveInstruction) → IsFollowed (read_instruction v functions x) (adds.row x)
    pub value : (id : EvaluationOrder) (x : Option ReactiveValue)
        → IsFollowed (perhaps (λ y. read_value v functions y id) x) (adds.value id x)
    pub place : (id : EvaluationOrder) (x : Option Place)
        → IsFollowed (perhaps (v.visit_place id) x) (adds.place id x)
    pub returned : (id : EvaluationOrder) (x : Place) → IsFollowed (v.visit_place id x) (adds.returned id x)
    pub jump : (id : EvaluationOrder) (target : BlockId) → IsFollowed (v.visit_id id) (adds.jump target)
    pub at : (id : EvaluationOrder) (inside : Walk S) (held : A) → IsFollowed inside held
        → IsFollowed (next_to (v.visit_id id) inside) held
    pub block : (x : ReactiveBlock) (inside : Walk S) (held : A) → IsFollowed inside held
        → IsFollowed (around (v.enter_block x) inside (v.leave_block x)) held
    pub scope : (x : ReactiveScopeBlock) (inside : Walk S) (held : A) → IsFollowed inside held
        → IsFollowed (around (v.enter_scope x) inside (v.leave_scope x)) (adds.scope x.scope held)
    pub pruned_scope : (x : PrunedReactiveScopeBlock) (inside : Walk S) (held : A) → IsFollowed inside held
        → IsFollowed (around (v.enter_pruned_scope x) inside (v.leave_pruned_scope x)) (adds.pruned_scope x.scope held)
    pub terminal : (x : ReactiveTerminalStatement) (inside : Walk S) (held : A) → IsFollowed inside held
        → IsFollowed (around (v.enter_terminal x) inside (v.leave_terminal x))
        (adds.joining.both (adds.label x.label) held)

module _ {S A : Type 0} (v : ReadSteps S) (IsFollowed : Walk S → A → Type 0) (functions : List HirFunction)
    (adds : Contributions A) (followed : FollowedParts v IsFollowed functions adds) where
  -- the claim about each part
  abbrev StatementFollowed : ReactiveStatement → Type 0
  StatementFollowed x = IsFollowed (read_statement v functions x) (collected_statement adds x)

  abbrev PartsFollowed : ReactiveTerminal → Type 0
  PartsFollowed x = IsFollowed (read_parts v functions x) (collected_terminal adds x)

  abbrev PrunedScopeFollowed : PrunedReactiveScopeBlock → Type 0
  PrunedScopeFollowed x = IsFollowed (read_pruned_scope v functions x) (collected_pruned_scope adds x)

  abbrev ScopeFollowed : ReactiveScopeBlock → Type 0
  ScopeFollowed x = IsFollowed (read_scope v functions x) (collected_scope adds x)

  abbrev BlockFollowed : ReactiveBlock → Type 0
  BlockFollowed x = IsFollowed (read_block v functions x) (collected adds x)

  abbrev CaseFollowed : ReactiveSwitchCase → Type 0
  CaseFollowed x = (id : EvaluationOrder) → IsFollowed (read_case v functions x id) (collected_case adds x id)

  abbrev TerminalFollowed : ReactiveTerminalStatement → Type 0
  TerminalFollowed x = IsFollowed (read_terminal v functions x) (collected_labeled adds x)

  -- each part, with the claim about it
  abbrev AStatement : Type 0
  AStatement = (x : ReactiveStatement) × StatementFollowed x

  abbrev AParts : Type 0
  AParts = (x : ReactiveTerminal) × PartsFollowed x

  abbrev APrunedScope : Type 0
  APrunedScope = (x : PrunedReactiveScopeBlock) × PrunedScopeFollowed x

  abbrev AScope : Type 0
  AScope = (x : ReactiveScopeBlock) × ScopeFollowed x

  abbrev ABlock : Type 0
  ABlock = (x : ReactiveBlock) × BlockFollowed x

  abbrev ACase : Type 0
  ACase = (x : ReactiveSwitchCase) × CaseFollowed x

  abbrev ATerminal : Type 0
  ATerminal = (x : ReactiveTerminalStatement) × TerminalFollowed x

  abbrev bare_statement : ReactiveStatement-F AStatement AParts APrunedScope AScope ABlock ACase ATerminal
      → UnrolledStatement
  bare_statement = map-ReactiveStatement AStatement AParts APrunedScope AScope ABlock ACase ATerminal
      ReactiveStatement ReactiveTerminal PrunedReactiveScopeBlock ReactiveScopeBlock ReactiveBlock ReactiveSwitchCase
      ReactiveTerminalStatement
      (λ e. e.0) (λ e. e.0) (λ e. e.0) (λ e. e.0) (λ e. e.0) (λ e. e.0) (λ e. e.0)

  abbrev bare_parts : ReactiveTerminal-F AStatement AParts APrunedScope AScope ABlock ACase ATerminal → UnrolledTerminal
  bare_parts = map-ReactiveTerminal AStatement AParts APrunedScope AScope ABlock ACase ATerminal
      ReactiveStatement ReactiveTerminal PrunedReactiveScopeBlock ReactiveScopeBlock ReactiveBlock ReactiveSwitchCase
      ReactiveTerminalStatement
      (λ e. e.0) (λ e. e.0) (λ e. e.0) (λ e. e.0) (λ e. e.0) (λ e. e.0) (λ e. e.0)

  abbrev bare_if : Option ABlock → Option ReactiveBlock
  bare_if = former-ReactiveTerminal-If-2.map ABlock ReactiveBlock (λ e. e.0)

  then_next : {first second : Walk S} {x y : A} → IsFollowed first x → IsFollowed second y
      → IsFollowed (next_to first second) (adds.joining.both x y)
  then_next {first} {second} {x} {y} h k = followed.in_turn.next first second x y h k

  behind : (id : EvaluationOrder) {inside : Walk S} {held : A} → IsFollowed inside held
      → IsFollowed (next_to (v.visit_id id) inside) held
  behind id {inside} {held} h = followed.at id inside held h

  block_if : (x : Option ABlock) → IsFollowed (perhaps (around_block v functions)
      (former-ReactiveTerminal-If-2.map ReactiveBlock (ReactiveBlock × Walk S)
      (λ b. (b, inside_block v functions b)) (bare_if x)))
      (if_there adds.joining (former-ReactiveTerminal-If-2.map ReactiveBlock A (collected adds) (bare_if x)))
  unfolding read_block
  block_if None = followed.in_turn.none
  block_if (Some x) = x.1

  case_block : (x : Option ABlock)
      → IsFollowed (perhaps (read_block v functions) (bare_if x)) (collected_if adds (bare_if x))
  case_block None = followed.in_turn.none
  case_block (Some x) = x.1

  each_case : (xs : List ACase) (id : EvaluationOrder) → IsFollowed
      (each (λ (c : ReactiveSwitchCase × WalkAt S). c.1 id)
      (map (λ c. (c, read_case v functions c)) (map (λ e. e.0) xs)))
      (collected_cases adds id (map (λ e. e.0) xs))
  each_case [] id = followed.in_turn.none
  each_case (x ∷ xs) id = then_next (x.1 id) (each_case xs id)

  each_statement : (xs : List AStatement) → IsFollowed (each (read_statement v functions) (map (λ e. e.0) xs))
      (all_of adds.joining (map (collected_statement adds) (map (λ e. e.0) xs)))
  each_statement [] = followed.in_turn.none
  each_statement (x ∷ xs) = then_next x.1 (each_statement xs)

  statement_layer : (y : ReactiveStatement-F AStatement AParts APrunedScope AScope ABlock ACase ATerminal)
      → IsFollowed (statement_step v functions (walked_statement v functions (bare_statement y)))
      (of_statement adds (parts_of_statement adds (bare_statement y)))
  unfolding read_terminal read_scope read_pruned_scope
  statement_layer (layer.Instruction x) = followed.row x
  statement_layer (layer.Terminal x) = x.1
  statement_layer (layer.Scope x) = x.1
  statement_layer (layer.PrunedScope x) = x.1

  parts_layer : (y : ReactiveTerminal-F AStatement AParts APrunedScope AScope ABlock ACase ATerminal)
      → IsFollowed (parts_step v functions (walked_parts v functions (bare_parts y)))
      (of_terminal adds (parts_of_terminal adds (bare_parts y)))
  unfolding read_block
  parts_layer (layer.Break target kind id) = followed.jump id target
  parts_layer (layer.Continue target kind id) = followed.jump id target
  parts_layer (layer.Return place id) = behind id (followed.returned id place)
  parts_layer (layer.Throw place id) = behind id (followed.place id (Some place))
  parts_layer (layer.Switch test cases id) =
      behind id (then_next (followed.place id (Some test)) (each_case cases id))
  parts_layer (layer.DoWhile body test id) = behind id (then_next body.1 (followed.value id (Some test)))
  parts_layer (layer.While test body id) = behind id (then_next (followed.value id (Some test)) body.1)
  parts_layer (layer.For init test update body id) =
      behind id (then_next (followed.value id (Some init)) (then_next (followed.value id (Some test))
      (then_next body.1 (followed.value id update))))
  parts_layer (layer.ForOf init test body span id) =
      behind id (then_next (followed.value id (Some init)) (then_next (followed.value id (Some test)) body.1))
  parts_layer (layer.ForIn init body span id) = behind id (then_next (followed.value id (Some init)) body.1)
  parts_layer (layer.If test consequent alternate id) =
      behind id (then_next (followed.place id (Some test)) (then_next consequent.1 (block_if alternate)))
  parts_layer (layer.Label body id) = behind id body.1
  parts_layer (layer.Try body binding handler id) =
      behind id (then_next body.1 (then_next (followed.place id binding) handler.1))

  case_rolled : (test : Option Place) (block : Option ABlock)
      → CaseFollowed (roll-ReactiveSwitchCase (record { test = test; block = bare_if block }))
  case_rolled test block id =
      moved IsFollowed _ (next_to (perhaps (v.visit_place id) test) (perhaps (read_block v functions) (bare_if block)))
      _ _
      (λ s. read_case-parts v functions (roll-ReactiveSwitchCase (record { test = test; block = bare_if block })) id s
      ∙ ap (λ c. next_to (perhaps (v.visit_place id) c.test) (perhaps (read_block v functions) c.block) s)
      (out-roll-ReactiveSwitchCase (record { test = test; block = bare_if block })))
      (collected-case adds test (bare_if block) id) (then_next (followed.place id test) (case_block block))

  block_rolled : (xs : List AStatement) → BlockFollowed (record { statements = map (λ e. e.0) xs })
  unfolding read_block
  block_rolled xs =
      let x : ReactiveBlock = record { statements = map (λ e. e.0) xs } in
      followed.block x _ _ (moved IsFollowed _ _ _ _ (inside_block-each v functions x) (collected-block adds x)
      (each_statement xs))

  scope_followed : (x : ReactiveScopeBlock) → BlockFollowed x.instructions → ScopeFollowed x
  unfolding read_scope
  scope_followed x h =
      subst (λ held. IsFollowed (around (v.enter_scope x) (inside_scope v functions x) (v.leave_scope x)) held)
      (sym (collected-scope adds x))
      (followed.scope x _ _ (moved IsFollowed _ _ _ _ (inside_scope-block v functions x) refl h))

  pruned_scope_followed : (x : PrunedReactiveScopeBlock) → BlockFollowed x.instructions → PrunedScopeFollowed x
  unfolding read_pruned_scope
  pruned_scope_followed x h =
      subst (λ held. IsFollowed (around (v.enter_pruned_scope x) (inside_pruned_scope v functions x)
      (v.leave_pruned_scope x)) held)
      (sym (collected-pruned_scope adds x))
      (followed.pruned_scope x _ _ (moved IsFollowed _ _ _ _ (inside_pruned_scope-block v functions x) refl h))

  terminal_followed : (x : ReactiveTerminalStatement) → PartsFollowed x.terminal → TerminalFollowed x
  unfolding read_terminal
  terminal_followed x h =
      subst (λ held. IsFollowed (around (v.enter_terminal x) (inside_terminal v functions x) (v.leave_terminal x)) held)
      (sym (collected-labeled adds x))
      (followed.terminal x _ _ (moved IsFollowed _ _ _ _ (inside_terminal-parts v functions x) refl h))

  -- the walk of a block follows the block's contents
  pub block_followed : (x : ReactiveBlock) → BlockFollowed x
  block_followed =
      ind-ReactiveBlock StatementFollowed PartsFollowed PrunedScopeFollowed ScopeFollowed BlockFollowed CaseFollowed
      TerminalFollowed
      (λ x y is. subst (λ l. StatementFollowed (roll-ReactiveStatement l)) is
      (moved IsFollowed _ _ _ _ (read_opened_statement v functions (bare_statement y))
      (opened_statement adds (bare_statement y)) (statement_layer y)))
      (λ x y is. subst (λ l. PartsFollowed (roll-ReactiveTerminal l)) is
      (moved IsFollowed _ _ _ _ (opened_parts v functions (bare_parts y)) (opened_terminal adds (bare_parts y))
      (parts_layer y)))
      (λ x y is. subst (λ l. PrunedScopeFollowed (record { scope = l.scope; instructions = l.instructions })) is
      (pruned_scope_followed (record { scope = y.scope; instructions = y.instructions.0 }) y.instructions.1))
      (λ x y is. subst (λ l. ScopeFollowed (record { scope = l.scope; instructions = l.instructions })) is
      (scope_followed (record { scope = y.scope; instructions = y.instructions.0 }) y.instructions.1))
      (λ x y is. subst (λ l. BlockFollowed (roll-ReactiveBlock l)) is (block_rolled y.statements))
      (λ x y is. subst (λ l. CaseFollowed (roll-ReactiveSwitchCase l)) is (case_rolled y.test y.block))
      (λ x y is. subst (λ l. TerminalFollowed (record { terminal = l.terminal; label = l.label })) is
      (terminal_followed (record { terminal = y.terminal.0; label = y.label }) y.terminal.1))
