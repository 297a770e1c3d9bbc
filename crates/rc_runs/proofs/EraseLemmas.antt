-- Erasing is determined by the parts, so a pass keeps it if its rules keep it for their own parts.
--
-- First come the laws of a measure, and then the lemmas that a pass cites.
use Rattle.std.proofs.Common.{◌≡◌, List, [], ◌∷◌, ◌++◌, append-nil, None, Some, option_map, Ok, sym}
use Rattle.std.proofs.Common.{ap, subst, ◌∙◌}
use Rattle.std.specs.Prelude.{IfOk}
use Rattle.std.proofs.lemmas.List.Concat.{flat_map-append}
use Rattle.rc_hir.specs.Model.{InstructionValue}
use Rattle.rc_tree.specs.Rebuilt.{Rules, rebuilt_block}
use Rattle.rc_tree.proofs.Measures.{Measure, block, Compositional}
use Rattle.rc_tree.proofs.TerminalShapes.{OneBlock, TwoBlocks, DoWhile, While, For, ForOf, ForIn, IfAlone, Label, IfElse}
use Rattle.rc_tree.proofs.TerminalShapes.{Try, with_block, with_blocks}
use Rattle.rc_tree.specs.Model.{ReactiveFunction, ReactiveInstruction, ReactiveValue, ReactiveScopeBlock}
use Rattle.rc_tree.specs.Model.{PrunedReactiveScopeBlock, ReactiveBlock, ReactiveStatement, ReactiveTerminal}
use Rattle.rc_tree.specs.declared.value.ReactiveValue.TheVariants as reactive_values
use Rattle.rc_tree.specs.declared.statement.ReactiveStatement.TheVariants as reactive
use Rattle.rc_tree.specs.declared.terminal.ReactiveSwitchCase.{ReactiveSwitchCase, roll-ReactiveSwitchCase}
use Rattle.rc_tree.specs.declared.terminal.ReactiveTerminal.TheVariants as tree
use Rattle.rc_tree.proofs.RebuiltKeeps.{RulesKeep, rebuilt_keeps}
use Rattle.rc_runs.specs.Erase.{without_flag, erased_value, erased_row, erased_block, erased_statement, erased_case}
use Rattle.rc_runs.specs.Erase.{erased_terminal, erased_statements, erased}
use Rattle.rc_runs.proofs.ErasedPartLemmas.{erased-Instruction, erased-row}
use Rattle.rc_runs.proofs.ErasedPartLemmas.{erased-block, erased-row_statement, erased-labeled, erased-scope}
use Rattle.rc_runs.proofs.ErasedPartLemmas.{erased-pruned_scope, erased-case, erased-Switch, erased-DoWhile}
use Rattle.rc_runs.proofs.ErasedPartLemmas.{erased-While, erased-For, erased-ForOf, erased-ForIn, erased-If}
use Rattle.rc_runs.proofs.ErasedPartLemmas.{erased-Label, erased-Try}

-- parts with the same measure are erased to the same statements
same_block : (block block1 : ReactiveBlock) → erased_statements block1.statements ≡ erased_statements block.statements
    → erased_block block1 ≡ erased_block block
same_block block block1 e = erased-block block1 ∙ (λ i. record { statements = e i }) ∙ sym (erased-block block)

-- the erased form of a list of one statement
one_statement : (x : ReactiveStatement) (xs : List ReactiveStatement) → erased_statement x ≡ xs
    → erased_statements (x ∷ []) ≡ xs
one_statement x xs e = append-nil (erased_statement x) ∙ e

-- erasing, as a measure of parts
abbrev pub erase_measure : Measure (List ReactiveStatement) ReactiveSwitchCase ReactiveTerminal
erase_measure = record { statements = erased_statements; case = erased_case; terminal = erased_terminal }

one_erased : (shape : OneBlock) (x x1 : ReactiveBlock) → erased_statements x1.statements ≡ erased_statements x.statements
    → erased_terminal (with_block shape x1) ≡ erased_terminal (with_block shape x)
one_erased (DoWhile test id) x x1 e =
    erased-DoWhile x1 test id ∙ (λ i. tree.DoWhile (same_block x x1 e i) (erased_value test) id)
    ∙ sym (erased-DoWhile x test id)
one_erased (While test id) x x1 e =
    erased-While test x1 id ∙ (λ i. tree.While (erased_value test) (same_block x x1 e i) id)
    ∙ sym (erased-While test x id)
one_erased (For init test update id) x x1 e =
    erased-For init test update x1 id
    ∙ (λ i. tree.For (erased_value init) (erased_value test) (option_map erased_value update) (same_block x x1 e i) id)
    ∙ sym (erased-For init test update x id)
one_erased (ForOf init test span id) x x1 e =
    erased-ForOf init test x1 span id
    ∙ (λ i. tree.ForOf (erased_value init) (erased_value test) (same_block x x1 e i) span id)
    ∙ sym (erased-ForOf init test x span id)
one_erased (ForIn init span id) x x1 e =
    erased-ForIn init x1 span id ∙ (λ i. tree.ForIn (erased_value init) (same_block x x1 e i) span id)
    ∙ sym (erased-ForIn init x span id)
one_erased (IfAlone test id) x x1 e =
    erased-If test x1 None id ∙ (λ i. tree.If test (same_block x x1 e i) None id) ∙ sym (erased-If test x None id)
one_erased (Label id) x x1 e =
    erased-Label x1 id ∙ (λ i. tree.Label (same_block x x1 e i) id) ∙ sym (erased-Label x id)

two_erased : (shape : TwoBlocks) (x y x1 y1 : ReactiveBlock)
    → erased_statements x1.statements ≡ erased_statements x.statements
    → erased_statements y1.statements ≡ erased_statements y.statements
    → erased_terminal (with_blocks shape x1 y1) ≡ erased_terminal (with_blocks shape x y)
two_erased (IfElse test id) x y x1 y1 e f =
    erased-If test x1 (Some y1) id ∙ (λ i. tree.If test (same_block x x1 e i) (Some (same_block y y1 f i)) id)
    ∙ sym (erased-If test x (Some y) id)
two_erased (Try binding id) x y x1 y1 e f =
    erased-Try x1 binding y1 id ∙ (λ i. tree.Try (same_block x x1 e i) binding (same_block y y1 f i) id)
    ∙ sym (erased-Try x binding y id)

pub erase_laws : Compositional erase_measure
erase_laws = record {
  append = λ xs xs1 ys ys1 e f.
      flat_map-append erased_statement xs1 ys1 ∙ (λ i. e i ++ f i) ∙ sym (flat_map-append erased_statement xs ys);
  labeled = λ x t e.
      one_statement (reactive.Terminal (record { terminal = t; label = x.label })) _
      (erased-labeled (record { terminal = t; label = x.label }))
      ∙ (λ i. reactive.Terminal (record { terminal = e i; label = x.label }) ∷ [])
      ∙ sym (one_statement (reactive.Terminal x) _ (erased-labeled x));
  scope = λ x b e.
      one_statement (reactive.Scope (record { scope = x.scope; instructions = b })) _
      (erased-scope (record { scope = x.scope; instructions = b })) ∙ e
      ∙ sym (one_statement (reactive.Scope x) _ (erased-scope x));
  pruned_scope = λ x b e.
      one_statement (reactive.PrunedScope (record { scope = x.scope; instructions = b })) _
      (erased-pruned_scope (record { scope = x.scope; instructions = b })) ∙ e
      ∙ sym (one_statement (reactive.PrunedScope x) _ (erased-pruned_scope x));
  case = λ test x x1 e.
      erased-case test (Some x1)
      ∙ (λ i. roll-ReactiveSwitchCase (record { test = test; block = Some (same_block x x1 e i) }))
      ∙ sym (erased-case test (Some x));
  switch = λ test cases cases1 id e. erased-Switch test cases1 id ∙ (λ i. tree.Switch test (e i) id)
      ∙ sym (erased-Switch test cases id);
  one_block = one_erased;
  two_blocks = two_erased;
}

-- a row with another value of the same erased form
pub row_left : (x : ReactiveInstruction) (y : ReactiveValue) → erased_value y ≡ erased_value x.value
    → erased_statements (reactive.Instruction (record { id = x.id; lvalue = x.lvalue; value = y; span = x.span }) ∷ [])
    ≡ erased_statements (reactive.Instruction x ∷ [])
row_left x y e =
    let x1 : ReactiveInstruction = record { id = x.id; lvalue = x.lvalue; value = y; span = x.span } in
    let row : erased_row x1 ≡ erased_row x = erased-row x1
    ∙ (λ i. record { id = x.id; lvalue = x.lvalue; value = e i; span = x.span }) ∙ sym (erased-row x) in
    one_statement (reactive.Instruction x1) _ (erased-row_statement x1) ∙ (λ i. reactive.Instruction (row i) ∷ [])
    ∙ sym (one_statement (reactive.Instruction x) _ (erased-row_statement x))

-- a pass whose rules keep the erased form of their parts keeps that of the function
pub erase_kept : {S : Type 0} (rules : Rules S) → RulesKeep erase_measure rules → (old new : ReactiveFunction) (s t : S)
    → new ≡ record old { body = new.body } → rebuilt_block rules old.body s ≡ Ok (t, new.body) → erased new ≡ erased old
erase_kept rules keep old new s t header is =
    let same = subst (λ e. IfOk e (λ a. block erase_measure a.1 ≡ block erase_measure old.body)) is
    (rebuilt_keeps erase_measure erase_laws rules keep old.body s) in
    ap erased header ∙ (λ i. record old { body = same_block old.body new.body same i })

-- for a pass's steps: the block of a scope, kept or pruned, is erased to the erased statements in it
pub scope_left : (scope : ReactiveScopeBlock) → erased_statements (reactive.Scope scope ∷ [])
    ≡ erased_statements scope.instructions.statements
scope_left scope = one_statement (reactive.Scope scope) _ (erased-scope scope)

pub pruned_scope_left : (scope : PrunedReactiveScopeBlock) →
    erased_statements (reactive.PrunedScope scope ∷ []) ≡ erased_statements scope.instructions.statements
pruned_scope_left scope = one_statement (reactive.PrunedScope scope) _ (erased-pruned_scope scope)

-- a pruned scope block and a scope block with its statements have the same erased form
pub pruned_like_kept : (pruned : PrunedReactiveScopeBlock) (scope : ReactiveScopeBlock)
    → pruned.instructions ≡ scope.instructions →
    erased_statements (reactive.PrunedScope pruned ∷ []) ≡ erased_statements (reactive.Scope scope ∷ [])
pruned_like_kept pruned scope e =
    pruned_scope_left pruned ∙ ap (λ block. erased_statements block.statements) e ∙ sym (scope_left scope)

-- instructions that differ only in that flag have the same erased form
pub flag_left : (value value1 : InstructionValue) → without_flag value1 ≡ without_flag value →
    erased_value (reactive_values.Instruction value1) ≡ erased_value (reactive_values.Instruction value)
flag_left value value1 e = erased-Instruction value1 ∙ ap reactive_values.Instruction e ∙ sym (erased-Instruction value)
