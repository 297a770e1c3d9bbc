-- A tree without its scopes has the same block numbers, those of jumps and of labels, so trees that differ in their
-- scopes alone have the same ones.
use Rattle.std.proofs.Common.{◌≡◌, ◌∙◌, List, [], ◌∷◌, ◌++◌, None, Some, option_map, map, append-nil, refl, sym, ap}
use Rattle.rc_early.specs.NewBlocks.{block_parts, blocks_in, label_block}
use Rattle.rc_names.specs.Numbers.{BlockId, EvaluationOrder}
use Rattle.rc_runs.proofs.ErasedPartLemmas.{erased-block, erased-row_statement, erased-labeled, erased-scope}
use Rattle.rc_runs.proofs.ErasedPartLemmas.{erased-pruned_scope, erased-case, erased-Break, erased-Continue}
use Rattle.rc_runs.proofs.ErasedPartLemmas.{erased-Return, erased-Throw, erased-Switch, erased-DoWhile, erased-While}
use Rattle.rc_runs.proofs.ErasedPartLemmas.{erased-For, erased-ForOf, erased-ForIn, erased-If, erased-Label, erased-Try}
use Rattle.rc_runs.specs.Erase.{erased, erased_block, erased_case, erased_row, erased_statement, erased_statements}
use Rattle.rc_runs.specs.Erase.{erased_terminal, erased_value}
use Rattle.rc_tree.proofs.CollectedLemmas.{collected-block, collected-case, collected-Instruction, collected-Terminal}
use Rattle.rc_tree.proofs.CollectedLemmas.{collected-Scope, collected-PrunedScope, collected-Switch, collected-DoWhile}
use Rattle.rc_tree.proofs.CollectedLemmas.{collected-While, collected-For, collected-ForOf, collected-ForIn}
use Rattle.rc_tree.proofs.CollectedLemmas.{collected-If, collected-Label, collected-Try}
use Rattle.rc_tree.proofs.JoiningLemmas.{lists_monoid}
use Rattle.rc_tree.proofs.TerminalShapes.{Leaf, OneBlock, TwoBlocks, leaf, with_block, with_blocks}
use Rattle.rc_tree.proofs.TerminalShapes as shapes
use Rattle.rc_tree.proofs.TreeInduction.{IsInductive, TreeClaims, of_every_block}
use Rattle.rc_tree.specs.Collected.{collected_case, collected_cases, collected_list, collected_statement}
use Rattle.rc_tree.specs.Collected.{collected_terminal}
use Rattle.rc_tree.specs.Model.{ReactiveBlock, ReactiveFunction}
use Rattle.rc_tree.specs.Model.{ReactiveStatement, ReactiveTerminalStatement}
use Rattle.rc_tree.specs.declared.statement.ReactiveStatement.TheVariants as reactive
use Rattle.rc_tree.specs.declared.terminal.ReactiveTerminal.{ReactiveTerminal}

-- the block numbers of statements, of a terminal and of a case
abbrev blocks_of : List ReactiveStatement → List BlockId
blocks_of = collected_list block_parts

abbrev blocks_at : ReactiveTerminal → List BlockId
blocks_at = collected_terminal block_parts

-- those of one statement alone
alone : (x : ReactiveStatement) → blocks_of (x ∷ []) ≡ collected_statement block_parts x
alone x = append-nil (collected_statement block_parts x)

append : (xs ys : List ReactiveStatement) → blocks_of (xs ++ ys) ≡ blocks_of xs ++ blocks_of ys
append [] ys = refl
append (x ∷ xs) ys = ap (λ rest. collected_statement block_parts x ++ rest) (append xs ys)
    ∙ sym (lists_monoid.associative (collected_statement block_parts x) (blocks_of xs) (blocks_of ys))

-- values and places have none
of_one : (shape : OneBlock) (x : ReactiveBlock) → blocks_at (with_block shape x) ≡ blocks_in x
of_one (shapes.DoWhile test id) x = collected-DoWhile block_parts x test id ∙ append-nil (blocks_in x)
of_one (shapes.While test id) x = collected-While block_parts test x id
of_one (shapes.For init test update id) x =
    collected-For block_parts init test update x id ∙ append-nil (blocks_in x)
of_one (shapes.ForOf init test span id) x = collected-ForOf block_parts init test x span id
of_one (shapes.ForIn init span id) x = collected-ForIn block_parts init x span id
of_one (shapes.IfAlone test id) x = collected-If block_parts test x None id ∙ append-nil (blocks_in x)
of_one (shapes.Label id) x = collected-Label block_parts x id

of_two : (shape : TwoBlocks) (x y : ReactiveBlock) → blocks_at (with_blocks shape x y) ≡ blocks_in x ++ blocks_in y
of_two (shapes.IfElse test id) x y = collected-If block_parts test x (Some y) id
of_two (shapes.Try binding id) x y = collected-Try block_parts x binding y id

-- the same for the terminal without scopes
erased_one : (shape : OneBlock) (x : ReactiveBlock)
    → blocks_at (erased_terminal (with_block shape x)) ≡ blocks_in (erased_block x)
erased_one (shapes.DoWhile test id) x =
    ap blocks_at (erased-DoWhile x test id) ∙ of_one (shapes.DoWhile (erased_value test) id) (erased_block x)
erased_one (shapes.While test id) x =
    ap blocks_at (erased-While test x id) ∙ of_one (shapes.While (erased_value test) id) (erased_block x)
erased_one (shapes.For init test update id) x = ap blocks_at (erased-For init test update x id)
    ∙ of_one (shapes.For (erased_value init) (erased_value test) (option_map erased_value update) id) (erased_block x)
erased_one (shapes.ForOf init test span id) x = ap blocks_at (erased-ForOf init test x span id)
    ∙ of_one (shapes.ForOf (erased_value init) (erased_value test) span id) (erased_block x)
erased_one (shapes.ForIn init span id) x =
    ap blocks_at (erased-ForIn init x span id) ∙ of_one (shapes.ForIn (erased_value init) span id) (erased_block x)
erased_one (shapes.IfAlone test id) x =
    ap blocks_at (erased-If test x None id) ∙ of_one (shapes.IfAlone test id) (erased_block x)
erased_one (shapes.Label id) x = ap blocks_at (erased-Label x id) ∙ of_one (shapes.Label id) (erased_block x)

erased_two : (shape : TwoBlocks) (x y : ReactiveBlock)
    → blocks_at (erased_terminal (with_blocks shape x y)) ≡ blocks_in (erased_block x) ++ blocks_in (erased_block y)
erased_two (shapes.IfElse test id) x y = ap blocks_at (erased-If test x (Some y) id)
    ∙ of_two (shapes.IfElse test id) (erased_block x) (erased_block y)
erased_two (shapes.Try binding id) x y =
    ap blocks_at (erased-Try x binding y id) ∙ of_two (shapes.Try binding id) (erased_block x) (erased_block y)

same_leaf : (shape : Leaf) → blocks_at (erased_terminal (leaf shape)) ≡ blocks_at (leaf shape)
same_leaf (shapes.Break target kind id) = ap blocks_at (erased-Break target kind id)
same_leaf (shapes.Continue target kind id) = ap blocks_at (erased-Continue target kind id)
same_leaf (shapes.Return value id) = ap blocks_at (erased-Return value id)
same_leaf (shapes.Throw value id) = ap blocks_at (erased-Throw value id)

-- a block has the numbers of its statements, with its scopes and without them
erased_statements_of : (x : ReactiveBlock) → blocks_of (erased_statements x.statements) ≡ blocks_in (erased_block x)
erased_statements_of x = sym (collected-block block_parts (record { statements = erased_statements x.statements }))
    ∙ ap blocks_in (sym (erased-block x))

abbrev claims : TreeClaims
claims = record {
  Block = λ x. blocks_in (erased_block x) ≡ blocks_in x;
  Statements = λ xs. blocks_of (erased_statements xs) ≡ blocks_of xs;
  Statement = λ x. blocks_of (erased_statement x) ≡ collected_statement block_parts x;
  Terminal = λ x. blocks_at (erased_terminal x) ≡ blocks_at x;
  Case = λ x. (id : EvaluationOrder)
      → collected_case block_parts (erased_case x) id ≡ collected_case block_parts x id;
  Cases = λ xs. (id : EvaluationOrder)
      → collected_cases block_parts id (map erased_case xs) ≡ collected_cases block_parts id xs;
}

inductive : IsInductive claims
inductive = record {
  none = refl;
  more = λ x xs e f. append (erased_statement x) (erased_statements xs) ∙ (λ i. e i ++ f i);
  block = λ xs e. sym (erased_statements_of (record { statements = xs })) ∙ e
      ∙ sym (collected-block block_parts (record { statements = xs }));
  row = λ x. ap blocks_of (erased-row_statement x) ∙ alone (reactive.Instruction (erased_row x))
      ∙ collected-Instruction block_parts (erased_row x) ∙ sym (collected-Instruction block_parts x);
  terminal = λ x e.
      let without : ReactiveTerminalStatement = record { terminal = erased_terminal x.terminal; label = x.label } in
      ap blocks_of (erased-labeled x) ∙ alone (reactive.Terminal without) ∙ collected-Terminal block_parts without
      ∙ ap (λ inside. label_block x.label ++ inside) e ∙ sym (collected-Terminal block_parts x);
  scope = λ x e. ap blocks_of (erased-scope x) ∙ erased_statements_of x.instructions ∙ e
      ∙ sym (collected-Scope block_parts x);
  pruned_scope = λ x e. ap blocks_of (erased-pruned_scope x) ∙ erased_statements_of x.instructions ∙ e
      ∙ sym (collected-PrunedScope block_parts x);
  no_block = same_leaf;
  one_block = λ shape x e. erased_one shape x ∙ e ∙ sym (of_one shape x);
  two_blocks = λ shape x y e f. erased_two shape x y ∙ (λ i. e i ++ f i) ∙ sym (of_two shape x y);
  switch = λ test cases id e. ap blocks_at (erased-Switch test cases id)
      ∙ collected-Switch block_parts test (map erased_case cases) id ∙ e id
      ∙ sym (collected-Switch block_parts test cases id);
  empty_case = λ test id. ap (λ case. collected_case block_parts case id) (erased-case test None);
  case = λ test x e id. ap (λ case. collected_case block_parts case id) (erased-case test (Some x))
      ∙ collected-case block_parts test (Some (erased_block x)) id ∙ e
      ∙ sym (collected-case block_parts test (Some x) id);
  no_cases = λ id. refl;
  more_cases = λ x xs e f id. λ i. e id i ++ f id i;
}

-- functions that are the same without their scopes have the same block numbers
pub same_blocks : (before after : ReactiveFunction) → erased after ≡ erased before
    → blocks_in after.body ≡ blocks_in before.body
same_blocks before after same = sym (of_every_block claims inductive after.body)
    ∙ ap (λ (func : ReactiveFunction). blocks_in func.body) same ∙ of_every_block claims inductive before.body
