-- The contents of a tree are determined by those of its parts: parts with the same contents make a whole with the same
-- contents.
use Rattle.std.proofs.Common.{◌≡◌, ◌∙◌, List, ◌++◌, Some, map, sym, ap}
use Rattle.std.proofs.lemmas.List.{map-append}
use Rattle.rc_names.specs.Numbers.{EvaluationOrder}
use Rattle.rc_tree.specs.Collected.{Contributions, collected, collected_case, collected_list, collected_statement}
use Rattle.rc_tree.specs.Collected.{collected_terminal}
use Rattle.rc_tree.specs.CollectedValues.{ValueContributions, collected_row, collected_value}
use Rattle.rc_tree.specs.Joining.{all_of}
use Rattle.rc_tree.specs.inside.JoiningLaws.{IsMonoid}
use Rattle.rc_tree.specs.Model.{PrunedReactiveScopeBlock, ReactiveScopeBlock, ReactiveBlock, ReactiveStatement}
use Rattle.rc_tree.specs.Model.{ReactiveTerminalStatement, ReactiveInstruction, ReactiveValue}
use Rattle.rc_tree.specs.declared.statement.ReactiveStatement.TheVariants as reactive
use Rattle.rc_tree.proofs.JoiningLemmas.{all_of-append}
use Rattle.rc_tree.proofs.CollectedLemmas.{collected-row, collected-block, collected-case, collected-Terminal}
use Rattle.rc_tree.proofs.CollectedLemmas.{collected-Scope, collected-PrunedScope, collected-Switch}
use Rattle.rc_tree.proofs.Measures.{Measure, block, one, Compositional}
use Rattle.rc_tree.proofs.TerminalShapes.{collected-one, collected-two, of_one, of_two}

-- a row's own contribution says nothing of its value
abbrev pub LeavesValue : {A : Type 0} → ValueContributions A → Type 0
LeavesValue {A} adds = (x : ReactiveInstruction) (y : ReactiveValue) (inside : A)
    → adds.row (record { id = x.id; lvalue = x.lvalue; value = y; span = x.span }) inside ≡ adds.row x inside

-- a row has the same contents with another value of the same contents
pub same_row : {A : Type 0} (adds : ValueContributions A) → LeavesValue adds → (x : ReactiveInstruction)
    (y : ReactiveValue) → collected_value adds y x.id ≡ collected_value adds x.value x.id
    → collected_row adds (record { id = x.id; lvalue = x.lvalue; value = y; span = x.span }) ≡ collected_row adds x
same_row adds leaves x y e =
    collected-row adds (record { id = x.id; lvalue = x.lvalue; value = y; span = x.span })
    ∙ leaves x y (adds.joining.both (adds.target x.id x.lvalue) (collected_value adds y x.id))
    ∙ ap (λ held. adds.row x (adds.joining.both (adds.target x.id x.lvalue) held)) e ∙ sym (collected-row adds x)

-- the contents of a part as its measure; for a case, the contents at each id
abbrev pub collected_measure : {A : Type 0} → Contributions A → Measure A (EvaluationOrder → A) A
collected_measure adds = record {
  statements = collected_list adds;
  case = collected_case adds;
  terminal = collected_terminal adds;
}

module _ {A : Type 0} (adds : Contributions A) where
  abbrev both : A → A → A
  both = adds.joining.both

  -- parts with the same contents: a block by its statements, a statement alone
  pub same_block : (x x1 : ReactiveBlock) → block (collected_measure adds) x1 ≡ block (collected_measure adds) x
      → collected adds x1 ≡ collected adds x
  same_block x x1 e = collected-block adds x1 ∙ e ∙ sym (collected-block adds x)

  pub same_alone : (x x1 : ReactiveStatement) → collected_statement adds x1 ≡ collected_statement adds x
      → one (collected_measure adds) x1 ≡ one (collected_measure adds) x
  same_alone x x1 e = ap (λ held. both held adds.joining.nothing) e

module _ {A : Type 0} (adds : Contributions A) (monoid : IsMonoid adds.joining) where
  -- the contents of two lists of statements, one after the other
  pub collected_list-append : (xs ys : List ReactiveStatement)
      → collected_list adds (xs ++ ys) ≡ adds.joining.both (collected_list adds xs) (collected_list adds ys)
  collected_list-append xs ys = ap (all_of adds.joining) (map-append (collected_statement adds) xs ys)
      ∙ all_of-append adds.joining monoid (map (collected_statement adds) xs) (map (collected_statement adds) ys)

  pub collected_laws : Compositional (collected_measure adds)
  collected_laws = record {
    append = λ xs xs1 ys ys1 e f.
        collected_list-append xs1 ys1 ∙ (λ i. both adds (e i) (f i)) ∙ sym (collected_list-append xs ys);
    labeled = λ x t e.
        let y : ReactiveTerminalStatement = record { terminal = t; label = x.label } in
        same_alone adds (reactive.Terminal x) (reactive.Terminal y)
        (collected-Terminal adds y ∙ ap (both adds (adds.label x.label)) e ∙ sym (collected-Terminal adds x));
    scope = λ x b e.
        let y : ReactiveScopeBlock = record { scope = x.scope; instructions = b } in
        same_alone adds (reactive.Scope x) (reactive.Scope y)
        (collected-Scope adds y ∙ ap (adds.scope x.scope) (same_block adds x.instructions b e)
        ∙ sym (collected-Scope adds x));
    pruned_scope = λ x b e.
        let y : PrunedReactiveScopeBlock = record { scope = x.scope; instructions = b } in
        same_alone adds (reactive.PrunedScope x) (reactive.PrunedScope y)
        (collected-PrunedScope adds y ∙ ap (adds.pruned_scope x.scope) (same_block adds x.instructions b e)
        ∙ sym (collected-PrunedScope adds x));
    case = λ test x x1 e i id.
        (collected-case adds test (Some x1) id ∙ ap (both adds (adds.place id test)) (same_block adds x x1 e)
        ∙ sym (collected-case adds test (Some x) id)) i;
    switch = λ test cases cases1 id e.
        collected-Switch adds test cases1 id
        ∙ ap (λ all. both adds (adds.place id (Some test)) (all_of adds.joining (map (λ case. case id) all))) e
        ∙ sym (collected-Switch adds test cases id);
    one_block = λ shape x x1 e.
        collected-one adds shape x1 ∙ ap (of_one adds shape) (same_block adds x x1 e) ∙ sym (collected-one adds shape x);
    two_blocks = λ shape x y x1 y1 e f.
        collected-two adds shape x1 y1 ∙ (λ i. of_two adds shape (same_block adds x x1 e i) (same_block adds y y1 f i))
        ∙ sym (collected-two adds shape x y);
  }
