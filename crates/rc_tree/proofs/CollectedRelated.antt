-- Two kinds of contents of a tree are related if the contributions of each part are.
--
-- By induction over the tree. A fact of all contents of one kind is a relation to any other kind.
use Rattle.std.proofs.Common.{◌≡◌, List, [], ◌∷◌, Option, None, Some, map, sym, subst}
use Rattle.rc_hir.specs.Model.{InstructionValue, Place}
use Rattle.rc_names.specs.Numbers.{BlockId, EvaluationOrder, ScopeId}
use Rattle.rc_tree.specs.CollectedValues.{ValueContributions, of_value, collected_value, collected_row}
use Rattle.rc_tree.specs.CollectedValues.{collected_value_if}
use Rattle.rc_tree.specs.Joining.{Joining, all_of}
use Rattle.rc_tree.specs.Model.{ReactiveLabel}
use Rattle.rc_tree.specs.Model.{ReactiveInstruction}
use Rattle.rc_tree.specs.declared.statement.ReactiveBlock.{ReactiveBlock}
use Rattle.rc_tree.specs.declared.value.ReactiveValue.{ReactiveValue, roll-ReactiveValue}
use Rattle.rc_tree.specs.declared.value.ReactiveValue.TheFolds.{map-ReactiveValue, ind-ReactiveValue}
use Rattle.rc_tree.specs.declared.value.ReactiveValue.TheOpen as value
use Rattle.rc_tree.specs.declared.value.ReactiveValue.TheOpen.{ReactiveValue-F}
use Rattle.rc_tree.proofs.CollectedLemmas.{opened_value, parts_of_value, collected-row, collected-block, collected-case}
use Rattle.rc_tree.proofs.CollectedLemmas.{collected-Instruction, collected-Terminal, collected-Scope}
use Rattle.rc_tree.proofs.CollectedLemmas.{collected-PrunedScope, collected-Switch}
use Rattle.rc_tree.proofs.TerminalShapes.{Leaf, Break, Continue, Return, Throw, TwoBlocks, IfElse, Try, Held, Nothing}
use Rattle.rc_tree.proofs.TerminalShapes.{HeldValue, HeldPlace, held, of_leaf, before, after, of_two, in_front, behind}
use Rattle.rc_tree.proofs.TerminalShapes.{collected-leaf, collected-one, collected-two}
use Rattle.rc_tree.proofs.TreeInduction.{TreeClaims, IsInductive, of_every_block}
use Rattle.rc_tree.specs.Collected.{Contributions, collected, collected_statement, collected_terminal, collected_case}
use Rattle.rc_tree.specs.Collected.{collected_cases, collected_list}

-- no contents are related to no contents, and the contents of two parts to those of two others
pub record Joined {A B : Type 0} (IsRelated : A → B → Type 0) (j : Joining A) (k : Joining B) : Type 0 where
  pub nothing : IsRelated j.nothing k.nothing
  pub both : (x x1 : A) (y y1 : B) → IsRelated x y → IsRelated x1 y1 → IsRelated (j.both x x1) (k.both y y1)

-- the contributions of the parts of values and rows are related
pub record RelatedValues {A B : Type 0} (IsRelated : A → B → Type 0) (a : ValueContributions A)
    (b : ValueContributions B) : Type 0 where
  pub joined : Joined IsRelated a.joining b.joining
  pub instruction : (id : EvaluationOrder) (x : InstructionValue) → IsRelated (a.instruction id x) (b.instruction id x)
  pub target : (id : EvaluationOrder) (x : Option Place) → IsRelated (a.target id x) (b.target id x)
  pub row : (x : ReactiveInstruction) (y : A) (z : B) → IsRelated y z → IsRelated (a.row x y) (b.row x z)

-- the contributions of the parts of a tree are related
pub record RelatedParts {A B : Type 0} (IsRelated : A → B → Type 0) (a : Contributions A)
    (b : Contributions B) : Type 0 where
  pub joined : Joined IsRelated a.joining b.joining
  pub row : (x : ReactiveInstruction) → IsRelated (a.row x) (b.row x)
  pub value : (id : EvaluationOrder) (x : Option ReactiveValue) → IsRelated (a.value id x) (b.value id x)
  pub place : (id : EvaluationOrder) (x : Option Place) → IsRelated (a.place id x) (b.place id x)
  pub returned : (id : EvaluationOrder) (x : Place) → IsRelated (a.returned id x) (b.returned id x)
  pub jump : (target : BlockId) → IsRelated (a.jump target) (b.jump target)
  pub label : (label : Option ReactiveLabel) → IsRelated (a.label label) (b.label label)
  pub scope : (scope : ScopeId) (x : A) (y : B) → IsRelated x y → IsRelated (a.scope scope x) (b.scope scope y)
  pub pruned_scope : (scope : ScopeId) (x : A) (y : B) → IsRelated x y
      → IsRelated (a.pruned_scope scope x) (b.pruned_scope scope y)

module _ {A B : Type 0} (IsRelated : A → B → Type 0) where
  -- values that are equal to related values are related
  moved : {x x1 : A} {y y1 : B} → x ≡ x1 → y ≡ y1 → IsRelated x1 y1 → IsRelated x y
  moved {x} {x1} {y} {y1} e f related =
      subst (λ z. IsRelated z y) (sym e) (subst (λ z. IsRelated x1 z) (sym f) related)

module _ {A B : Type 0} (IsRelated : A → B → Type 0) (a : ValueContributions A) (b : ValueContributions B)
    (related : RelatedValues IsRelated a b) where
  abbrev ValueRelated : ReactiveValue → Type 0
  ValueRelated x = (id : EvaluationOrder) → IsRelated (collected_value a x id) (collected_value b x id)

  abbrev RowRelated : ReactiveInstruction → Type 0
  RowRelated x = IsRelated (collected_row a x) (collected_row b x)

  -- each part, with the claim about it
  abbrev OfValue : Type 0
  OfValue = (x : ReactiveValue) × ValueRelated x

  abbrev OfRow : Type 0
  OfRow = (x : ReactiveInstruction) × RowRelated x

  abbrev bare_value : ReactiveValue-F OfValue OfRow → ReactiveValue-F ReactiveValue ReactiveInstruction
  bare_value = map-ReactiveValue OfValue OfRow ReactiveValue ReactiveInstruction (λ e. e.0) (λ e. e.0)

  two_values : (x y : OfValue) (id own : EvaluationOrder) → IsRelated
      (a.joining.both (collected_value a x.0 id) (collected_value a y.0 own))
      (b.joining.both (collected_value b x.0 id) (collected_value b y.0 own))
  two_values x y id own = related.joined.both _ _ _ _ (x.1 id) (y.1 own)

  rows_layer : (rows : List OfRow) → IsRelated
      (all_of a.joining (map (λ (row : ReactiveInstruction × A). row.1) (map (λ x. (x, collected_row a x)) (map (λ e. e.0) rows))))
      (all_of b.joining (map (λ (row : ReactiveInstruction × B). row.1) (map (λ x. (x, collected_row b x)) (map (λ e. e.0) rows))))
  rows_layer [] = related.joined.nothing
  rows_layer (x ∷ xs) = related.joined.both _ _ _ _ x.1 (rows_layer xs)

  value_layer : (y : ReactiveValue-F OfValue OfRow) (id : EvaluationOrder) → IsRelated
      (of_value a (parts_of_value a (bare_value y)) id) (of_value b (parts_of_value b (bare_value y)) id)
  value_layer (value.Instruction x) id = related.instruction id x
  value_layer (value.LogicalExpression operator x y) id = two_values x y id id
  value_layer (value.ConditionalExpression x y z) id =
      related.joined.both _ _ _ _ (x.1 id) (two_values y z id id)
  value_layer (value.SequenceExpression rows own x) id = related.joined.both _ _ _ _
      (rows_layer rows) (x.1 own)
  value_layer (value.OptionalExpression x optional) id = x.1 id

  value_rolled : (y : ReactiveValue-F OfValue OfRow) → ValueRelated (roll-ReactiveValue (bare_value y))
  value_rolled y id = moved IsRelated (opened_value a (bare_value y) id) (opened_value b (bare_value y) id)
      (value_layer y id)

  row_related : (x : ReactiveInstruction) → ValueRelated x.value → RowRelated x
  row_related x inner = moved IsRelated (collected-row a x) (collected-row b x)
      (related.row x _ _ (related.joined.both _ _ _ _ (related.target x.id x.lvalue) (inner x.id)))

  -- the contents of a value, and of a row, are related
  pub values_related : (x : ReactiveValue) → ValueRelated x
  values_related = ind-ReactiveValue ValueRelated RowRelated
      (λ x y is. subst (λ l. ValueRelated (roll-ReactiveValue l)) is (value_rolled y))
      (λ x y is. subst (λ l. RowRelated (record { id = l.id; lvalue = l.lvalue; value = l.value; span = l.span })) is
      (row_related (record { id = y.id; lvalue = y.lvalue; value = y.value.0; span = y.span }) y.value.1))

  pub rows_related : (x : ReactiveInstruction) → RowRelated x
  rows_related x = row_related x (values_related x.value)

  pub values_related_if : (id : EvaluationOrder) (x : Option ReactiveValue)
      → IsRelated (collected_value_if a id x) (collected_value_if b id x)
  values_related_if id None = related.joined.nothing
  values_related_if id (Some x) = values_related x id

module _ {A B : Type 0} (IsRelated : A → B → Type 0) (a : Contributions A) (b : Contributions B)
    (related : RelatedParts IsRelated a b) where
  -- one part, and then another
  both : {x x1 : A} {y y1 : B} → IsRelated x y → IsRelated x1 y1
      → IsRelated (a.joining.both x x1) (b.joining.both y y1)
  both {x} {x1} {y} {y1} one other = related.joined.both x x1 y y1 one other

  -- what a terminal holds beside its blocks, and a terminal of each shape
  held_related : (h : Held) → IsRelated (held a h) (held b h)
  held_related Nothing = related.joined.nothing
  held_related (HeldValue id x) = related.value id x
  held_related (HeldPlace id x) = related.place id x

  leaf_related : (shape : Leaf) → IsRelated (of_leaf a shape) (of_leaf b shape)
  leaf_related (Break target kind id) = related.jump target
  leaf_related (Continue target kind id) = related.jump target
  leaf_related (Return value id) = related.returned id value
  leaf_related (Throw value id) = related.place id (Some value)

  before_related : (h : Option Held) (x : A) (y : B) → IsRelated x y → IsRelated (before a h x) (before b h y)
  before_related None x y k = k
  before_related (Some h) x y k = both k (held_related h)

  after_related : (hs : List Held) (x : A) (y : B) → IsRelated x y → IsRelated (after a hs x) (after b hs y)
  after_related [] x y k = k
  after_related (h ∷ hs) x y k = both (held_related h) (after_related hs x y k)

  two_related : (shape : TwoBlocks) (x x1 : A) (y y1 : B) → IsRelated x y → IsRelated x1 y1
      → IsRelated (of_two a shape x x1) (of_two b shape y y1)
  two_related (IfElse test id) x x1 y y1 k l = both (related.place id (Some test)) (both k l)
  two_related (Try binding id) x x1 y y1 k l = both k (both (related.place id binding) l)

  abbrev claims : TreeClaims
  claims = record {
    Block = λ x. IsRelated (collected a x) (collected b x);
    Statements = λ xs. IsRelated (collected_list a xs) (collected_list b xs);
    Statement = λ x. IsRelated (collected_statement a x) (collected_statement b x);
    Terminal = λ x. IsRelated (collected_terminal a x) (collected_terminal b x);
    Case = λ x. (id : EvaluationOrder) → IsRelated (collected_case a x id) (collected_case b x id);
    Cases = λ xs. (id : EvaluationOrder) → IsRelated (collected_cases a id xs) (collected_cases b id xs);
  }

  inductive : IsInductive claims
  inductive = record {
    none = related.joined.nothing;
    more = λ x xs k l. both k l;
    block = λ xs k. moved IsRelated (collected-block a (record { statements = xs }))
        (collected-block b (record { statements = xs })) k;
    row = λ x. moved IsRelated (collected-Instruction a x) (collected-Instruction b x) (related.row x);
    terminal = λ x k. moved IsRelated (collected-Terminal a x) (collected-Terminal b x) (both (related.label x.label) k);
    scope = λ x k. moved IsRelated (collected-Scope a x) (collected-Scope b x) (related.scope x.scope _ _ k);
    pruned_scope = λ x k. moved IsRelated (collected-PrunedScope a x) (collected-PrunedScope b x)
        (related.pruned_scope x.scope _ _ k);
    no_block = λ shape. moved IsRelated (collected-leaf a shape) (collected-leaf b shape) (leaf_related shape);
    one_block = λ shape x k. moved IsRelated (collected-one a shape x) (collected-one b shape x)
        (after_related (in_front shape) _ _ (before_related (behind shape) _ _ k));
    two_blocks = λ shape x y k l. moved IsRelated (collected-two a shape x y) (collected-two b shape x y)
        (two_related shape _ _ _ _ k l);
    switch = λ test cases id k. moved IsRelated (collected-Switch a test cases id) (collected-Switch b test cases id)
        (both (related.place id (Some test)) (k id));
    empty_case = λ test id. moved IsRelated (collected-case a test None id) (collected-case b test None id)
        (both (related.place id test) related.joined.nothing);
    case = λ test x k id. moved IsRelated (collected-case a test (Some x) id) (collected-case b test (Some x) id)
        (both (related.place id test) k);
    no_cases = λ id. related.joined.nothing;
    more_cases = λ x xs k l id. both (k id) (l id);
  }

  -- the contents of the tree are related
  pub collected_related : (x : ReactiveBlock) → IsRelated (collected a x) (collected b x)
  collected_related = of_every_block claims inductive
