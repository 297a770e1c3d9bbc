-- A read walk follows the contents of values and rows if its hooks follow the contribution of each part.
--
-- By induction over the value. A visitor defines when a walk follows contents, and shows this for its hooks.
use Rattle.std.proofs.Common.{◌≡◌, List, [], ◌∷◌, Option, None, Some, Ok, map, sym, subst}
use Rattle.rc_hir.specs.Model.{HirFunction, InstructionValue}
use Rattle.rc_names.specs.Numbers.{EvaluationOrder}
use Rattle.rc_tree.specs.CollectedValues.{ValueContributions, of_value, collected_value, collected_row}
use Rattle.rc_tree.specs.CollectedValues.{collected_value_if}
use Rattle.rc_tree.specs.Joining.{Joining, all_of}
use Rattle.rc_tree.specs.Step.{Walk, next_to, each, perhaps, around}
use Rattle.rc_tree.specs.Read.Values.{WalkAt, around_instruction, inside_base, value_step, inside_value}
use Rattle.rc_tree.specs.Read.Values.{inside_instruction, read_value, read_instruction}
use Rattle.rc_tree.specs.ReadSteps.{ReadSteps, targets_of}
use Rattle.rc_tree.specs.Model.{ReactiveInstruction}
use Rattle.rc_tree.specs.declared.value.ReactiveValue.{ReactiveValue, roll-ReactiveValue}
use Rattle.rc_tree.specs.declared.value.ReactiveValue.TheFolds.{map-ReactiveValue, ind-ReactiveValue}
use Rattle.rc_tree.specs.declared.value.ReactiveValue.TheOpen as value
use Rattle.rc_tree.specs.declared.value.ReactiveValue.TheOpen.{ReactiveValue-F}
use Rattle.rc_tree.proofs.CollectedLemmas.{opened_value, parts_of_value, collected-row}
use Rattle.rc_tree.proofs.ReadLemmas.{opened as read_opened_value, inside_instruction-parts}

module _ {S A : Type 0} (IsFollowed : Walk S → A → Type 0) where
  -- the conditions on walks that come one after the other
  pub record FollowedInTurn (j : Joining A) : Type 0 where
    pub none : IsFollowed (λ s. Ok (tt, s)) j.nothing
    pub next : (first second : Walk S) (x y : A) → IsFollowed first x → IsFollowed second y
        → IsFollowed (next_to first second) (j.both x y)

  -- a walk that equals one that follows the contents follows them too
  pub moved : (walk other : Walk S) (x y : A) → ((s : S) → walk s ≡ other s) → x ≡ y → IsFollowed other y
      → IsFollowed walk x
  moved walk other x y e f followed =
      let same : walk ≡ other = λ i s. e s i in
      subst (λ w. IsFollowed w x) (sym same) (subst (λ z. IsFollowed other z) (sym f) followed)

module _ {S A : Type 0} (v : ReadSteps S) (IsFollowed : Walk S → A → Type 0) where
  -- the conditions on the hooks of values and rows; the hooks of a row's id and of its targets come before its value
  pub record FollowedValues (functions : List HirFunction) (adds : ValueContributions A) : Type 0 where
    pub in_turn : FollowedInTurn IsFollowed adds.joining
    pub operands : (id : EvaluationOrder) (x : InstructionValue)
        → IsFollowed (inside_base v functions x id) (adds.instruction id x)
    pub value : (id : EvaluationOrder) (x : ReactiveValue) (inside : Walk S) (held : A) → IsFollowed inside held
        → IsFollowed (around (v.enter_value id x) inside (v.leave_value id x)) held
    pub row : (x : ReactiveInstruction) (inside : Walk S) (held : A) → IsFollowed inside held
        → IsFollowed (around (v.enter_instruction x) inside (v.leave_instruction x)) held
    pub target : (x : ReactiveInstruction) (inside : Walk S) (held : A) → IsFollowed inside held
        → IsFollowed (next_to (v.visit_id x.id) (next_to (perhaps (v.visit_lvalue x.id) x.lvalue)
        (next_to (each (v.visit_lvalue x.id) (targets_of x.value)) inside)))
        (adds.row x (adds.joining.both (adds.target x.id x.lvalue) held))

module _ {S A : Type 0} (v : ReadSteps S) (IsFollowed : Walk S → A → Type 0) (functions : List HirFunction)
    (adds : ValueContributions A) (followed : FollowedValues v IsFollowed functions adds) where
  abbrev ValueFollowed : ReactiveValue → Type 0
  ValueFollowed x = (id : EvaluationOrder) → IsFollowed (read_value v functions x id) (collected_value adds x id)

  abbrev RowFollowed : ReactiveInstruction → Type 0
  RowFollowed x = IsFollowed (read_instruction v functions x) (collected_row adds x)

  -- each part, with the claim about it
  abbrev OfValue : Type 0
  OfValue = (x : ReactiveValue) × ValueFollowed x

  abbrev OfRow : Type 0
  OfRow = (x : ReactiveInstruction) × RowFollowed x

  abbrev bare_value : ReactiveValue-F OfValue OfRow → ReactiveValue-F ReactiveValue ReactiveInstruction
  bare_value = map-ReactiveValue OfValue OfRow ReactiveValue ReactiveInstruction (λ e. e.0) (λ e. e.0)

  -- a value by its variant, where each part has the walk of its inside
  abbrev walked_value : ReactiveValue-F ReactiveValue ReactiveInstruction
      → ReactiveValue-F (ReactiveValue × WalkAt S) (ReactiveInstruction × Walk S)
  walked_value = map-ReactiveValue ReactiveValue ReactiveInstruction (ReactiveValue × WalkAt S)
      (ReactiveInstruction × Walk S) (λ y. (y, inside_value v functions y))
      (λ y. (y, inside_instruction v functions y))

  next : {first second : Walk S} {x y : A} → IsFollowed first x → IsFollowed second y
      → IsFollowed (next_to first second) (adds.joining.both x y)
  next {first} {second} {x} {y} h k = followed.in_turn.next first second x y h k

  each_row : (rows : List OfRow) → IsFollowed (each (around_instruction v functions)
      (map (λ x. (x, inside_instruction v functions x)) (map (λ e. e.0) rows)))
      (all_of adds.joining (map (λ (row : ReactiveInstruction × A). row.1)
      (map (λ x. (x, collected_row adds x)) (map (λ e. e.0) rows))))
  unfolding read_instruction
  each_row [] = followed.in_turn.none
  each_row (x ∷ xs) = next x.1 (each_row xs)

  value_layer : (y : ReactiveValue-F OfValue OfRow) (id : EvaluationOrder)
      → IsFollowed (value_step v functions (walked_value (bare_value y)) id)
      (of_value adds (parts_of_value adds (bare_value y)) id)
  unfolding read_value
  value_layer (value.Instruction x) id = followed.operands id x
  value_layer (value.LogicalExpression operator x y) id = next (x.1 id) (y.1 id)
  value_layer (value.ConditionalExpression x y z) id = next (x.1 id) (next (y.1 id) (z.1 id))
  value_layer (value.SequenceExpression rows own x) id = next (each_row rows) (x.1 own)
  value_layer (value.OptionalExpression x optional) id = x.1 id

  value_rolled : (y : ReactiveValue-F OfValue OfRow) → ValueFollowed (roll-ReactiveValue (bare_value y))
  unfolding read_value
  value_rolled y id = followed.value id (roll-ReactiveValue (bare_value y)) _ _
      (moved IsFollowed _ _ _ _ (read_opened_value v functions (bare_value y) id)
      (opened_value adds (bare_value y) id) (value_layer y id))

  row_followed : (x : ReactiveInstruction) → ValueFollowed x.value → RowFollowed x
  unfolding read_instruction
  row_followed x inner = followed.row x _ _
      (moved IsFollowed _ _ _ _ (inside_instruction-parts v functions x) (collected-row adds x)
      (followed.target x _ _ (inner x.id)))

  value_followed : (x : ReactiveValue) → ValueFollowed x
  value_followed = ind-ReactiveValue ValueFollowed RowFollowed
      (λ x y is. subst (λ l. ValueFollowed (roll-ReactiveValue l)) is (value_rolled y))
      (λ x y is. subst (λ l. RowFollowed (record { id = l.id; lvalue = l.lvalue; value = l.value; span = l.span })) is
      (row_followed (record { id = y.id; lvalue = y.lvalue; value = y.value.0; span = y.span }) y.value.1))

  -- the walk of a row, and of an optional value, follows the contents
  pub rows_followed : (x : ReactiveInstruction) → RowFollowed x
  rows_followed x = row_followed x (value_followed x.value)

  pub values_followed_if : (id : EvaluationOrder) (x : Option ReactiveValue)
      → IsFollowed (perhaps (λ y. read_value v functions y id) x) (collected_value_if adds id x)
  values_followed_if id None = followed.in_turn.none
  values_followed_if id (Some x) = value_followed x id
