-- A value and its entry: reading the entry takes the nested values inside of the value and gives the value, and it
-- gives no other one.
use Rattle.std.proofs.Common.{◌≡◌, ◌∙◌, ℕ, ◌+◌, Bool, List, [], ◌∷◌, ◌++◌, Option, Some, refl, sym, ap, subst}
use Rattle.std.proofs.lemmas.Option.{option_and_then_some}
use Rattle.rc_names.specs.Numbers.{EvaluationOrder}
use Rattle.rc_hir.specs.Model.{InstructionValue, LogicalOperator}
use Rattle.rc_tree.specs.Model.{ReactiveInstruction, ReactiveValue}
use Rattle.rc_tree.specs.declared.value.ReactiveValue.{out-ReactiveValue, roll-ReactiveValue, roll-out-ReactiveValue}
use Rattle.rc_tree.specs.declared.value.ReactiveValue.TheOpen as layer
use Rattle.rc_tree.specs.declared.value.ReactiveValue.TheVariants as values
use Rattle.rc_flat.specs.Model.{FlatInstruction, FlatValue, NestedValue}
use Rattle.rc_flat.specs.Values.{entry_layer, entry_of, flat_layer, flat_row, flat_rows, flat_value}
use Rattle.rc_flat.specs.Values.{inside_layer, inside_value, nested, nested_in_rows, nested_layer}
use Rattle.rc_flat.specs.Values.{UnrolledValue}
use Rattle.rc_flat.specs.inside.Assembly.{Found, from_last, nested_from, row_from, value_from}
use Rattle.rc_flat.specs.declared.value.FlatValue.TheVariants as flat
use Rattle.rc_flat.specs.declared.value.NestedValue.TheVariants as entry
use Rattle.rc_flat.proofs.Waiting.{more_values, no_values, read_is, some_is, value_taken, value_takes, values_join}

-- ---- values that aren't instructions

pub record IsNested (x : ReactiveValue) : Type 0 where
  pub listed : nested x ≡ x ∷ []
  pub numbered : (n : ℕ) → flat_value n x ≡ flat.Nested n

nested_by : (n : ℕ) (x : ReactiveValue) (l : UnrolledValue) (first : NestedValue) → entry_layer n l ≡ Some first
    → (nested_layer x l ≡ x ∷ []) × ((k : ℕ) → flat_layer k l ≡ flat.Nested k)
nested_by n x (layer.Instruction y) first e = cc
nested_by n x (layer.LogicalExpression operator a b) first e = (refl, λ k. refl)
nested_by n x (layer.ConditionalExpression a b c) first e = (refl, λ k. refl)
nested_by n x (layer.SequenceExpression rows id y) first e = (refl, λ k. refl)
nested_by n x (layer.OptionalExpression y optional) first e = (refl, λ k. refl)

-- a value with an entry
pub is_nested : (n : ℕ) (x : ReactiveValue) (first : NestedValue) → entry_of n x ≡ Some first → IsNested x
unfolding entry_of nested flat_value
is_nested n x first e =
    let by = nested_by n x (out-ReactiveValue x) first e in
    record { listed = by.0; numbered = by.1 }

abbrev pub AreNested : List ReactiveValue → Type 0
AreNested [] = Unit {0}
AreNested (x ∷ xs) = IsNested x × AreNested xs

pub front_nested : (xs ys : List ReactiveValue) → AreNested (xs ++ ys) → AreNested xs
front_nested [] ys all = tt
front_nested (x ∷ xs) ys all = (all.0, front_nested xs ys all.1)

pub last_nested : (xs : List ReactiveValue) (x : ReactiveValue) → AreNested (xs ++ x ∷ []) → IsNested x
last_nested [] x all = all.0
last_nested (y ∷ ys) x all = last_nested ys x all.1

-- the values that are left of those that wait
pub left_nested : (w left : Found) (vs : List ReactiveValue) → w ≡ more_values left vs → AreNested w.values
    → AreNested left.values
left_nested w left vs is all = front_nested left.values vs (subst (λ z. AreNested z.values) is all)

-- ---- a value in its place

value_by : (found : Found) (x : ReactiveValue) (l : UnrolledValue) → roll-ReactiveValue l ≡ x
    → value_from (flat_layer found.next_value l) (more_values found (nested_layer x l)) ≡ Some (x, found)
value_by found x (layer.Instruction y) e = read_is (sym (values.rolls-Instruction y) ∙ e) (sym (no_values found))
value_by found x (layer.LogicalExpression operator a b) e = value_taken found x
value_by found x (layer.ConditionalExpression a b c) e = value_taken found x
value_by found x (layer.SequenceExpression rows id y) e = value_taken found x
value_by found x (layer.OptionalExpression y optional) e = value_taken found x

pub value_read : (found : Found) (x : ReactiveValue)
    → value_from (flat_value found.next_value x) (more_values found (nested x)) ≡ Some (x, found)
unfolding flat_value nested
value_read found x = value_by found x (out-ReactiveValue x) (roll-out-ReactiveValue x)

-- what reading `v` from `w` gives is the value that has this place
abbrev pub IsValue : FlatValue → Found → ReactiveValue × Found → Type 0
IsValue v w read = (v ≡ flat_value read.1.next_value read.0) × (w ≡ more_values read.1 (nested read.0))

instruction_is : (y : InstructionValue) (w : Found) → IsValue (flat.Instruction y) w (values.Instruction y, w)
unfolding flat_value nested
instruction_is y w = rw (values.outs-Instruction y) (refl, no_values w)

pub value_is : (v : FlatValue) (w : Found) (read : ReactiveValue × Found) → AreNested w.values
    → value_from v w ≡ Some read → IsValue v w read
value_is (flat.Instruction y) w read all h = subst (IsValue (flat.Instruction y) w) (some_is h) (instruction_is y w)
value_is (flat.Nested n) w read all h =
    let taken = value_takes n w read.0 read.1 h in
    let x = last_nested read.1.values read.0 (subst (λ z. AreNested z.values) taken.1 all) in
    (ap flat.Nested taken.0 ∙ sym (x.numbered read.1.next_value), taken.1 ∙ ap (more_values read.1) (sym x.listed))

-- ---- rows

pub row_read : (found : Found) (row : ReactiveInstruction)
    → row_from (flat_row found.next_value row) (more_values found (nested row.value)) ≡ Some (row, found)
row_read found row = rw (value_read found row.value) refl

pub rows_read : (found : Found) (rows : List ReactiveInstruction)
    → from_last row_from (flat_rows found.next_value rows) (more_values found (nested_in_rows rows)) ≡ Some (rows, found)
rows_read found [] = read_is refl (sym (no_values found))
rows_read found (row ∷ rows) =
    subst (λ w. from_last row_from (flat_rows found.next_value (row ∷ rows)) w ≡ Some (row ∷ rows, found))
    (values_join found (nested row.value) (nested_in_rows rows))
    (rw (rows_read (more_values found (nested row.value)) rows, row_read found row) refl)

abbrev pub IsRow : FlatInstruction → Found → ReactiveInstruction × Found → Type 0
IsRow v w read = (v ≡ flat_row read.1.next_value read.0) × (w ≡ more_values read.1 (nested read.0.value))

pub row_is : (v : FlatInstruction) (w : Found) (read : ReactiveInstruction × Found) → AreNested w.values
    → row_from v w ≡ Some read → IsRow v w read
row_is v w read all h =
    option_and_then_some _ (value_from v.value w) _ h (λ x e r.
    let is = value_is v.value w x all e in
    subst (IsRow v w) (some_is r) (rw is.0 refl, is.1))

abbrev pub AreRows : List FlatInstruction → Found → List ReactiveInstruction × Found → Type 0
AreRows vs w read = (vs ≡ flat_rows read.1.next_value read.0) × (w ≡ more_values read.1 (nested_in_rows read.0))

pub rows_are : (vs : List FlatInstruction) (w : Found) (read : List ReactiveInstruction × Found) → AreNested w.values
    → from_last row_from vs w ≡ Some read → AreRows vs w read
rows_are [] w read all h = subst (AreRows [] w) (some_is h) (refl, no_values w)
rows_are (v ∷ vs) w read all h =
    option_and_then_some _ (from_last row_from vs w) _ h (λ others e g.
    option_and_then_some _ (row_from v others.1) _ g (λ first d r.
    let later = rows_are vs w others all e in
    let is = row_is v others.1 first (left_nested w others.1 (nested_in_rows others.0) later.1 all) d in
    subst (AreRows (v ∷ vs) w) (some_is r) (
      ap (λ z. z ∷ vs) is.0
          ∙ ap (λ z. flat_row first.1.next_value first.0 ∷ z)
          (later.0 ∙ ap (λ z. flat_rows z.next_value others.0) is.1),
      later.1 ∙ (ap (λ z. more_values z (nested_in_rows others.0)) is.1
          ∙ values_join first.1 (nested first.0.value) (nested_in_rows others.0)),
    )))

-- ---- entries

module _ (found : Found) where
  abbrev IsRead : UnrolledValue → NestedValue → Type 0
  IsRead l first = nested_from first (more_values found (inside_layer l)) ≡ Some (roll-ReactiveValue l, found)

  made : {a b : ReactiveValue} → a ≡ b → ◌≡◌ {A = Option (ReactiveValue × Found)} (Some (b, found)) (Some (a, found))
  made e = read_is (sym e) refl

  layer_read : (l : UnrolledValue) (first : NestedValue) → entry_layer found.next_value l ≡ Some first → IsRead l first
  layer_read (layer.Instruction y) first e = cc
  layer_read (layer.LogicalExpression operator a b) first e =
      subst (IsRead (layer.LogicalExpression operator a b)) (some_is e)
      (rw (sym (values_join found (nested a) (nested b)), value_read (more_values found (nested a)) b, value_read found a)
      (made (values.rolls-LogicalExpression operator a b)))
  layer_read (layer.ConditionalExpression a b c) first e =
      subst (IsRead (layer.ConditionalExpression a b c)) (some_is e)
      (rw (
        sym (values_join found (nested c) (nested b ++ nested a)),
        sym (values_join (more_values found (nested c)) (nested b) (nested a)),
        value_read (more_values (more_values found (nested c)) (nested b)) a,
        value_read (more_values found (nested c)) b,
        value_read found c,
      ) (made (values.rolls-ConditionalExpression a b c)))
  layer_read (layer.SequenceExpression rows id y) first e =
      subst (IsRead (layer.SequenceExpression rows id y)) (some_is e)
      (rw (
        sym (values_join found (nested_in_rows rows) (nested y)),
        value_read (more_values found (nested_in_rows rows)) y,
        rows_read found rows,
      ) (made (values.rolls-SequenceExpression rows id y)))
  layer_read (layer.OptionalExpression y optional) first e =
      subst (IsRead (layer.OptionalExpression y optional)) (some_is e)
      (rw (value_read found y) (made (values.rolls-OptionalExpression y optional)))

  -- the entry of a value reads as that value
  pub entry_read : (x : ReactiveValue) (first : NestedValue) → entry_of found.next_value x ≡ Some first
      → nested_from first (more_values found (inside_value x)) ≡ Some (x, found)
  unfolding entry_of inside_value
  entry_read x first e =
      subst (λ z. nested_from first (more_values found (inside_layer (out-ReactiveValue x))) ≡ Some (z, found))
      (roll-out-ReactiveValue x) (layer_read (out-ReactiveValue x) first e)

-- what reading an entry gives is the value that has this entry
abbrev pub HasEntry : NestedValue → Found → ReactiveValue × Found → Type 0
HasEntry first w read =
    (entry_of read.1.next_value read.0 ≡ Some first) × (w ≡ more_values read.1 (inside_value read.0))

has_logical : (operator : LogicalOperator) (left right : FlatValue) (w : Found) (b a : ReactiveValue × Found)
    → IsValue right w b → IsValue left b.1 a
    → HasEntry (entry.LogicalExpression operator left right) w (values.LogicalExpression operator a.0 b.0, a.1)
unfolding entry_of inside_value
has_logical operator left right w b a is_b is_a =
    rw (values.outs-LogicalExpression operator a.0 b.0) (
      rw (is_a.0, is_b.0, is_a.1) refl,
      is_b.1 ∙ (ap (λ z. more_values z (nested b.0)) is_a.1 ∙ values_join a.1 (nested a.0) (nested b.0)),
    )

has_conditional : (test consequent alternate : FlatValue) (w : Found) (a b c : ReactiveValue × Found)
    → IsValue test w a → IsValue consequent a.1 b → IsValue alternate b.1 c
    → HasEntry (entry.ConditionalExpression test consequent alternate) w
    (values.ConditionalExpression a.0 b.0 c.0, c.1)
unfolding entry_of inside_value
has_conditional test consequent alternate w a b c is_a is_b is_c =
    rw (values.outs-ConditionalExpression a.0 b.0 c.0) (
      rw (is_a.0, is_b.0, is_c.0, is_b.1, is_c.1) refl,
      is_a.1 ∙ (ap (λ z. more_values z (nested a.0)) (is_b.1 ∙ ap (λ z. more_values z (nested b.0)) is_c.1)
          ∙ (values_join (more_values c.1 (nested c.0)) (nested b.0) (nested a.0)
          ∙ values_join c.1 (nested c.0) (nested b.0 ++ nested a.0))),
    )

has_sequence : (rows : List FlatInstruction) (id : EvaluationOrder) (value : FlatValue) (w : Found) (b : ReactiveValue × Found)
    (a : List ReactiveInstruction × Found) → IsValue value w b → AreRows rows b.1 a
    → HasEntry (entry.SequenceExpression rows id value) w (values.SequenceExpression a.0 id b.0, a.1)
unfolding entry_of inside_value
has_sequence rows id value w b a is_b are_a =
    rw (values.outs-SequenceExpression a.0 id b.0) (
      rw (are_a.0, is_b.0, are_a.1) refl,
      is_b.1 ∙ (ap (λ z. more_values z (nested b.0)) are_a.1 ∙ values_join a.1 (nested_in_rows a.0) (nested b.0)),
    )

has_optional : (value : FlatValue) (optional : Bool) (w : Found) (a : ReactiveValue × Found) → IsValue value w a
    → HasEntry (entry.OptionalExpression value optional) w (values.OptionalExpression a.0 optional, a.1)
unfolding entry_of inside_value
has_optional value optional w a is_a =
    rw (values.outs-OptionalExpression a.0 optional) (rw is_a.0 refl, is_a.1)

pub entry_is : (first : NestedValue) (w : Found) (read : ReactiveValue × Found) → AreNested w.values
    → nested_from first w ≡ Some read → HasEntry first w read
entry_is (entry.LogicalExpression operator left right) w read all h =
    option_and_then_some _ (value_from right w) _ h (λ b e g.
    option_and_then_some _ (value_from left b.1) _ g (λ a d r.
    let is_b = value_is right w b all e in
    subst (HasEntry (entry.LogicalExpression operator left right) w) (some_is r)
    (has_logical operator left right w b a is_b
    (value_is left b.1 a (left_nested w b.1 (nested b.0) is_b.1 all) d))))
entry_is (entry.ConditionalExpression test consequent alternate) w read all h =
    option_and_then_some _ (value_from test w) _ h (λ a e g.
    option_and_then_some _ (value_from consequent a.1) _ g (λ b d p.
    option_and_then_some _ (value_from alternate b.1) _ p (λ c k r.
    let is_a = value_is test w a all e in
    let all_a = left_nested w a.1 (nested a.0) is_a.1 all in
    let is_b = value_is consequent a.1 b all_a d in
    let all_b = left_nested a.1 b.1 (nested b.0) is_b.1 all_a in
    subst (HasEntry (entry.ConditionalExpression test consequent alternate) w) (some_is r)
    (has_conditional test consequent alternate w a b c is_a is_b (value_is alternate b.1 c all_b k)))))
entry_is (entry.SequenceExpression rows id value) w read all h =
    option_and_then_some _ (value_from value w) _ h (λ b e g.
    option_and_then_some _ (from_last row_from rows b.1) _ g (λ a d r.
    let is_b = value_is value w b all e in
    subst (HasEntry (entry.SequenceExpression rows id value) w) (some_is r)
    (has_sequence rows id value w b a is_b
    (rows_are rows b.1 a (left_nested w b.1 (nested b.0) is_b.1 all) d))))
entry_is (entry.OptionalExpression value optional) w read all h =
    option_and_then_some _ (value_from value w) _ h (λ a e r.
    subst (HasEntry (entry.OptionalExpression value optional) w) (some_is r)
    (has_optional value optional w a (value_is value w a all e)))
