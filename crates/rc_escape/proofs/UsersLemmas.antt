-- Rows are put to the lists of their operands one by one.
use Rattle.std.proofs.Common.{◌≡◌, ◌≢◌, ◌∙◌, ◌+◌, ◌<◌, ◌≤◌, ◌++◌, inl, inr, ℕ, zero, suc, Bool, true, false, List, []}
use Rattle.std.proofs.Common.{◌∷◌, Some, None, add-one, ap, arith, cond, eqb-true, get_or, length, refl, replicate}
use Rattle.std.proofs.Common.{subst, sym, take}
use Rattle.std.specs.Prelude.{◌&&◌, ◌||◌, nat_eq, nat_lt, slice_get, slice_set, unwrap_or}
use Rattle.std.proofs.lemmas.Cmp.{nat_eq_equiv}
use Rattle.std.specs.List.{list_any}
use Rattle.std.specs.Option.{option_map_or}
use Rattle.std.proofs.lemmas.Bool.{cases_lt, le-ltb, lt-ltb, ltb-false, ltb-true}
use Rattle.std.proofs.lemmas.List.{length-replicate}
use Rattle.std.proofs.lemmas.List.Folds.{list_any-append}
use Rattle.std.proofs.lemmas.Option.{slice_get_within, slice_get_cases}
use Rattle.rc_names.specs.Numbers.{DeclarationId}
use Rattle.rc_memo.specs.RowRecord.{operands_at}
use Rattle.rc_memo.specs.declared.row_record.RowRecord.{RowRecord}
use Rattle.rc_escape.specs.inside.RowUsers.{AddsUsers, AreUsers, is_user}
use Rattle.rc_escape.specs.inside.WalkPlaces.{entry_or, is_place_of, is_set, node_place}
use Rattle.rc_escape.proofs.PlaceLemmas.{entry_or-past, entry_or-replicate, entry_or-set, length-set}
use Rattle.rc_escape.proofs.PlaceLemmas.{set-here, set-other}
use Rattle.rc_escape.proofs.ListLemmas.{take_all}

or_swap : (a b : Bool) → (a || (b || false)) ≡ (b || a)
or_swap true true = refl
or_swap true false = refl
or_swap false true = refl
or_swap false false = refl

and_true : (a : Bool) → (a && true) ≡ a
and_true true = refl
and_true false = refl

and_false : (a : Bool) → (a && false) ≡ false
and_false true = refl
and_false false = refl

-- a row is put to the list at one place
pub adds_user : (users : List (List ℕ)) (place row : ℕ) (rows : List ℕ) → slice_get users place ≡ Some rows
    → AddsUsers users (slice_set users place (rows ++ row ∷ [])) row (λ other. nat_eq place other)
unfolding is_user
adds_user users place row rows at = record {
  lists = length-set users place (rows ++ row ∷ []);
  users = λ other user lt.
      ap (list_any (nat_eq user)) (entry_or-set [] (rows ++ row ∷ []) users place other lt_place)
      ∙ go user other (nat_eq place other) refl;
}
  where
    lt_place : place < length users
    lt_place = slice_get_within users place rows at

    go : (user other : ℕ) (b : Bool) → nat_eq place other ≡ b
        → list_any (nat_eq user) (cond b (rows ++ row ∷ []) (entry_or [] users other))
        ≡ ((nat_eq user row && b) || list_any (nat_eq user) (entry_or [] users other))
    go user other false e = ap (λ w. w || list_any (nat_eq user) (entry_or [] users other))
        (sym (and_false (nat_eq user row)))
    go user other true e =
        let here : entry_or [] users other ≡ rows =
        ap (entry_or [] users) (sym (eqb-true place other e)) ∙ ap (λ o. unwrap_or o []) at in
        list_any-append (nat_eq user) rows (row ∷ [])
        ∙ or_swap (list_any (nat_eq user) rows) (nat_eq user row)
        ∙ ap (λ w. w || list_any (nat_eq user) rows) (sym (and_true (nat_eq user row)))
        ∙ ap (λ w. (nat_eq user row && true) || list_any (nat_eq user) w) (sym here)

-- where no place passes the test nothing is put
pub adds_nobody : (users : List (List ℕ)) (row : ℕ) (takes : ℕ → Bool)
    → ((place : ℕ) → place < length users → takes place ≡ false) → AddsUsers users users row takes
adds_nobody users row takes nobody = record {
  lists = refl;
  users = λ place user lt. ap (λ w. w || is_user users place user)
      (sym (ap (λ w. nat_eq user row && w) (nobody place lt) ∙ and_false (nat_eq user row)));
}

pub adds_past : (users : List (List ℕ)) (place row : ℕ) → slice_get users place ≡ None
    → AddsUsers users users row (λ other. nat_eq place other)
adds_past users place row none =
    adds_nobody users row (λ other. nat_eq place other) (λ other lt. by other lt (nat_eq place other) refl)
  where
    by : (other : ℕ) → other < length users → (b : Bool) → nat_eq place other ≡ b → b ≡ false
    by other lt false e = refl
    by other lt true e = elim (slice_get_cases users place).1 [
      | inl w ↦ cc
      | inr le ↦ let same = eqb-true place other e in absurd (omega (arith, lt, le, same))
    ]

-- rows are put for one test after the other
pub adds_then : (first second third : List (List ℕ)) (row : ℕ) (p q takes : ℕ → Bool)
    → ((place : ℕ) → takes place ≡ (p place || q place))
    → AddsUsers first second row p → AddsUsers second third row q → AddsUsers first third row takes
adds_then first second third row p q takes both a b = record {
  lists = b.lists ∙ a.lists;
  users = λ place user lt.
      b.users place user (omega (arith, lt, a.lists))
      ∙ ap (λ w. (nat_eq user row && q place) || w) (a.users place user lt)
      ∙ joined (nat_eq user row) (p place) (q place) (is_user first place user)
      ∙ ap (λ w. (nat_eq user row && w) || is_user first place user) (sym (both place));
}
  where
    joined : (a b c d : Bool) → ((a && c) || ((a && b) || d)) ≡ ((a && (b || c)) || d)
    joined true true true d = refl
    joined true true false d = refl
    joined true false true d = refl
    joined true false false d = refl
    joined false b c d = refl

module _ (r : RowRecord) where
  -- a name without a node has no list, and one with a node has the list at its position
  pub no_place : (users : List (List ℕ)) (row : ℕ) (name : DeclarationId) → node_place r name ≡ None
      → AddsUsers users users row (λ place. is_place_of r place name)
  no_place users row name none =
      adds_nobody users row (λ place. is_place_of r place name)
      (λ place lt. ap (λ o. option_map_or (nat_eq place) o false) none)

  pub at_place : (users next : List (List ℕ)) (row place : ℕ) (name : DeclarationId) → node_place r name ≡ Some place
      → AddsUsers users next row (λ other. nat_eq place other)
      → AddsUsers users next row (λ other. is_place_of r other name)
  at_place users next row place name at adds =
      subst (AddsUsers users next row) (λ i. λ other. same other i) adds
    where
      same : (other : ℕ) → nat_eq place other ≡ is_place_of r other name
      same other = sym (ap (λ o. option_map_or (nat_eq other) o false) at ∙ nat_eq_equiv.symm other place)

  -- the lists have the rows before one
  pub record AreUsersBefore (i : ℕ) (users : List (List ℕ)) : Type 0 where
    pub lists : length users ≡ length r.nodes
    pub exact : (place row : ℕ) → place < length r.nodes
        → is_user users place row ≡ (nat_lt row i && list_any (is_place_of r place) (operands_at r.operands row))

  pub users_before_none : (n : ℕ) (users : List (List ℕ)) → n ≡ length r.nodes → users ≡ replicate n []
      → AreUsersBefore 0 users
  unfolding is_user
  users_before_none n users nodes made = record {
    lists = ap length made ∙ length-replicate n [] ∙ nodes;
    exact = λ place row lt.
        ap (λ w. list_any (nat_eq row) (entry_or [] w place)) made
        ∙ ap (list_any (nat_eq row)) (entry_or-replicate [] n place)
        ∙ sym (ap (λ w. w && list_any (is_place_of r place) (operands_at r.operands row)) (le-ltb row 0 (omega arith)));
  }

  users_before_more : (i : ℕ) (users next : List (List ℕ)) (operands : List DeclarationId)
      → slice_get r.operands i ≡ Some operands → AreUsersBefore i users
      → AddsUsers users next i (λ place. list_any (is_place_of r place) operands) → AreUsersBefore (i + 1) next
  users_before_more i users next operands at before adds = record {
    lists = adds.lists ∙ before.lists;
    exact = λ place row lt.
        adds.users place row (omega (arith, lt, before.lists))
        ∙ ap (λ w. (nat_eq row i && list_any (is_place_of r place) operands) || w) (before.exact place row lt)
        ∙ by place row (nat_eq row i) refl;
  }
    where
      has : ℕ → ℕ → Bool
      has place row = list_any (is_place_of r place) (operands_at r.operands row)

      by : (place row : ℕ) (b : Bool) → nat_eq row i ≡ b
          → ((b && list_any (is_place_of r place) operands) || (nat_lt row i && has place row))
          ≡ (nat_lt row (i + 1) && has place row)
      by place row true e =
          let same = eqb-true row i e in
          let here : list_any (is_place_of r place) operands ≡ has place row =
          ap (list_any (is_place_of r place)) (sym (ap (operands_at r.operands) same ∙ ap (λ o. unwrap_or o []) at)) in
          ap (λ w. w || (nat_lt row i && has place row)) here
          ∙ ap (λ w. has place row || (w && has place row)) (le-ltb row i (omega (arith, same)))
          ∙ or_false (has place row)
          ∙ sym (ap (λ w. w && has place row) (lt-ltb row (i + 1) (omega (arith, same))))
        where
          or_false : (c : Bool) → (c || false) ≡ c
          or_false true = refl
          or_false false = refl
      by place row false e = ap (λ w. w && has place row) (go (nat_lt row i) refl)
        where
          go : (b : Bool) → nat_lt row i ≡ b → b ≡ nat_lt row (i + 1)
          go true h = sym (lt-ltb row (i + 1) (omega (arith, ltb-true row i h)))
          go false h =
              let apart : row ≢ i =
              (λ same. let itself = ap (nat_eq row) (sym same) ∙ nat_eq_equiv.refl row in cc) in
              sym (le-ltb row (i + 1) (omega (arith, ltb-false row i h, apart)))

  pub users_before_next : (i : ℕ) (users next : List (List ℕ)) → i < length r.operands
      → ((operands : List DeclarationId) → slice_get r.operands i ≡ Some operands
      → AddsUsers users next i (λ place. list_any (is_place_of r place) operands))
      → AreUsersBefore i users → AreUsersBefore (i + 1) next
  users_before_next i users next lt puts before = elim (slice_get_cases r.operands i).1 [
    | inl w ↦ users_before_more i users next w.0 w.2 before (puts w.0 w.2)
    | inr w ↦ absurd (omega (arith, lt, w.0))
  ]

  pub users_before_all : (i : ℕ) (users : List (List ℕ)) → length r.operands ≤ i → AreUsersBefore i users
      → AreUsers r users
  users_before_all i users le before = record {
    lists = before.lists;
    exact = λ place row lt. before.exact place row lt ∙ elim (cases_lt row (length r.operands)) [
      | inl within ↦ ap (λ w. w && list_any (is_place_of r place) (operands_at r.operands row))
          (lt-ltb row i (omega (arith, within, le)))
      | inr past ↦
          let none = ap (list_any (is_place_of r place)) (entry_or-past [] r.operands row past) in
          ap (λ w. nat_lt row i && w) none ∙ and_false (nat_lt row i) ∙ sym none
    ];
  }

-- an operand more
pub any_take : {X : Type 0} (p : X → Bool) (xs : List X) (i : ℕ) (x : X) → slice_get xs i ≡ Some x
    → list_any p (take (i + 1) xs) ≡ (list_any p (take i xs) || p x)
any_take {X} p xs i x at = ap (λ k. list_any p (take k xs)) (add-one i) ∙ go xs i at
  where
    or_none : (b : Bool) → (b || false) ≡ b
    or_none true = refl
    or_none false = refl

    or_assoc : (a b c : Bool) → (a || (b || c)) ≡ ((a || b) || c)
    or_assoc true b c = refl
    or_assoc false b c = refl

    go : (ys : List X) (k : ℕ) → slice_get ys k ≡ Some x
        → list_any p (take (suc k) ys) ≡ (list_any p (take k ys) || p x)
    go [] k at = cc
    go (y ∷ ys) zero at = let same : y ≡ x = cc in ap (λ w. p w || false) same ∙ or_none (p x)
    go (y ∷ ys) (suc k) at = ap (λ w. p y || w) (go ys k at) ∙ or_assoc (p y) (list_any p (take k ys)) (p x)

-- one more truth value is set
pub set_more : (bits now : List Bool) (places : List ℕ) (i place other : ℕ) → slice_get places i ≡ Some place
    → other < length now
    → is_set now other ≡ (list_any (nat_eq other) (take i places) || is_set bits other)
    → is_set (slice_set now place true) other
    ≡ (list_any (nat_eq other) (take (i + 1) places) || is_set bits other)
unfolding is_set
set_more bits now places i place other at lt before =
    by (nat_eq place other) refl
    ∙ ap (λ w. w || entry_or false bits other) (sym (any_take (nat_eq other) places i place at))
  where
    last : (a b c : Bool) → b ≡ true → true ≡ ((a || b) || c)
    last true b c e = refl
    last false b c e = sym (ap (λ w. w || c) e)

    none : (a b c d : Bool) → b ≡ false → d ≡ (a || c) → d ≡ ((a || b) || c)
    none true b c d e f = f
    none false b c d e f = f ∙ sym (ap (λ w. w || c) e)

    by : (b : Bool) → nat_eq place other ≡ b
        → entry_or false (slice_set now place true) other
        ≡ ((list_any (nat_eq other) (take i places) || nat_eq other place) || entry_or false bits other)
    by true e =
        let same = eqb-true place other e in
        ap (entry_or false (slice_set now place true)) (sym same)
        ∙ set-here false true now place (omega (arith, lt, same))
        ∙ last (list_any (nat_eq other) (take i places)) (nat_eq other place) (entry_or false bits other)
        (nat_eq_equiv.symm other place ∙ e)
    by false e =
        set-other false true now place other
        (λ same. let itself = ap (nat_eq place) (sym same) ∙ nat_eq_equiv.refl place in cc)
        ∙ none (list_any (nat_eq other) (take i places)) (nat_eq other place) (entry_or false bits other)
        (entry_or false now other) (nat_eq_equiv.symm other place ∙ e) before

-- a place of a list has an entry
pub entry_there : {X : Type 0} (xs : List X) (i : ℕ) (d : X) → i < length xs → slice_get xs i ≡ Some (get_or xs i d)
entry_there [] i d lt = absurd (omega (arith, lt))
entry_there (x ∷ xs) zero d lt = refl
entry_there (x ∷ xs) (suc i) d lt = entry_there xs i d (omega (arith, lt))

-- whether a row is in the list of a node
pub user_in : (users : List (List ℕ)) (place row : ℕ) (rows : List ℕ) → slice_get users place ≡ Some rows
    → is_user users place row ≡ list_any (nat_eq row) rows
unfolding is_user
user_in users place row rows at = ap (λ o. list_any (nat_eq row) (unwrap_or o [])) at

pub no_user : (users : List (List ℕ)) (place row : ℕ) → slice_get users place ≡ None → is_user users place row ≡ false
unfolding is_user
no_user users place row none = ap (λ o. list_any (nat_eq row) (unwrap_or o [])) none

-- one more operand of a row
pub operand_more : (r : RowRecord) (first now next : List (List ℕ)) (row i : ℕ) (operands : List DeclarationId)
    (operand : DeclarationId) → slice_get operands i ≡ Some operand
    → AddsUsers first now row (λ place. list_any (is_place_of r place) (take i operands))
    → AddsUsers now next row (λ place. is_place_of r place operand)
    → AddsUsers first next row (λ place. list_any (is_place_of r place) (take (i + 1) operands))
operand_more r first now next row i operands operand at before adds =
    adds_then first now next row (λ place. list_any (is_place_of r place) (take i operands))
    (λ place. is_place_of r place operand) (λ place. list_any (is_place_of r place) (take (i + 1) operands))
    (λ place. any_take (is_place_of r place) operands i operand at) before adds

pub no_operands : (r : RowRecord) (users : List (List ℕ)) (row : ℕ) (operands : List DeclarationId)
    → AddsUsers users users row (λ place. list_any (is_place_of r place) (take 0 operands))
no_operands r users row operands =
    adds_nobody users row (λ place. list_any (is_place_of r place) (take 0 operands)) (λ place lt. refl)

pub all_operands : (r : RowRecord) (first now : List (List ℕ)) (row i : ℕ) (operands : List DeclarationId)
    → length operands ≤ i → AddsUsers first now row (λ place. list_any (is_place_of r place) (take i operands))
    → AddsUsers first now row (λ place. list_any (is_place_of r place) operands)
all_operands r first now row i operands le adds =
    subst (λ w. AddsUsers first now row (λ place. list_any (is_place_of r place) w)) (take_all operands i le) adds

pub ruleset of_row = (no_operands, operand_more, all_operands, entry_there)

pub ruleset of_rows = (users_before_none, users_before_next, users_before_all)
