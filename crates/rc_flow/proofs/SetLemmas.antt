-- Sets of names as lists: what is in a set with more names, and that names are only added at the end.
use Rattle.std.proofs.Common.{◌≡◌, ◌∙◌, Bool, true, false, ◌||◌, List, [], ◌∷◌, ◌++◌, ◌⊎◌, inl, inr}
use Rattle.std.proofs.Common.{append_assoc, append-nil, map, refl, sym, ap, subst, if◌then◌else◌, true≢false}
use Rattle.std.specs.List.{list_any}
use Rattle.std.proofs.lemmas.Bool.{or_cases, or_left, or_right}
use Rattle.std.proofs.lemmas.List.Folds.{list_any-append}
use Rattle.indexmap.specs.IndexSet.{insert_key}
use Rattle.rc_hir.specs.Model.{ReactiveScope, ReactiveScopeDependency}
use Rattle.rc_names.specs.declared.numbers.Id.{Id}
use Rattle.rc_flow.specs.Reached.{dependency_names}
use Rattle.rc_names.specs.Numbers.{IdentifierId, is_among, same_id}
use Rattle.rc_names.proofs.NumbersLemmas.{ids_equivalence, same_id-eq}
use Rattle.rc_flow.specs.inside.Spread.{Names, depends_on, with_all}

abbrev pub In : IdentifierId → Names → Type 0
In name names = is_among names name ≡ true

pub in_itself : (name : IdentifierId) → same_id name name ≡ true
in_itself name = ids_equivalence.refl name

-- one number more, of any kind
pub insert_cases : {K : Type 0} (set : List (Id K)) (name n : Id K) → is_among (insert_key same_id set name) n ≡ true
    → (is_among set n ≡ true) ⊎ (n ≡ name)
insert_cases set name n = by (is_among set name)
  where
    by : (b : Bool) → is_among (if b then set else set ++ name ∷ []) n ≡ true → (is_among set n ≡ true) ⊎ (n ≡ name)
    by true h = inl h
    by false h =
        elim (or_cases (is_among set n) (same_id n name || false)
        (sym (list_any-append (same_id n) set (name ∷ [])) ∙ h)) [
          | inl k ↦ inl k
          | inr k ↦ elim (or_cases (same_id n name) false k) [
            | inl e ↦ inr (same_id-eq n name e)
            | inr e ↦ absurd (true≢false (sym e))
          ]
        ]

-- one name more
module _ (set : Names) (name : IdentifierId) where
  abbrev more_if : Bool → Names
  more_if known = if known then set else set ++ name ∷ []

  pub insert_old : (n : IdentifierId) → In n set → In n (insert_key same_id set name)
  insert_old n h = by (is_among set name)
    where
      by : (b : Bool) → In n (more_if b)
      by true = h
      by false = list_any-append (same_id n) set (name ∷ []) ∙ or_left (is_among set n) (same_id n name || false) h

  pub insert_new : In name (insert_key same_id set name)
  insert_new = by (is_among set name) refl
    where
      by : (b : Bool) → is_among set name ≡ b → In name (more_if b)
      by true e = e
      by false e = list_any-append (same_id name) set (name ∷ [])
          ∙ or_right (is_among set name) (same_id name name || false)
          (or_left (same_id name name) false (in_itself name))

  pub insert_grows : (more : Names) × (insert_key same_id set name ≡ set ++ more)
  insert_grows = by (is_among set name)
    where
      by : (b : Bool) → (more : Names) × (more_if b ≡ set ++ more)
      by true = ([], sym (append-nil set))
      by false = (name ∷ [], refl)

-- many names more
pub all_cases : (names set : Names) (n : IdentifierId) → In n (with_all names set) → In n set ⊎ In n names
all_cases [] set n h = inl h
all_cases (x ∷ xs) set n h = elim (all_cases xs (insert_key same_id set x) n h) [
  | inl k ↦ elim (insert_cases set x n k) [
    | inl o ↦ inl o
    | inr e ↦ inr (or_left (same_id n x) (is_among xs n) (subst (λ y. same_id n y ≡ true) e (in_itself n)))
  ]
  | inr k ↦ inr (or_right (same_id n x) (is_among xs n) k)
]

pub all_old : (names set : Names) (n : IdentifierId) → In n set → In n (with_all names set)
all_old [] set n h = h
all_old (x ∷ xs) set n h = all_old xs (insert_key same_id set x) n (insert_old set x n h)

pub all_new : (names set : Names) (n : IdentifierId) → In n names → In n (with_all names set)
all_new [] set n h = absurd (true≢false (sym h))
all_new (x ∷ xs) set n h = elim (or_cases (same_id n x) (is_among xs n) h) [
  | inl e ↦ all_old xs (insert_key same_id set x) n
      (subst (λ y. In y (insert_key same_id set x)) (sym (same_id-eq n x e)) (insert_new set x))
  | inr k ↦ all_new xs (insert_key same_id set x) n k
]

pub all_grow : (names set : Names) → (more : Names) × (with_all names set ≡ set ++ more)
all_grow [] set = ([], sym (append-nil set))
all_grow (x ∷ xs) set =
    let first = insert_grows set x in
    let rest = all_grow xs (insert_key same_id set x) in
    (first.0 ++ rest.0, rest.1 ∙ ap (λ names. names ++ rest.0) first.1 ∙ append_assoc set first.0 rest.0)

pub all-append : (names others set : Names) → with_all (names ++ others) set ≡ with_all others (with_all names set)
all-append [] others set = refl
all-append (x ∷ xs) others set = all-append xs others (insert_key same_id set x)

-- one of the names is in the set
pub some_among : (set from : Names) → list_any (is_among set) from ≡ true
    → (a : IdentifierId) × In a from × In a set
some_among set [] h = absurd (true≢false (sym h))
some_among set (x ∷ xs) h = elim (or_cases (is_among set x) (list_any (is_among set) xs) h) [
  | inl e ↦ (x, or_left (same_id x x) (is_among xs x) (in_itself x), e)
  | inr k ↦ let it = some_among set xs k in (it.0, or_right (same_id it.0 x) (is_among xs it.0) it.1, it.2)
]

pub among_some : (set from : Names) (a : IdentifierId) → In a from → In a set → list_any (is_among set) from ≡ true
among_some set [] a h k = absurd (true≢false (sym h))
among_some set (x ∷ xs) a h k = elim (or_cases (same_id a x) (is_among xs a) h) [
  | inl e ↦ or_left (is_among set x) (list_any (is_among set) xs) (subst (λ y. In y set) (same_id-eq a x e) k)
  | inr m ↦ or_right (is_among set x) (list_any (is_among set) xs) (among_some set xs a m k)
]

-- a dependency of a scope is in the set
pub depends_any : (scope : ReactiveScope) (set : Names)
    → depends_on scope set ≡ list_any (is_among set) (dependency_names scope)
depends_any scope set = any_of scope.dependencies
  where
    any_of : (all : List ReactiveScopeDependency) → list_any (λ (d : ReactiveScopeDependency). is_among set d.identifier) all
        ≡ list_any (is_among set) (map (λ (d : ReactiveScopeDependency). d.identifier) all)
    any_of [] = refl
    any_of (x ∷ xs) = ap (λ b. is_among set x.identifier || b) (any_of xs)

-- where one of the first names is in the set, the others come in
abbrev pub carried_set : Names → Names → Names → Names
carried_set from to set = if list_any (is_among set) from then with_all to set else set

module _ (from to set : Names) where
  abbrev carried_if : Bool → Names
  carried_if b = if b then with_all to set else set

  pub carried_cases : (n : IdentifierId) → In n (carried_set from to set)
      → In n set ⊎ ((a : IdentifierId) × In a from × In a set × In n to)
  carried_cases n = by (list_any (is_among set) from) refl
    where
      by : (b : Bool) → list_any (is_among set) from ≡ b → In n (carried_if b)
          → In n set ⊎ ((a : IdentifierId) × In a from × In a set × In n to)
      by true e h = elim (all_cases to set n h) [
        | inl k ↦ inl k
        | inr k ↦ let it = some_among set from e in inr (it.0, it.1, it.2, k)
      ]
      by false e h = inl h

  pub carried_old : (n : IdentifierId) → In n set → In n (carried_set from to set)
  carried_old n h = by (list_any (is_among set) from)
    where
      by : (b : Bool) → In n (carried_if b)
      by true = all_old to set n h
      by false = h

  pub carried_new : (n a : IdentifierId) → In a from → In a set → In n to → In n (carried_set from to set)
  carried_new n a f s t = by (list_any (is_among set) from) (among_some set from a f s)
    where
      by : (b : Bool) → b ≡ true → In n (carried_if b)
      by true e = all_new to set n t
      by false e = absurd (true≢false (sym e))

  pub carried_grows : (more : Names) × (carried_set from to set ≡ set ++ more)
  carried_grows = by (list_any (is_among set) from)
    where
      by : (b : Bool) → (more : Names) × (carried_if b ≡ set ++ more)
      by true = all_grow to set
      by false = ([], sym (append-nil set))
