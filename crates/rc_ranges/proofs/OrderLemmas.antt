-- Entries in the order of their indices.
use Rattle.std.proofs.Common.{◌≡◌, ◌∙◌, ◌+◌, ◌<◌, ◌≤◌, ℕ, Bool, true, false, List, [], ◌∷◌, ap, arith, cond}
use Rattle.std.proofs.Common.{inl, inr, map, refl, subst, sym, ◌⊎◌}
use Rattle.std.specs.Prelude.{filter}
use Rattle.std.specs.List.{AllByRecursion}
use Rattle.std.specs.List.Sorted.{IsPermutation, IsSorted}
use Rattle.std.specs.Ordering.{nat_cmp}
use Rattle.std.proofs.lemmas.Bool.Decides.{leb_tells}
use Rattle.std.proofs.lemmas.List.Sorted.{IsNonDecreasingBy-from_sort}
use Rattle.rc_ranges.proofs.AscendingLemmas.{IsAscending, ascending, once, same_ascending, times, times-permutation}
use Rattle.rc_ranges.specs.declared.entry.Entry.{Entry}
use Rattle.rc_ranges.specs.inside.Entries.{in_order, put_in_order}

-- the indices of entries
abbrev pub indices : List Entry → List ℕ
indices entries = map (λ (entry : Entry). entry.index) entries

-- no entry has a smaller index
abbrev AreFrom : ℕ → List Entry → Type 0
AreFrom index entries = AllByRecursion (λ (entry : Entry). index ≤ entry.index) entries

-- no entry is before one with a smaller index
abbrev AreInOrder : List Entry → Type 0
AreInOrder [] = Unit {0}
AreInOrder (entry ∷ entries) = AreFrom entry.index entries × AreInOrder entries

-- an entry that is put among others goes before the first one, or after it
put_cases : (entry first : Entry) (others : List Entry)
    → ((put_in_order entry (first ∷ others) ≡ entry ∷ first ∷ others) × (entry.index ≤ first.index))
    ⊎ ((put_in_order entry (first ∷ others) ≡ first ∷ put_in_order entry others) × (first.index < entry.index))
unfolding put_in_order
put_cases entry first others =
    let before = entry ∷ first ∷ others in
    let behind = first ∷ put_in_order entry others in
    elim (leb_tells entry.index first.index) [
      | inl p ↦ inl (ap (λ w. cond w before behind) p.0, p.1)
      | inr p ↦ inr (ap (λ w. cond w before behind) p.0, p.1)
    ]

put_before : (entry first : Entry) (others : List Entry) → entry.index ≤ first.index
    → put_in_order entry (first ∷ others) ≡ entry ∷ first ∷ others
put_before entry first others order = elim (put_cases entry first others) [
  | inl p ↦ p.0
  | inr p ↦ absurd (omega (arith, order, p.1))
]

put_behind : (entry first : Entry) (others : List Entry) → first.index < entry.index
    → put_in_order entry (first ∷ others) ≡ first ∷ put_in_order entry others
put_behind entry first others order = elim (put_cases entry first others) [
  | inl p ↦ absurd (omega (arith, order, p.1))
  | inr p ↦ p.0
]

put_first : (entry : Entry) (entries : List Entry) → AreFrom entry.index entries
    → put_in_order entry entries ≡ entry ∷ entries
unfolding put_in_order
put_first entry [] all = refl
put_first entry (first ∷ others) all = put_before entry first others all.0

-- what all entries have, they have in their order

all_put : (P : Entry → Type 0) (entry : Entry) (entries : List Entry) → P entry → AllByRecursion P entries
    → AllByRecursion P (put_in_order entry entries)
unfolding put_in_order
all_put P entry [] one all = (one, tt)
all_put P entry (first ∷ others) one all = elim (put_cases entry first others) [
  | inl p ↦ subst (AllByRecursion P) (sym p.0) (one, all)
  | inr p ↦ subst (AllByRecursion P) (sym p.0) (all.0, all_put P entry others one all.1)
]

pub all_in_order : (P : Entry → Type 0) (entries : List Entry) → AllByRecursion P entries
    → AllByRecursion P (in_order entries)
unfolding in_order
all_in_order P [] all = tt
all_in_order P (entry ∷ entries) all = all_put P entry (in_order entries) all.0 (all_in_order P entries all.1)

-- that order is one

all_later : (index other : ℕ) (entries : List Entry) → index ≤ other → AreFrom other entries → AreFrom index entries
all_later index other [] order all = tt
all_later index other (entry ∷ entries) order all =
    (omega (arith, order, all.0), all_later index other entries order all.1)

put_keeps : (entry : Entry) (entries : List Entry) → AreInOrder entries → AreInOrder (put_in_order entry entries)
unfolding put_in_order
put_keeps entry [] up = (tt, tt)
put_keeps entry (first ∷ others) up = elim (put_cases entry first others) [
  | inl p ↦ subst AreInOrder (sym p.0) ((p.1, all_later entry.index first.index others p.1 up.0), up)
  | inr p ↦ subst AreInOrder (sym p.0) (
    all_put (λ (other : Entry). first.index ≤ other.index) entry others (omega (arith, p.1)) up.0,
    put_keeps entry others up.1,
  )
]

order_is : (entries : List Entry) → AreInOrder (in_order entries)
unfolding in_order
order_is [] = tt
order_is (entry ∷ entries) = put_keeps entry (in_order entries) (order_is entries)

-- some entries in their order are those of all in their order

from_filter : (test : Entry → Bool) (index : ℕ) (entries : List Entry) → AreFrom index entries
    → AreFrom index (filter test entries)
from_filter test index [] all = tt
from_filter test index (entry ∷ entries) all = go (test entry) (from_filter test index entries all.1)
  where
    go : (b : Bool) → AreFrom index (filter test entries)
        → AreFrom index (cond b (entry ∷ filter test entries) (filter test entries))
    go true later = (all.0, later)
    go false later = later

filter-put : (test : Entry → Bool) (entry : Entry) (entries : List Entry) → AreInOrder entries
    → filter test (put_in_order entry entries)
    ≡ cond (test entry) (put_in_order entry (filter test entries)) (filter test entries)
unfolding put_in_order
filter-put test entry [] up = refl
filter-put test entry (first ∷ others) up = elim (put_cases entry first others) [
  | inl p ↦ ap (filter test) p.0 ∙ ap (λ w. cond (test entry) w passed) (sym (put_first entry passed
      (from_filter test entry.index (first ∷ others) (p.1, all_later entry.index first.index others p.1 up.0))))
  | inr p ↦ ap (filter test) p.0
      ∙ ap (λ w. cond (test first) (first ∷ w) w) (filter-put test entry others up.1) ∙ go p.1 (test first) (test entry)
]
  where
    passed : List Entry
    passed = filter test (first ∷ others)

    rest : List Entry
    rest = filter test others

    go : first.index < entry.index → (b c : Bool)
        → cond b (first ∷ cond c (put_in_order entry rest) rest) (cond c (put_in_order entry rest) rest)
        ≡ cond c (put_in_order entry (cond b (first ∷ rest) rest)) (cond b (first ∷ rest) rest)
    go order true true = sym (put_behind entry first rest order)
    go order true false = refl
    go order false true = refl
    go order false false = refl

pub filter-in_order : (test : Entry → Bool) (entries : List Entry)
    → filter test (in_order entries) ≡ in_order (filter test entries)
unfolding in_order
filter-in_order test [] = refl
filter-in_order test (entry ∷ entries) =
    filter-put test entry (in_order entries) (order_is entries)
    ∙ ap (λ w. cond (test entry) (put_in_order entry w) w) (filter-in_order test entries) ∙ go (test entry)
  where
    rest : List Entry
    rest = filter test entries

    go : (b : Bool) → cond b (put_in_order entry (in_order rest)) (in_order rest)
        ≡ in_order (cond b (entry ∷ rest) rest)
    go true = refl
    go false = refl

-- the indices in their order are those of a sort

times-put : (k : ℕ) (entry : Entry) (entries : List Entry)
    → times k (indices (put_in_order entry entries)) ≡ once k entry.index + times k (indices entries)
unfolding put_in_order
times-put k entry [] = refl
times-put k entry (first ∷ others) = elim (put_cases entry first others) [
  | inl p ↦ ap (λ w. times k (indices w)) p.0
  | inr p ↦
      let moved = ap (λ w. times k (indices w)) p.0 in
      let later = times-put k entry others in
      omega (arith, moved, later)
]

times-in_order : (k : ℕ) (entries : List Entry) → times k (indices (in_order entries)) ≡ times k (indices entries)
unfolding in_order
times-in_order k [] = refl
times-in_order k (entry ∷ entries) =
    times-put k entry (in_order entries) ∙ ap (λ w. once k entry.index + w) (times-in_order k entries)

from_indices : (index : ℕ) (entries : List Entry) → AreFrom index entries
    → AllByRecursion (λ other. index ≤ other) (indices entries)
from_indices index [] all = tt
from_indices index (entry ∷ entries) all = (all.0, from_indices index entries all.1)

ascending_indices : (entries : List Entry) → AreInOrder entries → IsAscending (indices entries)
ascending_indices [] up = tt
ascending_indices (entry ∷ entries) up = (from_indices entry.index entries up.0, ascending_indices entries up.1)

-- ascending numbers that are the indices of the entries, each as often
pub indices_are : (entries : List Entry) (numbers : List ℕ) → IsAscending numbers
    → ((k : ℕ) → times k numbers ≡ times k (indices entries)) → numbers ≡ indices (in_order entries)
indices_are entries numbers up same =
    same_ascending numbers (indices (in_order entries)) up (ascending_indices (in_order entries) (order_is entries))
    (λ k. same k ∙ sym (times-in_order k entries))

pub sorted_indices : (entries : List Entry) (sorted : List ℕ) → IsPermutation (indices entries) sorted
    → IsSorted nat_cmp sorted → sorted ≡ indices (in_order entries)
sorted_indices entries sorted same up =
    indices_are entries sorted (ascending sorted (IsNonDecreasingBy-from_sort (λ x. x) sorted up))
    (times-permutation (indices entries) sorted same)
