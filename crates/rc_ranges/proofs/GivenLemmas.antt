-- The places that are given, by their entries in any order.
use Rattle.std.proofs.Common.{◌≡◌, ◌∙◌, ◌+◌, ◌<◌, ◌≤◌, ◌++◌, ℕ, List, [], ◌∷◌, Some, ap, append_assoc, arith, get_or}
use Rattle.std.proofs.Common.{length, map, refl, subst, suc, sym, take, zero}
use Rattle.std.specs.Prelude.{slice_get}
use Rattle.std.specs.List.{AllByRecursion, flat_map}
use Rattle.std.specs.List.Sorted.{IsPermutation}
use Rattle.std.specs.Option.{option_to_list}
use Rattle.std.proofs.lemmas.List.{length-take-le, length_push, take_more}
use Rattle.std.proofs.lemmas.List.Elements.{All-from_recursion, recursion_from_All}
use Rattle.std.proofs.lemmas.List.Sorted.{All-permutation, IsPermutation-map}
use Rattle.rc_hir.specs.Model.{Place}
use Rattle.rc_ranges.proofs.AscendingLemmas.{IsAscending, times-permutation}
use Rattle.rc_ranges.proofs.JoinedLemmas.{slice_get-at}
use Rattle.rc_ranges.proofs.LeftLemmas.{listed}
use Rattle.rc_ranges.proofs.OrderLemmas.{all_in_order, indices, indices_are}
use Rattle.rc_ranges.specs.declared.entry.Entry.{Entry}
use Rattle.rc_ranges.specs.declared.ranged_place.RangedPlace.{RangedPlace}
use Rattle.rc_ranges.specs.inside.Entries.{entries_since, in_order, places_left, ranged_of}

-- one place more has one entry more

since-push : (index : ℕ) (places : List RangedPlace) (ranged : RangedPlace)
    → entries_since index (places ++ ranged ∷ [])
    ≡ entries_since index places ++ record { range = ranged.range; index = index + length places } ∷ []
since-push index [] ranged = ap (λ n. record { range = ranged.range; index = n } ∷ []) (omega arith)
since-push index (first ∷ places) ranged =
    ap (λ w. record { range = first.range; index = index } ∷ w) (since-push (index + 1) places ranged
    ∙ ap (λ n. entries_since (index + 1) places ++ record { range = ranged.range; index = n } ∷ []) (omega arith))

pub since_more : (places : List RangedPlace) (i : ℕ) (default : RangedPlace) (old new : List Entry) → i < length places
    → old ≡ entries_since 0 (take i places)
    → new ≡ old ++ record { range = (get_or places i default).range; index = i } ∷ []
    → new ≡ entries_since 0 (take (i + 1) places)
since_more places i default old new below so_far is =
    let ranged = get_or places i default in
    let count : length (take i places) ≡ i = length-take-le i places (omega (arith, below)) in
    is ∙ ap (λ w. w ++ record { range = ranged.range; index = i } ∷ []) so_far
    ∙ ap (λ n. entries_since 0 (take i places) ++ record { range = ranged.range; index = n } ∷ [])
    (omega (arith, count))
    ∙ sym (since-push 0 (take i places) ranged)
    ∙ sym (ap (entries_since 0) (take_more places i default below))

-- their indices ascend

since_from : (least index : ℕ) (places : List RangedPlace) → least ≤ index
    → AllByRecursion (λ other. least ≤ other) (indices (entries_since index places))
since_from least index [] order = tt
since_from least index (ranged ∷ places) order =
    (order, since_from least (index + 1) places (omega (arith, order)))

since_ascend : (index : ℕ) (places : List RangedPlace) → IsAscending (indices (entries_since index places))
since_ascend index [] = tt
since_ascend index (ranged ∷ places) =
    (since_from index (index + 1) places (omega arith), since_ascend (index + 1) places)

-- so the entries in any order have the same indices in their order
indices_since : (places : List RangedPlace) (entries : List Entry) → IsPermutation (entries_since 0 places) entries
    → indices (entries_since 0 places) ≡ indices (in_order entries)
indices_since places entries same =
    indices_are entries (indices (entries_since 0 places)) (since_ascend 0 places) (λ k. sym
    (times-permutation (indices (entries_since 0 places)) (indices entries)
    (IsPermutation-map (λ (entry : Entry). entry.index) (entries_since 0 places) entries same) k))

-- the places at indices
abbrev ranged_with : List RangedPlace → List ℕ → List RangedPlace
ranged_with places numbers = flat_map (λ index. option_to_list (slice_get places index)) numbers

module _ (places : List RangedPlace) where
  -- the places without their ranges
  abbrev pub kept : List Place
  kept = map (λ (ranged : RangedPlace). ranged.place) places

  -- the entry has the range of the place at its index
  abbrev IsOfPlace : Entry → Type 0
  IsOfPlace entry = ranged_of kept entry ≡ slice_get places entry.index

  -- such entries give the places at their indices
  places_of : (entries : List Entry) → AllByRecursion IsOfPlace entries
      → flat_map (listed kept) entries ≡ ranged_with places (indices entries)
  places_of [] all = refl
  places_of (entry ∷ entries) all =
      ap (λ w. option_to_list w ++ flat_map (listed kept) entries) all.0
      ∙ ap (λ w. option_to_list (slice_get places entry.index) ++ w) (places_of entries all.1)

-- the place after others is at its index, with its range

next_place : (before : List RangedPlace) (ranged : RangedPlace) (places : List RangedPlace) (i : ℕ) → length before ≡ i
    → slice_get (before ++ ranged ∷ places) i ≡ Some ranged
next_place before ranged places i is = slice_get-at before places ranged i is

next_of_place : (before : List RangedPlace) (ranged : RangedPlace) (places : List RangedPlace) (i : ℕ)
    → length before ≡ i
    → IsOfPlace (before ++ ranged ∷ places) (record { range = ranged.range; index = i })
next_of_place [] ranged places zero is = refl
next_of_place [] ranged places (suc i) is = absurd (omega (arith, is))
next_of_place (first ∷ before) ranged places zero is = absurd (omega (arith, is))
next_of_place (first ∷ before) ranged places (suc i) is = next_of_place before ranged places i (omega (arith, is))

-- the others after one more place
next_before : (before : List RangedPlace) (ranged : RangedPlace) (places : List RangedPlace)
    → (before ++ ranged ∷ []) ++ places ≡ before ++ ranged ∷ places
next_before before ranged places = append_assoc before (ranged ∷ []) places

length-next : (before : List RangedPlace) (ranged : RangedPlace) (i : ℕ) → length before ≡ i
    → length (before ++ ranged ∷ []) ≡ i + 1
length-next before ranged i is = length_push before ranged ∙ ap (λ n. n + 1) is

-- so all entries have the ranges of their places, and their indices give the places

of_places : (before places : List RangedPlace) (i : ℕ) → length before ≡ i
    → AllByRecursion (IsOfPlace (before ++ places)) (entries_since i places)
of_places before [] i is = tt
of_places before (ranged ∷ places) i is = (
  next_of_place before ranged places i is,
  subst (λ w. AllByRecursion (IsOfPlace w) (entries_since (i + 1) places)) (next_before before ranged places)
      (of_places (before ++ ranged ∷ []) places (i + 1) (length-next before ranged i is)),
)

with_all : (before places : List RangedPlace) (i : ℕ) → length before ≡ i
    → ranged_with (before ++ places) (indices (entries_since i places)) ≡ places
with_all before [] i is = refl
with_all before (ranged ∷ places) i is =
    ap (λ w. option_to_list w ++ ranged_with (before ++ ranged ∷ places) (indices (entries_since (i + 1) places)))
    (next_place before ranged places i is)
    ∙ ap (λ w. ranged ∷ w)
    (ap (λ w. ranged_with w (indices (entries_since (i + 1) places))) (sym (next_before before ranged places))
    ∙ with_all (before ++ ranged ∷ []) places (i + 1) (length-next before ranged i is))

-- all places are left

all_given : (places : List RangedPlace) (entries : List Entry) → IsPermutation (entries_since 0 places) entries
    → places_left (kept places) entries ≡ places
unfolding places_left
all_given places entries same =
    places_of places (in_order entries) (all_in_order (IsOfPlace places) entries of_entries)
    ∙ ap (ranged_with places) (sym (indices_since places entries same)) ∙ with_all [] places 0 refl
  where
    of_entries : AllByRecursion (IsOfPlace places) entries
    of_entries =
        recursion_from_All (IsOfPlace places) entries
        (All-permutation (IsOfPlace places) (entries_since 0 places) entries same
        (All-from_recursion (IsOfPlace places) (entries_since 0 places) (of_places [] places 0 refl)))

pub given_are : (places : List RangedPlace) (without : List Place) (entries sorted whole : List Entry)
    → without ≡ kept places → entries ≡ entries_since 0 places → IsPermutation entries sorted → whole ≡ sorted
    → places_left without whole ≡ places
given_are places without entries sorted whole without_is is same whole_is =
    ap (λ w. places_left w whole) without_is ∙ ap (places_left (kept places)) whole_is
    ∙ all_given places sorted (subst (λ w. IsPermutation w sorted) is same)
