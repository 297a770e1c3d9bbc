-- What places are left, and which of them have an id, by the entries.
use Rattle.std.proofs.Common.{◌≡◌, ◌∙◌, ◌++◌, ℕ, Bool, true, false, List, [], ◌∷◌, None, Option, Some, ap, cond, map}
use Rattle.std.proofs.Common.{◌+◌, ◌<◌, get_or, length, refl, subst, sym, take}
use Rattle.std.specs.Prelude.{filter, not, slice_get}
use Rattle.std.specs.List.{flat_map}
use Rattle.std.specs.List.Sorted.{IsPermutation, IsSorted}
use Rattle.std.specs.Option.{option_map, option_to_list}
use Rattle.std.specs.Ordering.{nat_cmp}
use Rattle.std.proofs.lemmas.List.{flat_map_more, map-append, take_more}
use Rattle.std.proofs.lemmas.List.Elements.{filter-append}
use Rattle.rc_hir.specs.Model.{MutableRange, Place}
use Rattle.rc_names.specs.Numbers.{EvaluationOrder}
use Rattle.rc_ranges.proofs.OrderLemmas.{filter-in_order, indices, sorted_indices}
use Rattle.rc_ranges.specs.Ranges.{is_in_range, places_at, ranged_left}
use Rattle.rc_ranges.specs.declared.entry.Entry.{Entry}
use Rattle.rc_ranges.specs.declared.ranged_place.RangedPlace.{RangedPlace}
use Rattle.rc_ranges.specs.inside.Entries.{entries_left, entry_has, in_order, indices_at, places_left, places_with}
use Rattle.rc_ranges.specs.inside.Entries.{ranged_of}

same_either : {X : Type 0} (x : X) (b : Bool) → x ≡ cond b x x
same_either x true = refl
same_either x false = refl

module _ (places : List Place) where
  -- the place of an entry, if there is one, and those of entries
  abbrev pub listed : Entry → List RangedPlace
  listed entry = option_to_list (ranged_of places entry)

  -- a test of the range is one of the entry and of its place
  filter-listed : (test : MutableRange → Bool) (entry : Entry)
      → filter (λ (ranged : RangedPlace). test ranged.range) (listed entry)
      ≡ cond (test entry.range) (listed entry) []
  filter-listed test entry = go (slice_get places entry.index)
    where
      known : Option Place → List RangedPlace
      known place = option_to_list (option_map (λ (place : Place). record { place = place; range = entry.range }) place)

      go : (place : Option Place) → filter (λ (ranged : RangedPlace). test ranged.range) (known place)
          ≡ cond (test entry.range) (known place) []
      go None = same_either [] (test entry.range)
      go (Some place) = refl

  filter-all : (test : MutableRange → Bool) (entries : List Entry)
      → filter (λ (ranged : RangedPlace). test ranged.range) (flat_map listed entries)
      ≡ flat_map listed (filter (λ (entry : Entry). test entry.range) entries)
  filter-all test [] = refl
  filter-all test (entry ∷ entries) =
      filter-append (λ (ranged : RangedPlace). test ranged.range) (listed entry) (flat_map listed entries)
      ∙ ap (λ w. w ++ filter (λ (ranged : RangedPlace). test ranged.range) (flat_map listed entries))
      (filter-listed test entry)
      ∙ ap (λ w. cond (test entry.range) (listed entry) [] ++ w) (filter-all test entries) ∙ go (test entry.range)
    where
      rest : List Entry
      rest = filter (λ (entry : Entry). test entry.range) entries

      go : (b : Bool) → cond b (listed entry) [] ++ flat_map listed rest
          ≡ flat_map listed (cond b (entry ∷ rest) rest)
      go true = refl
      go false = refl

  -- the places that pass a test of their range are those of the entries that pass it
  filter-left : (test : MutableRange → Bool) (entries : List Entry)
      → filter (λ (ranged : RangedPlace). test ranged.range) (places_left places entries)
      ≡ places_left places (filter (λ (entry : Entry). test entry.range) entries)
  unfolding places_left
  filter-left test entries =
      filter-all test (in_order entries)
      ∙ ap (flat_map listed) (filter-in_order (λ (entry : Entry). test entry.range) entries)

  pub ranged_are : (id : EvaluationOrder) (old new : List Entry) (value : List RangedPlace)
      → places_left places old ≡ value → new ≡ entries_left id old → places_left places new ≡ ranged_left id value
  ranged_are id old new value view is =
      ap (places_left places) is ∙ sym (filter-left (λ range. not (is_in_range id range)) old)
      ∙ ap (ranged_left id) view

  -- places without their ranges
  unranged : (entry : Entry) → map (λ (ranged : RangedPlace). ranged.place) (listed entry)
      ≡ option_to_list (slice_get places entry.index)
  unranged entry = go (slice_get places entry.index)
    where
      go : (place : Option Place) → map (λ (ranged : RangedPlace). ranged.place) (option_to_list
          (option_map (λ (place : Place). record { place = place; range = entry.range }) place))
          ≡ option_to_list place
      go None = refl
      go (Some place) = refl

  unranged_all : (entries : List Entry) → map (λ (ranged : RangedPlace). ranged.place) (flat_map listed entries)
      ≡ places_with places (indices entries)
  unranged_all [] = refl
  unranged_all (entry ∷ entries) =
      map-append (λ (ranged : RangedPlace). ranged.place) (listed entry) (flat_map listed entries)
      ∙ ap (λ w. w ++ map (λ (ranged : RangedPlace). ranged.place) (flat_map listed entries)) (unranged entry)
      ∙ ap (λ w. option_to_list (slice_get places entry.index) ++ w) (unranged_all entries)

  -- the sorted indices of the entries that have the id give the places that have it

  found_there : (id : EvaluationOrder) (entries : List Entry) (sorted : List ℕ)
      → IsPermutation (indices_at id entries) sorted → IsSorted nat_cmp sorted
      → places_with places sorted ≡ places_at id (places_left places entries)
  unfolding places_left
  found_there id entries sorted same up =
      ap (places_with places) (sorted_indices (filter (entry_has id) entries) sorted same up)
      ∙ sym (ap (map (λ (ranged : RangedPlace). ranged.place)) (filter-left (is_in_range id) entries)
      ∙ unranged_all (in_order (filter (entry_has id) entries)))

  pub found_are : (id : EvaluationOrder) (entries : List Entry) (value : List RangedPlace) (given sorted now : List ℕ)
      → places_left places entries ≡ value → given ≡ indices_at id entries → IsPermutation given sorted
      → IsSorted nat_cmp sorted → now ≡ sorted → places_with places now ≡ places_at id value
  found_are id entries value given sorted now view is same up now_is =
      ap (places_with places) now_is
      ∙ found_there id entries sorted (subst (λ w. IsPermutation w sorted) is same) up ∙ ap (places_at id) view

  -- one index more
  pub with_more : (numbers : List ℕ) (i : ℕ) (found : List Place) → i < length numbers
      → found ≡ places_with places (take i numbers)
      → found ++ option_to_list (slice_get places (get_or numbers i 0)) ≡ places_with places (take (i + 1) numbers)
  with_more numbers i found below so_far =
      ap (λ w. w ++ option_to_list (slice_get places (get_or numbers i 0))) so_far
      ∙ flat_map_more (λ index. option_to_list (slice_get places index)) [] (take i numbers) (get_or numbers i 0)
      ∙ ap (places_with places) (sym (take_more numbers i 0 below))
