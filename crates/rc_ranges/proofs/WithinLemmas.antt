-- Ranges that the ranges of entries are within: what lacks an id outside has it nowhere inside.
use Rattle.std.proofs.Common.{◌≡◌, ◌∙◌, ◌+◌, ◌<◌, ◌++◌, ℕ, Bool, true, false, List, [], ◌∷◌, ap, append-nil, arith}
use Rattle.std.proofs.Common.{cond}
use Rattle.std.proofs.Common.{drop, get_or, inl, inr, length, map, nat_lt, not, refl, subst, suc, sym, take, true≢false}
use Rattle.std.specs.Prelude.{◌&&◌, ◌||◌, filter}
use Rattle.std.specs.List.{list_any}
use Rattle.std.proofs.lemmas.Bool.Decides.{leb_tells}
use Rattle.std.proofs.lemmas.List.{take_more}
use Rattle.rc_hir.specs.Model.{MutableRange}
use Rattle.rc_names.specs.Numbers.{EvaluationOrder}
use Rattle.rc_ranges.proofs.JoinedLemmas.{done, joined-done, joined_more, joined_split}
use Rattle.rc_ranges.specs.Ranges.{is_in_range}
use Rattle.rc_ranges.specs.declared.entry.Entry.{Entry}
use Rattle.rc_ranges.specs.inside.Entries.{entries_left, entry_has, indices_at, joined}
use Rattle.rc_ranges.specs.inside.Within.{AreWithin, IsWithin}

-- what is within the inner ids is within the outer ones

wider : (range inner outer : MutableRange) → IsWithin range inner → IsWithin inner outer → IsWithin range outer
wider range inner outer one both = record {
  first = omega (arith, one.first, both.first);
  last = omega (arith, one.last, both.last);
}

all_wider : (inner outer : MutableRange) (entries : List Entry) → IsWithin inner outer → AreWithin inner entries
    → AreWithin outer entries
unfolding AreWithin
all_wider inner outer [] both all = tt
all_wider inner outer (entry ∷ entries) both all =
    (wider entry.range inner outer all.0 both, all_wider inner outer entries both all.1)

-- no entries, and those of two lists

pub none_within : (ids : MutableRange) → AreWithin ids []
unfolding AreWithin
none_within ids = tt

one_within : (ids : MutableRange) (entry : Entry) → IsWithin entry.range ids → AreWithin ids (entry ∷ [])
unfolding AreWithin
one_within ids entry one = (one, tt)

both_within : (ids : MutableRange) (xs ys : List Entry) → AreWithin ids xs → AreWithin ids ys → AreWithin ids (xs ++ ys)
unfolding AreWithin
both_within ids [] ys first second = second
both_within ids (x ∷ xs) ys first second = (first.0, both_within ids xs ys first.1 second)

-- one entry more, and the entries of one part more

pub entry_more : (inner outer : MutableRange) (entries : List Entry) (i : ℕ) (default : Entry) → i < length entries
    → IsWithin inner outer → IsWithin (get_or entries i default).range outer → AreWithin inner (take i entries)
    → AreWithin outer (take (i + 1) entries)
entry_more inner outer entries i default below both one all =
    subst (AreWithin outer) (sym (take_more entries i default below))
    (both_within outer (take i entries) (get_or entries i default ∷ [])
    (all_wider inner outer (take i entries) both all) (one_within outer (get_or entries i default) one))

pub part_more : (inner outer ids : MutableRange) (parts : List (List Entry)) (i : ℕ) (part : List Entry)
    → i < length parts → part ≡ get_or parts i part → IsWithin inner outer → IsWithin ids outer → AreWithin ids part
    → AreWithin inner (joined (take i parts)) → AreWithin outer (joined (take (i + 1) parts))
part_more inner outer ids parts i part below at both one part_within all =
    subst (AreWithin outer) (sym (joined_more parts i part below at))
    (both_within outer (joined (take i parts)) part (all_wider inner outer (joined (take i parts)) both all)
    (all_wider ids outer part one part_within))

-- an id that the outer range lacks

outside : (id : EvaluationOrder) (range ids : MutableRange) → IsWithin range ids → is_in_range id ids ≡ false
    → is_in_range id range ≡ false
outside id range ids within out = elim (leb_tells range.start.0 id.0) [
  | inr p ↦ ap (λ w. w && nat_lt id.0 range.end.0) p.0
  | inl p ↦ elim (leb_tells (suc id.0) range.end.0) [
    | inr q ↦ ap (λ w. w && nat_lt id.0 range.end.0) p.0 ∙ q.0
    | inl q ↦ elim (leb_tells ids.start.0 id.0) [
      | inr r ↦ absurd (omega (arith, within.first, p.1, r.1))
      | inl r ↦ elim (leb_tells (suc id.0) ids.end.0) [
        | inr s ↦ absurd (omega (arith, within.last, q.1, s.1))
        | inl s ↦ absurd (true≢false (sym (ap (λ w. w && nat_lt id.0 ids.end.0) r.0 ∙ s.0) ∙ out))
      ]
    ]
  ]
]

-- no entry has it
none_has : (id : EvaluationOrder) (ids : MutableRange) (entries : List Entry) → is_in_range id ids ≡ false
    → AreWithin ids entries → list_any (entry_has id) entries ≡ false
unfolding AreWithin
none_has id ids [] out all = refl
none_has id ids (entry ∷ entries) out all =
    ap (λ w. w || list_any (entry_has id) entries) (outside id entry.range ids all.0 out)
    ∙ none_has id ids entries out all.1

-- where no entry has the id, none is found and all are left

none_found : (id : EvaluationOrder) (entries : List Entry) → list_any (entry_has id) entries ≡ false
    → indices_at id entries ≡ []
none_found id [] none = refl
none_found id (entry ∷ entries) none = go (entry_has id entry) none (none_found id entries)
  where
    go : (b : Bool) → (b || list_any (entry_has id) entries) ≡ false
        → (list_any (entry_has id) entries ≡ false → indices_at id entries ≡ [])
        → map (λ (e : Entry). e.index) (cond b (entry ∷ filter (entry_has id) entries) (filter (entry_has id) entries))
        ≡ []
    go true is later = absurd (true≢false is)
    go false is later = later is

all_left : (id : EvaluationOrder) (entries : List Entry) → list_any (entry_has id) entries ≡ false
    → entries_left id entries ≡ entries
all_left id [] none = refl
all_left id (entry ∷ entries) none = go (entry_has id entry) none (all_left id entries)
  where
    go : (b : Bool) → (b || list_any (entry_has id) entries) ≡ false
        → (list_any (entry_has id) entries ≡ false → entries_left id entries ≡ entries)
        → cond (not b) (entry ∷ entries_left id entries) (entries_left id entries) ≡ entry ∷ entries
    go true is later = absurd (true≢false is)
    go false is later = ap (λ w. entry ∷ w) (later is)

-- the same of what contracts see of the entries

pub nothing_put : (id : EvaluationOrder) (ids : MutableRange) (entries value : List Entry) (found : List ℕ)
    → entries ≡ value → is_in_range id ids ≡ false → AreWithin ids entries → found ≡ found ++ indices_at id value
nothing_put id ids entries value found is out all =
    sym (ap (λ w. found ++ w) (ap (indices_at id) (sym is) ∙ none_found id entries (none_has id ids entries out all))
    ∙ append-nil found)

pub nothing_left_out : (id : EvaluationOrder) (entries value : List Entry) → entries ≡ value
    → list_any (entry_has id) entries ≡ false → value ≡ entries_left id value
nothing_left_out id entries value is none = sym (ap (entries_left id) (sym is) ∙ all_left id entries none ∙ is)

pub nothing_outside : (id : EvaluationOrder) (ids : MutableRange) (entries value : List Entry) → entries ≡ value
    → is_in_range id ids ≡ false → AreWithin ids entries → value ≡ entries_left id value
nothing_outside id ids entries value is out all =
    nothing_left_out id entries value is (none_has id ids entries out all)

-- where some entries of a list are left, and all of another

left_within : (id : EvaluationOrder) (ids : MutableRange) (entries : List Entry) → AreWithin ids entries
    → AreWithin ids (entries_left id entries)
unfolding AreWithin
left_within id ids [] all = tt
left_within id ids (entry ∷ entries) all = go (not (entry_has id entry)) (left_within id ids entries all.1)
  where
    go : (b : Bool) → AreWithin ids (entries_left id entries)
        → AreWithin ids (cond b (entry ∷ entries_left id entries) (entries_left id entries))
    go true later = (all.0, later)
    go false later = later

first_within : (ids : MutableRange) (xs ys : List Entry) → AreWithin ids (xs ++ ys) → AreWithin ids xs
unfolding AreWithin
first_within ids [] ys all = tt
first_within ids (x ∷ xs) ys all = (all.0, first_within ids xs ys all.1)

second_within : (ids : MutableRange) (xs ys : List Entry) → AreWithin ids (xs ++ ys) → AreWithin ids ys
unfolding AreWithin
second_within ids [] ys all = all
second_within ids (x ∷ xs) ys all = second_within ids xs ys all.1

some_left_within : (id : EvaluationOrder) (ids : MutableRange) (done rest : List Entry)
    → AreWithin ids (done ++ rest) → AreWithin ids (entries_left id done ++ rest)
some_left_within id ids done rest all =
    both_within ids (entries_left id done) rest (left_within id ids done (first_within ids done rest all))
    (second_within ids done rest all)

pub done_within : (id : EvaluationOrder) (i : ℕ) (parts now : List (List Entry)) → now ≡ done id i parts
    → (ids : MutableRange) → AreWithin ids (joined parts) → AreWithin ids (joined now)
done_within id i parts now is ids all =
    subst (AreWithin ids) (sym (ap joined is ∙ joined-done id i parts))
    (some_left_within id ids (joined (take i parts)) (joined (drop i parts))
    (subst (AreWithin ids) (sym (joined_split i parts)) all))
