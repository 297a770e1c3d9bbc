-- The entries of groups and of sections, part by part.
use Rattle.std.proofs.Common.{◌≡◌, ◌∙◌, ◌+◌, ◌<◌, ◌≤◌, ◌++◌, ℕ, List, [], ◌∷◌, Some, None, ap, append-nil}
use Rattle.std.proofs.Common.{append_assoc, arith, drop, get_or, length, map, refl, suc, sym, take, zero}
use Rattle.std.specs.Prelude.{slice_get, slice_set}
use Rattle.std.proofs.lemmas.List.{drop_all, drop_more, length-map, length-take-le, map_more, set-get_or, set_at}
use Rattle.std.proofs.lemmas.List.{take-append-drop, take_all, take_more}
use Rattle.std.proofs.lemmas.List.Concat.{flat_map-append}
use Rattle.std.proofs.lemmas.List.Elements.{filter-append}
use Rattle.std.proofs.lemmas.Option.{get_or_from_slice_get}
use Rattle.rc_names.specs.Numbers.{EvaluationOrder}
use Rattle.rc_ranges.specs.declared.entry.Entry.{Entry}
use Rattle.rc_ranges.specs.inside.Entries.{entries_left, joined}

-- the entries of two lists of parts
pub joined-append : (parts others : List (List Entry)) → joined (parts ++ others) ≡ joined parts ++ joined others
joined-append parts others = flat_map-append (λ (part : List Entry). part) parts others

-- the entries of one part more
pub joined_push : (parts : List (List Entry)) (part : List Entry) → joined (parts ++ part ∷ []) ≡ joined parts ++ part
joined_push parts part = joined-append parts (part ∷ []) ∙ ap (λ w. joined parts ++ w) (append-nil part)

pub joined_more : (parts : List (List Entry)) (i : ℕ) (part : List Entry) → i < length parts
    → part ≡ get_or parts i part → joined (take (i + 1) parts) ≡ joined (take i parts) ++ part
joined_more parts i part below at =
    ap joined (take_more parts i part below ∙ ap (λ w. take i parts ++ w ∷ []) (sym at))
    ∙ joined_push (take i parts) part

-- what is left of each part is left of all
pub left-joined : (id : EvaluationOrder) (parts : List (List Entry))
    → joined (map (entries_left id) parts) ≡ entries_left id (joined parts)
left-joined id [] = refl
left-joined id (part ∷ parts) =
    ap (λ w. entries_left id part ++ w) (left-joined id parts) ∙ sym (filter-append _ part (joined parts))

-- what comes after as many elements
pub slice_get-at : {X : Type 0} (xs ys : List X) (y : X) (i : ℕ) → length xs ≡ i → slice_get (xs ++ y ∷ ys) i ≡ Some y
slice_get-at [] ys y zero is = refl
slice_get-at [] ys y (suc i) is = absurd (omega (arith, is))
slice_get-at (x ∷ xs) ys y zero is = absurd (omega (arith, is))
slice_get-at (x ∷ xs) ys y (suc i) is = slice_get-at xs ys y i (omega (arith, is))

module _ (id : EvaluationOrder) where
  -- parts of which the first ones are done
  abbrev pub done : ℕ → List (List Entry) → List (List Entry)
  done i parts = map (entries_left id) (take i parts) ++ drop i parts

  length-done : (i : ℕ) (parts : List (List Entry)) → i < length parts
      → length (map (entries_left id) (take i parts)) ≡ i
  length-done i parts below =
      length-map (take i parts) (entries_left id) ∙ length-take-le i parts (omega (arith, below))

  -- the first part that isn't done
  next_part : (i : ℕ) (parts now : List (List Entry)) (default : List Entry) → i < length parts → now ≡ done i parts
      → slice_get now i ≡ Some (get_or parts i default)
  next_part i parts now default below is =
      ap (λ w. slice_get w i) (is
      ∙ ap (λ w. map (entries_left id) (take i parts) ++ w) (drop_more parts i default below))
      ∙ slice_get-at (map (entries_left id) (take i parts)) (drop (i + 1) parts) (get_or parts i default) i
      (length-done i parts below)

  -- there is one
  pub done_some : {X : Type 0} (i : ℕ) (parts now : List (List Entry)) → i < length parts → now ≡ done i parts
      → None ≡ slice_get now i → X
  done_some i parts now below is none =
      let differ : None ≡ Some (get_or parts i []) = none ∙ next_part i parts now [] below is in
      let bad : ⊥ = cc in
      absurd bad

  -- one part more is done
  pub done_more : (i : ℕ) (parts old new : List (List Entry)) (part left : List Entry) → i < length parts
      → old ≡ done i parts → Some part ≡ slice_get old i → left ≡ entries_left id part → new ≡ slice_set old i left
      → new ≡ done (i + 1) parts
  done_more i parts old new part left below so_far found is set =
      let front = map (entries_left id) (take i parts) in
      let rest = drop (i + 1) parts in
      let here : Some part ≡ Some (get_or parts i part) = found ∙ next_part i parts old part below so_far in
      let same : part ≡ get_or parts i part = cc in
      set ∙ ap (λ w. slice_set w i left) (so_far ∙ ap (λ w. front ++ w) (drop_more parts i part below))
      ∙ set_at front (get_or parts i part) rest left i (length-done i parts below)
      ∙ ap (λ w. front ++ w ∷ rest) (is ∙ ap (entries_left id) same)
      ∙ sym (append_assoc front (entries_left id (get_or parts i part) ∷ []) rest)
      ∙ ap (λ w. w ++ rest) (sym (map_more (entries_left id) parts i part below))

  -- the same parts, where one is written as it was
  pub done_same : (i : ℕ) (parts old new : List (List Entry)) (part left : List Entry) → old ≡ done i parts
      → Some part ≡ slice_get old i → left ≡ part → new ≡ slice_set old i left → new ≡ done i parts
  done_same i parts old new part left so_far found is set =
      set ∙ ap (slice_set old i) (is ∙ sym (get_or_from_slice_get old i part [] (sym found))) ∙ set-get_or old i []
      ∙ so_far

  -- all parts are done
  pub done_all : (i : ℕ) (parts now : List (List Entry)) → length parts ≤ i → now ≡ done i parts
      → joined now ≡ entries_left id (joined parts)
  done_all i parts now past is =
      ap joined (is ∙ ap (λ w. map (entries_left id) (take i parts) ++ w) (drop_all i parts past)
      ∙ append-nil (map (entries_left id) (take i parts)) ∙ ap (map (entries_left id)) (take_all i parts past))
      ∙ left-joined id parts

  -- the entries, when only the first parts are done
  pub joined-done : (i : ℕ) (parts : List (List Entry))
      → joined (done i parts) ≡ entries_left id (joined (take i parts)) ++ joined (drop i parts)
  joined-done i parts =
      joined-append (map (entries_left id) (take i parts)) (drop i parts)
      ∙ ap (λ w. w ++ joined (drop i parts)) (left-joined id (take i parts))

-- the entries of the first parts and of the others
pub joined_split : (i : ℕ) (parts : List (List Entry)) → joined (take i parts) ++ joined (drop i parts) ≡ joined parts
joined_split i parts = sym (joined-append (take i parts) (drop i parts)) ∙ ap joined (take-append-drop i parts)
