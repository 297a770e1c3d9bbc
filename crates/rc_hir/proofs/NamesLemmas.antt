-- The result of a check of numbers, from the results of the checks of parts.
use Rattle.std.proofs.Common.{◌≡◌, ◌∙◌, ◌≤◌, ◌<◌, ℕ, List, [], ◌∷◌, ◌++◌, ◌+◌, Result, Ok, Err, OnOk, IfErr, length}
use Rattle.std.proofs.Common.{Some, inl, inr, slice_get, sym, add-one, arith, drop, get_or, refl}
use Rattle.std.specs.List.{All, Any, flat_map}
use Rattle.std.proofs.lemmas.List.{drop_all, length-append, get_or-append-add}
use Rattle.std.proofs.lemmas.Option.{slice_get_cases}
use Rattle.std.proofs.lemmas.List.Elements.{All-append, All-cons, All-nil}
use Rattle.std.proofs.Math.ListN.{get_or-append}
use Rattle.std.proofs.Math.Seq.{drop-cons}
use Rattle.rc_hir.specs.PartNames.{Name}
use Rattle.rc_hir.specs.Names.{IsCheckOf, IsInTable, IsOutside, length_of}
use Rattle.rc_hir.specs.Model.{Fault, TableName, Lengths}
use Rattle.rc_hir.specs.declared.fault.Fault.TheVariants.{BadName}

module _ {X : Type 0} (P : X → Type 0) (xs ys : List X) where
  -- some element of the first part of a list is one of the list
  Any-append_left : Any P xs → Any P (xs ++ ys)
  Any-append_left a = (a.0, a.1, omega (arith, length-append xs ys, a.2), get_or-append xs ys a.1 a.0 a.2 ∙ a.3, a.4)

  -- some element of the second part of a list is one of the list
  Any-append_right : Any P ys → Any P (xs ++ ys)
  Any-append_right a =
      (length xs + a.0, a.1, omega (arith, length-append xs ys, a.2), get_or-append-add xs ys a.0 a.1 ∙ a.3, a.4)

module _ (tables : Lengths) where
  -- a check of no numbers succeeds
  pub judges_none : (done : Unit {0}) → IsCheckOf tables [] (Ok done)
  unfolding IsCheckOf
  judges_none done = λ k d below. absurd (omega arith)

  module _ (table : TableName) (index : ℕ) where
    -- a check of a number that is in its table succeeds
    pub judges_within : (done : Unit {0}) → index < length_of tables table
        → IsCheckOf tables ((table, index) ∷ []) (Ok done)
    unfolding IsCheckOf
    judges_within done within = All-cons (IsInTable tables) (table, index) [] within (All-nil (IsInTable tables))

    -- a check of a number that is outside its table fails with that number
    pub judges_outside : length_of tables table ≤ index → IsCheckOf tables ((table, index) ∷ [])
        (Err (BadName table index))
    unfolding IsCheckOf
    judges_outside outside = (0, (table, index), omega arith, refl, (refl, outside))

  module _ (names : List Name) where
    -- if the check succeeds, each number is in its table
    pub judged_ok : (answer : Result (Unit {0}) Fault) → IsCheckOf tables names answer
        → OnOk answer (All (IsInTable tables) names)
    unfolding IsCheckOf
    judged_ok (Ok done) judged = judged
    judged_ok (Err fault) judged = tt

    -- if the check fails, its fault names a number that is outside its table
    pub judged_bad : (answer : Result (Unit {0}) Fault) → IsCheckOf tables names answer
        → IfErr answer (λ fault. Any (IsOutside tables fault) names)
    unfolding IsCheckOf
    judged_bad (Ok done) judged = tt
    judged_bad (Err fault) judged = judged

  module _ (xs ys : List Name) where
    -- if the first numbers are in their tables, the others decide
    pub judges_next : (done : Unit {0}) (result : Result (Unit {0}) Fault)
        → IsCheckOf tables xs (Ok done) → IsCheckOf tables ys result → IsCheckOf tables (xs ++ ys) result
    unfolding IsCheckOf
    judges_next done (Ok other) first second = All-append (IsInTable tables) xs ys first second
    judges_next done (Err fault) first second = Any-append_right (IsOutside tables fault) xs ys second

    -- a fault for the first numbers is a fault for all
    pub judges_stop : (fault : Fault) → IsCheckOf tables xs (Err fault) → IsCheckOf tables (xs ++ ys) (Err fault)
    unfolding IsCheckOf
    judges_stop fault first = Any-append_left (IsOutside tables fault) xs ys first

  module _ {X : Type 0} (f : X → List Name) (xs : List X) (i : ℕ) (x : X) (here : i < length xs)
      (at : x ≡ get_or xs i x) where
    -- the numbers from part i on are those of that part and then those of the later parts
    parts_left : flat_map f (drop i xs) ≡ f x ++ flat_map f (drop (i + 1) xs)
    parts_left = rw (drop-cons xs i x, ← at, add-one i) refl

    -- if the numbers of a part are in their tables, the later parts decide
    pub judges_next_part : (done : Unit {0}) (answer : Result (Unit {0}) Fault) → IsCheckOf tables (f x) (Ok done)
        → IsCheckOf tables (flat_map f (drop (i + 1) xs)) answer → IsCheckOf tables (flat_map f (drop i xs)) answer
    judges_next_part done answer first second =
        rw parts_left (judges_next (f x) (flat_map f (drop (i + 1) xs)) done answer first second)

    -- a fault for a part is a fault for it and the later parts
    pub judges_stop_part : (fault : Fault) → IsCheckOf tables (f x) (Err fault)
        → IsCheckOf tables (flat_map f (drop i xs)) (Err fault)
    judges_stop_part fault first = rw parts_left (judges_stop (f x) (flat_map f (drop (i + 1) xs)) fault first)

  module _ {X : Type 0} (f : X → List Name) (xs : List X) (i : ℕ) where
    -- after the last part no number is left
    pub judges_no_part : (done : Unit {0}) → length xs ≤ i → IsCheckOf tables (flat_map f (drop i xs)) (Ok done)
    judges_no_part done behind = rw (drop_all i xs behind) (judges_none done)

    module _ (here : i < length xs) where
      -- the same for a part that is looked up by its index
      pub judges_next_at : (done : Unit {0}) (answer : Result (Unit {0}) Fault)
          → ((x : X) → slice_get xs i ≡ Some x → IsCheckOf tables (f x) (Ok done))
          → IsCheckOf tables (flat_map f (drop (i + 1) xs)) answer → IsCheckOf tables (flat_map f (drop i xs)) answer
      judges_next_at done answer first second = elim (slice_get_cases xs i).1 [
        | inl at ↦ judges_next_part f xs i at.0 here (sym at.3) done answer (first at.0 at.2) second
        | inr past ↦ absurd (omega (arith, past.0))
      ]

      pub judges_stop_at : (fault : Fault) → ((x : X) → slice_get xs i ≡ Some x → IsCheckOf tables (f x) (Err fault))
          → IsCheckOf tables (flat_map f (drop i xs)) (Err fault)
      judges_stop_at fault first = elim (slice_get_cases xs i).1 [
        | inl at ↦ judges_stop_part f xs i at.0 here (sym at.3) fault (first at.0 at.2)
        | inr past ↦ absurd (omega (arith, past.0))
      ]

-- for a function that checks its parts one by one
pub ruleset judging = (judges_none, judges_within, judges_outside, judges_next, judges_stop, judged_ok, judged_bad)
