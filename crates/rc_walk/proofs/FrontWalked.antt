-- Statements that are walked in their places, up to the first one whose replacement isn't one statement.
use Rattle.std.proofs.Common.{◌≡◌, ◌∙◌, ◌+◌, ◌≤◌, inl, inr, ℕ, zero, suc, add-one, Bool, true, false, List, [], ◌∷◌, ◌++◌}
use Rattle.std.proofs.Common.{Result, Ok, Err, Some, drop, reverse, slice_get, slice_set, take, arith, refl, ap}
use denote.Param.Weighed.{most}
use Rattle.std.proofs.lemmas.List.{append-nil, drop-set-lt, reverse-append, reverse-reverse, take-set, take_more_set}
use Rattle.std.proofs.lemmas.Option.{slice_get_within}
use Rattle.rc_hir.specs.Model.{Fault, HirFunction}
use Rattle.rc_tree.proofs.FuelLemmas.{SoFar, most-reverse, so_far_fault, so_far_next}
use Rattle.rc_tree.proofs.PlaceLemmas.{at_place, most_place}
use Rattle.rc_tree.specs.Fuel.{Fueled, OutOfFuel, Failed, Done, FueledWalk, bind, in_turn}
use Rattle.rc_tree.specs.inside.EnoughFuel.{IsFueled}
use Rattle.rc_tree.specs.Model.{ReactiveBlock, ReactiveStatement, Transformed}
use Rattle.rc_tree.specs.Rewrite.{in_place, into_at, statement_at}
use Rattle.rc_tree.specs.RewriteSteps.{RewriteSteps}
use Rattle.rc_walk.specs.Statements.{TreeStatements, added_if}

-- the entries from an index on are no deeper than all
most_drop : {X : Type 0} (μ : X → ℕ) (n : ℕ) (xs : List X) → most μ (drop n xs) ≤ most μ xs
most_drop μ zero xs = omega arith
most_drop μ (suc n) [] = omega arith
most_drop μ (suc n) (x ∷ xs) = let h = most_drop μ n xs in omega (arith, h)

-- unchanged entries from an index on, taken out and reversed, are no deeper than all the old entries
pub most_behind : {X : Type 0} (μ : X → ℕ) (n : ℕ) (before after left : List X) → left ≡ reverse (drop n after)
    → drop n after ≡ drop n before → most μ left ≤ most μ before
most_behind μ n before after left turned same =
    rw (turned, most-reverse μ (drop n after), same) (most_drop μ n before)

-- the first of unchanged entries from an index on is no deeper than all the old entries
pub most_entry : {X : Type 0} (μ : X → ℕ) (n : ℕ) (before after : List X) (x : X) → drop n after ≡ drop n before
    → slice_get after n ≡ Some x → μ x ≤ most μ before
most_entry μ n before after x same there =
    let left : most μ (drop n after) ≤ most μ before = rw same (most_drop μ n before) in
    omega (arith, left, (most_place μ after n x x there).0)

module _ {T S : Type 0} (v : RewriteSteps (T × S)) (functions : T → List HirFunction)
    (inner : FueledWalk (T × S) ReactiveBlock) where
  abbrev into : T × S → TreeStatements → ReactiveStatement → Fueled (Unit {0} × ((T × S) × TreeStatements))
  into = into_at v functions inner

  -- a call walks a statement, and puts its replacement after those that are done
  abbrev Puts : T × S → TreeStatements → ReactiveStatement → Result (Unit {0}) Fault → T × S → TreeStatements → Type 0
  Puts w done x r w1 ys = IsFueled {S = (T × S) × TreeStatements} (into w done x) r (w1, ys)

  -- the replacement can be put after more statements
  into_behind : (w : T × S) (done : TreeStatements) (x : ReactiveStatement) (r : Result (Unit {0}) Fault) (w1 : T × S)
      (ys : TreeStatements) → Puts w [] x r w1 ys → Puts w done x r w1 (done ++ ys)
  unfolding into_at
  into_behind w done x r w1 ys h = by (statement_at v functions inner w x) h
    where
      by : (f : Fueled (Transformed ReactiveStatement × ((T × S) × ReactiveStatement)))
          → IsFueled {S = (T × S) × TreeStatements} (bind f (λ a. Done (tt, (a.1.0, in_place a.0 a.1.1)))) r (w1, ys)
          → IsFueled {S = (T × S) × TreeStatements} (bind f (λ a. Done (tt, (a.1.0, done ++ in_place a.0 a.1.1)))) r
          (w1, done ++ ys)
      by OutOfFuel h = tt
      by (Failed fault) h = h
      by (Done d) (inl e) = inl e
      by (Done d) (inr e) = inr (e.0, ap (λ p. (p.0, done ++ p.1)) e.1)

  module _ (whole : Fueled (Unit {0} × ((T × S) × TreeStatements))) (w : T × S) (now : TreeStatements) (i : ℕ)
      (so_far : SoFar into whole (in_turn into w (take i now) (drop i now))) where
    -- the statement at the index was walked
    module _ (x : ReactiveStatement) (there : slice_get now i ≡ Some x) where
      turned : SoFar into whole (in_turn into w (take i now) (reverse (reverse (drop (suc i) now) ++ x ∷ [])))
      turned = rw (reverse-append (reverse (drop (suc i) now)) (x ∷ []), reverse-reverse (drop (suc i) now))
          (rw (at_place now i x there) at so_far)

      walked : (w1 : T × S) (ys : TreeStatements) → Puts w [] x (Ok tt) w1 ys
          → SoFar into whole (in_turn into w1 (take i now ++ ys) (drop (i + 1) now))
      walked w1 ys h =
          let next = so_far_next into whole w (take i now) _ (reverse (drop (suc i) now)) x w1 (take i now ++ ys) turned
          refl (into_behind w (take i now) x (Ok tt) w1 ys h) in
          rw add-one (rw (reverse-reverse (drop (suc i) now)) at next)

      -- nothing is done beside those in front of it
      module _ (done done1 : TreeStatements) (none : done ≡ []) (w1 : T × S) where
        -- its replacement is one statement
        pub front_goes_on : (stays : Bool) (y : ReactiveStatement) → stays ≡ true → done1 ≡ done
            → Puts w done x (Ok tt) w1 (done1 ++ added_if stays y)
            → SoFar into whole (in_turn into w1 (take (i + 1) (slice_set now i y)) (drop (i + 1) (slice_set now i y)))
        front_goes_on stays y is alone h =
            rw (take_more_set now i y (slice_get_within now i x there), drop-set-lt (i + 1) now i y (omega arith))
            (walked w1 (y ∷ []) (rw (is, none, alone ∙ none) at h))

        -- it isn't
        pub front_stops : (stays : Bool) (y : ReactiveStatement) → stays ≡ false
            → Puts w done x (Ok tt) w1 (done1 ++ added_if stays y)
            → SoFar into whole
            (in_turn into w1 (take i (slice_set now i y) ++ done1) (drop (i + 1) (slice_set now i y)))
        front_stops stays y is h =
            rw (take-set now i y, drop-set-lt (i + 1) now i y (omega arith))
            (walked w1 done1 (rw (is, none, append-nil done1) at h))

        -- its walk failed
        pub front_fails : (fault : Fault) (t : (T × S) × TreeStatements) → Puts w done x (Err fault) w1 done1
            → IsFueled whole (Err fault) t
        front_fails fault t h =
            so_far_fault into whole w (take i now) _ (reverse (drop (suc i) now)) x fault (w1, take i now ++ done1) t
            turned refl (into_behind w (take i now) x (Err fault) w1 done1 (rw none at h))
