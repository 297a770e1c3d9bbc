-- The walk of a graph's function goes on to the functions inside it: the marks of the entered ones.
use Rattle.std.proofs.Common.{◌≡◌, ◌<◌, ◌+◌, ℕ, zero, suc, Bool, true, false, List, [], ◌∷◌, Option, None, Some}
use Rattle.std.proofs.Common.{Result, Ok, Err, arith, add-one, ap, drop, length, inl, inr, refl, sym, ◌∙◌}
use Rattle.std.specs.Prelude.{slice_get, slice_set}
use Rattle.std.proofs.lemmas.List.{set_past}
use Rattle.rc_hir.specs.Model.{Fault, HirFunction}
use Rattle.rc_names.specs.Numbers.{FunctionId}
use Rattle.rc_tree.proofs.StepLemmas.{gives_next, gives_fault}
use Rattle.rc_tree.proofs.PlaceLemmas.{past_end}
use Rattle.rc_tree.specs.Step.{Walk, IsStep, bind, each, perhaps}
use Rattle.rc_tree.specs.ReadSteps.{ReadSteps}
use Rattle.rc_tree.specs.ReadFunction.{not_entered, by_mark, numbered_at, function_to, function_at}

-- one function fewer isn't entered once one is marked
pub left_marked : (marks : List Bool) (i : ℕ) → slice_get marks i ≡ Some false
    → suc (not_entered (slice_set marks i true)) ≡ not_entered marks
left_marked [] i e = cc
left_marked (true ∷ marks) zero e = cc
left_marked (false ∷ marks) zero e = refl
left_marked (true ∷ marks) (suc i) e = left_marked marks i e
left_marked (false ∷ marks) (suc i) e = ap suc (left_marked marks i e)

-- a mark that is set and then taken back
pub marked_back : (marks : List Bool) (i : ℕ) → slice_get marks i ≡ Some false
    → slice_set (slice_set marks i true) i false ≡ marks
marked_back [] i e = refl
marked_back (mark ∷ marks) zero e = cc
marked_back (mark ∷ marks) (suc i) e = ap (λ l. mark ∷ l) (marked_back marks i e)

-- no mark is set past the end
pub marked_past : (marks : List Bool) (i : ℕ) (mark : Bool) → slice_get marks i ≡ None → marks ≡ slice_set marks i mark
marked_past marks i mark e = sym (set_past marks i mark (past_end marks i e))

module _ {S X : Type 0} (step : X → Walk S) where
  -- the walk of the entries from an index on
  each_at : (xs : List X) (i : ℕ) (s : S) → i < length xs
      → each step (drop i xs) s ≡ bind (perhaps step (slice_get xs i) s) (λ r. each step (drop (suc i) xs) r.1)
  each_at [] i s lt = absurd (omega (arith, lt))
  each_at (x ∷ xs) zero s lt = refl
  each_at (x ∷ xs) (suc i) s lt = each_at xs i s (omega (arith, lt))

  pub place_next : (whole : Result (Unit {0} × S) Fault) (xs : List X) (i n : ℕ) (s t : S)
      → whole ≡ each step (drop i xs) s → i < n → n ≡ length xs → perhaps step (slice_get xs i) s ≡ Ok (tt, t)
      → whole ≡ each step (drop (i + 1) xs) t
  place_next whole xs i n s t e lt is ok =
      rw add-one (e ∙ each_at xs i s (omega arith) ∙ ap (λ f. bind f (λ r. each step (drop (suc i) xs) r.1)) ok)

  pub place_fault : (whole : Result (Unit {0} × S) Fault) (xs : List X) (i n : ℕ) (s t : S) (fault : Fault)
      → whole ≡ each step (drop i xs) s → i < n → n ≡ length xs → IsStep (perhaps step (slice_get xs i) s) (Err fault) t
      → IsStep whole (Err fault) t
  place_fault whole xs i n s t fault e lt is (inl none) = inl none
  place_fault whole xs i n s t fault e lt is (inr bad) =
      inr (e ∙ each_at xs i s (omega arith) ∙ ap (λ f. bind f (λ r. each step (drop (suc i) xs) r.1)) bad)

module _ {S : Type 0} (v : ReadSteps S) (functions : List HirFunction) (marks : List Bool) (func : FunctionId) (s : S)
  where
    met : (mark : Option Bool) → slice_get marks func.0 ≡ mark
        → function_at v functions marks func s ≡ by_mark v functions (function_to v functions (not_entered marks)) marks
        func mark s
    unfolding function_at function_to
    met mark e = ap (λ m. by_mark v functions (function_to v functions (not_entered marks)) marks func m s) e

    -- a function outside the table
    pub outside : slice_get marks func.0 ≡ None → function_at v functions marks func s
        ≡ by_mark v functions (function_at v functions) marks func None s
    outside e = met None e

    -- a function inside itself
    pub met_again : slice_get marks func.0 ≡ Some true → function_at v functions marks func s
        ≡ by_mark v functions (function_at v functions) marks func (Some true) s
    met_again e = met (Some true) e

    -- a function that is entered
    pub entered_now : slice_get marks func.0 ≡ Some false → function_at v functions marks func s
        ≡ numbered_at v functions (slice_set marks func.0 true) func s
    unfolding function_at
    entered_now e = met (Some false) e
        ∙ ap (λ n. by_mark v functions (function_to v functions n) marks func (Some false) s)
        (sym (left_marked marks func.0 e))

pub ruleset reading_functions = (
  gives_next,
  gives_fault,
  outside,
  met_again,
  entered_now,
  left_marked,
  marked_back,
  marked_past,
  place_next,
  place_fault,
)
