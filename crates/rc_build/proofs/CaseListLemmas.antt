-- Lists of cases, case by case: how many are defaults, and which are kept.
use Rattle.std.proofs.Common.{◌≡◌, ℕ, zero, suc, ◌+◌, Bool, true, false, List, [], ◌∷◌, ◌++◌, ◌&&◌, ◌||◌, drop, refl, sym, ap, ◌∙◌}
use Rattle.std.proofs.Common.{◌<◌, length, take, get_or, arith}
use Rattle.std.specs.Prelude.{not}
use Rattle.std.proofs.Math.Bool.{or-true, or-false}
use Rattle.std.proofs.lemmas.Bool.{and_parts}
use Rattle.std.proofs.lemmas.List.{take_more}
use Rattle.std.proofs.lemmas.List.Folds.{list_any-append}
use Rattle.std.specs.List.{list_any}
use Rattle.rc_hir.specs.Model.{Case}
use Rattle.rc_hir.specs.Successors.{is_default}
use Rattle.rc_runs.specs.declared.frames.Frame.{Frame}
use Rattle.rc_runs.specs.SwitchCases.{has_one_default}

-- one more frame is taken off
dropped_suc : (i : ℕ) (frames : List Frame) (now new : List Frame) → now ≡ drop i frames
    → ((frame : Frame) (outer : List Frame) → now ≡ frame ∷ outer → new ≡ outer) → (now ≡ [] → new ≡ [])
    → new ≡ drop (suc i) frames
dropped_suc zero [] now new is some none = none is
dropped_suc (suc i) [] now new is some none = none is
dropped_suc zero (frame ∷ frames) now new is some none = some frame frames is
dropped_suc (suc i) (frame ∷ frames) now new is some none = dropped_suc i frames now new is some none

pub dropped_next : (i : ℕ) (frames : List Frame) (now new : List Frame) → now ≡ drop i frames
    → ((frame : Frame) (outer : List Frame) → now ≡ frame ∷ outer → new ≡ outer) → (now ≡ [] → new ≡ [])
    → new ≡ drop (i + 1) frames
dropped_next i frames now new is some none =
    dropped_suc i frames now new is some none ∙ ap (λ n. drop n frames) (let e : suc i ≡ i + 1 = omega arith in e)

-- a further default beside one is one too many, and any other case changes nothing
pub two_defaults : (front back : List Case) (case : Case) → is_default case ≡ true → list_any is_default front ≡ true
    → has_one_default (front ++ case ∷ back) ≡ false
two_defaults [] back case d h = let bad : ⊥ = cc in absurd bad
two_defaults (first ∷ front) back case d h = go (is_default first) refl h (two_defaults front back case d)
  where
    among : list_any is_default (front ++ case ∷ back) ≡ true
    among = list_any-append is_default front (case ∷ back) ∙ ap (λ b. list_any is_default front || (b || list_any is_default back)) d
        ∙ or-true (list_any is_default front)

    go : (b : Bool) → is_default first ≡ b → (b || list_any is_default front) ≡ true
        → (list_any is_default front ≡ true → has_one_default (front ++ case ∷ back) ≡ false)
        → (not (is_default first && list_any is_default (front ++ case ∷ back)) && has_one_default (front ++ case ∷ back))
        ≡ false
    go true e k later = ap (λ b. not (b && list_any is_default (front ++ case ∷ back)) && has_one_default (front ++ case ∷ back)) e
        ∙ ap (λ b. not b && has_one_default (front ++ case ∷ back)) among
    go false e k later = ap (λ b. not (b && list_any is_default (front ++ case ∷ back)) && has_one_default (front ++ case ∷ back)) e
        ∙ later k

one_more_default : (front : List Case) (case : Case)
    → (is_default case && list_any is_default front) ≡ false → has_one_default front ≡ true
    → has_one_default (front ++ case ∷ []) ≡ true
one_more_default [] case apart one = go (is_default case)
  where
    go : (d : Bool) → (not (d && false) && true) ≡ true
    go true = refl
    go false = refl
one_more_default (first ∷ front) case apart one =
    ap (λ b. not (is_default first && b) && has_one_default (front ++ case ∷ []))
    (list_any-append is_default front (case ∷ []))
    ∙ go (is_default first) (is_default case) (list_any is_default front) (has_one_default front)
    (has_one_default (front ++ case ∷ [])) apart one (one_more_default front case)
  where
    go : (f d among h r : Bool) → (d && (f || among)) ≡ false → (not (f && among) && h) ≡ true
        → ((d && among) ≡ false → h ≡ true → r ≡ true) → (not (f && (among || (d || false))) && r) ≡ true
    go true true among h r apart one later = let bad : ⊥ = cc in absurd bad
    go true false true h r apart one later = let bad : ⊥ = cc in absurd bad
    go true false false h r apart one later = later refl one
    go false d among h r apart one later = later apart one

-- the cases so far have at most one default, and that one is found
pub record DefaultsSoFar (front : List Case) (found : Bool) : Type 0 where
  pub one : has_one_default front ≡ true
  pub is : found ≡ list_any is_default front

-- one more case is looked at, where the loop goes over the items of the cases
pub default_next : {cases items : List Case} {found : Bool} (i : ℕ) (d : Case) → items ≡ cases → i < length items
    → DefaultsSoFar (take i cases) found → (is_default (get_or items i d) && found) ≡ false
    → DefaultsSoFar (take (i + 1) cases) (found || is_default (get_or items i d))
default_next {cases} {items} {found} i d same below so_far once =
    let case = get_or items i d in
    let more : take (i + 1) cases ≡ take i cases ++ case ∷ [] = ap (take (i + 1)) (sym same) ∙ take_more items i d below
    ∙ ap (λ z. take i z ++ case ∷ []) same in
    record {
      one = ap has_one_default more ∙ one_more_default (take i cases) case
          (ap (λ b. is_default case && b) (sym so_far.is) ∙ once) so_far.one;
      is = ap (λ b. b || is_default case) so_far.is
          ∙ sym (ap (list_any is_default) more ∙ list_any-append is_default (take i cases) (case ∷ [])
          ∙ ap (λ b. list_any is_default (take i cases) || b) (or-false (is_default case)));
    }

take_drop_more : (cases : List Case) (i : ℕ) (d : Case) → i < length cases
    → cases ≡ take i cases ++ get_or cases i d ∷ drop (suc i) cases
take_drop_more [] i d below = absurd (omega arith)
take_drop_more (case ∷ cases) zero d below = refl
take_drop_more (case ∷ cases) (suc i) d below = ap (λ z. case ∷ z) (take_drop_more cases i d (omega arith))

pub default_again : {cases items : List Case} {found : Bool} (i : ℕ) (d : Case) → items ≡ cases → i < length items
    → DefaultsSoFar (take i cases) found → (is_default (get_or items i d) && found) ≡ true
    → has_one_default cases ≡ false
default_again {cases} {items} i d same below so_far again =
    let both = and_parts _ _ again in
    ap has_one_default (sym same ∙ take_drop_more items i d below)
    ∙ two_defaults (take i items) (drop (suc i) items) (get_or items i d) both.0
    (ap (λ z. list_any is_default (take i z)) same ∙ sym so_far.is ∙ both.1)
