-- The environment with early returns: its identifiers begin with those that were there, and its early return labels are
-- those that were there and the new ones.
use Rattle.std.proofs.Common.{◌≡◌, ◌∙◌, ◌<◌, ℕ, zero, suc, Bool, true, false, List, [], ◌∷◌, ◌++◌, Option, None}
use Rattle.std.proofs.Common.{Some}
use Rattle.std.proofs.Common.{append_assoc, arith, length, slice_get, slice_set, refl, sym, ap}
use Rattle.std.specs.Prelude.{◌||◌, is_some, option_map}
use Rattle.std.specs.Option.{option_map_or}
use Rattle.std.proofs.lemmas.List.{append-nil}
use Rattle.std.proofs.Math.Bool.{or_assoc}
use Rattle.std.specs.List.{list_any}
use Rattle.rc_names.specs.Numbers.{BlockId, same_id}
use Rattle.rc_hir.specs.Environment.{with_identifier}
use Rattle.rc_hir.specs.Model.{Environment, Identifier, ReactiveScope, ReactiveScopeEarlyReturn}
use Rattle.rc_runs.specs.EarlyReturns.{returns_early}
use Rattle.rc_runs.specs.Returning.{is_label_of}
use Rattle.rc_early.specs.Entries.{returning, set_if, with_early_return, with_early_returns, with_entry}
use Rattle.rc_early.specs.Entries.{with_variable}
use Rattle.rc_early.specs.declared.early_return.EarlyReturn.{EarlyReturn}

-- an element of a list is in the list with more after it, at its index
slice_get-append : {X : Type 0} (xs ys : List X) (i : ℕ) → i < length xs → slice_get (xs ++ ys) i ≡ slice_get xs i
slice_get-append [] ys i lt = absurd (omega arith)
slice_get-append (x ∷ xs) ys zero lt = refl
slice_get-append (x ∷ xs) ys (suc i) lt = slice_get-append xs ys i (omega arith)

-- the second list begins with the first one
abbrev Begins : List Identifier → List Identifier → Type 0
Begins xs ys = (more : List Identifier) × (ys ≡ xs ++ more)

further : (xs ys zs : List Identifier) → Begins xs ys → Begins ys zs → Begins xs zs
further xs ys zs first second =
    (first.0 ++ second.0, second.1 ∙ ap (λ l. l ++ second.0) first.1 ∙ append_assoc xs first.0 second.0)

entries_begin : (early : EarlyReturn) (env : Environment)
    → Begins env.identifiers (with_early_return early env).identifiers
entries_begin early env =
    let span = early.entry.span in
    let one = with_variable span env in
    let two = with_identifier span one in
    let three = with_identifier span two in
    let four = with_identifier span three in
    further env.identifiers one.identifiers (with_identifier span four).identifiers (_, refl)
    (further one.identifiers two.identifiers (with_identifier span four).identifiers (_, refl)
    (further two.identifiers three.identifiers (with_identifier span four).identifiers (_, refl)
    (further three.identifiers four.identifiers (with_identifier span four).identifiers (_, refl) (_, refl))))

-- the identifiers that were there
begins : (made : List EarlyReturn) (env : Environment)
    → Begins env.identifiers (with_early_returns made env).identifiers
begins [] env = ([], sym (append-nil env.identifiers))
begins (early ∷ made) env = further _ _ _ (entries_begin early env) (begins made (with_early_return early env))

pub same_identifiers : (made : List EarlyReturn) (env : Environment) (n : ℕ) → n < length env.identifiers
    → slice_get (with_early_returns made env).identifiers n ≡ slice_get env.identifiers n
same_identifiers made env n lt =
    let more = begins made env in
    ap (λ xs. slice_get xs n) more.1 ∙ slice_get-append env.identifiers more.0 n lt

-- one more early return
pub one_more : (made : List EarlyReturn) (early : EarlyReturn) (env : Environment)
    → with_early_returns (made ++ early ∷ []) env ≡ with_early_return early (with_early_returns made env)
one_more [] early env = refl
one_more (first ∷ made) early env = one_more made early (with_early_return first env)

or_comm : (a b : Bool) → (a || b) ≡ (b || a)
or_comm true true = refl
or_comm true false = refl
or_comm false true = refl
or_comm false false = refl

-- whether some element passes a test, after one that fails it was replaced
any_set : {X : Type 0} (p : X → Bool) (xs : List X) (i : ℕ) (x y : X) → slice_get xs i ≡ Some x → p x ≡ false
    → list_any p (slice_set xs i y) ≡ (list_any p xs || p y)
any_set p [] i x y e none = absurd (let bad : ⊥ = cc in bad)
any_set p (z ∷ zs) zero x y e none =
    let fails : p z ≡ false = ap p (let same : z ≡ x = cc in same) ∙ none in
    or_comm (p y) (list_any p zs) ∙ ap (λ b. (b || list_any p zs) || p y) (sym fails)
any_set p (z ∷ zs) (suc i) x y e none =
    ap (λ b. p z || b) (any_set p zs i x y e none) ∙ sym (or_assoc (p z) (list_any p zs) (p y))

-- an element at another index stays
get_other : {X : Type 0} (xs : List X) (i j : ℕ) (y : X) → ¬ (j ≡ i) → slice_get (slice_set xs i y) j ≡ slice_get xs j
get_other [] i j y apart = refl
get_other (x ∷ xs) zero zero y apart = absurd (apart refl)
get_other (x ∷ xs) zero (suc j) y apart = refl
get_other (x ∷ xs) (suc i) zero y apart = refl
get_other (x ∷ xs) (suc i) (suc j) y apart = get_other xs i j y (λ e. apart (ap suc e))

-- a scope without an early return has no label
unset_label : (block : BlockId) (scope : ReactiveScope) → returns_early scope ≡ false
    → is_label_of block scope ≡ false
unset_label block scope unset = by scope.early_return_value unset
  where
    by : (early : Option ReactiveScopeEarlyReturn) → is_some early ≡ false
        → option_map_or (λ early. same_id early.label block) early false ≡ false
    by None unset = refl
    by (Some early) unset = absurd (let bad : ⊥ = cc in bad)

-- an early return of a scope that has none adds its label, and leaves other scopes
module _ (early : EarlyReturn) (scopes : List ReactiveScope) (scope : ReactiveScope)
    (there : slice_get scopes early.scope.0 ≡ Some scope) where
  entered : with_entry early scopes
      ≡ slice_set scopes early.scope.0 (returning early.scope early.entry scope)
  entered = ap (λ found. set_if scopes early.scope.0 (option_map (returning early.scope early.entry) found)) there

  pub label_added : (block : BlockId) → returns_early scope ≡ false
      → list_any (is_label_of block) (with_entry early scopes)
      ≡ (list_any (is_label_of block) scopes || same_id early.entry.label block)
  label_added block unset = ap (list_any (is_label_of block)) entered
      ∙ any_set (is_label_of block) scopes early.scope.0 scope (returning early.scope early.entry scope) there
      (unset_label block scope unset)

  pub others_stay : (n : ℕ) → ¬ (n ≡ early.scope.0) → slice_get (with_entry early scopes) n ≡ slice_get scopes n
  others_stay n apart = ap (λ xs. slice_get xs n) entered
      ∙ get_other scopes early.scope.0 n (returning early.scope early.entry scope) apart
