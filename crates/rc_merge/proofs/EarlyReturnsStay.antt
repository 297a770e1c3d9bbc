-- Merging gives no scope an early return.
use Rattle.std.proofs.Common.{◌≡◌, ◌∙◌, ◌≤◌, ℕ, zero, suc, Bool, true, false, List, [], ◌∷◌, Option, None, Some, length}
use Rattle.std.proofs.Common.{map, get_or, arith, le-ltb, lt-ltb, refl, ap, inl, inr}
use Rattle.std.proofs.lemmas.Bool.{cases_lt}
use Rattle.std.proofs.lemmas.List.Sums.{position_or_len_is}
use Rattle.std.specs.List.{position, position_or_len}
use Rattle.rc_hir.specs.Model.{Environment, InstructionValue, Place, ReactiveScope}
use Rattle.rc_names.specs.Numbers.{ScopeId, to_id}
use Rattle.rc_merge.proofs.DissolvesFresh.{any_parts}
use Rattle.rc_merge.proofs.GroupsHold.{Grows, ListFits, ValueFits, items_each, own_at, scopes_hold}
use Rattle.rc_merge.proofs.MergingFacts.{IsOfStates, merging_facts}
use Rattle.rc_merge.specs.Joining.{Copies}
use Rattle.rc_merge.specs.LastUses.{LastUses, last_uses_in}
use Rattle.rc_merge.specs.Merged.{Merges, Progress, met_list}
use Rattle.rc_merge.specs.Places.{NumberedScope, PassedRow, items_of, no_scope}
use Rattle.rc_runs.specs.EarlyReturns.{NoEarlyReturnSet, returns_early}
use Rattle.rc_tree.proofs.JoiningLemmas.{lists_monoid}
use Rattle.rc_tree.specs.CollectedValues.{instruction_of}
use Rattle.rc_tree.specs.Model.{ReactiveBlock, ReactiveStatement}
use Rattle.rc_tree.specs.ScopesIn.{scope_parts}
use Rattle.rc_tree.specs.Unrolled.{UnrolledStatement}
use Rattle.rc_tree.specs.declared.fate.ScopeFate.{ScopeFate}
use Rattle.rc_tree.specs.declared.statement.ReactiveStatement.{out-ReactiveStatement}
use Rattle.rc_tree.specs.declared.statement.ReactiveStatement.TheOpen as layer

-- the scope with each number has no early return
abbrev HaveNone : List ReactiveScope → Type 0
HaveNone scopes = (n : ScopeId) → returns_early (own_at scopes n) ≡ false

-- where none is found before the end, none has one
none_before : (scopes : List ReactiveScope) → length scopes ≤ position_or_len returns_early scopes → (k : ℕ)
    → returns_early (own_at scopes (to_id k)) ≡ false
none_before [] past k = refl
none_before (x ∷ xs) past k = by (none_before xs) (returns_early x) refl past k
  where
    by : (length xs ≤ position_or_len returns_early xs → (k : ℕ) → returns_early (own_at xs (to_id k)) ≡ false)
        → (early : Bool) → returns_early x ≡ early
        → length (x ∷ xs) ≤ position_or_len returns_early (x ∷ xs) → (k : ℕ)
        → returns_early (own_at (x ∷ xs) (to_id k)) ≡ false
    by rest true is past k = absurd (omega (arith, rw is at past))
    by rest false is past zero = is
    by rest false is past (suc k) = rest (omega (arith, rw is at past)) k

each_none : (scopes : List ReactiveScope) → position returns_early scopes ≡ None → HaveNone scopes
each_none scopes none n = elim (cases_lt (position_or_len returns_early scopes) (length scopes)) [
  | inl inside ↦ absurd (let bad : ⊥ = cc (rw (lt-ltb (position_or_len returns_early scopes) (length scopes) inside)
      at none) in bad)
  | inr past ↦ none_before scopes (omega (arith, past)) n.0
]

own_or : (scopes : List ReactiveScope) (k : ℕ) → get_or scopes k no_scope ≡ own_at scopes (to_id k)
own_or [] k = refl
own_or (x ∷ xs) zero = refl
own_or (x ∷ xs) (suc k) = own_or xs k

none_found : (scopes : List ReactiveScope) → HaveNone scopes → position returns_early scopes ≡ None
none_found scopes none =
    let past : position_or_len returns_early scopes ≡ length scopes =
    position_or_len_is returns_early scopes (length scopes) no_scope (omega arith)
    (λ k below. ap returns_early (own_or scopes k) ∙ none (to_id k)) (λ below. absurd (omega (arith, below))) in
    rw (past, le-ltb (length scopes) (length scopes) (omega arith)) refl

module _ (env : Environment) (uses : LastUses) where
  abbrev HasNone : NumberedScope → Type 0
  HasNone scope = returns_early scope.own ≡ false

  abbrev AnyRow : PassedRow → Type 0
  AnyRow row = Unit {0}

  module _ (scopes : List ReactiveScope) (none : HaveNone scopes) where
    any_value : (target : Option Place) (value : Option InstructionValue)
        → ValueFits env HasNone AnyRow scopes target value
    any_value target None = tt
    any_value target (Some value) = λ is. tt

    list_fits : (us : List UnrolledStatement) → ListFits env HasNone AnyRow scopes us
    list_fits [] = tt
    list_fits (layer.Instruction row ∷ us) = (any_value row.lvalue (instruction_of row.value), list_fits us)
    list_fits (layer.Terminal x ∷ us) = (tt, list_fits us)
    list_fits (layer.PrunedScope x ∷ us) = (tt, list_fits us)
    list_fits (layer.Scope block ∷ us) = (none block.scope, list_fits us)

  -- a head has one exactly where it had one before
  grows : (copies : Copies) → Grows env HasNone AnyRow uses copies
  grows copies before each head scope joined one other = one

  list_stays : (met : Progress) (xs : List ReactiveStatement) → HaveNone met.scopes
      → HaveNone (met_list env uses xs met).0.scopes
  list_stays met xs none n =
      let us = map out-ReactiveStatement xs in
      scopes_hold env HasNone AnyRow uses met.copies (grows met.copies) (λ number own. returns_early own ≡ false)
      (λ scope it. it) met.scopes (items_of env met.scopes us)
      (items_each env HasNone AnyRow met.scopes us [] (list_fits met.scopes none us) tt) n (none n)

  states : IsOfStates env uses (λ met. HaveNone met.scopes) (λ scopes. Unit {0}) scope_parts
  states = record {
    around = λ met scope stays. stays;
    dissolved = λ met parent scope stays gives. stays;
    list = λ met xs stays known. list_stays met xs stays;
  }

-- where no scope has an early return, none has one after merging
pub still_none : (before : ReactiveBlock) (old : Environment) (after : ReactiveBlock) (new : Environment)
    (log : List ScopeFate) → Merges before old after new log → NoEarlyReturnSet old → NoEarlyReturnSet new
still_none before old after new log merges none =
    none_found new.scopes (merging_facts (λ scopes. Unit {0}) scope_parts lists_monoid any_parts
    (λ met. HaveNone met.scopes) before old after new log (states old (last_uses_in old before)) merges tt
    (each_none old.scopes none)).0
