-- The cases of a switch that a tree keeps: each case is kept, or leads past them all.
use Rattle.std.proofs.Common.{◌≡◌, List, [], ◌∷◌, Bool, true, false, ◌&&◌, ◌||◌, not, if◌then◌else◌, Option, Some, None}
use Rattle.std.proofs.Common.{is_none, refl, sym, ap, ◌∙◌}
use Rattle.std.proofs.lemmas.Bool.{or_parts, or_from, or_left, or_right}
use Rattle.std.specs.List.{list_any, filter}
use Rattle.rc_names.specs.Numbers.{BlockId}
use Rattle.rc_hir.specs.Model.{Place, Case, HirFunction, Environment}
use Rattle.rc_hir.specs.Successors.{is_default}
use Rattle.rc_runs.specs.GraphRun.{InCases, first, later}
use Rattle.rc_runs.specs.ListContext.{ListContext}
use Rattle.rc_runs.specs.PlainTree.{Cases}
use Rattle.rc_runs.specs.SwitchCases.{leads_past, is_kept, kept_cases, has_one_default}
use Rattle.rc_runs.specs.Grammar.{SpellsCases, no_cases, one_case}
use Rattle.rc_runs.specs.BodyRun.{has_default}
use Rattle.rc_names.proofs.NumbersLemmas.{same_id-eq}

-- the tree's cases have a default exactly if a kept case is one
pub same_default : {hir : HirFunction} {env : Environment} {kept : List Case} {context : ListContext} {cases : Cases}
    {used : List BlockId} → SpellsCases hir env kept context cases used
    → list_any is_default kept ≡ has_default cases
same_default no_cases = refl
same_default (one_case {case = case} cases part w) = ap (λ others. is_none case.test || others) (same_default cases)

-- some case is a default if this one is
pub in_any : {case : Case} {cases : List Case} → InCases case cases → is_default case ≡ true
    → list_any is_default cases ≡ true
in_any (first {other = other} {cases = cases} same) h =
    or_left (is_default other) (list_any is_default cases) (sym (ap is_default same) ∙ h)
in_any (later {other = other} {cases = cases} among) h =
    or_right (is_default other) (list_any is_default cases) (in_any among h)

module _ (keep : Case → Bool) where
  -- a case that passes a filter is among the filtered cases
  in_filter : {case : Case} {cases : List Case} → InCases case cases → keep case ≡ true
      → InCases case (filter keep cases)
  in_filter {case} (first {other = other} {cases = cases} same) h = go (keep other) (sym (ap keep same) ∙ h)
    where
      go : (kept : Bool) → kept ≡ true
          → InCases case (if kept then other ∷ filter keep cases else filter keep cases)
      go true q = first same
      go false q = absurd (let bad : ⊥ = cc in bad)
  in_filter {case} (later {other = other} {cases = cases} among) h = go (keep other) (in_filter among h)
    where
      go : (kept : Bool) → InCases case (filter keep cases)
          → InCases case (if kept then other ∷ filter keep cases else filter keep cases)
      go true there = later there
      go false there = there

  -- a case that is no default, before others
  no_default_before : (case : Case) (cases : List Case) → is_default case ≡ false
      → list_any is_default (filter keep cases) ≡ false → list_any is_default (filter keep (case ∷ cases)) ≡ false
  no_default_before case cases here rest = go (keep case)
    where
      go : (kept : Bool) → list_any is_default (if kept then case ∷ filter keep cases else filter keep cases) ≡ false
      go true = or_from (is_default case) (list_any is_default (filter keep cases)) here rest
      go false = rest

  -- a filter adds no default
  none_kept : (cases : List Case) → list_any is_default cases ≡ false → list_any is_default (filter keep cases) ≡ false
  none_kept [] none = refl
  none_kept (case ∷ cases) none =
      let h = or_parts (is_default case) (list_any is_default cases) none in
      no_default_before case cases h.0 (none_kept cases h.1)

  -- a filter that takes the one default away leaves none
  none_left : {case : Case} {cases : List Case} → InCases case cases → has_one_default cases ≡ true
      → is_default case ≡ true → keep case ≡ false → list_any is_default (filter keep cases) ≡ false
  none_left (first {other = other} {cases = cases} same) one h k =
      ap (λ kept. list_any is_default (if kept then other ∷ filter keep cases else filter keep cases))
      (sym (ap keep same) ∙ k) ∙ none_kept cases (alone (is_default other) (list_any is_default cases)
      (has_one_default cases) (sym (ap is_default same) ∙ h) one)
    where
      alone : (here others rest : Bool) → here ≡ true → not (here && others) && rest ≡ true → others ≡ false
      alone true true rest e q = absurd (let bad : ⊥ = cc in bad)
      alone true false rest e q = refl
      alone false others rest e q = absurd (let bad : ⊥ = cc in bad)
  none_left (later {other = other} {cases = cases} among) one h k =
      let parts = apart (is_default other) (list_any is_default cases) (has_one_default cases) (in_any among h) one in
      no_default_before other cases parts.0 (none_left among parts.1 h k)
    where
      apart : (here others rest : Bool) → others ≡ true → not (here && others) && rest ≡ true
          → (here ≡ false) × (rest ≡ true)
      apart true others rest e q = absurd (let bad : ⊥ = cc in bad)
      apart false others rest e q = (refl, q)

-- a case of a switch is kept, or leads to the fallthrough, and then no default is kept
pub data Kept (kept : List Case) (fallthrough : BlockId) (case : Case) : Type 0 where
  is_there : InCases case kept → Kept kept fallthrough case
  leads_on : case.test ≡ None → case.block ≡ fallthrough → list_any is_default kept ≡ false
      → Kept kept fallthrough case

pub kept_or_past : (is_target : Bool) (fallthrough : BlockId) (case : Case) (cases : List Case)
    → has_one_default cases ≡ true → InCases case cases
    → Kept (kept_cases is_target fallthrough cases) fallthrough case
kept_or_past is_target f case cases one among = go (is_kept is_target f case) refl
  where
    left_out : (default past target : Bool) → not (default && (past && target)) ≡ false
        → (default ≡ true) × (past ≡ true)
    left_out true true true e = (refl, refl)
    left_out true true false e = absurd (let bad : ⊥ = cc in bad)
    left_out true false target e = absurd (let bad : ⊥ = cc in bad)
    left_out false past target e = absurd (let bad : ⊥ = cc in bad)

    no_test : (test : Option Place) → is_none test ≡ true → test ≡ None
    no_test None e = refl
    no_test (Some place) e = absurd (let bad : ⊥ = cc in bad)

    go : (kept : Bool) → is_kept is_target f case ≡ kept → Kept (kept_cases is_target f cases) f case
    go true k = is_there (in_filter (is_kept is_target f) among k)
    go false k =
        let h = left_out (is_default case) (leads_past f case) is_target k in
        leads_on (no_test case.test h.0) (same_id-eq case.block f h.1)
        (none_left (is_kept is_target f) among one h.0 k)

-- no default is kept if there is none
pub none_among_kept : (is_target : Bool) (fallthrough : BlockId) (cases : List Case)
    → list_any is_default cases ≡ false → list_any is_default (kept_cases is_target fallthrough cases) ≡ false
none_among_kept is_target f cases none = none_kept (is_kept is_target f) cases none
