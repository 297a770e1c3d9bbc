-- A set of names with one more.
use Rattle.std.proofs.Common.{◌≡◌, ◌∙◌, ◌||◌, Bool, true, false, List, [], ◌∷◌, ◌++◌, if◌then◌else◌, refl, subst, sym}
use Rattle.std.proofs.lemmas.List.Folds.{list_any-append}
use Rattle.indexmap.specs.IndexSet.{insert_key}
use Rattle.rc_names.specs.Numbers.{DeclarationId, is_among, same_id}
use Rattle.rc_names.proofs.NumbersLemmas.{same_id-eq}

last_first : (a b : Bool) → (a || (b || false)) ≡ (b || a)
last_first true true = refl
last_first true false = refl
last_first false true = refl
last_first false false = refl

pub among_inserted : (names : List DeclarationId) (new name : DeclarationId)
    → is_among (insert_key same_id names new) name ≡ (same_id name new || is_among names name)
among_inserted names new name = by (is_among names new) refl
  where
    again : is_among names new ≡ true → (same : Bool) → same_id name new ≡ same
        → is_among names name ≡ (same || is_among names name)
    again there true e = subst (λ n. is_among names n ≡ true) (sym (same_id-eq name new e)) there
    again there false e = refl

    by : (there : Bool) → is_among names new ≡ there
        → is_among (if there then names else names ++ new ∷ []) name ≡ (same_id name new || is_among names name)
    by true e = again e (same_id name new) refl
    by false e = list_any-append (same_id name) names (new ∷ []) ∙ last_first (is_among names name) (same_id name new)
