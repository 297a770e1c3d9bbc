-- The first name that is missing, as facts come after others.
use Rattle.std.proofs.Common.{◌≡◌, ◌∙◌, ◌++◌, List, [], ◌∷◌, Option, None, Some, ap, append-nil, append_assoc, is_some}
use Rattle.std.proofs.Common.{sym, true≢false}
use Rattle.rc_names.specs.Numbers.{DeclarationId}
use Rattle.rc_memo.specs.Facts.{Fact, first_missing, missing_now, needed_by, or_else}

pub none_some : {X : Type 0} {x : X} → ◌≡◌ {A = Option X} None (Some x) → ⊥
none_some is = true≢false (sym (ap is_some is))

-- what is missing among some facts and more
pub missing_next : (before facts more : List Fact) → first_missing before facts ≡ None
    → first_missing before (facts ++ more) ≡ first_missing (before ++ facts) more
missing_next before [] more none = ap (λ w. first_missing w more) (sym (append-nil before))
missing_next before (fact ∷ facts) more none =
    go (missing_now before (needed_by fact)) none (λ g. missing_next (before ++ fact ∷ []) facts more g
    ∙ ap (λ w. first_missing w more) (append_assoc before (fact ∷ []) facts))
  where
    go : (now : Option DeclarationId) → or_else now (first_missing (before ++ fact ∷ []) facts) ≡ None
        → (first_missing (before ++ fact ∷ []) facts ≡ None
        → first_missing (before ++ fact ∷ []) (facts ++ more) ≡ first_missing (before ++ (fact ∷ facts)) more)
        → or_else now (first_missing (before ++ fact ∷ []) (facts ++ more))
        ≡ first_missing (before ++ (fact ∷ facts)) more
    go None g later = later g
    go (Some x) g later = cc

pub missing_kept : (before facts more : List Fact) (name : DeclarationId) → first_missing before facts ≡ Some name
    → first_missing before (facts ++ more) ≡ Some name
missing_kept before [] more name is = cc
missing_kept before (fact ∷ facts) more name is =
    go (missing_now before (needed_by fact)) is (λ g. missing_kept (before ++ fact ∷ []) facts more name g)
  where
    go : (now : Option DeclarationId) → or_else now (first_missing (before ++ fact ∷ []) facts) ≡ Some name
        → (first_missing (before ++ fact ∷ []) facts ≡ Some name
        → first_missing (before ++ fact ∷ []) (facts ++ more) ≡ Some name)
        → or_else now (first_missing (before ++ fact ∷ []) (facts ++ more)) ≡ Some name
    go None g later = later g
    go (Some x) g later = g
