-- The distinct scopes of blocks have a scope exactly where a block has it.
use Rattle.std.proofs.Common.{◌≡◌, ◌∙◌, ◌||◌, Bool, true, false, List, [], ◌∷◌, ◌++◌, ap, if◌then◌else◌, refl, subst, sym}
use Rattle.std.proofs.lemmas.List.Folds.{list_any-append}
use Rattle.indexmap.specs.IndexSet.{insert_key}
use Rattle.rc_names.specs.Numbers.{ScopeId, is_among, same_id}
use Rattle.rc_names.proofs.NumbersLemmas.{same_id-eq}
use Rattle.rc_checks.specs.declared.membership.open_scopes.OpenBlock.{OpenBlock}
use Rattle.rc_checks.specs.inside.OpenScopes.{distinct_scopes, scopes_of}

last_first : (a b : Bool) → (a || (b || false)) ≡ (b || a)
last_first true true = refl
last_first true false = refl
last_first false true = refl
last_first false false = refl

-- where another scope is opened
among_opened : (scopes : List ScopeId) (opened scope : ScopeId)
    → is_among (insert_key same_id scopes opened) scope ≡ (same_id scope opened || is_among scopes scope)
among_opened scopes opened scope = go (is_among scopes opened) refl
  where
    again : is_among scopes opened ≡ true → (same : Bool) → same_id scope opened ≡ same
        → is_among scopes scope ≡ (same || is_among scopes scope)
    again there true e = subst (λ s. is_among scopes s ≡ true) (sym (same_id-eq scope opened e)) there
    again there false e = refl

    go : (there : Bool) → is_among scopes opened ≡ there
        → is_among (if there then scopes else scopes ++ opened ∷ []) scope
        ≡ (same_id scope opened || is_among scopes scope)
    go true e = again e (same_id scope opened) refl
    go false e = list_any-append (same_id scope) scopes (opened ∷ [])
        ∙ last_first (is_among scopes scope) (same_id scope opened)

pub among_distinct : (blocks : List OpenBlock) (scope : ScopeId)
    → is_among (distinct_scopes blocks) scope ≡ is_among (scopes_of blocks) scope
among_distinct [] scope = refl
among_distinct (block ∷ outer) scope =
    among_opened (distinct_scopes outer) block.scope scope
    ∙ ap (λ b. same_id scope block.scope || b) (among_distinct outer scope)
