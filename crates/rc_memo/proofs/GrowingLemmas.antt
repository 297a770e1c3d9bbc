-- Sets and maps that grow as events come.
use Rattle.std.proofs.Common.{◌≡◌, ◌∙◌, ◌++◌, Bool, true, false, List, [], ◌∷◌, Option, None, Some, ap, append-nil}
use Rattle.std.proofs.Common.{append_assoc, cond, refl, subst, sym}
use Rattle.std.specs.Prelude.{◌||◌}
use Rattle.std.specs.List.{list_any}
use Rattle.std.specs.Map.{keys_of, lookup}
use Rattle.std.proofs.lemmas.List.{map-append}
use Rattle.indexmap.specs.IndexMap.{insert_entry}
use Rattle.indexmap.specs.IndexSet.{insert_key}
use Rattle.rc_hir.specs.Model.{Environment}
use Rattle.rc_names.proofs.NumbersLemmas.{same_id-eq}
use Rattle.rc_names.specs.Numbers.{DeclarationId, ScopeId, same_id}
use Rattle.rc_names.specs.declared.numbers.Id.{Id}
use Rattle.rc_memo.proofs.DistinctLemmas.{distinct_push}
use Rattle.rc_memo.proofs.NodesLemmas.{itself}
use Rattle.rc_memo.specs.Facts.{distinct}
use Rattle.rc_memo.specs.Record.{dependency_names, recorded_scopes}
use Rattle.rc_memo.specs.inside.Growing.{AddsScopes, insert_all}

module _ {K : Type 0} where
  -- distinct keys with some more
  pub distinct-all : (keys more : List (Id K))
      → distinct same_id (keys ++ more) ≡ insert_all (distinct same_id keys) more
  distinct-all keys [] = ap (distinct same_id) (append-nil keys)
  distinct-all keys (key ∷ more) =
      ap (distinct same_id) (sym (append_assoc keys (key ∷ []) more)) ∙ distinct-all (keys ++ key ∷ []) more
      ∙ ap (λ w. insert_all w more) (distinct_push same_id same_id-eq itself keys key)

  -- more keys after some
  pub insert_all-append : (keys first second : List (Id K))
      → insert_all (insert_all keys first) second ≡ insert_all keys (first ++ second)
  insert_all-append keys [] second = refl
  insert_all-append keys (key ∷ first) second = insert_all-append (insert_key same_id keys key) first second

module _ (env : Environment) where
  keys_recorded : (scopes : List ScopeId) → keys_of (recorded_scopes env scopes) ≡ scopes
  unfolding recorded_scopes
  keys_recorded [] = refl
  keys_recorded (scope ∷ scopes) = ap (λ w. scope ∷ w) (keys_recorded scopes)

  recorded-push : (scopes : List ScopeId) (scope : ScopeId) → recorded_scopes env (scopes ++ scope ∷ [])
      ≡ recorded_scopes env scopes ++ (scope, dependency_names env scope) ∷ []
  unfolding recorded_scopes
  recorded-push scopes scope = map-append (λ (s : ScopeId). (s, dependency_names env s)) scopes (scope ∷ [])

  absent_put : (scope : ScopeId) (names : List DeclarationId) (es : List (ScopeId × List DeclarationId))
      → list_any (same_id scope) (keys_of es) ≡ false → insert_entry same_id es scope names ≡ es ++ (scope, names) ∷ []
  absent_put scope names [] none = refl
  absent_put scope names (e ∷ es) none = go (same_id scope e.0) none (λ g. absent_put scope names es g)
    where
      go : (b : Bool) → (b || list_any (same_id scope) (keys_of es)) ≡ false
          → (list_any (same_id scope) (keys_of es) ≡ false → insert_entry same_id es scope names ≡ es ++ (scope, names)
          ∷ [])
          → cond b ((e.0, names) ∷ es) (e ∷ insert_entry same_id es scope names) ≡ e ∷ (es ++ (scope, names) ∷ [])
      go true g r = cc
      go false g r = ap (λ w. e ∷ w) (r g)

  is_there : (scope : ScopeId) (es : List (ScopeId × List DeclarationId)) (found : Option (List DeclarationId))
      → found ≡ lookup (same_id scope) es → (b : Bool) → list_any (same_id scope) (keys_of es) ≡ b
      → cond b ((names : List DeclarationId) × (found ≡ Some names)) (found ≡ None)
  is_there scope [] found is true b = cc
  is_there scope [] found is false b = is
  is_there scope (e ∷ es) found is b any =
      go (same_id scope e.0) is any (λ h g. is_there scope es found h b g)
    where
      go : (c : Bool) → found ≡ cond c (Some e.1) (lookup (same_id scope) es)
          → (c || list_any (same_id scope) (keys_of es)) ≡ b
          → (found ≡ lookup (same_id scope) es → list_any (same_id scope) (keys_of es) ≡ b
          → cond b ((names : List DeclarationId) × (found ≡ Some names)) (found ≡ None))
          → cond b ((names : List DeclarationId) × (found ≡ Some names)) (found ≡ None)
      go true h g r =
          subst (λ w. cond w ((names : List DeclarationId) × (found ≡ Some names)) (found ≡ None)) g (e.1, h)
      go false h g r = r h g

  -- a scope that has a record stays as it is
  pub adds_known_scope : (scope : ScopeId) (names : List DeclarationId) (old : List (ScopeId × List DeclarationId))
      → Some names ≡ lookup (same_id scope) old → AddsScopes env (scope ∷ []) old old
  unfolding AddsScopes
  adds_known_scope scope names old found before is =
      by (list_any (same_id scope) (keys_of old)) refl (is_there scope old (Some names) found _ refl)
    where
      keys : keys_of old ≡ distinct same_id before
      keys = ap keys_of is ∙ keys_recorded (distinct same_id before)

      by : (b : Bool) → list_any (same_id scope) (keys_of old) ≡ b
          → cond b ((others : List DeclarationId) × (Some names ≡ Some others)) (Some names ≡ None)
          → old ≡ recorded_scopes env (distinct same_id (before ++ scope ∷ []))
      by true any h = is ∙ ap (recorded_scopes env) (sym (distinct_push same_id same_id-eq itself before scope
          ∙ ap (λ w. cond w (distinct same_id before) (distinct same_id before ++ scope ∷ []))
          (ap (list_any (same_id scope)) (sym keys) ∙ any)))
      by false any h = cc

  -- a new scope gets its record at the end
  pub adds_new_scope : (scope : ScopeId) (names : List DeclarationId) (old new : List (ScopeId × List DeclarationId))
      → None ≡ lookup (same_id scope) old → names ≡ dependency_names env scope
      → new ≡ insert_entry same_id old scope names → AddsScopes env (scope ∷ []) old new
  unfolding AddsScopes
  adds_new_scope scope names old new none those put before is =
      by (list_any (same_id scope) (keys_of old)) refl (is_there scope old None none _ refl)
    where
      keys : keys_of old ≡ distinct same_id before
      keys = ap keys_of is ∙ keys_recorded (distinct same_id before)

      by : (b : Bool) → list_any (same_id scope) (keys_of old) ≡ b
          → cond b ((others : List DeclarationId) × ◌≡◌ {A = Option (List DeclarationId)} None (Some others))
          (◌≡◌ {A = Option (List DeclarationId)} None None)
          → new ≡ recorded_scopes env (distinct same_id (before ++ scope ∷ []))
      by true any h = let e = h.1 in cc
      by false any h = put ∙ absent_put scope names old any ∙ ap (λ w. w ++ (scope, names) ∷ []) is
          ∙ ap (λ w. recorded_scopes env (distinct same_id before) ++ (scope, w) ∷ []) those
          ∙ sym (recorded-push (distinct same_id before) scope)
          ∙ ap (recorded_scopes env) (sym (distinct_push same_id same_id-eq itself before scope
          ∙ ap (λ w. cond w (distinct same_id before) (distinct same_id before ++ scope ∷ []))
          (ap (list_any (same_id scope)) (sym keys) ∙ any)))

  pub adds_no_scopes : (old : List (ScopeId × List DeclarationId)) → AddsScopes env [] old old
  unfolding AddsScopes
  adds_no_scopes old before is = is ∙ ap (λ w. recorded_scopes env (distinct same_id w)) (sym (append-nil before))

  pub adds_scopes_next : (first second : List ScopeId) (old mid new : List (ScopeId × List DeclarationId))
      → AddsScopes env first old mid → AddsScopes env second mid new → AddsScopes env (first ++ second) old new
  unfolding AddsScopes
  adds_scopes_next first second old mid new one two before is =
      two (before ++ first) (one before is)
      ∙ ap (λ w. recorded_scopes env (distinct same_id w)) (append_assoc before first second)
