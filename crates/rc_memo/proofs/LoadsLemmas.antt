-- The map of definitions holds the last loads, and a look into it resolves a name by them.
use Rattle.std.proofs.Common.{◌≡◌, ◌∙◌, ◌++◌, Bool, true, false, List, [], ◌∷◌, None, Some, ap, cond, map, refl, sym}
use Rattle.std.specs.Prelude.{◌||◌, unwrap_or}
use Rattle.std.specs.List.{list_any}
use Rattle.std.specs.Map.{lookup}
use Rattle.std.proofs.lemmas.List.{map-append}
use Rattle.indexmap.specs.IndexMap.{insert_entry}
use Rattle.indexmap.specs.IndexSet.{insert_key}
use Rattle.rc_names.proofs.NumbersLemmas.{same_id-eq}
use Rattle.rc_names.specs.Numbers.{DeclarationId, same_id}
use Rattle.rc_memo.proofs.NodeFactsLemmas.{keys_each}
use Rattle.rc_memo.proofs.DistinctLemmas.{any_distinct, distinct_is, distinct_push}
use Rattle.rc_memo.proofs.EntryLemmas.{insert_absent}
use Rattle.rc_memo.proofs.NodesLemmas.{itself, none_changed, one_changed}
use Rattle.rc_memo.specs.Events.{last_load, resolved_after, definitions_told}
use Rattle.rc_memo.specs.Facts.{at_each, distinct, or_else}
use Rattle.rc_memo.specs.inside.Nodes.{at_name}

last_push : (d : DeclarationId) (loads : List (DeclarationId × DeclarationId)) (t n : DeclarationId)
    → last_load d (loads ++ (t, n) ∷ []) ≡ cond (same_id d t) (Some n) (last_load d loads)
last_push d [] t n = refl
last_push d (p ∷ ps) t n =
    ap (λ w. or_else w (cond (same_id d p.0) (Some p.1) None)) (last_push d ps t n) ∙ go (same_id d t) where
      go : (b : Bool) → or_else (cond b (Some n) (last_load d ps)) (cond (same_id d p.0) (Some p.1) None)
          ≡ cond b (Some n) (or_else (last_load d ps) (cond (same_id d p.0) (Some p.1) None))
      go true = refl
      go false = refl

insert_there : (t n : DeclarationId) (es : List (DeclarationId × DeclarationId))
    → list_any (same_id t) (map (λ e. e.0) es) ≡ true → insert_entry same_id es t n ≡ at_name t (λ v. n) es
insert_there t n [] h = cc
insert_there t n (e ∷ es) h = go (same_id t e.0) h (λ g. insert_there t n es g) where
  go : (b : Bool) → (b || list_any (same_id t) (map (λ e. e.0) es)) ≡ true
      → (list_any (same_id t) (map (λ e. e.0) es) ≡ true → insert_entry same_id es t n ≡ at_name t (λ v. n) es)
      → cond b ((e.0, n) ∷ es) (e ∷ insert_entry same_id es t n) ≡ cond b ((e.0, n) ∷ es) (e ∷ at_name t (λ v. n) es)
  go true g r = refl
  go false g r = ap (λ w. e ∷ w) (r g)

after_here : (loads : List (DeclarationId × DeclarationId)) (t n : DeclarationId)
    → resolved_after (loads ++ (t, n) ∷ []) t ≡ n
after_here loads t n =
    ap (λ w. unwrap_or w t) (last_push t loads t n ∙ ap (λ w. cond w (Some n) (last_load t loads)) (itself t))

pub after_off : (loads : List (DeclarationId × DeclarationId)) (t n k : DeclarationId) → same_id t k ≡ false
    → resolved_after (loads ++ (t, n) ∷ []) k ≡ resolved_after loads k
after_off loads t n k off =
    ap (λ w. unwrap_or w k) (last_push k loads t n
    ∙ ap (λ w. cond w (Some n) (last_load k loads)) (turned (same_id k t) refl)) where
      turned : (b : Bool) → same_id k t ≡ b → same_id k t ≡ false
      turned false e = e
      turned true e = cc (same_id-eq k t e, off, itself k)

-- one more load is one entry put in
pub definitions_push : (loads : List (DeclarationId × DeclarationId)) (t n : DeclarationId)
    → definitions_told (loads ++ (t, n) ∷ []) ≡ insert_entry same_id (definitions_told loads) t n
definitions_push loads t n = ap (at_each (resolved_after more)) keys ∙ go (list_any (same_id t) ks) refl where
  more : List (DeclarationId × DeclarationId)
  more = loads ++ (t, n) ∷ []

  ks : List DeclarationId
  ks = distinct same_id (map (λ p. p.0) loads)

  keys : distinct same_id (map (λ p. p.0) (loads ++ (t, n) ∷ []))
      ≡ insert_key same_id (distinct same_id (map (λ p. p.0) loads)) t
  keys = ap (distinct same_id) (map-append (λ (p : DeclarationId × DeclarationId). p.0) loads ((t, n) ∷ []))
      ∙ distinct_push same_id same_id-eq itself (map (λ p. p.0) loads) t

  go : (b : Bool) → list_any (same_id t) (distinct same_id (map (λ p. p.0) loads)) ≡ b →
      at_each (resolved_after (loads ++ (t, n) ∷ []))
      (cond b (distinct same_id (map (λ p. p.0) loads)) (distinct same_id (map (λ p. p.0) loads) ++ t ∷ []))
      ≡ insert_entry same_id (definitions_told loads) t n
  go true e =
      one_changed (resolved_after loads) (resolved_after (loads ++ (t, n) ∷ [])) t (λ v. n) (after_here loads t n)
      (after_off loads t n) (distinct same_id (map (λ p. p.0) loads))
      (distinct_is same_id same_id-eq itself (map (λ p. p.0) loads)) e
      ∙ sym
      (insert_there t n (definitions_told loads)
      (ap (list_any (same_id t)) (keys_each (resolved_after loads) (distinct same_id (map (λ p. p.0) loads))) ∙ e))
  go false e =
      map-append (λ (k : DeclarationId). (k, resolved_after (loads ++ (t, n) ∷ []) k))
      (distinct same_id (map (λ p. p.0) loads)) (t ∷ [])
      ∙ ap (λ w. w ++ (t, resolved_after (loads ++ (t, n) ∷ []) t) ∷ [])
      (none_changed (resolved_after loads) (resolved_after (loads ++ (t, n) ∷ [])) t (λ v. n) (after_here loads t n)
      (after_off loads t n) (distinct same_id (map (λ p. p.0) loads)) e)
      ∙ ap (λ w. definitions_told loads ++ (t, w) ∷ []) (after_here loads t n)
      ∙ sym
      (insert_absent t n (definitions_told loads)
      (ap (list_any (same_id t)) (keys_each (resolved_after loads) (distinct same_id (map (λ p. p.0) loads))) ∙ e))

lookup_each : (g : DeclarationId → DeclarationId) (d : DeclarationId) (ks : List DeclarationId)
    → lookup (same_id d) (at_each g ks) ≡ cond (list_any (same_id d) ks) (Some (g d)) None
lookup_each g d [] = refl
lookup_each g d (k ∷ ks) = go (same_id d k) refl (lookup_each g d ks) where
  go : (b : Bool) → same_id d k ≡ b → lookup (same_id d) (at_each g ks)
      ≡ cond (list_any (same_id d) ks) (Some (g d)) None →
      cond b (Some (g k)) (lookup (same_id d) (at_each g ks)) ≡ cond (b || list_any (same_id d) ks) (Some (g d)) None
  go true e r = ap (λ w. Some (g w)) (sym (same_id-eq d k e))
  go false e r = r

last_none : (d : DeclarationId) (loads : List (DeclarationId × DeclarationId))
    → list_any (same_id d) (map (λ p. p.0) loads) ≡ false → last_load d loads ≡ None
last_none d [] h = refl
last_none d (p ∷ ps) h = go (same_id d p.0) h (λ g. last_none d ps g) where
  go : (b : Bool) → (b || list_any (same_id d) (map (λ e. e.0) ps)) ≡ false
      → (list_any (same_id d) (map (λ e. e.0) ps) ≡ false → last_load d ps ≡ None)
      → or_else (last_load d ps) (cond b (Some p.1) None) ≡ None
  go true g r = cc
  go false g r = ap (λ w. or_else w None) (r g)

-- a look into the map resolves by the last load
pub resolve_is : (loads : List (DeclarationId × DeclarationId)) (d : DeclarationId)
    → unwrap_or (lookup (same_id d) (definitions_told loads)) d ≡ resolved_after loads d
resolve_is loads d =
    ap (λ w. unwrap_or w d) (lookup_each (resolved_after loads) d (distinct same_id (map (λ p. p.0) loads)))
    ∙ go (list_any (same_id d) (distinct same_id (map (λ p. p.0) loads))) refl where
      go : (b : Bool) → list_any (same_id d) (distinct same_id (map (λ p. p.0) loads)) ≡ b
          → unwrap_or (cond b (Some (resolved_after loads d)) None) d ≡ resolved_after loads d
      go true e = refl
      go false e =
          sym (ap (λ w. unwrap_or w d)
          (last_none d loads (sym (any_distinct same_id same_id-eq itself d (map (λ p. p.0) loads)) ∙ e)))
