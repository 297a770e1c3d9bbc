-- One entry of a map that is changed in its place, or put in.
use Rattle.std.proofs.Common.{◌≡◌, ◌∙◌, ◌++◌, Bool, true, false, List, [], ◌∷◌, None, Some, ap, cond, map, refl}
use Rattle.std.proofs.Common.{subst, sym}
use Rattle.std.specs.Prelude.{◌||◌}
use Rattle.std.specs.List.{list_any}
use Rattle.std.specs.Map.{keys_of, lookup, set_value}
use Rattle.indexmap.specs.IndexMap.{insert_entry}
use Rattle.rc_names.proofs.KeyedLemmas.{lookup-insert_other, lookup-insert_there}
use Rattle.rc_names.proofs.NumbersLemmas.{ids_equivalence, same_id-eq}
use Rattle.rc_names.specs.Numbers.{DeclarationId, same_id}
use Rattle.rc_names.specs.declared.numbers.Id.{Id}
use Rattle.rc_memo.specs.inside.Nodes.{at_name}
use Rattle.rc_memo.specs.inside.Nodes.{at_name_or}

module _ {V : Type 0} (d : DeclarationId) where
  pub found_some : (es : List (DeclarationId × V)) (n : V) → Some n ≡ lookup (same_id d) es
      → list_any (same_id d) (keys_of es) ≡ true
  found_some [] n h = cc
  found_some (e ∷ es) n h = go (same_id d e.0) h (λ g. found_some es n g) where
    go : (b : Bool) → Some n ≡ cond b (Some e.1) (lookup (same_id d) es)
        → (Some n ≡ lookup (same_id d) es → list_any (same_id d) (keys_of es) ≡ true)
        → (b || list_any (same_id d) (keys_of es)) ≡ true
    go true g r = refl
    go false g r = r g

  pub found_none : (es : List (DeclarationId × V)) → None ≡ lookup (same_id d) es → list_any (same_id d) (keys_of es)
      ≡ false
  found_none [] h = refl
  found_none (e ∷ es) h = go (same_id d e.0) h (λ g. found_none es g) where
    go : (b : Bool) → None ≡ cond b (Some e.1) (lookup (same_id d) es)
        → (None ≡ lookup (same_id d) es → list_any (same_id d) (keys_of es) ≡ false)
        → (b || list_any (same_id d) (keys_of es)) ≡ false
    go true g r = cc
    go false g r = r g

  pub at_some : (f : V → V) (es : List (DeclarationId × V)) (n w : V) → Some n ≡ lookup (same_id d) es → w ≡ f n
      → set_value (same_id d) es w ≡ at_name d f es
  at_some f [] n w h e = refl
  at_some f (x ∷ es) n w h e = go (same_id d x.0) h (λ g. at_some f es n w g e) where
    go : (b : Bool) → Some n ≡ cond b (Some x.1) (lookup (same_id d) es)
        → (Some n ≡ lookup (same_id d) es → set_value (same_id d) es w ≡ at_name d f es)
        → cond b ((x.0, w) ∷ es) (x ∷ set_value (same_id d) es w) ≡ cond b ((x.0, f x.1) ∷ es) (x ∷ at_name d f es)
    go true g r = let one : n ≡ x.1 = cc in ap (λ v. (x.0, v) ∷ es) (e ∙ ap f one)
    go false g r = ap (λ v. x ∷ v) (r g)

  pub at_none : (f : V → V) (es : List (DeclarationId × V)) → None ≡ lookup (same_id d) es → es ≡ at_name d f es
  at_none f [] h = refl
  at_none f (x ∷ es) h = go (same_id d x.0) h (λ g. at_none f es g) where
    go : (b : Bool) → None ≡ cond b (Some x.1) (lookup (same_id d) es)
        → (None ≡ lookup (same_id d) es → es ≡ at_name d f es) → x ∷ es
        ≡ cond b ((x.0, f x.1) ∷ es) (x ∷ at_name d f es)
    go true g r = cc
    go false g r = ap (λ v. x ∷ v) (r g)

pub at_absent : {V : Type 0} (d : DeclarationId) (f : V → V) (es : List (DeclarationId × V))
    → list_any (same_id d) (keys_of es) ≡ false → at_name d f es ≡ es
at_absent d f [] h = refl
at_absent d f (e ∷ es) h = go (same_id d e.0) h (λ g. at_absent d f es g) where
  go : (b : Bool) → (b || list_any (same_id d) (keys_of es)) ≡ false
      → (list_any (same_id d) (keys_of es) ≡ false → at_name d f es ≡ es)
      → cond b ((e.0, f e.1) ∷ es) (e ∷ at_name d f es) ≡ e ∷ es
  go true g r = cc
  go false g r = ap (λ w. e ∷ w) (r g)

pub insert_absent : {V : Type 0} (d : DeclarationId) (v : V) (es : List (DeclarationId × V))
    → list_any (same_id d) (keys_of es) ≡ false → insert_entry same_id es d v ≡ es ++ (d, v) ∷ []
insert_absent d v [] h = refl
insert_absent d v (e ∷ es) h = go (same_id d e.0) h (λ g. insert_absent d v es g) where
  go : (b : Bool) → (b || list_any (same_id d) (keys_of es)) ≡ false
      → (list_any (same_id d) (keys_of es) ≡ false → insert_entry same_id es d v ≡ es ++ (d, v) ∷ [])
      → cond b ((e.0, v) ∷ es) (e ∷ insert_entry same_id es d v) ≡ e ∷ (es ++ (d, v) ∷ [])
  go true g r = cc
  go false g r = ap (λ w. e ∷ w) (r g)

-- the entry of a key that was put, and those of the others
module _ {M V : Type 0} (key other : Id M) (value found : V) (old new : List (Id M × V))
    (put : new ≡ insert_entry same_id old key value) (there : lookup (same_id other) new ≡ Some found) where
  pub entry_put : same_id key other ≡ true → value ≡ found
  entry_put is =
      let first = ap (λ w. lookup (same_id key) w) put ∙ lookup-insert_there ids_equivalence key value old in
      let one : Some value ≡ Some found =
      sym first ∙ ap (λ (w : Id M). lookup (same_id w) new) (same_id-eq key other is) ∙ there in
      cc

  pub entry_kept : same_id key other ≡ false → lookup (same_id other) old ≡ Some found
  entry_kept is = sym (ap (λ w. lookup (same_id other) w) put
      ∙ lookup-insert_other ids_equivalence key value old other is) ∙ there

module _ {V : Type 0} (d : DeclarationId) where
  -- a change of nothing
  pub at_same : (f : V → V) → ((v : V) → f v ≡ v) → (es : List (DeclarationId × V)) → at_name d f es ≡ es
  at_same f same [] = refl
  at_same f same (e ∷ es) = go (same_id d e.0) (at_same f same es) where
    go : (b : Bool) → at_name d f es ≡ es → cond b ((e.0, f e.1) ∷ es) (e ∷ at_name d f es) ≡ e ∷ es
    go true r = ap (λ v. (e.0, v) ∷ es) (same e.1)
    go false r = ap (λ w. e ∷ w) r

  pub keys_at : (f : V → V) (es : List (DeclarationId × V)) → keys_of (at_name d f es) ≡ keys_of es
  keys_at f [] = refl
  keys_at f (e ∷ es) = go (same_id d e.0) (keys_at f es) where
    go : (b : Bool) → keys_of (at_name d f es) ≡ keys_of es
        → keys_of (cond b ((e.0, f e.1) ∷ es) (e ∷ at_name d f es)) ≡ e.0 ∷ keys_of es
    go true r = refl
    go false r = ap (λ w. e.0 ∷ w) r

  -- two changes are one
  pub at_twice : (f g : V → V) (es : List (DeclarationId × V)) → at_name d g (at_name d f es)
      ≡ at_name d (λ v. g (f v)) es
  at_twice f g [] = refl
  at_twice f g (e ∷ es) = go (same_id d e.0) refl (at_twice f g es) where
    go : (b : Bool) → same_id d e.0 ≡ b → at_name d g (at_name d f es) ≡ at_name d (λ v. g (f v)) es
        → at_name d g (cond b ((e.0, f e.1) ∷ es) (e ∷ at_name d f es))
        ≡ cond b ((e.0, g (f e.1)) ∷ es) (e ∷ at_name d (λ v. g (f v)) es)
    go true is r = ap (λ b. cond b ((e.0, g (f e.1)) ∷ es) ((e.0, f e.1) ∷ at_name d g es)) is
    go false is r = ap (λ b. cond b ((e.0, g e.1) ∷ at_name d f es) (e ∷ at_name d g (at_name d f es))) is
        ∙ ap (λ w. e ∷ w) r

  pub or_twice : (empty : V) (f g : V → V) (es : List (DeclarationId × V)) → at_name d g (at_name_or empty d f es)
      ≡ at_name_or empty d (λ v. g (f v)) es
  or_twice empty f g [] =
      ap (λ b. cond b ((d, g (f empty)) ∷ []) ((d, f empty) ∷ [])) (ids_equivalence.refl d)
  or_twice empty f g (e ∷ es) = go (same_id d e.0) refl (or_twice empty f g es) where
    go : (b : Bool) → same_id d e.0 ≡ b
        → at_name d g (at_name_or empty d f es) ≡ at_name_or empty d (λ v. g (f v)) es
        → at_name d g (cond b ((e.0, f e.1) ∷ es) (e ∷ at_name_or empty d f es))
        ≡ cond b ((e.0, g (f e.1)) ∷ es) (e ∷ at_name_or empty d (λ v. g (f v)) es)
    go true is r = ap (λ b. cond b ((e.0, g (f e.1)) ∷ es) ((e.0, f e.1) ∷ at_name d g es)) is
    go false is r = ap (λ b. cond b ((e.0, g e.1) ∷ at_name_or empty d f es)
        (e ∷ at_name d g (at_name_or empty d f es))) is ∙ ap (λ w. e ∷ w) r

  -- a name has an entry afterwards
  pub or_has : (empty : V) (f : V → V) (es : List (DeclarationId × V))
      → list_any (same_id d) (keys_of (at_name_or empty d f es)) ≡ true
  or_has empty f [] = ap (λ b. b || false) (ids_equivalence.refl d)
  or_has empty f (e ∷ es) = go (same_id d e.0) refl (or_has empty f es) where
    go : (b : Bool) → same_id d e.0 ≡ b → list_any (same_id d) (keys_of (at_name_or empty d f es)) ≡ true
        → list_any (same_id d) (keys_of (cond b ((e.0, f e.1) ∷ es) (e ∷ at_name_or empty d f es))) ≡ true
    go true is r = ap (λ b. b || list_any (same_id d) (keys_of es)) is
    go false is r = ap (λ b. b || list_any (same_id d) (keys_of (at_name_or empty d f es))) is ∙ r

  -- a name that has an entry, and one that has none
  pub or_there : (empty : V) (f : V → V) (es : List (DeclarationId × V)) → list_any (same_id d) (keys_of es) ≡ true
      → at_name_or empty d f es ≡ at_name d f es
  or_there empty f [] h = cc
  or_there empty f (e ∷ es) h = go (same_id d e.0) h (λ g. or_there empty f es g) where
    go : (b : Bool) → (b || list_any (same_id d) (keys_of es)) ≡ true
        → (list_any (same_id d) (keys_of es) ≡ true → at_name_or empty d f es ≡ at_name d f es)
        → cond b ((e.0, f e.1) ∷ es) (e ∷ at_name_or empty d f es) ≡ cond b ((e.0, f e.1) ∷ es) (e ∷ at_name d f es)
    go true g r = refl
    go false g r = ap (λ w. e ∷ w) (r g)

  pub or_absent : (empty : V) (f : V → V) (es : List (DeclarationId × V)) → list_any (same_id d) (keys_of es) ≡ false
      → at_name_or empty d f es ≡ es ++ (d, f empty) ∷ []
  or_absent empty f [] h = refl
  or_absent empty f (e ∷ es) h = go (same_id d e.0) h (λ g. or_absent empty f es g) where
    go : (b : Bool) → (b || list_any (same_id d) (keys_of es)) ≡ false
        → (list_any (same_id d) (keys_of es) ≡ false → at_name_or empty d f es ≡ es ++ (d, f empty) ∷ [])
        → cond b ((e.0, f e.1) ∷ es) (e ∷ at_name_or empty d f es) ≡ e ∷ (es ++ (d, f empty) ∷ [])
    go true g r = cc
    go false g r = ap (λ w. e ∷ w) (r g)

  -- the same as they are found: an entry that was changed, and one that was put in where none was changed
  pub or_changed : (empty : V) (f : V → V) (old new : List (DeclarationId × V)) → new ≡ at_name d f old
      → list_any (same_id d) (keys_of old) ≡ true → new ≡ at_name_or empty d f old
  or_changed empty f old new is there = is ∙ sym (or_there empty f old there)

  pub or_put : (empty : V) (f : V → V) (old between new : List (DeclarationId × V)) → between ≡ at_name d f old
      → list_any (same_id d) (keys_of old) ≡ false → new ≡ insert_entry same_id between d (f empty)
      → new ≡ at_name_or empty d f old
  or_put empty f old between new is none put =
      put ∙ ap (λ w. insert_entry same_id w d (f empty)) (is ∙ at_absent d f old none)
      ∙ insert_absent d (f empty) old none ∙ sym (or_absent empty f old none)

-- entries that are seen as others, name by name
module _ {V W : Type 0} (see : DeclarationId → V → W) where
  pub keys_seen : (es : List (DeclarationId × V)) → keys_of (map (λ e. (e.0, see e.0 e.1)) es) ≡ keys_of es
  keys_seen [] = refl
  keys_seen (e ∷ es) = ap (λ w. e.0 ∷ w) (keys_seen es)

  module _ (d : DeclarationId) (f : V → V) (g : W → W) (alike : (v : V) → see d (f v) ≡ g (see d v)) where
    alike_at : (k : DeclarationId) (v : V) → same_id d k ≡ true → see k (f v) ≡ g (see k v)
    alike_at k v is = subst (λ w. see w (f v) ≡ g (see w v)) (same_id-eq d k is) (alike v)

    pub seen_at : (es : List (DeclarationId × V)) → map (λ e. (e.0, see e.0 e.1)) (at_name d f es)
        ≡ at_name d g (map (λ e. (e.0, see e.0 e.1)) es)
    seen_at [] = refl
    seen_at (e ∷ es) = go (same_id d e.0) refl (seen_at es) where
      go : (b : Bool) → same_id d e.0 ≡ b
          → map (λ e. (e.0, see e.0 e.1)) (at_name d f es) ≡ at_name d g (map (λ e. (e.0, see e.0 e.1)) es)
          → map (λ e. (e.0, see e.0 e.1)) (cond b ((e.0, f e.1) ∷ es) (e ∷ at_name d f es))
          ≡ cond b ((e.0, g (see e.0 e.1)) ∷ map (λ e. (e.0, see e.0 e.1)) es)
          ((e.0, see e.0 e.1) ∷ at_name d g (map (λ e. (e.0, see e.0 e.1)) es))
      go true is r = ap (λ w. (e.0, w) ∷ map (λ e. (e.0, see e.0 e.1)) es) (alike_at e.0 e.1 is)
      go false is r = ap (λ w. (e.0, see e.0 e.1) ∷ w) r

    pub seen_or : (empty : V) (nothing : W) → see d empty ≡ nothing → (es : List (DeclarationId × V))
        → map (λ e. (e.0, see e.0 e.1)) (at_name_or empty d f es)
        ≡ at_name_or nothing d g (map (λ e. (e.0, see e.0 e.1)) es)
    seen_or empty nothing none [] = ap (λ w. (d, w) ∷ []) (alike empty ∙ ap g none)
    seen_or empty nothing none (e ∷ es) = go (same_id d e.0) refl (seen_or empty nothing none es) where
      go : (b : Bool) → same_id d e.0 ≡ b
          → map (λ e. (e.0, see e.0 e.1)) (at_name_or empty d f es)
          ≡ at_name_or nothing d g (map (λ e. (e.0, see e.0 e.1)) es)
          → map (λ e. (e.0, see e.0 e.1)) (cond b ((e.0, f e.1) ∷ es) (e ∷ at_name_or empty d f es))
          ≡ cond b ((e.0, g (see e.0 e.1)) ∷ map (λ e. (e.0, see e.0 e.1)) es)
          ((e.0, see e.0 e.1) ∷ at_name_or nothing d g (map (λ e. (e.0, see e.0 e.1)) es))
      go true is r = ap (λ w. (e.0, w) ∷ map (λ e. (e.0, see e.0 e.1)) es) (alike_at e.0 e.1 is)
      go false is r = ap (λ w. (e.0, see e.0 e.1) ∷ w) r
