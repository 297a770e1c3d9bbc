-- Entries that are kept once each, as one more comes.
use Rattle.std.proofs.Common.{◌≡◌, ◌∙◌, ◌++◌, Bool, true, false, List, [], ◌∷◌, ap, append-nil, cond, not, refl, subst, sym}
use Rattle.std.specs.Prelude.{◌||◌, filter}
use Rattle.std.specs.List.{list_any, IsDistinct, AllByRecursion}
use Rattle.std.proofs.lemmas.List.Elements.{filter-append}
use Rattle.indexmap.specs.IndexSet.{insert_key}
use Rattle.rc_memo.specs.Facts.{distinct}

-- a test of equality that decides it
module _ {X : Type 0} (eq : X → X → Bool) (same : (x y : X) → eq x y ≡ true → x ≡ y) (itself : (x : X) → eq x x ≡ true)
  where
    pub without : X → List X → List X
    without y ks = filter (λ z. not (eq y z)) ks

    -- leaving out another element changes nothing of whether x is there
    pub any_without : (x y : X) (ks : List X) → eq y x ≡ false → list_any (eq x) (without y ks) ≡ list_any (eq x) ks
    unfolding without
    any_without x y [] h = refl
    any_without x y (k ∷ ks) h = go (eq y k) refl (any_without x y ks h) where
      no_match : (b : Bool) → eq x k ≡ b → eq y k ≡ true → b ≡ false
      no_match false e f = refl
      no_match true e f = cc (same x k e, same y k f, h, itself y)

      go : (b : Bool) → eq y k ≡ b → list_any (eq x) (filter (λ z. not (eq y z)) ks) ≡ list_any (eq x) ks
          → list_any (eq x) (cond (not b) (k ∷ filter (λ z. not (eq y z)) ks) (filter (λ z. not (eq y z)) ks))
          ≡ (eq x k || list_any (eq x) ks)
      go true e r = r ∙ ap (λ w. w || list_any (eq x) ks) (sym (no_match (eq x k) refl e))
      go false e r = ap (λ w. eq x k || w) r

    -- one more element is put in as into a set
    pub distinct_push : (xs : List X) (x : X) → distinct eq (xs ++ x ∷ []) ≡ insert_key eq (distinct eq xs) x
    unfolding without
    distinct_push [] x = refl
    distinct_push (y ∷ xs) x = ap (λ w. y ∷ filter (λ z. not (eq y z)) w) (distinct_push xs x) ∙ go (eq x y) refl where
      ks : List X
      ks = distinct eq xs

      kept : (b : Bool) → eq y x ≡ true → filter (λ z. not (eq y z)) (cond b ks (ks ++ x ∷ []))
          ≡ filter (λ z. not (eq y z)) ks
      kept true f = refl
      kept false f = filter-append (λ z. not (eq y z)) ks (x ∷ [])
          ∙ ap (λ w. filter (λ z. not (eq y z)) ks ++ cond (not w) (x ∷ []) []) f
          ∙ append-nil (filter (λ z. not (eq y z)) ks)

      turn : (b : Bool) → eq y x ≡ b → eq x y ≡ false → eq y x ≡ false
      turn false e f = e
      turn true e f = cc (same y x e, itself x, f)

      other : (b : Bool) → list_any (eq x) ks ≡ b → eq x y ≡ false → eq y x ≡ false → y
          ∷ filter (λ z. not (eq y z)) (cond b ks (ks ++ x ∷ []))
          ≡ cond b (y ∷ filter (λ z. not (eq y z)) ks) (y ∷ (filter (λ z. not (eq y z)) ks ++ x ∷ []))
      other true h e f = refl
      other false h e f =
          ap (λ w. y ∷ w) (filter-append (λ z. not (eq y z)) ks (x ∷ [])
          ∙ ap (λ w. filter (λ z. not (eq y z)) ks ++ cond (not w) (x ∷ []) []) f)

      go : (b : Bool) → eq x y ≡ b → y ∷ filter (λ z. not (eq y z)) (insert_key eq ks x)
          ≡ cond (b || list_any (eq x) (filter (λ z. not (eq y z)) ks)) (y ∷ filter (λ z. not (eq y z)) ks)
          (y ∷ (filter (λ z. not (eq y z)) ks ++ x ∷ []))
      go true e = ap (λ w. y ∷ w) (kept (list_any (eq x) ks) (subst (λ w. eq y w ≡ true) (sym (same x y e)) (itself y)))
      go false e = let f = turn (eq y x) refl e in other (list_any (eq x) ks) refl e f
          ∙ ap (λ w. cond w (y ∷ filter (λ z. not (eq y z)) ks) (y ∷ (filter (λ z. not (eq y z)) ks ++ x ∷ [])))
          (sym (any_without x y ks f))

    all_kept : (P : X → Type 0) (p : X → Bool) (ks : List X) → AllByRecursion P ks → AllByRecursion P (filter p ks)
    all_kept P p [] h = tt
    all_kept P p (k ∷ ks) h = go (p k) (all_kept P p ks h.1) where
      go : (b : Bool) → AllByRecursion P (filter p ks) → AllByRecursion P (cond b (k ∷ filter p ks) (filter p ks))
      go true r = (h.0, r)
      go false r = r

    all_apart : (y : X) (ks : List X) → AllByRecursion (λ z. eq y z ≡ false) (filter (λ z. not (eq y z)) ks)
    all_apart y [] = tt
    all_apart y (k ∷ ks) = go (eq y k) refl (all_apart y ks) where
      go : (b : Bool) → eq y k ≡ b → AllByRecursion (λ z. eq y z ≡ false) (filter (λ z. not (eq y z)) ks)
          → AllByRecursion (λ z. eq y z ≡ false)
          (cond (not b) (k ∷ filter (λ z. not (eq y z)) ks) (filter (λ z. not (eq y z)) ks))
      go true e r = r
      go false e r = (e, r)

    distinct_kept : (p : X → Bool) (ks : List X) → IsDistinct eq ks → IsDistinct eq (filter p ks)
    unfolding IsDistinct
    distinct_kept p [] h = tt
    distinct_kept p (k ∷ ks) h = go (p k) (distinct_kept p ks h.1) where
      go : (b : Bool) → IsDistinct eq (filter p ks) → IsDistinct eq (cond b (k ∷ filter p ks) (filter p ks))
      go true r = (all_kept (λ z. eq k z ≡ false) p ks h.0, r)
      go false r = r

    pub distinct_is : (xs : List X) → IsDistinct eq (distinct eq xs)
    unfolding IsDistinct
    distinct_is [] = tt
    distinct_is (x ∷ xs) =
        (all_apart x (distinct eq xs), distinct_kept (λ z. not (eq x z)) (distinct eq xs) (distinct_is xs))

    -- nothing is lost
    pub any_distinct : (x : X) (xs : List X) → list_any (eq x) (distinct eq xs) ≡ list_any (eq x) xs
    unfolding without
    any_distinct x [] = refl
    any_distinct x (y ∷ xs) = go (eq x y) refl ∙ ap (λ w. eq x y || w) (any_distinct x xs) where
      turn : (b : Bool) → eq y x ≡ b → eq x y ≡ false → eq y x ≡ false
      turn false e f = e
      turn true e f = cc (same y x e, itself x, f)

      go : (b : Bool) → eq x y ≡ b → (eq x y || list_any (eq x) (filter (λ z. not (eq y z)) (distinct eq xs)))
          ≡ (eq x y || list_any (eq x) (distinct eq xs))
      go true e = ap (λ w. w || list_any (eq x) (filter (λ z. not (eq y z)) (distinct eq xs))) e
          ∙ sym (ap (λ w. w || list_any (eq x) (distinct eq xs)) e)
      go false e = ap (λ w. eq x y || w) (any_without x y (distinct eq xs) (turn (eq y x) refl e))
