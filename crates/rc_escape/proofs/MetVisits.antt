-- Names that are met may be left out of a list or put into it: their visits change nothing.
use Rattle.std.proofs.Common.{◌≡◌, ◌∙◌, ◌++◌, Bool, true, false, List, [], ◌∷◌, Option, Some, None, ap, cond, not, refl}
use Rattle.std.proofs.Common.{subst, sym}
use Rattle.std.specs.Prelude.{◌&&◌, ◌||◌, filter}
use Rattle.std.specs.List.{AllByRecursion as Each, list_any}
use Rattle.rc_names.specs.Numbers.{DeclarationId, same_id}
use Rattle.rc_names.proofs.NumbersLemmas.{same_id-eq}
use Rattle.rc_memo.specs.Facts.{distinct}
use Rattle.rc_memo.specs.declared.record.MemoNode.{MemoNode}
use Rattle.rc_memo.specs.declared.record.MemoRecord.{MemoRecord}
use Rattle.rc_escape.specs.MemoWalk.{node_of, Progress}
use Rattle.rc_escape.specs.MemoWalk.{VisitsName, absent, again, first_time, VisitsNames, no_names, next_name}
use Rattle.rc_escape.specs.inside.WalkFrames.{IsMet}
use Rattle.rc_escape.proofs.MetGrows.{grows_name, met_behind, met_stays}

each-weaker : {X : Type 0} (P Q : X → Type 0) → ((x : X) → P x → Q x) → (xs : List X) → Each P xs → Each Q xs
each-weaker P Q f [] h = tt
each-weaker P Q f (x ∷ xs) h = (f x h.0, each-weaker P Q f xs h.1)

module _ (r : MemoRecord) where
  -- names are visited with any answer
  abbrev pub Visits : List DeclarationId → Bool → Progress → Progress → Type 0
  Visits names forced met end = (answer : Bool) × VisitsNames r names forced met end answer

  -- the visit of a name that is met
  visit_met : (d : DeclarationId) (f : Bool) (s : Progress) → IsMet r s d → (a : Bool) × VisitsName r d f s s a
  visit_met d f s met = go (node_of r d) refl
    where
      go : (o : Option MemoNode) → node_of r d ≡ o → (a : Bool) × VisitsName r d f s s a
      go None e = (false, absent e)
      go (Some n) e = (s.memoized d, again e (met n e) refl)

  unchanged : {d : DeclarationId} {f a : Bool} {s t : Progress} → VisitsName r d f s t a → IsMet r s d → s ≡ t
  unchanged (absent none) met = refl
  unchanged (again found seen is) met = refl
  unchanged (first_time {node = n} found unseen visits is decides) met = let seen = met n found in cc

  -- names that are met are put to the front, or taken from it
  pub put_met : (xs ys : List DeclarationId) (f : Bool) (s t : Progress) → Each (IsMet r s) xs → Visits ys f s t
      → Visits (xs ++ ys) f s t
  put_met [] ys f s t met visits = visits
  put_met (x ∷ xs) ys f s t met visits =
      let one = visit_met x f s met.0 in
      let rest = put_met xs ys f s t met.1 visits in (one.0 || rest.0, next_name one.1 rest.1 refl)

  take_met : (xs ys : List DeclarationId) (f a : Bool) (s t : Progress) → Each (IsMet r s) xs
      → VisitsNames r (xs ++ ys) f s t a → Visits ys f s t
  take_met [] ys f a s t met visits = (a, visits)
  take_met (x ∷ xs) ys f a s t met (next_name {rest = b} visit visits is) =
      take_met xs ys f b s t met.1 (subst (λ w. VisitsNames r (xs ++ ys) f w t b) (sym (unchanged visit met.0)) visits)

  -- a name after names that are met is visited first, and then all of them
  pub visit_first : (xs ys : List DeclarationId) (x : DeclarationId) (f a b : Bool) (s s1 t : Progress)
      → Each (IsMet r s) xs → VisitsName r x f s s1 a → VisitsNames r (xs ++ x ∷ ys) f s1 t b
      → Visits (xs ++ x ∷ ys) f s t
  visit_first xs ys x f a b s s1 t met visit visits =
      let grown = each-weaker (IsMet r s) (IsMet r s1) (λ d m. met_stays r d (grows_name visit) m) xs met in
      let from = take_met xs (x ∷ ys) f b s1 t grown visits in
      let rest = take_met (x ∷ []) ys f from.0 s1 t (met_behind visit, tt) from.1 in
      put_met xs (x ∷ ys) f s t met (a || rest.0, next_name visit rest.1 refl)

-- a list that is filtered twice
filter-both : {X : Type 0} (p q : X → Bool) (xs : List X) → filter p (filter q xs) ≡ filter (λ x. p x && q x) xs
filter-both p q [] = refl
filter-both {X} p q (x ∷ xs) = go (p x) (q x) refl refl (filter-both p q xs)
  where
    both : List X
    both = filter (λ y. p y && q y) xs

    go : (b c : Bool) → p x ≡ b → q x ≡ c → filter p (filter q xs) ≡ both
        → filter p (cond (q x) (x ∷ filter q xs) (filter q xs)) ≡ cond (p x && q x) (x ∷ both) both
    go b c e f rest = ap (λ w. filter p (cond w (x ∷ filter q xs) (filter q xs))) f ∙ by b c e rest
        ∙ sym (ap (λ w. cond (p x && w) (x ∷ both) both) f ∙ ap (λ w. cond (w && c) (x ∷ both) both) e)
      where
        by : (b c : Bool) → p x ≡ b → filter p (filter q xs) ≡ both
            → filter p (cond c (x ∷ filter q xs) (filter q xs)) ≡ cond (b && c) (x ∷ both) both
        by true true e rest = ap (λ w. cond w (x ∷ filter p (filter q xs)) (filter p (filter q xs))) e
            ∙ ap (λ w. x ∷ w) rest
        by false true e rest = ap (λ w. cond w (x ∷ filter p (filter q xs)) (filter p (filter q xs))) e ∙ rest
        by true false e rest = rest
        by false false e rest = rest

filter-all : {X : Type 0} (xs : List X) → filter (λ x. true) xs ≡ xs
filter-all [] = refl
filter-all (x ∷ xs) = ap (λ ys. x ∷ ys) (filter-all xs)

and_right : (b c : Bool) → (b && c) ≡ false → b ≡ true → c ≡ false
and_right true c h e = h
and_right false c h e = cc

module _ (r : MemoRecord) where
  -- what is left of names without those that come again and those that are met
  abbrev left : (p q : DeclarationId → Bool) → List DeclarationId → List DeclarationId
  left p q xs = filter p (distinct same_id (filter q xs))

  -- each name that doesn't pass is met
  abbrev Fails : (DeclarationId → Bool) → Progress → Type 0
  Fails p s = (d : DeclarationId) → p d ≡ false → IsMet r s d

  fails_more : (p : DeclarationId → Bool) (x : DeclarationId) {f a : Bool} {s s1 : Progress} → VisitsName r x f s s1 a
      → Fails p s → Fails (λ y. p y && not (same_id x y)) s1
  fails_more p x {s = s} {s1 = s1} visit fails y h = go (p y) refl
    where
      again_x : (c : Bool) → same_id x y ≡ c → not c ≡ false → IsMet r s1 y
      again_x true e n = subst (IsMet r s1) (same_id-eq x y e) (met_behind visit)
      again_x false e n = cc

      go : (b : Bool) → p y ≡ b → IsMet r s1 y
      go true e = again_x (same_id x y) refl (and_right (p y) (not (same_id x y)) h e)
      go false e = met_stays r y (grows_name visit) (fails y e)

  -- visits of what is left of names end as the visits of all of them
  pub visit_left : (p q : DeclarationId → Bool) (xs : List DeclarationId) (f a : Bool) (s t : Progress) → Fails p s
      → Fails q s → VisitsNames r xs f s t a → Visits r (left p q xs) f s t
  visit_left p q [] f a s t fails_p fails_q no_names = (false, no_names)
  visit_left p q (x ∷ xs) f a s t fails_p fails_q (next_name {first = c} {rest = b} {visited = s1} visit visits is) =
      by_q (q x) refl
      (λ same. visit_left p q xs f b s t fails_p fails_q (subst (λ w. VisitsNames r xs f w t b) (sym same) visits))
      (visit_left (λ y. p y && not (same_id x y)) q xs f b s1 t (fails_more p x visit fails_p)
      (λ y h. met_stays r y (grows_name visit) (fails_q y h)) visits)
    where
      -- those of the others that are left
      others : List DeclarationId
      others = filter p (filter (λ y. not (same_id x y)) (distinct same_id (filter q xs)))

      by_p : (b : Bool) → p x ≡ b → Visits r others f s1 t → Visits r (cond b (x ∷ others) others) f s t
      by_p true e rest = (c || rest.0, next_name visit rest.1 refl)
      by_p false e rest = subst (λ w. Visits r others f w t) (sym (unchanged r visit (fails_p x e))) rest

      by_q : (b : Bool) → q x ≡ b → (s ≡ s1 → Visits r (left p q xs) f s t)
          → Visits r (left (λ y. p y && not (same_id x y)) q xs) f s1 t
          → Visits r (filter p (distinct same_id (cond b (x ∷ filter q xs) (filter q xs)))) f s t
      by_q false e without rest = without (unchanged r visit (fails_q x e))
      by_q true e without rest =
          by_p (p x) refl (subst (λ w. Visits r w f s1 t)
          (sym (filter-both p (λ y. not (same_id x y)) (distinct same_id (filter q xs)))) rest)

  -- visits of distinct names, one that is met left out, end as the visits of all of them
  pub visit_distinct : (q : DeclarationId → Bool) (xs : List DeclarationId) (f a : Bool) (s t : Progress) → Fails q s
      → VisitsNames r xs f s t a → Visits r (distinct same_id (filter q xs)) f s t
  visit_distinct q xs f a s t fails visits =
      subst (λ w. Visits r w f s t) (filter-all (distinct same_id (filter q xs)))
      (visit_left (λ y. true) q xs f a s t (λ y h. cc) fails visits)

  -- and visits of all of them end as the visits of what is left
  visit_all : (p q : DeclarationId → Bool) (xs : List DeclarationId) (f a : Bool) (s t : Progress) → Fails p s
      → Fails q s → VisitsNames r (left p q xs) f s t a → Visits r xs f s t
  visit_all p q [] f a s t fails_p fails_q no_names = (false, no_names)
  visit_all p q (x ∷ xs) f a s t fails_p fails_q visits =
      by_q (q x) refl (λ b rest. visit_all p q xs f b s t fails_p fails_q rest)
      (λ b s1 fails_p' fails_q' rest. visit_all (λ y. p y && not (same_id x y)) q xs f b s1 t fails_p' fails_q' rest)
      visits
    where
      -- those of the others that are left
      others : List DeclarationId
      others = filter p (filter (λ y. not (same_id x y)) (distinct same_id (filter q xs)))

      same : others ≡ left (λ y. p y && not (same_id x y)) q xs
      same = filter-both p (λ y. not (same_id x y)) (distinct same_id (filter q xs))

      -- the name is met, and the others are visited
      met_first : IsMet r s x → Visits r xs f s t → Visits r (x ∷ xs) f s t
      met_first met rest = put_met r (x ∷ []) xs f s t (met, tt) rest

      Others : Type 0
      Others = (b : Bool) (s1 : Progress) → Fails (λ y. p y && not (same_id x y)) s1 → Fails q s1
          → VisitsNames r (left (λ y. p y && not (same_id x y)) q xs) f s1 t b → Visits r xs f s1 t

      by_p : (b : Bool) → p x ≡ b → Others → VisitsNames r (cond b (x ∷ others) others) f s t a
          → Visits r (x ∷ xs) f s t
      by_p true e more (next_name {first = c} {rest = b} {visited = s1} visit rest is) =
          let behind = more b s1 (fails_more p x visit fails_p) (λ y h. met_stays r y (grows_name visit) (fails_q y h))
          (subst (λ w. VisitsNames r w f s1 t b) same rest) in (c || behind.0, next_name visit behind.1 refl)
      by_p false e more rest =
          let met = fails_p x e in
          met_first met (more a s (fails_more p x (visit_met r x f s met).1 fails_p) fails_q
          (subst (λ w. VisitsNames r w f s t a) same rest))

      by_q : (b : Bool) → q x ≡ b → ((b : Bool) → VisitsNames r (left p q xs) f s t b → Visits r xs f s t) → Others
          → VisitsNames r (filter p (distinct same_id (cond b (x ∷ filter q xs) (filter q xs)))) f s t a
          → Visits r (x ∷ xs) f s t
      by_q false e without more rest = met_first (fails_q x e) (without a rest)
      by_q true e without more rest = by_p (p x) refl more rest

  pub visit_repeated : (q : DeclarationId → Bool) (xs : List DeclarationId) (f a : Bool) (s t : Progress) → Fails q s
      → VisitsNames r (distinct same_id (filter q xs)) f s t a → Visits r xs f s t
  visit_repeated q xs f a s t fails visits =
      visit_all (λ y. true) q xs f a s t (λ y h. cc) fails
      (subst (λ w. VisitsNames r w f s t a) (sym (filter-all (distinct same_id (filter q xs)))) visits)

-- whether one of the names passes, where those that are left out don't
any-filter : {X : Type 0} (p q : X → Bool) (xs : List X) → ((x : X) → q x ≡ false → p x ≡ false)
    → list_any p (filter q xs) ≡ list_any p xs
any-filter p q [] fails = refl
any-filter p q (x ∷ xs) fails = go (q x) refl (any-filter p q xs fails)
  where
    go : (b : Bool) → q x ≡ b → list_any p (filter q xs) ≡ list_any p xs
        → list_any p (cond b (x ∷ filter q xs) (filter q xs)) ≡ (p x || list_any p xs)
    go true e rest = ap (λ w. p x || w) rest
    go false e rest = rest ∙ sym (ap (λ w. w || list_any p xs) (fails x e))

any-distinct : (p : DeclarationId → Bool) (xs : List DeclarationId)
    → list_any p (distinct same_id xs) ≡ list_any p xs
any-distinct p [] = refl
any-distinct p (x ∷ xs) = go (p x) refl (any-distinct p xs)
  where
    others : List DeclarationId
    others = filter (λ y. not (same_id x y)) (distinct same_id xs)

    fails : p x ≡ false → (y : DeclarationId) → not (same_id x y) ≡ false → p y ≡ false
    fails e y h = by (same_id x y) refl h
      where
        by : (c : Bool) → same_id x y ≡ c → not c ≡ false → p y ≡ false
        by true same n = subst (λ w. p w ≡ false) (same_id-eq x y same) e
        by false same n = cc

    go : (b : Bool) → p x ≡ b → list_any p (distinct same_id xs) ≡ list_any p xs
        → (b || list_any p others) ≡ (b || list_any p xs)
    go true e rest = refl
    go false e rest = any-filter p (λ y. not (same_id x y)) (distinct same_id xs) (fails e) ∙ rest

pub any-left : (p q : DeclarationId → Bool) (xs : List DeclarationId)
    → ((x : DeclarationId) → q x ≡ false → p x ≡ false)
    → list_any p (distinct same_id (filter q xs)) ≡ list_any p xs
any-left p q xs fails = any-distinct p (filter q xs) ∙ any-filter p q xs fails
