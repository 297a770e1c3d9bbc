-- Whether a visit counts its name as memoized can be asked at the end: what is seen stays as it is memoized.
use Rattle.std.proofs.Common.{◌≡◌, ◌∙◌, Bool, true, false, List, Option, Some, None, ap, refl}
use Rattle.std.proofs.Common.{subst, sym}
use Rattle.std.specs.Prelude.{◌||◌}
use Rattle.std.specs.List.{list_any}
use Rattle.rc_names.specs.Numbers.{DeclarationId, ScopeId, same_id}
use Rattle.rc_names.proofs.NumbersLemmas.{ids_equivalence, same_id-eq}
use Rattle.rc_memo.specs.declared.record.MemoNode.{MemoNode}
use Rattle.rc_memo.specs.declared.record.MemoRecord.{MemoRecord}
use Rattle.rc_escape.specs.MemoWalk.{node_of, Progress, with_seen, with_memoized}
use Rattle.rc_escape.specs.MemoWalk.{VisitsName, absent, again, first_time, VisitsNames, no_names, next_name}
use Rattle.rc_escape.specs.MemoWalk.{DecidesNode, passes, memoizes_it}
use Rattle.rc_escape.specs.MemoWalk.{TakesScopes, no_scopes, without_record, taken_before, takes_it}
use Rattle.rc_escape.specs.inside.WalkFrames.{IsMet}
use Rattle.rc_escape.proofs.MetGrows.{grows_name, grows_names, grows_takes, met_behind, or_right}

-- a name that is seen isn't one that is not
apart : (s : Progress) (d e : DeclarationId) → s.seen d ≡ false → s.seen e ≡ true → same_id e d ≡ false
apart s d e unseen seen = go (same_id e d) refl
  where
    go : (b : Bool) → same_id e d ≡ b → b ≡ false
    go false h = refl
    go true h = let same : s.seen d ≡ true = subst (λ w. s.seen w ≡ true) (same_id-eq e d h) seen in cc

mutual
  -- a name that is seen before a visit is memoized after it exactly if it is before
  pub stays_name : {r : MemoRecord} {d : DeclarationId} {f a : Bool} {s t : Progress} → VisitsName r d f s t a
      → (e : DeclarationId) → s.seen e ≡ true → t.memoized e ≡ s.memoized e
  stays_name (absent none) e seen = refl
  stays_name (again found met is) e seen = refl
  stays_name {d = d} {s = s} (first_time found unseen visits is decides) e seen =
      let more = or_right (same_id e d) (s.seen e) seen in
      stays_decides decides e ((grows_names visits).seen e more) (apart s d e unseen seen) ∙ stays_names visits e more

  pub stays_names : {r : MemoRecord} {ds : List DeclarationId} {f a : Bool} {s t : Progress} → VisitsNames r ds f s t a
      → (e : DeclarationId) → s.seen e ≡ true → t.memoized e ≡ s.memoized e
  stays_names no_names e seen = refl
  stays_names (next_name visit visits is) e seen =
      stays_names visits e ((grows_name visit).seen e seen) ∙ stays_name visit e seen

  stays_decides : {r : MemoRecord} {d : DeclarationId} {n : MemoNode} {a : Bool} {s t : Progress}
      → DecidesNode r d n a s t → (e : DeclarationId) → s.seen e ≡ true → same_id e d ≡ false
      → t.memoized e ≡ s.memoized e
  stays_decides passes e seen other = refl
  stays_decides {s = s} (memoizes_it takes) e seen other =
      stays_takes takes e seen ∙ ap (λ b. b || s.memoized e) other

  stays_takes : {r : MemoRecord} {cs : List ScopeId} {s t : Progress} → TakesScopes r cs s t
      → (e : DeclarationId) → s.seen e ≡ true → t.memoized e ≡ s.memoized e
  stays_takes no_scopes e seen = refl
  stays_takes (without_record none rest) e seen = stays_takes rest e seen
  stays_takes (taken_before at taken rest) e seen = stays_takes rest e seen
  stays_takes (takes_it at untaken visits rest) e seen =
      stays_takes rest e ((grows_names visits).seen e seen) ∙ stays_names visits e seen

-- each memoized name has a node and is seen
pub record IsKnown (r : MemoRecord) (s : Progress) (d : DeclarationId) : Type 0 where
  pub node : MemoNode
  pub found : node_of r d ≡ Some node
  pub seen : s.seen d ≡ true

abbrev pub IsSound : MemoRecord → Progress → Type 0
IsSound r s = (d : DeclarationId) → s.memoized d ≡ true → IsKnown r s d

pub sound_by : {r : MemoRecord} {s : Progress} {d : DeclarationId} {n : MemoNode} → node_of r d ≡ Some n
    → s.seen d ≡ true → IsKnown r s d
sound_by {n = n} at seen = record { node = n; found = at; seen = seen }

not_memoized : (s : Progress) (d : DeclarationId) → (s.memoized d ≡ true → ⊥) → s.memoized d ≡ false
not_memoized s d never = go (s.memoized d) refl
  where
    go : (b : Bool) → s.memoized d ≡ b → b ≡ false
    go false h = refl
    go true h = absurd (never h)

-- a name without a node, and one that isn't seen, is not memoized
absent_not : {r : MemoRecord} (s : Progress) (d : DeclarationId) → IsSound r s → node_of r d ≡ None
    → s.memoized d ≡ false
absent_not s d sound none = not_memoized s d (λ h. let at = (sound d h).found in cc)

pub unseen_not : {r : MemoRecord} (s : Progress) (d : DeclarationId) → IsSound r s → s.seen d ≡ false
    → s.memoized d ≡ false
unseen_not s d sound unseen = not_memoized s d (λ h. let at = (sound d h).seen in cc)

known_grows : {r : MemoRecord} {s t : Progress} {d : DeclarationId} → (s.seen d ≡ true → t.seen d ≡ true)
    → IsKnown r s d → IsKnown r t d
known_grows grows known = record { node = known.node; found = known.found; seen = grows known.seen }

pub sound_seen : {r : MemoRecord} (s : Progress) (d : DeclarationId) → IsSound r s → IsSound r (with_seen s d)
sound_seen s d sound e h = known_grows (or_right (same_id e d) (s.seen e)) (sound e h)

pub sound_memoized : {r : MemoRecord} (s : Progress) (d : DeclarationId) (n : MemoNode) → node_of r d ≡ Some n
    → s.seen d ≡ true → IsSound r s → IsSound r (with_memoized s d)
sound_memoized {r} s d n found seen sound e h = go (same_id e d) refl
  where
    go : (b : Bool) → same_id e d ≡ b → IsKnown r (with_memoized s d) e
    go true same = subst (IsKnown r (with_memoized s d)) (sym (same_id-eq e d same))
        record { node = n; found = found; seen = seen }
    go false same =
        let old : s.memoized e ≡ true = sym (ap (λ b. b || s.memoized e) same) ∙ h in
        let known = sound e old in record { node = known.node; found = known.found; seen = known.seen }

mutual
  pub sound_name : {r : MemoRecord} {d : DeclarationId} {f a : Bool} {s t : Progress} → VisitsName r d f s t a
      → IsSound r s → IsSound r t
  sound_name (absent none) sound = sound
  sound_name (again found met is) sound = sound
  sound_name {d = d} {s = s} (first_time found unseen visits is decides) sound =
      sound_decides decides found
      ((grows_names visits).seen d (ap (λ b. b || s.seen d) (ids_equivalence.refl d)))
      (sound_names visits (sound_seen s d sound))

  pub sound_names : {r : MemoRecord} {ds : List DeclarationId} {f a : Bool} {s t : Progress} → VisitsNames r ds f s t a
      → IsSound r s → IsSound r t
  sound_names no_names sound = sound
  sound_names (next_name visit visits is) sound = sound_names visits (sound_name visit sound)

  sound_decides : {r : MemoRecord} {d : DeclarationId} {n : MemoNode} {a : Bool} {s t : Progress}
      → DecidesNode r d n a s t → node_of r d ≡ Some n → s.seen d ≡ true → IsSound r s → IsSound r t
  sound_decides passes found seen sound = sound
  sound_decides {d = d} {n = n} {s = s} (memoizes_it takes) found seen sound =
      sound_takes takes (sound_memoized s d n found seen sound)

  sound_takes : {r : MemoRecord} {cs : List ScopeId} {s t : Progress} → TakesScopes r cs s t
      → IsSound r s → IsSound r t
  sound_takes no_scopes sound = sound
  sound_takes (without_record none rest) sound = sound_takes rest sound
  sound_takes (taken_before at taken rest) sound = sound_takes rest sound
  sound_takes (takes_it at untaken visits rest) sound = sound_takes rest (sound_names visits (λ e h.
      let known = sound e h in record { node = known.node; found = known.found; seen = known.seen }))

-- a decision says whether the name is memoized after it
decision : {r : MemoRecord} {d : DeclarationId} {n : MemoNode} {a : Bool} {s t : Progress} → DecidesNode r d n a s t
    → s.memoized d ≡ false → a ≡ t.memoized d
decision passes before = sym before
decision {d = d} {s = s} (memoizes_it takes) before =
    sym ((grows_takes takes).memoized d (ap (λ b. b || s.memoized d) (ids_equivalence.refl d)))

-- the answer of a visit is whether the name is memoized after it
pub answer_name : {r : MemoRecord} {d : DeclarationId} {f a : Bool} {s t : Progress} → VisitsName r d f s t a
    → IsSound r s → a ≡ t.memoized d
answer_name {r} {d} {s = s} (absent none) sound = sym (absent_not s d sound none)
answer_name (again found met is) sound = is
answer_name {r} {d} {s = s} (first_time found unseen visits is decides) sound =
    decision decides
    (stays_names visits d (ap (λ b. b || s.seen d) (ids_equivalence.refl d)) ∙ unseen_not s d sound unseen)

-- a name that is met before visits is memoized after them exactly if it is before
stays_met : {r : MemoRecord} {ds : List DeclarationId} {f a : Bool} {s t : Progress} → VisitsNames r ds f s t a
    → IsSound r s → (e : DeclarationId) → IsMet r s e → t.memoized e ≡ s.memoized e
stays_met {r} {s = s} {t = t} visits sound e met = go (node_of r e) refl
  where
    go : (o : Option MemoNode) → node_of r e ≡ o → t.memoized e ≡ s.memoized e
    go (Some n) at = stays_names visits e (met n at)
    go None none = absent_not t e (sound_names visits sound) none ∙ sym (absent_not s e sound none)

-- the answer of visits is whether one of the names is memoized after them
pub answer_names : {r : MemoRecord} {ds : List DeclarationId} {f a : Bool} {s t : Progress} → VisitsNames r ds f s t a
    → IsSound r s → a ≡ list_any t.memoized ds
answer_names no_names sound = refl
answer_names {t = t}
    (next_name {name = d} {names = ds} {first = b} {rest = c} {visited = s1} visit visits is) sound =
    let behind = sound_name visit sound in
    let one : b ≡ t.memoized d = answer_name visit sound ∙ sym (stays_met visits behind d (met_behind visit)) in
    is ∙ ap (λ w. w || c) one ∙ ap (λ w. t.memoized d || w) (answer_names visits behind)
