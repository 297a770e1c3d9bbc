-- From the marks of the walk to the set of memoized names.
use Rattle.std.proofs.Common.{◌≡◌, ◌∙◌, ◌+◌, ◌<◌, ◌≤◌, ◌++◌, inl, inr, ℕ}
use Rattle.std.proofs.Common.{Bool, true, false, List, [], ◌∷◌, Option, Some, None}
use Rattle.std.proofs.Common.{ap, arith, cond, ◌≢◌, length, refl, reverse, subst, sym, if◌then◌else◌}
use Rattle.std.specs.Prelude.{◌&&◌, ◌||◌, nat_lt, option_map, slice_get}
use Rattle.std.specs.List.{IsDistinct, list_any}
use Rattle.std.specs.Map.{keys_of}
use Rattle.std.proofs.lemmas.Bool.{cases_eq, le-ltb, lt-ltb, ltb-false, ltb-true}
use Rattle.std.proofs.lemmas.Map.Views.{Contains-from_any, list_any-from_Contains}
use Rattle.std.proofs.lemmas.Option.{slice_get-map, slice_get_cases}
use Rattle.indexmap.specs.IndexSet.{insert_key}
use Rattle.rc_names.specs.Numbers.{DeclarationId, is_among, same_id}
use Rattle.rc_names.proofs.NumbersLemmas.{ids_equivalence, same_id-eq}
use Rattle.rc_memo.specs.RowRecord.{record_of_rows}
use Rattle.rc_memo.specs.declared.record.MemoRecord.{MemoRecord}
use Rattle.rc_memo.specs.declared.row_record.RowNode.{RowNode}
use Rattle.rc_memo.specs.declared.row_record.RowRecord.{RowRecord}
use Rattle.rc_escape.specs.declared.walk_state.NodeMark.{NodeMark}
use Rattle.rc_escape.specs.declared.walk_state.NodeMark.TheVariants.{Unseen}
use Rattle.rc_escape.specs.declared.walk_state.WalkState.{WalkState}
use Rattle.rc_escape.specs.declared.walk_state.VisitFrame.{VisitFrame}
use Rattle.rc_escape.specs.declared.walk_state.VisitFrame.TheVariants.{Escaping}
use Rattle.rc_escape.specs.MemoBounds.{HasLeastSet, IsWithinGreatestSet}
use Rattle.rc_escape.specs.MemoSet.{HasMemoized, IsMemoSet, IsWalked}
use Rattle.rc_escape.specs.MemoWalk.{nothing_met, Progress, VisitsNames}
use Rattle.rc_escape.specs.inside.WalkFrames.{Finishes, FinishesFrame, escaping}
use Rattle.rc_escape.specs.inside.WalkPlaces.{entry_at, is_memoized, node_place, progress, says_memoized}
use Rattle.rc_escape.proofs.LeastIsMemoized.{least_is_memoized}
use Rattle.rc_escape.proofs.MemoizedIsInGreatest.{memoized_is_in_greatest}
use Rattle.rc_escape.proofs.PlaceLemmas.{name_at_place, place_of_distinct, place_within}

-- the frame of the escaping names alone is the whole walk
only_frame : (r : RowRecord) (met visited end : Progress) → FinishesFrame r (Escaping 0) met visited → visited ≡ end
    → (answer : Bool) × VisitsNames (record_of_rows r) r.escaping false met end answer
only_frame r met visited end (escaping {answer = a} visits) e =
    (a, subst (λ w. VisitsNames (record_of_rows r) r.escaping false met w a) e visits)

-- the names that escape are those of the rows
escaping_is : (r : RowRecord) → r.escaping ≡ (record_of_rows r).escaping
unfolding record_of_rows
escaping_is r = refl

pub walked : (r : RowRecord) (frames : List VisitFrame) (met end : Progress) → met ≡ nothing_met
    → frames ≡ [] ++ Escaping 0 ∷ [] → Finishes r (reverse frames) met end → IsWalked (record_of_rows r) end
unfolding Finishes
walked r frames met end e f finishes =
    let k = subst (λ w. Finishes r (reverse w) met end) f finishes in
    let v = only_frame r met k.0 end k.1 k.2 in
    let visits = subst (λ w. VisitsNames (record_of_rows r) w false met end v.0) (escaping_is r) v.1 in record {
      answer = v.0;
      visits = subst (λ w. VisitsNames (record_of_rows r) (record_of_rows r).escaping false w end v.0) e visits;
    }

any_append : (t : DeclarationId → Bool) (xs : List DeclarationId) (k : DeclarationId)
    → list_any t (xs ++ k ∷ []) ≡ (t k || list_any t xs)
any_append t [] k = refl
any_append t (x ∷ xs) k = ap (λ w. t x || w) (any_append t xs k) ∙ swap (t x) (t k) (list_any t xs)
  where
    swap : (a b c : Bool) → (a || (b || c)) ≡ (b || (a || c))
    swap true true c = refl
    swap true false c = refl
    swap false true c = refl
    swap false false c = refl

-- a name that is put in again changes nothing
among_again : (d k : DeclarationId) (xs : List DeclarationId) → is_among xs k ≡ true
    → is_among xs d ≡ (same_id d k || is_among xs d)
among_again d k xs h = go (same_id d k) refl
  where
    go : (b : Bool) → same_id d k ≡ b → is_among xs d ≡ (b || is_among xs d)
    go true e = subst (λ w. is_among xs w ≡ true) (sym (same_id-eq d k e)) h
    go false e = refl

pub insert_among : (d k : DeclarationId) (xs : List DeclarationId)
    → is_among (insert_key same_id xs k) d ≡ (same_id d k || is_among xs d)
insert_among d k xs = go (is_among xs k) refl
  where
    go : (b : Bool) → is_among xs k ≡ b → is_among (cond b xs (xs ++ k ∷ [])) d ≡ (same_id d k || is_among xs d)
    go true e = among_again d k xs e
    go false e = any_append (same_id d) xs k

-- a place before i that is marked as memoized
abbrev is_memoized_before : List NodeMark → ℕ → Option ℕ → Bool
is_memoized_before marks i None = false
is_memoized_before marks i (Some p) = nat_lt p i && is_memoized marks p

-- the set has the names whose places are before i and are marked so
unfoldable pub HasMemoizedBefore : RowRecord → WalkState → ℕ → List DeclarationId → Type 0
HasMemoizedBefore r s i set = (d : DeclarationId) → is_among set d ≡ is_memoized_before s.marks i (node_place r d)

pub collected_none : (r : RowRecord) (s : WalkState) → HasMemoizedBefore r s 0 []
unfolding HasMemoizedBefore
collected_none r s d = go (node_place r d)
  where
    go : (o : Option ℕ) → false ≡ is_memoized_before s.marks 0 o
    go None = refl
    go (Some p) = ap (λ b. b && is_memoized s.marks p) (sym (le-ltb p 0 (omega arith)))

takes : (set same before after : Bool) → same ≡ true → before ≡ false → after ≡ true
    → ((if set then same else false) || (before && set)) ≡ (after && set)
takes true same before after e f g = ap (λ b. b || (before && true)) e ∙ ap (λ b. b && true) (sym g)
takes false same before after e f g = ap (λ b. b && false) f ∙ ap (λ b. b && false) (sym g)

passes_by : (set here same before after : Bool) → same ≡ false → before ≡ after
    → ((if here then same else false) || (before && set)) ≡ (after && set)
passes_by set true same before after e f = ap (λ b. b || (before && set)) e ∙ ap (λ b. b && set) f
passes_by set false same before after e f = ap (λ b. b && set) f

-- a place that isn't i is before i where it is before the next one
before_next : (p i : ℕ) → (p ≡ i → ⊥) → nat_lt p i ≡ nat_lt p (i + 1)
before_next p i other = go (nat_lt p i) refl
  where
    go : (b : Bool) → nat_lt p i ≡ b → b ≡ nat_lt p (i + 1)
    go true e = sym (lt-ltb p (i + 1) (omega (arith, ltb-true p i e)))
    go false e =
        let apart : p ≢ i = other in
        sym (le-ltb p (i + 1) (omega (arith, ltb-false p i e, apart)))

-- the name at place i is added where that place is marked so
added : (r : RowRecord) (s : WalkState) (i : ℕ) (entry : DeclarationId × RowNode) (d : DeclarationId)
    → IsDistinct same_id (keys_of r.nodes) → slice_get r.nodes i ≡ Some entry
    → (o : Option ℕ) → node_place r d ≡ o
    → ((if is_memoized s.marks i then same_id d entry.0 else false) || is_memoized_before s.marks i o)
    ≡ is_memoized_before s.marks (i + 1) o
added r s i entry d distinct at o is = by o is
  where
    here : node_place r entry.0 ≡ Some i
    here = place_of_distinct r.nodes i entry distinct at

    other : (node_place r d ≡ Some i → ⊥) → same_id d entry.0 ≡ false
    other apart = go (same_id d entry.0) refl
      where
        go : (b : Bool) → same_id d entry.0 ≡ b → b ≡ false
        go false e = refl
        go true e = absurd (apart (ap (λ w. node_place r w) (same_id-eq d entry.0 e) ∙ here))

    by : (o : Option ℕ) → node_place r d ≡ o
        → ((if is_memoized s.marks i then same_id d entry.0 else false) || is_memoized_before s.marks i o)
        ≡ is_memoized_before s.marks (i + 1) o
    by None e = passes_by false (is_memoized s.marks i) (same_id d entry.0) false false (other (λ f. cc)) refl
    by (Some p) e = elim (cases_eq p i) [
      | inl same ↦
          let name = name_at_place r.nodes d p e in
          let key : slice_get (keys_of r.nodes) p ≡ Some entry.0 = slice_get-map (λ x. x.0) r.nodes p
          ∙ ap (option_map (λ x. x.0)) (subst (λ q. slice_get r.nodes q ≡ Some entry) (sym same) at) in
          let equal : d ≡ entry.0 = cc in
          let test : same_id d entry.0 ≡ true = subst (λ w. same_id d w ≡ true) equal (ids_equivalence.refl d) in
          subst (λ q.
          ((if is_memoized s.marks q then same_id d entry.0 else false) || (nat_lt p q && is_memoized s.marks p))
          ≡ (nat_lt p (q + 1) && is_memoized s.marks p)) same
          (takes (is_memoized s.marks p) (same_id d entry.0) (nat_lt p p) (nat_lt p (p + 1)) test
          (le-ltb p p (omega arith)) (lt-ltb p (p + 1) (omega arith)))
      | inr apart ↦
          passes_by (is_memoized s.marks p) (is_memoized s.marks i) (same_id d entry.0) (nat_lt p i) (nat_lt p (i + 1))
          (other (λ f. apart cc)) (before_next p i apart)
    ]

pub collected_more : (r : RowRecord) (s : WalkState) (i : ℕ) (old new : List DeclarationId)
    → IsDistinct same_id (keys_of r.nodes) → i < length r.nodes
    → ((entry : DeclarationId × RowNode) → slice_get r.nodes i ≡ Some entry → (d : DeclarationId)
    → is_among new d ≡ ((if is_memoized s.marks i then same_id d entry.0 else false) || is_among old d))
    → HasMemoizedBefore r s i old → HasMemoizedBefore r s (i + 1) new
unfolding HasMemoizedBefore
collected_more r s i old new distinct lt put before d = elim (slice_get_cases r.nodes i).1 [
  | inl w ↦ put w.0 w.2 d ∙ ap (λ b. (if is_memoized s.marks i then same_id d w.0.0 else false) || b) (before d)
      ∙ added r s i w.0 d distinct w.2 (node_place r d) refl
  | inr w ↦ absurd (omega arith)
]

pub collected_all : (r : RowRecord) (s : WalkState) (i : ℕ) (set : List DeclarationId) → length r.nodes ≤ i
    → HasMemoizedBefore r s i set → HasMemoized set (progress r s)
unfolding HasMemoizedBefore progress
collected_all r s i set le before d = before d ∙ go (node_place r d) refl
  where
    go : (o : Option ℕ) → node_place r d ≡ o
        → is_memoized_before s.marks i o ≡ says_memoized (entry_at Unseen s.marks o)
    go None e = refl
    go (Some p) e = ap (λ b. b && is_memoized s.marks p) (lt-ltb p i (omega (arith, place_within r.nodes d p e)))

pub memo_set : (r : MemoRecord) (met : Progress) (set : List DeclarationId) → IsWalked r met → HasMemoized set met
    → IsMemoSet r set
memo_set r met set walk names = record { end = met; walked = walk; names = names }

pub least_in : (r : MemoRecord) (set : List DeclarationId) → IsMemoSet r set → HasLeastSet r set
least_in r set is d least =
    Contains-from_any same_id-eq d set (is.names d ∙ least_is_memoized is.walked.visits d least)

pub in_greatest : (r : MemoRecord) (set : List DeclarationId) → IsMemoSet r set → IsWithinGreatestSet r set
in_greatest r set is d among =
    memoized_is_in_greatest is.walked.visits d (sym (is.names d) ∙ list_any-from_Contains ids_equivalence d set among)

pub ruleset collecting = (collected_none, collected_more, collected_all)
