-- The visits of a node's dependencies are those of the operands of its rows, each row's as far as they are left.
use Rattle.std.proofs.Common.{◌≡◌, ◌∙◌, ◌+◌, ◌++◌, ◌<◌, inl, inr, ℕ, zero, suc, Bool, true, false, List, [], ◌∷◌}
use Rattle.std.proofs.Common.{append_assoc, Option, Some, None, ap, arith, drop, not, refl, reverse, subst, sym}
use Rattle.std.specs.Prelude.{◌||◌, slice_get}
use Rattle.std.specs.List.{AllByRecursion as Each, list_any}
use Rattle.std.proofs.lemmas.List.Folds.{list_any-append}
use Rattle.std.proofs.lemmas.Option.{slice_get_cases}
use Rattle.rc_names.specs.Numbers.{DeclarationId, same_id}
use Rattle.rc_names.proofs.NumbersLemmas.{ids_equivalence, same_id-eq}
use Rattle.rc_memo.specs.RowRecord.{node_of_rows, operands_at, operands_of, record_of_rows}
use Rattle.rc_memo.specs.declared.record.MemoRecord.{MemoRecord}
use Rattle.rc_memo.specs.declared.row_record.RowNode.{RowNode}
use Rattle.rc_memo.specs.declared.row_record.RowRecord.{RowRecord}
use Rattle.rc_escape.specs.declared.walk_state.NodeMark.{NodeMark}
use Rattle.rc_escape.specs.declared.walk_state.NodeMark.TheVariants.{Unseen, Seen, Memoized}
use Rattle.rc_escape.specs.declared.walk_state.WalkState.{WalkState}
use Rattle.rc_escape.specs.declared.walk_state.VisitFrame.{VisitFrame}
use Rattle.rc_escape.specs.declared.walk_state.VisitFrame.TheVariants.{Dependencies}
use Rattle.rc_escape.specs.MemoWalk.{memoizes, node_of, Progress, with_seen}
use Rattle.rc_escape.specs.MemoWalk.{VisitsName, first_time, VisitsNames, no_names}
use Rattle.rc_escape.specs.MemoWalk.{DecidesNode}
use Rattle.rc_escape.specs.inside.WalkPlaces.{entry_at, is_set, mark_of, node_place, progress}
use Rattle.rc_escape.specs.inside.WalkPlaces.{says_memoized, says_seen}
use Rattle.rc_escape.specs.inside.WalkFrames.{AreMet, BeginsDecision, BeginsVisit, FinishesFrame, Finishes, FitsRecord}
use Rattle.rc_escape.specs.inside.WalkFrames.{IsMet, ResumesFrame, at_decision, dependencies, needs, passed_of}
use Rattle.rc_escape.specs.inside.WalkFrames as frames
use Rattle.rc_escape.proofs.ListLemmas.{drop-at, drop-past, reverse-push}
use Rattle.rc_escape.proofs.MetGrows.{grows_names, seen_again}
use Rattle.rc_escape.proofs.MetVisits.{Visits, any-left, put_met, visit_distinct, visit_first}
use Rattle.rc_escape.proofs.PlaceLemmas.{place_has_entry}
use Rattle.rc_escape.proofs.RecordPlaces.{node_is, same_entry}
use Rattle.rc_escape.proofs.StaysLemmas.{IsKnown, IsSound, answer_names, sound_by, sound_seen, stays_names, unseen_not}

-- what a state says is met has no memoized name that isn't seen
pub sound_progress : (r : RowRecord) (s : WalkState) → IsSound (record_of_rows r) (progress r s)
unfolding progress
sound_progress r s d memoized = at_place (node_place r d) refl
  where
    mark_seen : (m : NodeMark) → says_memoized m ≡ true → says_seen m ≡ true
    mark_seen Memoized h = refl
    mark_seen Seen h = refl
    mark_seen Unseen h = cc

    at_place : (o : Option ℕ) → node_place r d ≡ o → IsKnown (record_of_rows r) (progress r s) d
    at_place None e = let none = ap (λ w. says_memoized (entry_at Unseen s.marks w)) e in cc
    at_place (Some p) e = elim (slice_get_cases r.nodes p).1 [
      | inl w ↦ sound_by (node_is r d w.0.0 p w.0.1 e w.2) (mark_seen (mark_of r s.marks d) memoized)
      | inr w ↦ absurd (place_has_entry r.nodes d p e w.1)
    ]

-- names that aren't the one that is left out
pub name_out : (d : DeclarationId) (P : DeclarationId → Type 0) → P d → (e : DeclarationId) → not (same_id d e) ≡ false
    → P e
name_out d P here e h = go (same_id d e) refl h
  where
    go : (b : Bool) → same_id d e ≡ b → not b ≡ false → P e
    go true same n = subst P (same_id-eq d e same) here
    go false same n = cc

-- the first visit of a name, by the operands of its rows
pub first_visit : (r : RowRecord) (d : DeclarationId) (n : RowNode) (f b c : Bool) (s s2 s1 : Progress)
    → IsSound (record_of_rows r) s → node_of (record_of_rows r) d ≡ Some (node_of_rows r.operands d n)
    → s.seen d ≡ false
    → VisitsNames (record_of_rows r) (operands_of r.operands n.rows) false (with_seen s d) s2 c
    → b ≡ needs r n f s2
    → DecidesNode (record_of_rows r) d (node_of_rows r.operands d n) b (at_decision s2 d b) s1
    → VisitsName (record_of_rows r) d f s s1 b
unfolding node_of_rows
first_visit r d n f b c s s2 s1 sound at unseen visits is decides =
    first_time at unseen inner.1 (is ∙ ap (memoizes n.level f) (sym needs_one)) from
  where
    rec : MemoRecord
    rec = record_of_rows r

    names : List DeclarationId
    names = operands_of r.operands n.rows

    itself : (with_seen s d).seen d ≡ true
    itself = ap (λ w. w || s.seen d) (ids_equivalence.refl d)

    inner : Visits rec (node_of_rows r.operands d n).dependencies false (with_seen s d) s2
    inner = visit_distinct rec (λ e. not (same_id d e)) names false c (with_seen s d) s2
        (name_out d (IsMet rec (with_seen s d)) (λ m h. itself)) visits

    not_itself : s2.memoized d ≡ false
    not_itself = stays_names visits d itself ∙ unseen_not s d sound unseen

    needs_one : inner.0 ≡ list_any s2.memoized names
    needs_one = answer_names inner.1 (sound_seen s d sound)
        ∙ any-left s2.memoized (λ e. not (same_id d e)) names (name_out d (λ e. s2.memoized e ≡ false) not_itself)

    from : DecidesNode rec d (node_of_rows r.operands d n) b s2 s1
    from = subst (λ w. DecidesNode rec d (node_of_rows r.operands d n) b w s1) (same b) decides
      where
        same : (t : Bool) → at_decision s2 d t ≡ s2
        same true = seen_again s2 d ((grows_names visits).seen d itself)
        same false = refl

-- the operands of a row before a place are met, and the one at that place comes after them
split_at : (P : DeclarationId → Type 0) (xs : List DeclarationId) (i : ℕ) (x : DeclarationId)
    → ((j : ℕ) (y : DeclarationId) → j < i → slice_get xs j ≡ Some y → P y) → slice_get xs i ≡ Some x
    → (front : List DeclarationId) × (back : List DeclarationId) × (xs ≡ front ++ x ∷ back) × Each P front
split_at P [] i x met at = cc
split_at P (y ∷ ys) zero x met at = ([], ys, ap (λ w. w ∷ ys) (some_is at), tt)
  where
    some_is : {a b : DeclarationId} → Some a ≡ Some b → a ≡ b
    some_is e = cc
split_at P (y ∷ ys) (suc i) x met at =
    let k = split_at P ys i x (λ j z lt h. met (suc j) z (omega (arith, lt)) h) at in
    (y ∷ k.0, k.1, ap (λ w. y ∷ w) k.2, (met 0 y (omega arith) refl, k.3))

-- all operands are met where none is left
all_met : (P : DeclarationId → Type 0) (xs : List DeclarationId) (i : ℕ)
    → ((j : ℕ) (y : DeclarationId) → j < i → slice_get xs j ≡ Some y → P y) → slice_get xs i ≡ None → Each P xs
all_met P [] i met none = tt
all_met P (y ∷ ys) zero met none = cc
all_met P (y ∷ ys) (suc i) met none =
    (met 0 y (omega arith) refl, all_met P ys i (λ j z lt h. met (suc j) z (omega (arith, lt)) h) none)

-- the rows say whether one of their operands is memoized
any_rows : (r : RowRecord) (s : WalkState) → FitsRecord r s → (rows : List ℕ)
    → list_any (is_set s.answered) rows ≡ list_any (progress r s).memoized (operands_of r.operands rows)
any_rows r s fits [] = refl
any_rows r s fits (row ∷ rows) =
    ap (λ w. w || list_any (is_set s.answered) rows) (fits.answered row)
    ∙ ap (λ w. list_any (progress r s).memoized (operands_at r.operands row) || w) (any_rows r s fits rows)
    ∙ sym (list_any-append (progress r s).memoized (operands_at r.operands row) (operands_of r.operands rows))

module _ (r : RowRecord) where
  -- the operands of the rows that are left begin with those of the next row
  next_row : (rows : List ℕ) (i j row : ℕ) → slice_get rows i ≡ Some row → j ≡ i + 1
      → operands_of r.operands (drop i rows) ≡ operands_at r.operands row ++ operands_of r.operands (drop j rows)
  next_row rows i j row at next = ap (operands_of r.operands) (drop-at rows i j row at next)

  operand_more : {p i row count : ℕ} {k d : DeclarationId} {n : RowNode} {f a : Bool} {s s1 s2 : Progress}
      → AreMet r s row count → slice_get r.nodes p ≡ Some (k, n) → slice_get n.rows i ≡ Some row
      → slice_get (operands_at r.operands row) count ≡ Some d → VisitsName (record_of_rows r) d false s s1 a
      → FinishesFrame r (Dependencies p f i) s1 s2 → FinishesFrame r (Dependencies p f i) s s2
  operand_more met at here next visit (frames.no_node lost) = cc
  operand_more {p} {i} {row} {count} {k} {d} {n} {f} {a} {s} {s1} {s2} met at here next visit
      (dependencies {name = k'} {node = m} {later = c} {visited = s3} at' visits is decides) =
      let same = same_entry k k' n m at at' in
      let row_is = subst (λ w. slice_get w.rows i ≡ Some row) (sym same.1) here in
      let split = split_at (IsMet (record_of_rows r) s) (operands_at r.operands row) count d met next in
      let others = operands_of r.operands (drop (i + 1) m.rows) in
      let whole : operands_of r.operands (drop i m.rows) ≡ split.0 ++ d ∷ (split.1 ++ others) =
      next_row m.rows i (i + 1) row row_is refl ∙ ap (λ w. w ++ others) split.2
      ∙ append_assoc split.0 (d ∷ split.1) others in
      let all = visit_first (record_of_rows r) split.0 (split.1 ++ others) d false a c s s1 s3 split.3 visit
      (subst (λ w. VisitsNames (record_of_rows r) w false s1 s3 c) whole visits) in
      dependencies at' (subst (λ w. VisitsNames (record_of_rows r) w false s s3 all.0) (sym whole) all.1) is decides

  -- the next operand of a row
  pub operand_step : (p i row : ℕ) (k : DeclarationId) (n : RowNode) (d : DeclarationId) (f : Bool) (s : WalkState)
      (s1 : Progress) (old mid later : List VisitFrame) → FitsRecord r s → slice_get r.nodes p ≡ Some (k, n)
      → slice_get n.rows i ≡ Some row → slice_get (operands_at r.operands row) (passed_of s row) ≡ Some d
      → mid ≡ old ++ Dependencies p f i ∷ [] → BeginsVisit r later s1 d false (reverse mid) (progress r s)
      → ResumesFrame r later s1 (Dependencies p f i) (reverse old) (progress r s)
  unfolding BeginsVisit ResumesFrame Finishes
  operand_step p i row k n d f s s1 old mid later fits at here next push visiting t ends =
      let v = visiting t ends in
      let m = subst (λ w. Finishes r w v.0 t) (reverse-push old mid (Dependencies p f i) push) v.2 in
      (m.0, operand_more (fits.met row) at here next v.1.1 m.1, m.2)

  row_more : {p i j row count : ℕ} {k : DeclarationId} {n : RowNode} {f : Bool} {s s1 : Progress}
      → AreMet r s row count → slice_get r.nodes p ≡ Some (k, n) → slice_get n.rows i ≡ Some row → j ≡ i + 1
      → slice_get (operands_at r.operands row) count ≡ None
      → FinishesFrame r (Dependencies p f j) s s1 → FinishesFrame r (Dependencies p f i) s s1
  row_more met at here next none (frames.no_node lost) = cc
  row_more {p} {i} {j} {row} {count} {k} {n} {f} {s} {s1} met at here next none
      (dependencies {name = k'} {node = m} {later = c} {visited = s3} at' visits is decides) =
      let same = same_entry k k' n m at at' in
      let row_is = subst (λ w. slice_get w.rows i ≡ Some row) (sym same.1) here in
      let others = operands_of r.operands (drop j m.rows) in
      let all = put_met (record_of_rows r) (operands_at r.operands row) others false s s3
      (all_met (IsMet (record_of_rows r) s) (operands_at r.operands row) count met none) (c, visits) in
      dependencies at' (subst (λ w. VisitsNames (record_of_rows r) w false s s3 all.0)
      (sym (next_row m.rows i j row row_is next)) all.1) is decides

  -- a row that has no operand left
  pub row_step : (p i j row : ℕ) (k : DeclarationId) (n : RowNode) (f : Bool) (s : WalkState)
      (old mid : List VisitFrame) → FitsRecord r s → slice_get r.nodes p ≡ Some (k, n)
      → slice_get n.rows i ≡ Some row → j ≡ i + 1 → slice_get (operands_at r.operands row) (passed_of s row) ≡ None
      → mid ≡ old ++ Dependencies p f j ∷ []
      → ResumesFrame r (reverse mid) (progress r s) (Dependencies p f i) (reverse old) (progress r s)
  unfolding ResumesFrame Finishes
  row_step p i j row k n f s old mid fits at here next none push t ends =
      let m = subst (λ w. Finishes r w (progress r s) t) (reverse-push old mid (Dependencies p f j) push) ends in
      (m.0, row_more (fits.met row) at here next none m.1, m.2)

  -- after the last row the node is decided
  pub dependencies_end : (p i : ℕ) (k : DeclarationId) (n : RowNode) (f m : Bool) (s : WalkState) (s1 : Progress)
      (rest later : List VisitFrame) → FitsRecord r s → slice_get r.nodes p ≡ Some (k, n) → slice_get n.rows i ≡ None
      → m ≡ memoizes n.level f (list_any (is_set s.answered) n.rows)
      → BeginsDecision r later s1 k n m rest (progress r s)
      → ResumesFrame r later s1 (Dependencies p f i) rest (progress r s)
  unfolding BeginsDecision ResumesFrame
  dependencies_end p i k n f m s s1 rest later fits at none is deciding t ends =
      let v = deciding t ends in
      let empty = ap (operands_of r.operands) (drop-past n.rows i none) in (
        v.0,
        dependencies at
            (subst (λ w. VisitsNames (record_of_rows r) w false (progress r s) (progress r s) false) (sym empty)
            no_names) (is ∙ ap (memoizes n.level f) (any_rows r s fits n.rows)) v.1,
        v.2,
      )
