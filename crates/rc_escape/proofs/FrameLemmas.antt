-- What one step of the stack does to the walk.
use Rattle.std.proofs.Common.{◌≡◌, ◌∙◌, ◌+◌, ◌++◌, ◌<◌, ℕ, Bool, true, false, List, [], ◌∷◌}
use Rattle.std.proofs.Common.{Some, None, drop, length, refl, reverse, subst, sym}
use Rattle.std.specs.Prelude.{◌||◌, slice_get, slice_set}
use Rattle.rc_names.specs.Numbers.{DeclarationId, ScopeId}
use Rattle.rc_memo.specs.RowRecord.{node_of_rows, operands_of, record_of_rows}
use Rattle.rc_memo.specs.declared.row_record.RowNode.{RowNode}
use Rattle.rc_memo.specs.declared.row_record.RowRecord.{RowRecord}
use Rattle.rc_escape.specs.declared.walk_state.NodeMark.{NodeMark}
use Rattle.rc_escape.specs.declared.walk_state.NodeMark.TheVariants.{Unseen, Seen, Memoized}
use Rattle.rc_escape.specs.declared.walk_state.WalkState.{WalkState}
use Rattle.rc_escape.specs.declared.walk_state.VisitFrame.{VisitFrame}
use Rattle.rc_escape.specs.declared.walk_state.VisitFrame.TheVariants.{Escaping, Dependencies, Scopes}
use Rattle.rc_escape.specs.declared.walk_state.VisitFrame.TheVariants.{ScopeDependencies}
use Rattle.rc_escape.specs.MemoWalk.{node_of, dependencies_of, Progress, with_seen, with_memoized, with_taken}
use Rattle.rc_escape.specs.MemoWalk.{VisitsName, absent, again, VisitsNames, no_names, next_name}
use Rattle.rc_escape.specs.MemoWalk.{DecidesNode, passes, memoizes_it}
use Rattle.rc_escape.specs.MemoWalk.{TakesScopes, no_scopes, without_record, taken_before, takes_it}
use Rattle.rc_escape.specs.inside.WalkPlaces.{entry_or, is_set, says_seen, progress, IsNodeAt, IsScopeAt}
use Rattle.rc_escape.specs.inside.WalkFrames.{FitsRecord, FinishesFrame, at_decision, needs}
use Rattle.rc_escape.specs.inside.WalkFrames.{escaping, dependencies, scopes, scope_dependencies, Finishes}
use Rattle.rc_escape.specs.inside.WalkFrames.{ResumesFrame, BeginsVisit, BeginsDecision, TakesOne, BeginsScope}
use Rattle.rc_escape.specs.inside.WalkFrames as frames
use Rattle.rc_escape.proofs.ListLemmas.{drop-at, drop-past, reverse-push}
use Rattle.rc_escape.proofs.PlaceLemmas.{place_of_distinct}
use Rattle.rc_escape.proofs.RecordPlaces.{same_entry, seen_more, memoized_more, taken_more, seen_is}
use Rattle.rc_escape.proofs.RecordPlaces.{node_is, scope_is, taken_is}
use Rattle.rc_escape.proofs.RowWalks.{first_visit, sound_progress}

module _ (r : RowRecord) where
  -- the visit of a name
  pub visited_absent : (d : DeclarationId) (f : Bool) (s : Progress) (rest : List VisitFrame)
      → node_of (record_of_rows r) d ≡ None
      → BeginsVisit r rest s d f rest s
  unfolding BeginsVisit
  visited_absent d f s rest none t e = (s, (false, absent none), e)

  pub visited_again : (d : DeclarationId) (f : Bool) (m : NodeMark) (s : WalkState) (p : ℕ) (n : RowNode)
      (rest : List VisitFrame) → IsNodeAt r d p n → m ≡ entry_or Unseen s.marks p → says_seen m ≡ true
      → BeginsVisit r rest (progress r s) d f rest (progress r s)
  unfolding BeginsVisit
  visited_again d f m s p n rest at is seen t e = (
    progress r s,
    (
      (progress r s).memoized d,
      again (node_is r d d p n at.place_is at.entry) (seen_is r s d p m at.place_is (sym is) ∙ seen) refl,
    ),
    e,
  )

  first_time_by : (d : DeclarationId) (f : Bool) (s : WalkState) (s1 : Progress) (p : ℕ) (n : RowNode)
      → IsNodeAt r d p n → (progress r s).seen d ≡ false
      → FinishesFrame r (Dependencies p f 0) (with_seen (progress r s) d) s1
      → (b : Bool) × VisitsName (record_of_rows r) d f (progress r s) s1 b
  first_time_by d f s s1 p n at unseen (frames.no_node lost) = let entry = at.entry in cc
  first_time_by d f s s1 p n at unseen
      (dependencies {name = k} {node = m} {later = c} {answer = b} {visited = s2} entry visits is decides) =
      let e = same_entry d k n m at.entry entry in
      let rec = record_of_rows r in
      let ops = r.operands in
      let from = with_seen (progress r s) d in (
        b,
        first_visit r d n f b c (progress r s) s2 s1 (sound_progress r s)
            (node_is r d d p n at.place_is at.entry) unseen
            (subst (λ w. VisitsNames rec (operands_of ops w.rows) false from s2 c) e.1 visits)
            (subst (λ w. b ≡ needs r w f s2) e.1 is)
            (subst (λ w. DecidesNode rec w (node_of_rows ops w n) b (at_decision s2 w b) s1) e.0
            (subst (λ w. DecidesNode rec k (node_of_rows ops k w) b (at_decision s2 k b) s1) e.1 decides)),
      )

  pub entered : (d : DeclarationId) (f : Bool) (s : WalkState) (p : ℕ) (n : RowNode) (old new : List VisitFrame)
      → FitsRecord r s → IsNodeAt r d p n → entry_or Unseen s.marks p ≡ Unseen → p < length r.nodes
      → new ≡ old ++ Dependencies p f 0 ∷ []
      → BeginsVisit r (reverse new) (progress r (record s { marks = slice_set s.marks p Seen })) d f (reverse old)
      (progress r s)
  unfolding BeginsVisit Finishes
  entered d f s p n old new fits at unseen lt push t e =
      let more = seen_more r s d p at.place_is (subst (λ w. p < w) (sym fits.marks) lt) unseen in
      let k = subst (λ w. Finishes r (reverse new) w t) more e in
      let k = subst (λ w. Finishes r w (with_seen (progress r s) d) t)
      (reverse-push old new (Dependencies p f 0) push) k in
      (k.0, first_time_by d f s k.0 p n at (seen_is r s d p Unseen at.place_is unseen) k.1, k.2)

  -- the escaping names
  escaping_more : {i j : ℕ} {d : DeclarationId} {b : Bool} {s s1 s2 : Progress} → slice_get r.escaping i ≡ Some d
      → j ≡ i + 1 → VisitsName (record_of_rows r) d false s s1 b
      → FinishesFrame r (Escaping j) s1 s2 → FinishesFrame r (Escaping i) s s2
  escaping_more {i} {j} {d} {b} {s = s} {s2 = s2} h e visit (escaping {answer = c} visits) =
      escaping (subst (λ w. VisitsNames (record_of_rows r) w false s s2 (b || c)) (sym (drop-at r.escaping i j d h e))
      (next_name visit visits refl))

  pub escaping_step : (i j : ℕ) (d : DeclarationId) (s s0 : Progress) (old mid later : List VisitFrame)
      → slice_get r.escaping i ≡ Some d → j ≡ i + 1 → mid ≡ old ++ Escaping j ∷ []
      → BeginsVisit r later s d false (reverse mid) s0 → ResumesFrame r later s (Escaping i) (reverse old) s0
  unfolding BeginsVisit ResumesFrame Finishes
  escaping_step i j d s s0 old mid later h e push visiting t ends =
      let v = visiting t ends in
      let k = subst (λ w. Finishes r w v.0 t) (reverse-push old mid (Escaping j) push) v.2 in
      (k.0, escaping_more h e v.1.1 k.1, k.2)

  pub escaping_end : (i : ℕ) (s : Progress) (rest : List VisitFrame) → slice_get r.escaping i ≡ None
      → ResumesFrame r rest s (Escaping i) rest s
  unfolding ResumesFrame
  escaping_end i s rest h t e = (
    s,
    escaping (subst (λ w. VisitsNames (record_of_rows r) w false s s false) (sym (drop-past r.escaping i h)) no_names),
    e,
  )

  -- the rows of a node
  pub dependencies_gone : (p i : ℕ) (f : Bool) (s : Progress) (rest : List VisitFrame) → slice_get r.nodes p ≡ None
      → ResumesFrame r rest s (Dependencies p f i) rest s
  unfolding ResumesFrame
  dependencies_gone p i f s rest h t e = (s, frames.no_node h, e)

  -- the decision on a node
  pub decided_not : (d : DeclarationId) (n : RowNode) (s : Progress) (rest : List VisitFrame)
      → BeginsDecision r rest s d n false rest s
  unfolding BeginsDecision
  decided_not d n s rest t e = (s, passes, e)

  memoizes_by : {p : ℕ} {d : DeclarationId} {n : RowNode} {s s1 : Progress}
      → slice_get r.nodes p ≡ Some (d, n) → FinishesFrame r (Scopes p 0) (with_memoized s d) s1
      → DecidesNode (record_of_rows r) d (node_of_rows r.operands d n) true s s1
  unfolding node_of_rows
  memoizes_by at (frames.no_scopes lost) = cc
  memoizes_by {p} {d} {n} {s} {s1} at (scopes {name = k} {node = m} at' takes) =
      memoizes_it
      (subst (λ w. TakesScopes (record_of_rows r) w.scopes (with_memoized s d) s1) (same_entry d k n m at at').1 takes)

  pub decided : (d : DeclarationId) (p : ℕ) (n : RowNode) (s s1 : WalkState) (old new : List VisitFrame)
      → FitsRecord r s → slice_get r.nodes p ≡ Some (d, n) → p < length r.nodes
      → s1.marks ≡ slice_set s.marks p Memoized → s1.taken ≡ s.taken
      → new ≡ old ++ Scopes p 0 ∷ []
      → BeginsDecision r (reverse new) (progress r s1) d n true (reverse old) (progress r s)
  unfolding BeginsDecision Finishes
  decided d p n s s1 old new fits at lt marks same push t e =
      let place = place_of_distinct r.nodes p (d, n) fits.distinct at in
      let more = memoized_more r s s1 d p place (subst (λ w. p < w) (sym fits.marks) lt) marks same in
      let k = subst (λ w. Finishes r (reverse new) w t) more e in
      let k = subst (λ w. Finishes r w (with_memoized (with_seen (progress r s) d) d) t)
      (reverse-push old new (Scopes p 0) push) k in
      (k.0, memoizes_by at k.1, k.2)

  -- the scopes of a node
  scopes_more : {p i j : ℕ} {k : DeclarationId} {n : RowNode} {c : ScopeId} {s s1 s2 : Progress}
      → slice_get r.nodes p ≡ Some (k, n) → slice_get n.scopes i ≡ Some c → j ≡ i + 1
      → TakesOne r c s s1 → FinishesFrame r (Scopes p j) s1 s2 → FinishesFrame r (Scopes p i) s s2
  scopes_more at h e one (frames.no_scopes lost) = cc
  scopes_more {p} {i} {j} {k} {n} {c} {s = s} {s1 = s1} {s2 = s2} at h e one (scopes {name = k'} {node = m} at' rest) =
      scopes at
      (subst (λ w. TakesScopes (record_of_rows r) w s s2) (sym (drop-at n.scopes i j c h e))
      (one (drop j n.scopes) s2
      (subst (λ w. TakesScopes (record_of_rows r) (drop j w.scopes) s1 s2) (same_entry k k' n m at at').1 rest)))

  pub scopes_step : (p i j : ℕ) (k : DeclarationId) (n : RowNode) (c : ScopeId) (s s0 : Progress)
      (old mid later : List VisitFrame) → slice_get r.nodes p ≡ Some (k, n) → slice_get n.scopes i ≡ Some c → j ≡ i + 1
      → mid ≡ old ++ Scopes p j ∷ []
      → BeginsScope r later s c (reverse mid) s0 → ResumesFrame r later s (Scopes p i) (reverse old) s0
  unfolding BeginsScope ResumesFrame Finishes
  scopes_step p i j k n c s s0 old mid later at h e push taking t ends =
      let v = taking t ends in
      let m = subst (λ w. Finishes r w v.0 t) (reverse-push old mid (Scopes p j) push) v.2 in
      (m.0, scopes_more at h e v.1 m.1, m.2)

  pub scopes_end : (p i : ℕ) (k : DeclarationId) (n : RowNode) (s : Progress) (rest : List VisitFrame)
      → slice_get r.nodes p ≡ Some (k, n) → slice_get n.scopes i ≡ None
      → ResumesFrame r rest s (Scopes p i) rest s
  unfolding ResumesFrame
  scopes_end p i k n s rest at h t e =
      (s, scopes at (subst (λ w. TakesScopes (record_of_rows r) w s s) (sym (drop-past n.scopes i h)) no_scopes), e)

  pub scopes_gone : (p i : ℕ) (s : Progress) (rest : List VisitFrame) → slice_get r.nodes p ≡ None
      → ResumesFrame r rest s (Scopes p i) rest s
  unfolding ResumesFrame
  scopes_gone p i s rest h t e = (s, frames.no_scopes h, e)

  -- the taking of a scope
  pub taken_unknown : (c : ScopeId) (s : Progress) (rest : List VisitFrame)
      → dependencies_of (record_of_rows r) c ≡ None
      → BeginsScope r rest s c rest s
  unfolding BeginsScope
  taken_unknown c s rest none t e = (s, (λ cs end takes. without_record none takes), e)

  pub taken_earlier : (c : ScopeId) (q : ℕ) (ds : List DeclarationId) (s : WalkState) (rest : List VisitFrame)
      → IsScopeAt r c q ds → is_set s.taken q ≡ true
      → BeginsScope r rest (progress r s) c rest (progress r s)
  unfolding BeginsScope
  taken_earlier c q ds s rest at taken t e = (
    progress r s,
    (λ cs end takes. taken_before (scope_is r c c q ds at.place_is at.entry) (taken_is r s c q at.place_is ∙ taken)
        takes),
    e,
  )

  takes_by : {c : ScopeId} {q : ℕ} {ds : List DeclarationId} {s s1 : Progress} → IsScopeAt r c q ds
      → s.taken c ≡ false
      → FinishesFrame r (ScopeDependencies q 0) (with_taken s c) s1 → TakesOne r c s s1
  takes_by at untaken (frames.no_scope lost) = let entry = at.entry in cc
  takes_by {c} {q} {ds} {s} {s1} at untaken (scope_dependencies {scope = k} {names = es} {answer = x} entry visits) =
      λ cs end takes. takes_it (scope_is r c c q ds at.place_is at.entry) untaken
      (subst (λ w. VisitsNames (record_of_rows r) w true (with_taken s c) s1 x)
      (same_entry c k ds es at.entry entry).1 visits) takes

  pub taken : (c : ScopeId) (q : ℕ) (ds : List DeclarationId) (s : WalkState) (old new : List VisitFrame)
      → FitsRecord r s → IsScopeAt r c q ds → is_set s.taken q ≡ false → q < length r.scopes
      → new ≡ old ++ ScopeDependencies q 0 ∷ []
      → BeginsScope r (reverse new) (progress r (record s { taken = slice_set s.taken q true })) c (reverse old)
      (progress r s)
  unfolding BeginsScope Finishes
  taken c q ds s old new fits at untaken lt push t e =
      let more = taken_more r s c q at.place_is (subst (λ w. q < w) (sym fits.taken) lt) in
      let k = subst (λ w. Finishes r (reverse new) w t) more e in
      let k = subst (λ w. Finishes r w (with_taken (progress r s) c) t)
      (reverse-push old new (ScopeDependencies q 0) push) k in
      (k.0, takes_by at (taken_is r s c q at.place_is ∙ untaken) k.1, k.2)

  -- the dependencies of a scope
  names_more : {q i j : ℕ} {k : ScopeId} {ds : List DeclarationId} {d : DeclarationId} {b : Bool} {s s1 s2 : Progress}
      → slice_get r.scopes q ≡ Some (k, ds) → slice_get ds i ≡ Some d → j ≡ i + 1
      → VisitsName (record_of_rows r) d true s s1 b → FinishesFrame r (ScopeDependencies q j) s1 s2
      → FinishesFrame r (ScopeDependencies q i) s s2
  names_more at h e visit (frames.no_scope lost) = cc
  names_more {q} {i} {j} {k} {ds} {d} {b} {s = s} {s1 = s1} {s2 = s2} at h e visit
      (scope_dependencies {scope = k'} {names = es} {answer = x} at' visits) =
      let rest = subst (λ w. VisitsNames (record_of_rows r) (drop j w) true s1 s2 x) (same_entry k k' ds es at at').1
      visits in
      scope_dependencies at
      (subst (λ w. VisitsNames (record_of_rows r) w true s s2 (b || x)) (sym (drop-at ds i j d h e))
      (next_name visit rest refl))

  pub names_step : (q i j : ℕ) (k : ScopeId) (ds : List DeclarationId) (d : DeclarationId) (s s0 : Progress)
      (old mid later : List VisitFrame) → slice_get r.scopes q ≡ Some (k, ds)
      → slice_get ds i ≡ Some d → j ≡ i + 1 → mid ≡ old ++ ScopeDependencies q j ∷ []
      → BeginsVisit r later s d true (reverse mid) s0
      → ResumesFrame r later s (ScopeDependencies q i) (reverse old) s0
  unfolding BeginsVisit ResumesFrame Finishes
  names_step q i j k ds d s s0 old mid later at h e push visiting t ends =
      let v = visiting t ends in
      let m = subst (λ w. Finishes r w v.0 t) (reverse-push old mid (ScopeDependencies q j) push) v.2 in
      (m.0, names_more at h e v.1.1 m.1, m.2)

  pub names_end : (q i : ℕ) (k : ScopeId) (ds : List DeclarationId) (s : Progress) (rest : List VisitFrame)
      → slice_get r.scopes q ≡ Some (k, ds) → slice_get ds i ≡ None
      → ResumesFrame r rest s (ScopeDependencies q i) rest s
  unfolding ResumesFrame
  names_end q i k ds s rest at h t e = (
    s,
    scope_dependencies at
        (subst (λ w. VisitsNames (record_of_rows r) w true s s false) (sym (drop-past ds i h)) no_names),
    e,
  )

  pub names_gone : (q i : ℕ) (s : Progress) (rest : List VisitFrame) → slice_get r.scopes q ≡ None
      → ResumesFrame r rest s (ScopeDependencies q i) rest s
  unfolding ResumesFrame
  names_gone q i s rest h t e = (s, frames.no_scope h, e)
