-- The walk over a record is the walk over the record in which each node has a row of its own.
use Rattle.std.proofs.Common.{◌≡◌, ◌∙◌, ◌⊎◌, ◌+◌, ◌++◌, inl, inr, ℕ, suc, Bool, true, false, List, [], ◌∷◌, Option}
use Rattle.std.proofs.Common.{Some, None, ap, arith, cond, not, refl, subst, sym}
use Rattle.std.specs.Prelude.{◌||◌, filter, flat_map, is_none, map, option_map, slice_get, unwrap_or}
use Rattle.std.specs.Map.{lookup}
use Rattle.std.proofs.lemmas.List.{append-nil}
use Rattle.std.proofs.lemmas.Option.{slice_get-map}
use Rattle.rc_hir.specs.Model.{Fault}
use Rattle.rc_hir.specs.declared.fault.Fault.TheVariants as faults
use Rattle.rc_names.specs.Numbers.{DeclarationId, ScopeId, same_id}
use Rattle.rc_names.proofs.NumbersLemmas.{ids_equivalence, same_id-eq}
use Rattle.rc_memo.specs.Facts.{distinct}
use Rattle.rc_memo.specs.RowRecord.{names_but, node_of_rows, nodes_of_rows, operands_at, record_of_rows}
use Rattle.rc_memo.specs.declared.record.MemoNode.{MemoNode}
use Rattle.rc_memo.specs.declared.record.MemoRecord.{MemoRecord}
use Rattle.rc_memo.specs.declared.row_record.RowRecord.{RowRecord}
use Rattle.rc_escape.specs.MemoSet.{IsLowest, IsMemoSet, IsNoScopeNode, IsWalked, scopes_without_record}
use Rattle.rc_escape.specs.MemoWalk.{dependencies_of, memoizes, node_of, nothing_met, Progress, with_seen}
use Rattle.rc_escape.specs.MemoWalk.{with_memoized}
use Rattle.rc_escape.specs.MemoWalk.{VisitsName, absent, again, first_time, VisitsNames, no_names, next_name}
use Rattle.rc_escape.specs.MemoWalk.{DecidesNode, passes, memoizes_it}
use Rattle.rc_escape.specs.MemoWalk.{TakesScopes, no_scopes, without_record, taken_before, takes_it}
use Rattle.rc_escape.specs.inside.OneRowEach.{IsOneRowEach, nodes_from, with_row}
use Rattle.rc_escape.specs.inside.WalkFrames.{IsMet}
use Rattle.rc_escape.proofs.MetGrows.{grows_names}
use Rattle.rc_escape.proofs.MetVisits.{any-left, visit_repeated}
use Rattle.rc_escape.proofs.RowWalks.{name_out}
use Rattle.rc_escape.proofs.StaysLemmas.{IsSound, answer_names, sound_memoized, sound_name, sound_names, sound_seen}
use Rattle.rc_escape.proofs.StaysLemmas.{sound_by, stays_names, unseen_not}

-- a node of the rows is the node, with each dependency once and without the name itself
record IsAlike (d : DeclarationId) (n m : MemoNode) : Type 0 where
  level : m.level ≡ n.level
  dependencies : m.dependencies ≡ distinct same_id (names_but d n.dependencies)
  scopes : m.scopes ≡ n.scopes

-- a name has both nodes, or none
data AreAlike (d : DeclarationId) (first second : Option MemoNode) : Type 0 where
  neither : first ≡ None → second ≡ None → AreAlike d first second
  both : {n m : MemoNode} → first ≡ Some n → second ≡ Some m → IsAlike d n m → AreAlike d first second

alike_here : (ops : List (List DeclarationId)) (d k : DeclarationId) (n : MemoNode) (i : ℕ) → d ≡ k
    → slice_get ops i ≡ Some n.dependencies → IsAlike d n (node_of_rows ops k (with_row n i))
unfolding node_of_rows
alike_here ops d k n i same at = record {
  level = refl;
  dependencies = ap (λ w. distinct same_id (names_but k w))
      (append-nil (operands_at ops i) ∙ ap (λ o. unwrap_or o []) at)
      ∙ ap (λ w. distinct same_id (names_but w n.dependencies)) (sym same);
  scopes = refl;
}

alike_nodes : (ops : List (List DeclarationId)) (d : DeclarationId) (es : List (DeclarationId × MemoNode)) (from : ℕ)
    → ((i : ℕ) (k : DeclarationId) (n : MemoNode) → slice_get es i ≡ Some (k, n)
    → slice_get ops (from + i) ≡ Some n.dependencies)
    → AreAlike d (lookup (same_id d) es) (lookup (same_id d) (nodes_of_rows ops (nodes_from from es)))
alike_nodes ops d [] from rows = neither refl refl
alike_nodes ops d (e ∷ es) from rows = go (same_id d e.0) refl (alike_nodes ops d es (from + 1) later)
  where
    later : (i : ℕ) (k : DeclarationId) (n : MemoNode) → slice_get es i ≡ Some (k, n)
        → slice_get ops (from + 1 + i) ≡ Some n.dependencies
    later i k n at =
        let place : from + 1 + i ≡ from + suc i = omega arith in
        ap (slice_get ops) place ∙ rows (suc i) k n at

    first : slice_get ops from ≡ Some e.1.dependencies
    first = let place : from ≡ from + 0 = omega arith in ap (slice_get ops) place ∙ rows 0 e.0 e.1 refl

    made : MemoNode
    made = node_of_rows ops e.0 (with_row e.1 from)

    go : (b : Bool) → same_id d e.0 ≡ b
        → AreAlike d (lookup (same_id d) es) (lookup (same_id d) (nodes_of_rows ops (nodes_from (from + 1) es)))
        → AreAlike d (cond b (Some e.1) (lookup (same_id d) es))
        (cond b (Some made) (lookup (same_id d) (nodes_of_rows ops (nodes_from (from + 1) es))))
    go true same rest = both refl refl (alike_here ops d e.0 e.1 from (same_id-eq d e.0 same) first)
    go false same rest = rest

module _ (rec : MemoRecord) (rows : RowRecord) (each : IsOneRowEach rec rows) where
  nodes_alike : (d : DeclarationId) → AreAlike d (node_of rec d) (node_of (record_of_rows rows) d)
  unfolding record_of_rows
  nodes_alike d =
      let ops = map (λ entry. entry.1.dependencies) rec.nodes in
      subst (λ w. AreAlike d (node_of rec d) (lookup (same_id d) (nodes_of_rows w rows.nodes))) (sym each.operands)
      (subst (λ w. AreAlike d (node_of rec d) (lookup (same_id d) (nodes_of_rows ops w))) (sym each.nodes)
      (alike_nodes ops d rec.nodes 0 (λ i k n at.
      let place : 0 + i ≡ i = omega arith in
      ap (slice_get ops) place ∙ slice_get-map (λ entry. entry.1.dependencies) rec.nodes i
      ∙ ap (option_map (λ entry. entry.1.dependencies)) at)))

  scopes_same : (c : ScopeId) → dependencies_of rec c ≡ dependencies_of (record_of_rows rows) c
  unfolding record_of_rows
  scopes_same c = ap (lookup (same_id c)) (sym each.scopes)

  escaping_same : (record_of_rows rows).escaping ≡ rec.escaping
  unfolding record_of_rows
  escaping_same = each.escaping

  -- the node of the record, for one of the rows
  record IsNodeOf (d : DeclarationId) (m : MemoNode) : Type 0 where
    node : MemoNode
    found : node_of rec d ≡ Some node
    alike : IsAlike d node m

  node_behind : (d : DeclarationId) (m : MemoNode) → node_of (record_of_rows rows) d ≡ Some m → IsNodeOf d m
  node_behind d m found = go (nodes_alike d)
    where
      go : AreAlike d (node_of rec d) (node_of (record_of_rows rows) d) → IsNodeOf d m
      go (neither first second) = cc
      go (both {n = n} {m = m'} first second alike) =
          let same : m' ≡ m = cc in record { node = n; found = first; alike = subst (IsAlike d n) same alike }

  absent_behind : (d : DeclarationId) → node_of (record_of_rows rows) d ≡ None → node_of rec d ≡ None
  absent_behind d none = go (nodes_alike d)
    where
      go : AreAlike d (node_of rec d) (node_of (record_of_rows rows) d) → node_of rec d ≡ None
      go (neither first second) = first
      go (both first second alike) = cc

  -- the first visit of a name, by its dependencies
  first_by : (d : DeclarationId) (n m : MemoNode) (f b c : Bool) (s s2 s1 : Progress) → IsSound rec s
      → node_of rec d ≡ Some n → IsAlike d n m → s.seen d ≡ false
      → VisitsNames rec m.dependencies false (with_seen s d) s2 c → b ≡ memoizes m.level f c
      → DecidesNode rec d n b s2 s1 → VisitsName rec d f s s1 b
  first_by d n m f b c s s2 s1 sound at alike unseen visits is decides =
      first_time at unseen all.1
      (is ∙ ap (λ w. memoizes w f c) alike.level ∙ ap (memoizes n.level f) needs_one) decides
    where
      itself : (with_seen s d).seen d ≡ true
      itself = ap (λ w. w || s.seen d) (ids_equivalence.refl d)

      names : VisitsNames rec (distinct same_id (names_but d n.dependencies)) false (with_seen s d) s2 c
      names = subst (λ w. VisitsNames rec w false (with_seen s d) s2 c) alike.dependencies visits

      all : (a : Bool) × VisitsNames rec n.dependencies false (with_seen s d) s2 a
      all = visit_repeated rec (λ e. not (same_id d e)) n.dependencies false c (with_seen s d) s2
          (name_out d (IsMet rec (with_seen s d)) (λ x h. itself)) names

      not_itself : s2.memoized d ≡ false
      not_itself = stays_names visits d itself ∙ unseen_not s d sound unseen

      needs_one : c ≡ all.0
      needs_one = answer_names names (sound_seen s d sound)
          ∙ any-left s2.memoized (λ e. not (same_id d e)) n.dependencies
          (name_out d (λ e. s2.memoized e ≡ false) not_itself)
          ∙ sym (answer_names all.1 (sound_seen s d sound))

  mutual
    to_name : {d : DeclarationId} {f a : Bool} {s t : Progress} → VisitsName (record_of_rows rows) d f s t a
        → IsSound rec s → VisitsName rec d f s t a
    to_name {d} (absent none) sound = absent (absent_behind d none)
    to_name {d} (again {node = m} found seen is) sound = again (node_behind d m found).found seen is
    to_name {d} {f} {a} {s} {t}
        (first_time {node = m} {needs_one = c} {visited = s1} found unseen visits is decides) sound =
        let own = node_behind d m found in
        let inner = to_names visits (sound_seen s d sound) in
        let seen = (grows_names visits).seen d (ap (λ w. w || s.seen d) (ids_equivalence.refl d)) in
        first_by d own.node m f a c s s1 t sound own.found own.alike unseen inner is
        (to_decides d own.node m own.found own.alike seen decides (sound_names inner (sound_seen s d sound)))

    to_names : {ds : List DeclarationId} {f a : Bool} {s t : Progress} → VisitsNames (record_of_rows rows) ds f s t a
        → IsSound rec s → VisitsNames rec ds f s t a
    to_names no_names sound = no_names
    to_names (next_name visit visits is) sound =
        let one = to_name visit sound in next_name one (to_names visits (sound_name one sound)) is

    to_decides : (d : DeclarationId) (n m : MemoNode) {a : Bool} {s t : Progress} → node_of rec d ≡ Some n
        → IsAlike d n m → s.seen d ≡ true → DecidesNode (record_of_rows rows) d m a s t → IsSound rec s
        → DecidesNode rec d n a s t
    to_decides d n m at alike seen passes sound = passes
    to_decides d n m {s = s} {t = t} at alike seen (memoizes_it takes) sound =
        memoizes_it (subst (λ w. TakesScopes rec w (with_memoized s d) t) alike.scopes
        (to_takes takes (sound_memoized s d n at seen sound)))

    to_takes : {cs : List ScopeId} {s t : Progress} → TakesScopes (record_of_rows rows) cs s t → IsSound rec s
        → TakesScopes rec cs s t
    to_takes no_scopes sound = no_scopes
    to_takes (without_record {scope = c} none rest) sound =
        without_record (scopes_same c ∙ none) (to_takes rest sound)
    to_takes (taken_before {scope = c} at taken rest) sound =
        taken_before (scopes_same c ∙ at) taken (to_takes rest sound)
    to_takes (takes_it {scope = c} at untaken visits rest) sound =
        let inner = to_names visits (λ e h. sound_by (sound e h).found (sound e h).seen) in
        takes_it (scopes_same c ∙ at) untaken inner
        (to_takes rest (sound_names inner (λ e h. sound_by (sound e h).found (sound e h).seen)))

  -- the walk over the rows is a walk over the record
  walked_behind : (met : Progress) → IsWalked (record_of_rows rows) met → IsWalked rec met
  walked_behind met walked = record {
    answer = walked.answer;
    visits = to_names
        (subst (λ w. VisitsNames (record_of_rows rows) w false nothing_met met walked.answer) escaping_same
        walked.visits) (λ d h. cc);
  }

  pub memo_set_behind : (set : List DeclarationId) → IsMemoSet (record_of_rows rows) set → IsMemoSet rec set
  memo_set_behind set is = record { end = is.end; walked = walked_behind is.end is.walked; names = is.names }

  -- the same scopes have no record
  pub missing_behind : scopes_without_record (record_of_rows rows) ≡ scopes_without_record rec
  unfolding record_of_rows node_of_rows
  missing_behind =
      ap (λ w. flat_map (lacking w) (nodes_of_rows rows.operands rows.nodes)) each.scopes
      ∙ ap (λ w. flat_map (lacking rec.scopes) (nodes_of_rows rows.operands w)) each.nodes ∙ go rec.nodes 0
    where
      lacking : List (ScopeId × List DeclarationId) → DeclarationId × MemoNode → List ScopeId
      lacking scopes entry = filter (λ scope. is_none (lookup (same_id scope) scopes)) entry.1.scopes

      go : (es : List (DeclarationId × MemoNode)) (from : ℕ)
          → flat_map (lacking rec.scopes) (nodes_of_rows rows.operands (nodes_from from es))
          ≡ flat_map (lacking rec.scopes) es
      go [] from = refl
      go (e ∷ es) from = ap (λ w. lacking rec.scopes e ++ w) (go es (from + 1))

  no_scope_behind : (fault : Fault) → IsNoScopeNode (record_of_rows rows) fault → IsNoScopeNode rec fault
  no_scope_behind fault is = record {
    scope = is.scope;
    names_it = is.names_it;
    lowest = subst (λ w. IsLowest w is.scope) missing_behind is.lowest;
  }

  pub fault_behind : (fault : Fault) → (fault ≡ faults.NoMemory) ⊎ IsNoScopeNode (record_of_rows rows) fault
      → (fault ≡ faults.NoMemory) ⊎ IsNoScopeNode rec fault
  fault_behind fault (inl memory) = inl memory
  fault_behind fault (inr is) = inr (no_scope_behind fault is)
