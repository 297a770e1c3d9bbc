-- A record whose nodes have a row each is made node by node.
use Rattle.std.proofs.Common.{◌≡◌, ◌∙◌, ◌+◌, ◌<◌, ◌≤◌, ◌++◌, inl, inr, ℕ, zero, suc, Bool, true, false, List, []}
use Rattle.std.proofs.Common.{◌∷◌, Some, add-one, ap, arith, cond, length, length-append, refl, subst, sym, take}
use Rattle.std.specs.Prelude.{map, option_map, slice_get}
use Rattle.std.specs.List.{AllByRecursion as Each, IsDistinct}
use Rattle.std.specs.Map.{keys_of}
use Rattle.std.proofs.lemmas.Map.Keys.{IsDistinct-head, IsDistinct-tail}
use Rattle.std.proofs.lemmas.Option.{slice_get-map, slice_get_cases}
use Rattle.indexmap.specs.IndexMap.{insert_entry}
use Rattle.rc_names.specs.Numbers.{DeclarationId, same_id}
use Rattle.rc_names.specs.declared.numbers.Id.{Id}
use Rattle.rc_names.proofs.NumbersLemmas.{ids_equivalence}
use Rattle.rc_memo.specs.declared.record.MemoNode.{MemoNode}
use Rattle.rc_memo.specs.declared.record.MemoRecord.{MemoRecord}
use Rattle.rc_memo.specs.declared.row_record.RowRecord.{RowRecord}
use Rattle.rc_escape.specs.inside.OneRowEach.{AddsNode, IsOneRowEach, nodes_from, with_row}
use Rattle.rc_escape.proofs.ListLemmas.{take_all, take_next}

-- what holds of each entry holds of the one at a place
each_at : {X : Type 0} (P : X → Type 0) (xs : List X) (i : ℕ) (x : X) → Each P xs → slice_get xs i ≡ Some x → P x
each_at P [] i x all at = cc
each_at P (y ∷ ys) zero x all at = let same : y ≡ x = cc in subst P same all.0
each_at P (y ∷ ys) (suc i) x all at = each_at P ys i x all.1 at

-- the next of distinct entries goes last
insert_suc : {K V : Type 0} (es : List (Id K × V)) (i : ℕ) (k : Id K) (v : V) → IsDistinct same_id (keys_of es)
    → slice_get es i ≡ Some (k, v) → insert_entry same_id (take i es) k v ≡ take (suc i) es
insert_suc [] i k v distinct at = cc
insert_suc {K} {V} (e ∷ es) zero k v distinct at =
    let same : ◌≡◌ {A = Id K × V} e (k, v) = cc in ap (λ w. w ∷ []) (sym same)
insert_suc (e ∷ es) (suc i) k v distinct at =
    go (same_id k e.0) refl (insert_suc es i k v (IsDistinct-tail same_id e.0 (keys_of es) distinct) at)
  where
    key : slice_get (keys_of es) i ≡ Some k
    key = slice_get-map (λ x. x.0) es i ∙ ap (option_map (λ x. x.0)) at

    apart : same_id k e.0 ≡ false
    apart = ids_equivalence.symm k e.0
        ∙ each_at (λ y. same_id e.0 y ≡ false) (keys_of es) i k (IsDistinct-head same_id e.0 (keys_of es) distinct) key

    go : (b : Bool) → same_id k e.0 ≡ b → insert_entry same_id (take i es) k v ≡ take (suc i) es
        → cond b ((e.0, v) ∷ take i es) (e ∷ insert_entry same_id (take i es) k v) ≡ e ∷ take (suc i) es
    go true e rest = cc apart
    go false e' rest = ap (λ w. e ∷ w) rest

pub insert_next : {K V : Type 0} (es : List (Id K × V)) (i : ℕ) (k : Id K) (v : V) → IsDistinct same_id (keys_of es)
    → slice_get es i ≡ Some (k, v) → insert_entry same_id (take i es) k v ≡ take (i + 1) es
insert_next es i k v distinct at = insert_suc es i k v distinct at ∙ ap (λ w. take w es) (sym (add-one i))

-- the nodes with their rows have the names of the nodes
pub keys_of_nodes : (es : List (DeclarationId × MemoNode)) (from : ℕ) → keys_of (nodes_from from es) ≡ keys_of es
keys_of_nodes [] from = refl
keys_of_nodes (e ∷ es) from = ap (λ w. e.0 ∷ w) (keys_of_nodes es (from + 1))

pub node_from : (es : List (DeclarationId × MemoNode)) (from i : ℕ) (k : DeclarationId) (n : MemoNode)
    → slice_get es i ≡ Some (k, n) → slice_get (nodes_from from es) i ≡ Some (k, with_row n (from + i))
node_from [] from i k n at = cc
node_from (e ∷ es) from zero k n at =
    let same : ◌≡◌ {A = DeclarationId × MemoNode} e (k, n) = cc in
    let place : from + 0 ≡ from = omega arith in
    ap (λ w. Some (w.0, with_row w.1 from)) same ∙ ap (λ w. Some (k, with_row n w)) (sym place)
node_from (e ∷ es) from (suc i) k n at =
    let place : from + 1 + i ≡ from + suc i = omega arith in
    node_from es (from + 1) i k n at ∙ ap (λ w. Some (k, with_row n w)) place

pub copied_next : {K V : Type 0} (es copy next : List (Id K × V)) (i : ℕ) → IsDistinct same_id (keys_of es)
    → i < length es
    → ((entry : Id K × V) → slice_get es i ≡ Some entry → next ≡ insert_entry same_id copy entry.0 entry.1)
    → copy ≡ take i es → next ≡ take (i + 1) es
copied_next es copy next i distinct lt puts is = elim (slice_get_cases es i).1 [
  | inl w ↦ puts w.0 w.2 ∙ ap (λ v. insert_entry same_id v w.0.0 w.0.1) is
      ∙ insert_next es i w.0.0 w.0.1 distinct w.2
  | inr w ↦ absurd (omega (arith, lt, w.0))
]

pub copied_all : {K V : Type 0} (es copy : List (Id K × V)) (i : ℕ) → length es ≤ i → copy ≡ take i es → copy ≡ es
copied_all es copy i le is = is ∙ take_all es i le

-- the nodes before a place have their rows
pub record IsOneRowBefore (rec : MemoRecord) (i : ℕ) (rows : RowRecord) : Type 0 where
  pub count : length rows.operands ≡ i
  pub nodes : rows.nodes ≡ take i (nodes_from 0 rec.nodes)
  pub operands : rows.operands ≡ take i (map (λ entry. entry.1.dependencies) rec.nodes)
  pub scopes : rows.scopes ≡ rec.scopes
  pub escaping : rows.escaping ≡ rec.escaping

one_row_more : (rec : MemoRecord) (i : ℕ) (k : DeclarationId) (n : MemoNode) (rows next : RowRecord)
    → IsDistinct same_id (keys_of rec.nodes) → slice_get rec.nodes i ≡ Some (k, n) → IsOneRowBefore rec i rows
    → AddsNode rows k n next → IsOneRowBefore rec (i + 1) next
one_row_more rec i k n rows next distinct at before adds = record {
  count = ap length adds.operands ∙ length-append rows.operands (n.dependencies ∷ []) ∙ ap (λ w. w + 1) before.count;
  nodes = adds.nodes ∙ ap (λ w. insert_entry same_id w k (with_row n (length rows.operands))) before.nodes
      ∙ ap (λ w. insert_entry same_id (take i (nodes_from 0 rec.nodes)) k (with_row n w)) before.count
      ∙ insert_next (nodes_from 0 rec.nodes) i k (with_row n i)
      (subst (IsDistinct same_id) (sym (keys_of_nodes rec.nodes 0)) distinct)
      (node_from rec.nodes 0 i k n at ∙ ap (λ w. Some (k, with_row n w)) (zero-add i));
  operands = adds.operands ∙ ap (λ w. w ++ n.dependencies ∷ []) before.operands
      ∙ take_next (map (λ entry. entry.1.dependencies) rec.nodes) i n.dependencies
      (slice_get-map (λ entry. entry.1.dependencies) rec.nodes i
      ∙ ap (option_map (λ entry. entry.1.dependencies)) at);
  scopes = adds.scopes ∙ before.scopes;
  escaping = adds.escaping ∙ before.escaping;
}
  where
    zero-add : (m : ℕ) → 0 + m ≡ m
    zero-add m = omega arith

pub one_row_next : (rec : MemoRecord) (i : ℕ) (rows next : RowRecord) → IsDistinct same_id (keys_of rec.nodes)
    → i < length rec.nodes
    → ((entry : DeclarationId × MemoNode) → slice_get rec.nodes i ≡ Some entry → AddsNode rows entry.0 entry.1 next)
    → IsOneRowBefore rec i rows → IsOneRowBefore rec (i + 1) next
one_row_next rec i rows next distinct lt puts before = elim (slice_get_cases rec.nodes i).1 [
  | inl w ↦ one_row_more rec i w.0.0 w.0.1 rows next distinct w.2 before (puts w.0 w.2)
  | inr w ↦ absurd (omega (arith, lt, w.0))
]

pub one_row_start : (rec : MemoRecord) (rows : RowRecord) → rows.nodes ≡ [] → rows.operands ≡ []
    → rows.scopes ≡ rec.scopes → rows.escaping ≡ rec.escaping → IsOneRowBefore rec 0 rows
one_row_start rec rows nodes operands scopes escaping = record {
  count = ap length operands;
  nodes = nodes;
  operands = operands;
  scopes = scopes;
  escaping = escaping;
}

pub one_row_end : (rec : MemoRecord) (i : ℕ) (rows : RowRecord) → length rec.nodes ≤ i → IsOneRowBefore rec i rows
    → IsOneRowEach rec rows
one_row_end rec i rows le before = record {
  nodes = before.nodes ∙ take_all (nodes_from 0 rec.nodes) i (omega (arith, le, nodes_count rec.nodes 0));
  operands = before.operands
      ∙ take_all (map (λ entry. entry.1.dependencies) rec.nodes) i (omega (arith, le, operands_count rec.nodes));
  scopes = before.scopes;
  escaping = before.escaping;
}
  where
    nodes_count : (es : List (DeclarationId × MemoNode)) (from : ℕ) → length (nodes_from from es) ≡ length es
    nodes_count [] from = refl
    nodes_count (e ∷ es) from = ap suc (nodes_count es (from + 1))

    operands_count : (es : List (DeclarationId × MemoNode))
        → length (map (λ entry. entry.1.dependencies) es) ≡ length es
    operands_count [] = refl
    operands_count (e ∷ es) = ap suc (operands_count es)

pub ruleset of_record = (one_row_start, one_row_next, one_row_end)
