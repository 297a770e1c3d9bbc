-- Nodes that get their dependencies from the rows that they name.
use Rattle.std.proofs.Common.{◌≡◌, ◌∙◌, ◌++◌, ◌+◌, ◌<◌, ℕ, zero, suc, Bool, true, false, List, [], ◌∷◌, Some, ap, arith}
use Rattle.std.proofs.Common.{get_or, length, not, refl, slice_get, sym, take}
use Rattle.std.specs.Prelude.{◌||◌}
use Rattle.std.specs.List.{AllByRecursion, IsDistinct, list_any}
use Rattle.std.specs.Map.{keys_of}
use Rattle.std.proofs.lemmas.List.{map-append, take_more}
use Rattle.std.proofs.lemmas.List.Elements.{filter-append}
use Rattle.std.proofs.lemmas.Option.{slice_get-get_or}
use Rattle.indexmap.specs.IndexMap.{insert_entry}
use Rattle.rc_names.proofs.NumbersLemmas.{same_id-eq}
use Rattle.rc_names.specs.Numbers.{DeclarationId, ScopeId, same_id, to_id}
use Rattle.rc_memo.proofs.EntryLemmas.{insert_absent, keys_seen}
use Rattle.rc_memo.proofs.GrowingLemmas.{distinct-all, insert_all-append}
use Rattle.rc_memo.proofs.NodesLemmas.{itself, node_same}
use Rattle.rc_memo.specs.RowRecord.{names_but, node_of_rows, nodes_of_rows, operands_of}
use Rattle.rc_memo.specs.declared.record.MemoNode.{MemoNode}
use Rattle.rc_memo.specs.declared.row_record.RowNode.{RowNode}
use Rattle.rc_memo.specs.inside.Growing.{insert_all}
use Rattle.rc_memo.specs.inside.RowNodes.{HeldRowNodes, RowOperands, empty_row_node}

-- names but one are put into a set
abbrev pub PutsBut : DeclarationId → List DeclarationId → List DeclarationId → List DeclarationId → Type 0
PutsBut name names old new = new ≡ insert_all old (names_but name names)

pub puts_next : (name : DeclarationId) (xs ys old mid new : List DeclarationId) → PutsBut name xs old mid
    → PutsBut name ys mid new → PutsBut name (xs ++ ys) old new
puts_next name xs ys old mid new first second =
    second ∙ ap (λ w. insert_all w (names_but name ys)) first
    ∙ insert_all-append old (names_but name xs) (names_but name ys)
    ∙ ap (insert_all old) (sym (filter-append (λ other. not (same_id name other)) xs ys))

pub node_expanded : (operands : RowOperands) (name : DeclarationId) (node : RowNode)
    (dependencies : List DeclarationId) (scopes : List ScopeId)
    → dependencies ≡ insert_all [] (names_but name (operands_of operands node.rows)) → scopes ≡ node.scopes
    → ◌≡◌ {A = MemoNode} record { level = node.level; dependencies = dependencies; scopes = scopes }
    (node_of_rows operands name node)
unfolding node_of_rows
node_expanded operands name node dependencies scopes those same =
    node_same refl (those ∙ sym (distinct-all [] (names_but name (operands_of operands node.rows)))) same

-- the keys before one are others
absent : (nodes : HeldRowNodes) (i : ℕ) (d : DeclarationId × RowNode) → i < length nodes
    → IsDistinct same_id (keys_of nodes) → list_any (same_id (get_or nodes i d).0) (keys_of (take i nodes)) ≡ false
unfolding IsDistinct
absent [] i d below distinct = absurd (omega (arith, below))
absent (node ∷ nodes) zero d below distinct = refl
absent (node ∷ nodes) (suc i) d below distinct =
    ap (λ w. w || list_any (same_id (get_or nodes i d).0) (keys_of (take i nodes)))
    (turned (same_id (get_or nodes i d).0 node.0) refl (apart nodes i (omega (arith, below)) distinct.0))
    ∙ absent nodes i d (omega (arith, below)) distinct.1
  where
    apart : (nodes : HeldRowNodes) (i : ℕ) → i < length nodes
        → AllByRecursion (λ key. same_id node.0 key ≡ false) (keys_of nodes)
        → same_id node.0 (get_or nodes i d).0 ≡ false
    apart [] i below all = absurd (omega (arith, below))
    apart (first ∷ rest) zero below all = all.0
    apart (first ∷ rest) (suc i) below all = apart rest i (omega (arith, below)) all.1

    turned : (b : Bool) → same_id (get_or nodes i d).0 node.0 ≡ b → same_id node.0 (get_or nodes i d).0 ≡ false
        → b ≡ false
    turned false e off = refl
    turned true e off = cc (same_id-eq (get_or nodes i d).0 node.0 e, off, itself node.0)

-- one more node
pub nodes_more : (operands : RowOperands) (nodes : HeldRowNodes) (i : ℕ)
    (whole new : List (DeclarationId × MemoNode)) → i < length nodes → IsDistinct same_id (keys_of nodes)
    → whole ≡ nodes_of_rows operands (take i nodes)
    → ((entry : DeclarationId × RowNode) → slice_get nodes i ≡ Some entry
    → new ≡ insert_entry same_id whole entry.0 (node_of_rows operands entry.0 entry.1))
    → new ≡ nodes_of_rows operands (take (i + 1) nodes)
nodes_more operands nodes i whole new below distinct so_far put =
    let d : DeclarationId × RowNode = (to_id 0, empty_row_node) in
    let entry = get_or nodes i d in
    let see : DeclarationId × RowNode → DeclarationId × MemoNode = λ e. (e.0, node_of_rows operands e.0 e.1) in
    put entry (slice_get-get_or nodes i d below)
    ∙ ap (λ w. insert_entry same_id w entry.0 (node_of_rows operands entry.0 entry.1)) so_far
    ∙ insert_absent entry.0 (node_of_rows operands entry.0 entry.1) (nodes_of_rows operands (take i nodes))
    (ap (list_any (same_id entry.0)) (keys_seen (node_of_rows operands) (take i nodes)) ∙ absent nodes i d below distinct)
    ∙ sym (ap (nodes_of_rows operands) (take_more nodes i d below) ∙ map-append see (take i nodes) (entry ∷ []))
