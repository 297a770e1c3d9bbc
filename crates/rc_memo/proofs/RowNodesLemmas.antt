-- Facts that are added to nodes which name the rows of which they are targets.
use Rattle.std.proofs.Common.{◌≡◌, ◌∙◌, ◌++◌, ◌<◌, ℕ, zero, suc, Bool, true, false, List, [], ◌∷◌, Option, None, Some, ap}
use Rattle.std.proofs.Common.{append-nil, append_assoc, arith, cond, length, not, refl, subst, sym}
use Rattle.std.specs.List.{AllByRecursion, list_any}
use Rattle.std.specs.Map.{keys_of}
use Rattle.std.specs.Option.{option_to_list}
use Rattle.std.proofs.lemmas.Grind.{flat_map-append}
use Rattle.std.proofs.lemmas.List.{length-append}
use Rattle.std.proofs.lemmas.List.Elements.{filter-append}
use Rattle.rc_names.specs.Numbers.{DeclarationId, ScopeId, same_id}
use Rattle.rc_memo.proofs.EntryLemmas.{keys_seen, seen_at, seen_or}
use Rattle.rc_memo.proofs.GrowingLemmas.{distinct-all}
use Rattle.rc_memo.proofs.MissingLemmas.{missing_kept, missing_next, none_some}
use Rattle.rc_memo.proofs.NodeFactsLemmas.{adds_asked, adds_scope, no_nodes, there}
use Rattle.rc_memo.proofs.NodesLemmas.{node_same}
use Rattle.rc_memo.proofs.TargetLemmas.{adds_level_or, adds_target, with_parts}
use Rattle.rc_memo.specs.Events.{target_facts}
use Rattle.rc_memo.specs.Facts.{Fact, GivesLevel, HasScope, NeedsNode, distinct, first_missing, missing_now, needed_by, or_else}
use Rattle.rc_memo.specs.RowRecord.{names_but, node_of_rows, nodes_of_rows, operands_at, operands_of}
use Rattle.rc_memo.specs.declared.event.Mention.{Mention}
use Rattle.rc_memo.specs.declared.event.Target.{Target}
use Rattle.rc_memo.specs.declared.level.MemoizationLevel.{MemoizationLevel}
use Rattle.rc_memo.specs.declared.nodes.HeldNodes.{HeldNodes}
use Rattle.rc_memo.specs.declared.nodes.RowTarget.{RowTarget}
use Rattle.rc_memo.specs.declared.row_record.RowNode.{RowNode}
use Rattle.rc_memo.specs.inside.Nodes.{AddsNodes, at_name, at_name_or, empty_node, HoldsNodes, with_level, with_scope}
use Rattle.rc_memo.specs.inside.RowNodes.{AddsFacts, Extends, HeldRowNodes, HoldsFacts, HoldsRows, IsRow, RowOperands}
use Rattle.rc_memo.specs.inside.RowNodes.{RowsBelow, empty_row_node, operand_names, with_row_scope, with_target}

-- what is added in steps

extends_nothing : (operands : RowOperands) → Extends operands operands
extends_nothing operands = record { more = []; whole = sym (append-nil operands) }

pub extends_next : (old mid new : RowOperands) → Extends old mid → Extends mid new → Extends old new
extends_next old mid new first second = record {
  more = first.more ++ second.more;
  whole = second.whole ∙ ap (λ w. w ++ second.more) first.whole ∙ append_assoc old first.more second.more;
}

pub facts_nothing : (held : HeldNodes) → AddsFacts [] held held
facts_nothing held = record {
  holds = λ before h. subst (λ w. HoldsFacts w held) (sym (append-nil before)) h;
  kept = extends_nothing held.operands;
}

pub facts_next : (facts more : List Fact) (old mid new : HeldNodes) → AddsFacts facts old mid
    → AddsFacts more mid new → AddsFacts (facts ++ more) old new
facts_next facts more old mid new first second = record {
  holds = λ before h. subst (λ w. HoldsFacts w new) (append_assoc before facts more)
      (second.holds (before ++ facts) (first.holds before h));
  kept = extends_next old.operands mid.operands new.operands first.kept second.kept;
}

-- the rows of nodes are among those that are there

all_both : {X : Type 0} (P : X → Type 0) (xs ys : List X) → AllByRecursion P xs → AllByRecursion P ys
    → AllByRecursion P (xs ++ ys)
all_both P [] ys h g = g
all_both P (x ∷ xs) ys h g = (h.0, all_both P xs ys h.1 g)

module _ (n : ℕ) (d : DeclarationId) (f : RowNode → RowNode)
    (keeps : (node : RowNode) → AllByRecursion (λ row. row < n) node.rows
    → AllByRecursion (λ row. row < n) (f node).rows)
  where
    below_at : (es : HeldRowNodes) → AllByRecursion (RowsBelow n) es → AllByRecursion (RowsBelow n) (at_name d f es)
    below_at [] h = tt
    below_at (e ∷ es) h = go (same_id d e.0) (below_at es h.1) where
      go : (b : Bool) → AllByRecursion (RowsBelow n) (at_name d f es)
          → AllByRecursion (RowsBelow n) (cond b ((e.0, f e.1) ∷ es) (e ∷ at_name d f es))
      go true r = (keeps e.1 h.0, h.1)
      go false r = (h.0, r)

    below_or : (es : HeldRowNodes) → AllByRecursion (RowsBelow n) es
        → AllByRecursion (RowsBelow n) (at_name_or empty_row_node d f es)
    below_or [] h = (keeps empty_row_node tt, tt)
    below_or (e ∷ es) h = go (same_id d e.0) (below_or es h.1) where
      go : (b : Bool) → AllByRecursion (RowsBelow n) (at_name_or empty_row_node d f es)
          → AllByRecursion (RowsBelow n) (cond b ((e.0, f e.1) ∷ es) (e ∷ at_name_or empty_row_node d f es))
      go true r = (keeps e.1 h.0, h.1)
      go false r = (h.0, r)

-- what a row adds to a node, in the node that this one stands for
module _ (ops : RowOperands) (d : DeclarationId) (target : RowTarget) (names : List DeclarationId)
    (those : operands_of ops (option_to_list target.row) ≡ names) where
  grown : (node : RowNode) → node_of_rows ops d (with_target target node)
      ≡ with_parts target.level (names_but d names) target.scope (node_of_rows ops d node)
  unfolding node_of_rows
  grown node = node_same refl (ap (λ w. distinct same_id (names_but d w))
      (flat_map-append (operands_at ops) node.rows (option_to_list target.row)
      ∙ ap (λ w. operands_of ops node.rows ++ w) those)
      ∙ ap (distinct same_id) (filter-append (λ other. not (same_id d other)) (operands_of ops node.rows) names)
      ∙ distinct-all (names_but d (operands_of ops node.rows)) (names_but d names)) refl

empty_is : (ops : RowOperands) (d : DeclarationId) → node_of_rows ops d empty_row_node ≡ empty_node
unfolding node_of_rows
empty_is ops d = refl

-- nodes that change while the operands of rows stay
adds_seen : (facts : List Fact) (old : HeldNodes) (nodes : HeldRowNodes)
    → (AllByRecursion (RowsBelow (length old.operands)) old.nodes
    → AllByRecursion (RowsBelow (length old.operands)) nodes)
    → AddsNodes facts (nodes_of_rows old.operands old.nodes) (nodes_of_rows old.operands nodes)
    → AddsFacts facts old (record old { nodes = nodes })
unfolding AddsNodes
adds_seen facts old nodes keeps adds = record {
  holds = λ before h. go before h old.missing refl;
  kept = extends_nothing old.operands;
} where
  go : (before : List Fact) → HoldsFacts before old → (first : Option DeclarationId) → old.missing ≡ first
      → HoldsFacts (before ++ facts) (record old { nodes = nodes })
  go before h None is = let a = adds before (h.rows is).nodes in record {
    missing = is ∙ sym (missing_next [] before facts (sym h.missing ∙ is) ∙ a.0);
    rows = λ none. record { rows_below = keeps (h.rows is).rows_below; nodes = a.1 };
  }
  go before h (Some name) is = record {
    missing = is ∙ sym (missing_kept [] before facts name (sym h.missing ∙ is));
    rows = λ none. absurd (none_some (sym none ∙ is));
  }

-- a level
pub adds_row_level : (d : DeclarationId) (level : MemoizationLevel) (old : HeldNodes) (nodes : HeldRowNodes)
    → nodes ≡ at_name_or empty_row_node d (with_target (record { level = level; row = None; scope = None })) old.nodes
    → AddsFacts (GivesLevel d level ∷ []) old (record old { nodes = nodes })
adds_row_level d level old nodes is =
    let told : RowTarget = record { level = level; row = None; scope = None } in
    adds_seen (GivesLevel d level ∷ []) old nodes
    (λ h. subst (AllByRecursion (RowsBelow (length old.operands))) (sym is)
    (below_or (length old.operands) d (with_target told)
    (λ node g. all_both (λ row. row < length old.operands) node.rows [] g tt) old.nodes h))
    (subst (λ w. AddsNodes (GivesLevel d level ∷ []) (nodes_of_rows old.operands old.nodes) w)
    (sym (ap (nodes_of_rows old.operands) is
    ∙ seen_or (node_of_rows old.operands) d (with_target told) (with_level level)
    (grown old.operands d told [] refl) empty_row_node empty_node (empty_is old.operands d) old.nodes))
    (adds_level_or d level (nodes_of_rows old.operands old.nodes)))

-- a scope
scoped : (ops : RowOperands) (d : DeclarationId) (scope : ScopeId) (node : RowNode)
    → node_of_rows ops d (with_row_scope scope node) ≡ with_scope scope (node_of_rows ops d node)
unfolding node_of_rows
scoped ops d scope node = refl

any_seen : (d : DeclarationId) (held : HeldNodes) (b : Bool) → list_any (same_id d) (keys_of held.nodes) ≡ b
    → list_any (same_id d) (keys_of (nodes_of_rows held.operands held.nodes)) ≡ b
any_seen d held b found = ap (list_any (same_id d)) (keys_seen (node_of_rows held.operands) held.nodes) ∙ found

pub adds_row_scope : (d : DeclarationId) (scope : ScopeId) (old : HeldNodes) (nodes : HeldRowNodes)
    → nodes ≡ at_name d (with_row_scope scope) old.nodes → list_any (same_id d) (keys_of old.nodes) ≡ true
    → AddsFacts (HasScope d scope ∷ []) old (record old { nodes = nodes })
adds_row_scope d scope old nodes is found =
    adds_seen (HasScope d scope ∷ []) old nodes
    (λ h. subst (AllByRecursion (RowsBelow (length old.operands))) (sym is)
    (below_at (length old.operands) d (with_row_scope scope) (λ node g. g) old.nodes h))
    (adds_scope d scope (nodes_of_rows old.operands old.nodes) (nodes_of_rows old.operands nodes)
    (ap (nodes_of_rows old.operands) is ∙ seen_at (node_of_rows old.operands) d (with_row_scope scope)
    (with_scope scope) (scoped old.operands d scope) old.nodes) (any_seen d old true found))

-- a name that needs a node has one
pub adds_row_need : (d : DeclarationId) (held : HeldNodes) → list_any (same_id d) (keys_of held.nodes) ≡ true
    → AddsFacts (NeedsNode d ∷ []) held held
adds_row_need d held found = adds_seen (NeedsNode d ∷ []) held held.nodes (λ h. h)
    (adds_asked d (nodes_of_rows held.operands held.nodes) (any_seen d held true found))

-- or it has none: then it is missing, unless another was before
pub adds_missing : (fact : Fact) (d : DeclarationId) (old : HeldNodes) (nodes : HeldRowNodes)
    (missing : Option DeclarationId) → needed_by fact ≡ Some d → list_any (same_id d) (keys_of old.nodes) ≡ false
    → missing ≡ or_else old.missing (Some d)
    → AddsFacts (fact ∷ []) old (record { nodes = nodes; operands = old.operands; missing = missing })
adds_missing fact d old nodes missing needs absent is = record {
  holds = λ before h. go before h old.missing refl;
  kept = extends_nothing old.operands;
} where
  go : (before : List Fact) → HoldsFacts before old → (first : Option DeclarationId) → old.missing ≡ first
      → HoldsFacts (before ++ fact ∷ []) (record { nodes = nodes; operands = old.operands; missing = missing })
  go before h None none =
      let now : first_missing before (fact ∷ []) ≡ Some d =
      ap (λ w. or_else (missing_now before w) None) needs
      ∙ ap (λ w. or_else (cond w None (Some d)) None) (there before (nodes_of_rows old.operands old.nodes) d false
      (h.rows none).nodes (any_seen d old false absent)) in
      let missed = missing_next [] before (fact ∷ []) (sym h.missing ∙ none) ∙ now in
      let whole = is ∙ ap (λ w. or_else w (Some d)) none in record {
        missing = whole ∙ sym missed;
        rows = λ gone. absurd (none_some (sym gone ∙ whole));
      }
  go before h (Some name) first =
      let whole = is ∙ ap (λ w. or_else w (Some d)) first in record {
        missing = whole ∙ sym (missing_kept [] before (fact ∷ []) name (sym h.missing ∙ first));
        rows = λ gone. absurd (none_some (sym gone ∙ whole));
      }

-- a target of a row whose operands are at a position

row_there : (ops : RowOperands) (row : Option ℕ) (names : List DeclarationId) → IsRow ops row names
    → AllByRecursion (λ row. row < length ops) (option_to_list row)
row_there ops None names is = tt
row_there ops (Some row) names is = (is.0, tt)

row_those : (ops : RowOperands) (row : Option ℕ) (names : List DeclarationId) → IsRow ops row names
    → operands_of ops (option_to_list row) ≡ names
row_those ops None names is = sym is
row_those ops (Some row) names is = append-nil (operands_at ops row) ∙ is.1

pub adds_row_target : (resolve : DeclarationId → DeclarationId) (operands : List Mention) (target : Target)
    (row : Option ℕ) (old : HeldNodes) (nodes : HeldRowNodes)
    → nodes ≡ at_name_or empty_row_node (resolve target.mention.name)
    (with_target (record { level = target.level; row = row; scope = target.mention.scope })) old.nodes
    → IsRow old.operands row (operand_names resolve operands)
    → AddsFacts (target_facts resolve operands target) old (record old { nodes = nodes })
adds_row_target resolve operands target row old nodes is stands =
    let d = resolve target.mention.name in
    let told : RowTarget = record { level = target.level; row = row; scope = target.mention.scope } in
    let names = operand_names resolve operands in
    let ops = old.operands in
    adds_seen (target_facts resolve operands target) old nodes
    (λ h. subst (AllByRecursion (RowsBelow (length ops))) (sym is) (below_or (length ops) d (with_target told)
    (λ node g. all_both (λ row. row < length ops) node.rows (option_to_list row) g (row_there ops row names stands))
    old.nodes h))
    (subst (λ w. AddsNodes (target_facts resolve operands target) (nodes_of_rows ops old.nodes) w)
    (sym (ap (nodes_of_rows ops) is ∙ seen_or (node_of_rows ops) d (with_target told)
    (with_parts target.level (names_but d names) target.mention.scope)
    (grown ops d told names (row_those ops row names stands)) empty_row_node empty_node (empty_is ops d) old.nodes))
    (adds_target resolve operands target (nodes_of_rows ops old.nodes)))

-- more operands of rows change no node

at_before : (ops more : RowOperands) (row : ℕ) → row < length ops
    → operands_at (ops ++ more) row ≡ operands_at ops row
at_before [] more row below = absurd (omega (arith, below))
at_before (names ∷ ops) more zero below = refl
at_before (names ∷ ops) more (suc row) below = at_before ops more row (omega (arith, below))

of_before : (ops more : RowOperands) (rows : List ℕ) → AllByRecursion (λ row. row < length ops) rows
    → operands_of (ops ++ more) rows ≡ operands_of ops rows
of_before ops more [] h = refl
of_before ops more (row ∷ rows) h =
    ap (λ w. w ++ operands_of (ops ++ more) rows) (at_before ops more row h.0)
    ∙ ap (λ w. operands_at ops row ++ w) (of_before ops more rows h.1)

nodes_before : (ops more : RowOperands) (nodes : HeldRowNodes)
    → AllByRecursion (RowsBelow (length ops)) nodes → nodes_of_rows (ops ++ more) nodes ≡ nodes_of_rows ops nodes
unfolding node_of_rows
nodes_before ops more [] h = refl
nodes_before ops more (e ∷ es) h =
    ap (λ w. (e.0, w) ∷ nodes_of_rows (ops ++ more) es)
    (node_same refl (ap (λ w. distinct same_id (names_but e.0 w)) (of_before ops more e.1.rows h.0)) refl)
    ∙ ap (λ w. (e.0, node_of_rows ops e.0 e.1) ∷ w) (nodes_before ops more es h.1)

all_more : (ops more : RowOperands) (rows : List ℕ) → AllByRecursion (λ row. row < length ops) rows
    → AllByRecursion (λ row. row < length (ops ++ more)) rows
all_more ops more [] h = tt
all_more ops more (row ∷ rows) h = (omega (arith, h.0, length-append ops more), all_more ops more rows h.1)

below_more : (ops more : RowOperands) (nodes : HeldRowNodes)
    → AllByRecursion (RowsBelow (length ops)) nodes → AllByRecursion (RowsBelow (length (ops ++ more))) nodes
below_more ops more [] h = tt
below_more ops more (e ∷ es) h = (all_more ops more e.1.rows h.0, below_more ops more es h.1)

pub adds_operands : (old : HeldNodes) (more operands : RowOperands) → operands ≡ old.operands ++ more
    → AddsFacts [] old (record old { operands = operands })
adds_operands old more operands is = record {
  holds = λ before h. record {
    missing = h.missing ∙ ap (first_missing []) (sym (append-nil before));
    rows = λ none. let held = h.rows none in
        subst (λ w. HoldsRows (before ++ []) w old.nodes) (sym is) (record {
          rows_below = below_more old.operands more old.nodes held.rows_below;
          nodes = subst (λ w. HoldsNodes w (nodes_of_rows (old.operands ++ more) old.nodes)) (sym (append-nil before))
              (subst (HoldsNodes before) (sym (nodes_before old.operands more old.nodes held.rows_below)) held.nodes);
        });
  };
  kept = record { more = more; whole = is };
}

-- the names at a position stay there
pub row_kept : (old new : RowOperands) (row : Option ℕ) (names : List DeclarationId) → Extends old new
    → IsRow old row names → IsRow new row names
row_kept old new None names kept stands = stands
row_kept old new (Some row) names kept stands = subst (λ w. IsRow w (Some row) names) (sym kept.whole) (
  omega (arith, stands.0, length-append old kept.more),
  at_before old kept.more row stands.0 ∙ stands.1,
)

-- the last operands
last_at : (ops : RowOperands) (names : List DeclarationId) → operands_at (ops ++ names ∷ []) (length ops) ≡ names
last_at [] names = refl
last_at (x ∷ ops) names = last_at ops names

pub row_last : (old new : RowOperands) (names : List DeclarationId) → new ≡ old ++ names ∷ []
    → IsRow new (Some (length old)) names
row_last old new names is = subst (λ w. IsRow w (Some (length old)) names) (sym is)
    (omega (arith, length-append old (names ∷ [])), last_at old names)

-- before the first fact there is no node
pub no_facts : (held : HeldNodes) → held.nodes ≡ [] → held.missing ≡ None → HoldsFacts [] held
no_facts held none complete = record {
  missing = complete;
  rows = λ complete. record {
    rows_below = subst (AllByRecursion (RowsBelow (length held.operands))) (sym none) tt;
    nodes = no_nodes (nodes_of_rows held.operands held.nodes) (ap (nodes_of_rows held.operands) none);
  };
}
