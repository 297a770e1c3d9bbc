-- Facts that are added one by one to nodes.
use Rattle.std.proofs.Common.{◌≡◌, ◌∙◌, ◌++◌, Bool, true, false, List, [], ◌∷◌, None, Some, ap, append-nil, append_assoc}
use Rattle.std.proofs.Common.{cond, refl, subst, sym}
use Rattle.std.specs.List.{list_any}
use Rattle.std.specs.Map.{keys_of}
use Rattle.indexmap.specs.IndexMap.{insert_entry}
use Rattle.rc_names.specs.Numbers.{DeclarationId, ScopeId, same_id}
use Rattle.rc_memo.proofs.EntryLemmas.{at_absent, insert_absent}
use Rattle.rc_memo.proofs.MissingLemmas.{missing_next}
use Rattle.rc_memo.proofs.NodesLemmas.{told_asked, told_first, told_level, told_need, told_scope}
use Rattle.rc_memo.specs.Facts.{Fact, GivesLevel, DependsOn, HasScope, NeedsNode, at_each, names_told, node_told}
use Rattle.rc_memo.specs.Facts.{or_else}
use Rattle.rc_memo.specs.declared.level.MemoizationLevel.{MemoizationLevel}
use Rattle.rc_memo.specs.declared.record.MemoNode.{MemoNode}
use Rattle.rc_memo.specs.inside.Nodes.{AddsNodes, Held, HoldsNodes, at_name, empty_node}
use Rattle.rc_memo.specs.inside.Nodes.{with_dependency, with_level}
use Rattle.rc_memo.specs.inside.Nodes.{with_scope}

-- no facts, and some facts after others
pub nodes_nothing : (nodes : Held) → AddsNodes [] nodes nodes
unfolding AddsNodes
nodes_nothing nodes before holds = (refl, subst (λ w. HoldsNodes w nodes) (sym (append-nil before)) holds)

pub nodes_next : (facts more : List Fact) (old mid new : Held) → AddsNodes facts old mid → AddsNodes more mid new
    → AddsNodes (facts ++ more) old new
unfolding AddsNodes
nodes_next facts more old mid new first second before holds =
    let a = first before holds in
    let b = second (before ++ facts) a.1 in (
      missing_next before facts more a.0 ∙ b.0,
      subst (λ w. HoldsNodes w new) (append_assoc before facts more) b.1,
    )

pub keys_each : {V : Type 0} (g : DeclarationId → V) (ks : List DeclarationId) → keys_of (at_each g ks) ≡ ks
keys_each g [] = refl
keys_each g (k ∷ ks) = ap (λ w. k ∷ w) (keys_each g ks)

-- the keys are the targets
pub keys_are : (fs : List Fact) (nodes : List (DeclarationId × MemoNode)) → HoldsNodes fs nodes → keys_of nodes
    ≡ names_told fs
keys_are fs nodes holds = ap keys_of holds.nodes_are ∙ keys_each (node_told fs) (names_told fs)

pub there : (fs : List Fact) (nodes : List (DeclarationId × MemoNode)) (d : DeclarationId) (b : Bool) → HoldsNodes fs nodes
    → list_any (same_id d) (keys_of nodes) ≡ b → list_any (same_id d) (names_told fs) ≡ b
there fs nodes d b holds e = ap (list_any (same_id d)) (sym (keys_are fs nodes holds)) ∙ e

pub adds_dependency : (d e : DeclarationId) (old new : List (DeclarationId × MemoNode)) → new
    ≡ at_name d (with_dependency e) old → list_any (same_id d) (keys_of old) ≡ true
    → AddsNodes (DependsOn d e ∷ []) old new
unfolding AddsNodes
adds_dependency d e old new is found fs holds = let t = there fs old d true holds found in (
  ap (λ w. or_else (cond w None (Some d)) None) t,
  subst (HoldsNodes (fs ++ DependsOn d e ∷ [])) (sym is)
      (told_need fs d e old holds t),
)

pub adds_scope : (d : DeclarationId) (c : ScopeId) (old new : List (DeclarationId × MemoNode)) → new
    ≡ at_name d (with_scope c) old → list_any (same_id d) (keys_of old) ≡ true
    → AddsNodes (HasScope d c ∷ []) old new
unfolding AddsNodes
adds_scope d c old new is found fs holds = let t = there fs old d true holds found in (
  ap (λ w. or_else (cond w None (Some d)) None) t,
  subst (HoldsNodes (fs ++ HasScope d c ∷ [])) (sym is)
      (told_scope fs d c old holds t),
)

pub adds_level : (d : DeclarationId) (l : MemoizationLevel) (old new : List (DeclarationId × MemoNode)) → new
    ≡ at_name d (with_level l) old → list_any (same_id d) (keys_of old) ≡ true
    → AddsNodes (GivesLevel d l ∷ []) old new
unfolding AddsNodes
adds_level d l old new is found fs holds = (
  refl,
  subst (HoldsNodes (fs ++ GivesLevel d l ∷ [])) (sym is)
      (told_level fs d l old holds (there fs old d true holds found)),
)

-- a first target; `between` are the nodes after the look for an old one
pub adds_first : (d : DeclarationId) (l : MemoizationLevel) (old between new : List (DeclarationId × MemoNode))
    (node : MemoNode) → between ≡ at_name d (with_level l) old → list_any (same_id d) (keys_of old) ≡ false → node
    ≡ with_level l empty_node →
    new ≡ insert_entry same_id between d node → AddsNodes (GivesLevel d l ∷ []) old new
unfolding AddsNodes
adds_first d l old between new node is found node_is put fs holds =
    let same = is ∙ at_absent d (with_level l) old found in
    let whole = put ∙ ap (λ w. insert_entry same_id w d node) same ∙ insert_absent d node old found
    ∙ ap (λ w. old ++ (d, w) ∷ []) node_is in (
      refl,
      subst (HoldsNodes (fs ++ GivesLevel d l ∷ [])) (sym whole)
          (told_first fs d l old holds (there fs old d false holds found)),
    )

pub adds_asked : (d : DeclarationId) (nodes : List (DeclarationId × MemoNode)) → list_any (same_id d) (keys_of nodes)
    ≡ true → AddsNodes (NeedsNode d ∷ []) nodes nodes
unfolding AddsNodes
adds_asked d nodes found fs holds =
    (ap (λ w. or_else (cond w None (Some d)) None) (there fs nodes d true holds found), told_asked fs d nodes holds)

-- before the first fact there is no node
pub no_nodes : (nodes : Held) → nodes ≡ [] → HoldsNodes [] nodes
unfolding node_told names_told
no_nodes nodes empty =
    subst (HoldsNodes []) (sym empty) (record { nodes_are = refl; grounded = λ name gone. refl })
