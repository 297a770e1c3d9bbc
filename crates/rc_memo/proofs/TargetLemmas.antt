-- A target of a row: its level, its dependencies and its scope are put into its node at once.
use Rattle.std.proofs.Common.{◌≡◌, ◌∙◌, ◌++◌, Bool, true, false, List, [], ◌∷◌, Option, None, Some, ap, cond, not}
use Rattle.std.proofs.Common.{refl, subst, sym}
use Rattle.std.specs.List.{flat_map, list_any}
use Rattle.std.specs.Map.{keys_of}
use Rattle.rc_names.specs.Numbers.{DeclarationId, ScopeId, same_id}
use Rattle.rc_memo.proofs.NodeFactsLemmas.{nodes_next, nodes_nothing}
use Rattle.rc_memo.proofs.EntryLemmas.{at_absent, at_same, at_twice, insert_absent, keys_at, or_absent, or_has}
use Rattle.rc_memo.proofs.EntryLemmas.{or_there, or_twice}
use Rattle.rc_memo.proofs.NodeFactsLemmas.{adds_dependency, adds_first, adds_level, adds_scope}
use Rattle.rc_memo.specs.Events.{listed, mention_facts, operand_facts, scope_facts, target_facts}
use Rattle.rc_memo.specs.Facts.{DependsOn, GivesLevel}
use Rattle.rc_memo.specs.RowRecord.{names_but}
use Rattle.rc_memo.specs.declared.event.Mention.{Mention}
use Rattle.rc_memo.specs.declared.event.Target.{Target}
use Rattle.rc_memo.specs.declared.level.MemoizationLevel.{MemoizationLevel}
use Rattle.rc_memo.specs.declared.record.MemoNode.{MemoNode}
use Rattle.rc_memo.specs.inside.Nodes.{AddsNodes, Held, at_name, at_name_or, empty_node, with_dependency}
use Rattle.rc_memo.specs.inside.Nodes.{with_level}
use Rattle.rc_memo.specs.inside.RowNodes.{operand_names}
use Rattle.rc_memo.specs.inside.Growing.{insert_all}

-- a node with some more dependencies, and with some more scopes
abbrev pub with_dependencies : List DeclarationId → MemoNode → MemoNode
with_dependencies others node = record node { dependencies = insert_all node.dependencies others }

abbrev pub with_scopes : List ScopeId → MemoNode → MemoNode
with_scopes scopes node = record node { scopes = insert_all node.scopes scopes }

-- a node with all that a row tells of it
abbrev pub with_parts : MemoizationLevel → List DeclarationId → Option ScopeId → MemoNode → MemoNode
with_parts level others scope node = with_scopes (listed scope) (with_dependencies others (with_level level node))

module _ (d : DeclarationId) where
  -- a level, for which a name without a node gets one
  pub adds_level_or : (level : MemoizationLevel) (old : Held)
      → AddsNodes (GivesLevel d level ∷ []) old (at_name_or empty_node d (with_level level) old)
  adds_level_or level old = go (list_any (same_id d) (keys_of old)) refl where
    go : (b : Bool) → list_any (same_id d) (keys_of old) ≡ b
        → AddsNodes (GivesLevel d level ∷ []) old (at_name_or empty_node d (with_level level) old)
    go true there = adds_level d level old (at_name_or empty_node d (with_level level) old)
        (or_there d empty_node (with_level level) old there) there
    go false none = adds_first d level old old (at_name_or empty_node d (with_level level) old)
        (with_level level empty_node) (sym (at_absent d (with_level level) old none)) none refl
        (or_absent d empty_node (with_level level) old none
        ∙ sym (insert_absent d (with_level level empty_node) old none))

  module _ (resolve : DeclarationId → DeclarationId) where
    -- the facts of operands put those in that aren't the name
    adds_operands : (operands : List Mention) (nodes : Held) → list_any (same_id d) (keys_of nodes) ≡ true
        → AddsNodes (flat_map (operand_facts resolve d) operands) nodes
        (at_name d (with_dependencies (names_but d (operand_names resolve operands))) nodes)
    unfolding operand_facts
    adds_operands [] nodes there = subst (λ w. AddsNodes [] nodes w)
        (sym (at_same d (with_dependencies []) (λ node. refl) nodes)) (nodes_nothing nodes)
    adds_operands (operand ∷ operands) nodes there =
        go (same_id d (resolve operand.name)) (λ more found. adds_operands operands more found)
      where
        rest : List DeclarationId
        rest = names_but d (operand_names resolve operands)

        go : (b : Bool) → ((more : Held) → list_any (same_id d) (keys_of more) ≡ true
            → AddsNodes (flat_map (operand_facts resolve d) operands) more
            (at_name d (with_dependencies rest) more))
            → AddsNodes ((cond b [] (DependsOn d (resolve operand.name) ∷ []))
            ++ flat_map (operand_facts resolve d) operands) nodes
            (at_name d (with_dependencies (cond (not b) (resolve operand.name ∷ rest) rest)) nodes)
        go true others = others nodes there
        go false others =
            let other = resolve operand.name in
            let mid = at_name d (with_dependency other) nodes in
            let facts = flat_map (operand_facts resolve d) operands in
            subst (λ w. AddsNodes (DependsOn d other ∷ facts) nodes w)
            (at_twice d (with_dependency other) (with_dependencies rest) nodes)
            (nodes_next (DependsOn d other ∷ []) facts nodes mid
            (at_name d (with_dependencies rest) mid) (adds_dependency d other nodes mid refl there)
            (others mid (ap (list_any (same_id d)) (keys_at d (with_dependency other) nodes) ∙ there)))

  adds_scope_if : (scope : Option ScopeId) (nodes : Held) → list_any (same_id d) (keys_of nodes) ≡ true
      → AddsNodes (scope_facts d scope) nodes (at_name d (with_scopes (listed scope)) nodes)
  adds_scope_if None nodes there = subst (λ w. AddsNodes [] nodes w)
      (sym (at_same d (with_scopes []) (λ node. refl) nodes)) (nodes_nothing nodes)
  adds_scope_if (Some scope) nodes there =
      adds_scope d scope nodes (at_name d (with_scopes (scope ∷ [])) nodes) refl there

-- a target
pub adds_target : (resolve : DeclarationId → DeclarationId) (operands : List Mention) (target : Target) (old : Held)
    → AddsNodes (target_facts resolve operands target) old
    (at_name_or empty_node (resolve target.mention.name) (with_parts target.level
    (names_but (resolve target.mention.name) (operand_names resolve operands)) target.mention.scope) old)
unfolding target_facts
adds_target resolve operands target old =
    let d = resolve target.mention.name in
    let scope = target.mention.scope in
    let others = names_but d (operand_names resolve operands) in
    let levelled = at_name_or empty_node d (with_level target.level) old in
    let depends = at_name d (with_dependencies others) levelled in
    let there = or_has d empty_node (with_level target.level) old in
    let facts = flat_map (operand_facts resolve d) operands in
    subst (λ w. AddsNodes (GivesLevel d target.level ∷ (facts ++ mention_facts resolve target.mention)) old
    w)
    (ap (at_name d (with_scopes (listed scope)))
    (or_twice d empty_node (with_level target.level) (with_dependencies others) old)
    ∙ or_twice d empty_node (λ node. with_dependencies others (with_level target.level node))
    (with_scopes (listed scope)) old)
    (nodes_next (GivesLevel d target.level ∷ []) (facts ++ mention_facts resolve target.mention) old
    levelled (at_name d (with_scopes (listed scope)) depends) (adds_level_or d target.level old)
    (nodes_next facts (mention_facts resolve target.mention) levelled depends
    (at_name d (with_scopes (listed scope)) depends) (adds_operands d resolve operands levelled there)
    (adds_scope_if d scope depends
    (ap (list_any (same_id d)) (keys_at d (with_dependencies others) levelled) ∙ there))))
