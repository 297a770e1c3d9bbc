-- What is recorded of rows: their operands, the positions of these, and their targets.
use Rattle.std.proofs.Common.{◌≡◌, ◌∙◌, ◌++◌, ℕ, Bool, true, false, List, [], ◌∷◌, Option, None, Some, ap, append-nil}
use Rattle.std.proofs.Common.{length, map, refl, subst, sym}
use Rattle.std.specs.List.{flat_map}
use Rattle.std.specs.Map.{lookup}
use Rattle.std.proofs.lemmas.Grind.{flat_map-append}
use Rattle.std.proofs.lemmas.List.{map-append}
use Rattle.indexmap.specs.IndexMap.{insert_entry}
use Rattle.rc_hir.specs.Model.{Environment, Place}
use Rattle.rc_names.proofs.NumbersLemmas.{same_id-eq}
use Rattle.rc_names.specs.Numbers.{DeclarationId, EvaluationOrder, FunctionId, ScopeId, same_id}
use Rattle.rc_memo.proofs.EntryLemmas.{entry_kept, entry_put}
use Rattle.rc_memo.proofs.GrowingLemmas.{adds_no_scopes, adds_scopes_next}
use Rattle.rc_memo.proofs.RowNodesLemmas.{adds_operands, adds_row_target, facts_next, facts_nothing, row_kept, row_last}
use Rattle.rc_memo.specs.Events.{listed, mention_facts, mention_scopes, scope_facts, target_facts, target_scopes}
use Rattle.rc_memo.specs.Facts.{Fact, HasScope}
use Rattle.rc_memo.specs.Mentions.{active_scope, mention_of, target_of}
use Rattle.rc_hir.specs.Environment.{declaration_of}
use Rattle.rc_memo.specs.declared.event.Mention.{Mention}
use Rattle.rc_memo.specs.declared.event.Target.{Target}
use Rattle.rc_memo.specs.declared.nodes.HeldNodes.{HeldNodes}
use Rattle.rc_memo.specs.declared.nodes.RowTarget.{RowTarget}
use Rattle.rc_memo.specs.declared.recording.Recording.{Recording}
use Rattle.rc_memo.specs.declared.table.LevelGiven.{LevelGiven}
use Rattle.rc_memo.specs.inside.Growing.{AddsScopes}
use Rattle.rc_memo.specs.inside.Nodes.{at_name_or}
use Rattle.rc_memo.specs.inside.Recording.{Adds, AddsMentions, AddsTargets, Knows, PutsRow, context_of, place_names}
use Rattle.rc_memo.specs.inside.RowNodes.{AddsFacts, Extends, HeldRowNodes, IsRow, RowOperands, empty_row_node}
use Rattle.rc_memo.specs.inside.RowNodes.{operand_names, resolved, with_target}

module _ (env : Environment) where
  -- what is known stays known while no load comes
  knows_kept : (old new : Recording) → Extends old.held.operands new.held.operands
      → new.definitions ≡ old.definitions → new.known ≡ old.known → Knows env old → Knows env new
  unfolding Knows
  knows_kept old new kept definitions known knows function row found =
      row_kept old.held.operands new.held.operands (Some row) _ kept
      (subst (λ w. IsRow old.held.operands (Some row) (place_names env (resolved w) (context_of env function)))
      (sym definitions) (knows function row (ap (lookup (same_id function)) (sym known) ∙ found)))

  pub adds_by : (facts : List Fact) (scopes : List ScopeId) (old new : Recording) → AddsFacts facts old.held new.held
      → AddsScopes env scopes old.scopes new.scopes → new.definitions ≡ old.definitions
      → new.escaping ≡ old.escaping → new.known ≡ old.known → Adds env facts scopes old new
  adds_by facts scopes old new told recorded definitions escaping known = record {
    facts = told;
    scopes = recorded;
    definitions = definitions;
    escaping = escaping;
    known = knows_kept old new told.kept definitions known;
  }

  pub adds_nothing : (recording : Recording) → Adds env [] [] recording recording
  adds_nothing recording = adds_by [] [] recording recording (facts_nothing recording.held)
      (adds_no_scopes env recording.scopes) refl refl refl

  pub adds_next : (facts more : List Fact) (scopes others : List ScopeId) (old mid new : Recording)
      → Adds env facts scopes old mid → Adds env more others mid new
      → Adds env (facts ++ more) (scopes ++ others) old new
  adds_next facts more scopes others old mid new first second = record {
    facts = facts_next facts more old.held mid.held new.held first.facts second.facts;
    scopes = adds_scopes_next env scopes others old.scopes mid.scopes new.scopes first.scopes second.scopes;
    definitions = second.definitions ∙ first.definitions;
    escaping = second.escaping ∙ first.escaping;
    known = λ knows. second.known (first.known knows);
  }

  pub adds_same : {facts others : List Fact} {scopes more : List ScopeId} (old new : Recording) → facts ≡ others
      → scopes ≡ more → Adds env facts scopes old new → Adds env others more old new
  adds_same {others = others} {scopes = scopes} old new is are added =
      subst (λ w. Adds env others w old new) are (subst (λ w. Adds env w scopes old new) is added)

  module _ (id : EvaluationOrder) where
    -- operands

    pub no_mentions : (recording : Recording) → AddsMentions env id [] recording recording
    no_mentions recording = adds_nothing recording

    pub mentions_next : (xs ys : List Place) (old mid new : Recording) → AddsMentions env id xs old mid
        → AddsMentions env id ys mid new → AddsMentions env id (xs ++ ys) old new
    mentions_next xs ys old mid new first second =
        let mention = mention_of env id in
        let facts = mention_facts (resolved old.definitions) in
        adds_same old new
        (sym (ap (flat_map facts) (map-append mention xs ys) ∙ flat_map-append facts (map mention xs) (map mention ys)))
        (sym (ap mention_scopes (map-append mention xs ys)
        ∙ flat_map-append (λ (operand : Mention). listed operand.scope) (map mention xs) (map mention ys)))
        (adds_next _ _ _ _ old mid new first
        (subst (λ w. Adds env (flat_map (mention_facts (resolved w)) (map mention ys)) (mention_scopes (map mention ys))
        mid new) first.definitions second))

    pub mention_idle : (place : Place) (recording : Recording) → active_scope env id place.identifier ≡ None
        → AddsMentions env id (place ∷ []) recording recording
    unfolding mention_of
    mention_idle place recording idle =
        subst (λ w. Adds env (scope_facts (resolved recording.definitions (declaration_of env place.identifier)) w ++ [])
        (listed w ++ []) recording recording) (sym idle) (adds_nothing recording)

    pub mention_active : (place : Place) (scope : ScopeId) (old : Recording) (held : HeldNodes)
        (scopes : List (ScopeId × List DeclarationId)) → active_scope env id place.identifier ≡ Some scope
        → AddsFacts (HasScope (resolved old.definitions (declaration_of env place.identifier)) scope ∷ []) old.held held
        → AddsScopes env (scope ∷ []) old.scopes scopes
        → AddsMentions env id (place ∷ []) old (record old { held = held; scopes = scopes })
    unfolding mention_of
    mention_active place scope old held scopes active facts recorded =
        let new : Recording = record old { held = held; scopes = scopes } in
        subst (λ w. Adds env (scope_facts (resolved old.definitions (declaration_of env place.identifier)) w ++ [])
        (listed w ++ []) old new) (sym active)
        (adds_by (HasScope (resolved old.definitions (declaration_of env place.identifier)) scope ∷ []) (scope ∷ [])
        old new facts recorded refl refl refl)

    -- targets

    pub no_targets : (row : Option ℕ) (recording : Recording) → AddsTargets env id row [] recording recording
    no_targets row recording = record { adds = λ operands stands. adds_nothing recording }

    pub targets_next : (row : Option ℕ) (xs ys : List LevelGiven) (old mid new : Recording)
        → AddsTargets env id row xs old mid → AddsTargets env id row ys mid new
        → AddsTargets env id row (xs ++ ys) old new
    targets_next row xs ys old mid new first second = record {
      adds = λ operands stands.
          let target = target_of env id in
          let facts = target_facts (resolved old.definitions) operands in
          let a = first.adds operands stands in
          let stays = row_kept old.held.operands mid.held.operands row _ a.facts.kept
          (subst (λ w. IsRow old.held.operands row (operand_names (resolved w) operands)) (sym a.definitions)
          stands) in
          adds_same old new
          (sym (ap (flat_map facts) (map-append target xs ys) ∙ flat_map-append facts (map target xs) (map target ys)))
          (sym (ap target_scopes (map-append target xs ys)
          ∙ flat_map-append (λ (given : Target). listed given.mention.scope) (map target xs) (map target ys)))
          (adds_next _ _ _ _ old mid new a
          (subst (λ w. Adds env (flat_map (target_facts (resolved w) operands) (map target ys))
          (target_scopes (map target ys)) mid new) a.definitions (second.adds operands stays)));
    }

    pub target_added : (row : Option ℕ) (given : LevelGiven) (target : Target) (name : DeclarationId) (old : Recording)
        (nodes : HeldRowNodes) (scopes : List (ScopeId × List DeclarationId)) → target ≡ target_of env id given
        → name ≡ resolved old.definitions target.mention.name
        → nodes ≡ at_name_or empty_row_node name
        (with_target (record { level = target.level; row = row; scope = target.mention.scope })) old.held.nodes
        → AddsScopes env (listed target.mention.scope) old.scopes scopes
        → AddsTargets env id row (given ∷ []) old
        (record old { held = record old.held { nodes = nodes }; scopes = scopes })
    target_added row given target name old nodes scopes is named put recorded = record {
      adds = λ operands stands.
          let resolve = resolved old.definitions in
          let new : Recording = record old { held = record old.held { nodes = nodes }; scopes = scopes } in
          let told : RowTarget = record { level = target.level; row = row; scope = target.mention.scope } in
          subst (λ w. Adds env (target_facts resolve operands w ++ []) (listed w.mention.scope ++ []) old new) is
          (adds_same old new (sym (append-nil (target_facts resolve operands target)))
          (sym (append-nil (listed target.mention.scope)))
          (adds_by (target_facts resolve operands target) (listed target.mention.scope) old new
          (adds_row_target resolve operands target row old.held nodes
          (put ∙ ap (λ w. at_name_or empty_row_node w (with_target told) old.held.nodes) named) stands)
          recorded refl refl refl));
    }

  -- the position of the operands

  pub puts_none : (places : List Place) (recording : Recording) → places ≡ []
      → PutsRow env places None recording recording
  puts_none places recording none = record {
    adds = adds_nothing recording;
    stands = λ knows. ap (place_names env (resolved recording.definitions)) none;
  }

  pub puts_last : (places : List Place) (names : List DeclarationId) (row : ℕ) (old : Recording)
      (operands : RowOperands) → row ≡ length old.held.operands
      → names ≡ place_names env (resolved old.definitions) places → operands ≡ old.held.operands ++ names ∷ []
      → PutsRow env places (Some row) old (record old { held = record old.held { operands = operands } })
  puts_last places names row old operands last those put =
      let new : Recording = record old { held = record old.held { operands = operands } } in record {
        adds = adds_by [] [] old new (adds_operands old.held (names ∷ []) operands put)
            (adds_no_scopes env old.scopes) refl refl refl;
        stands = λ knows. subst (λ w. IsRow operands (Some w) (place_names env (resolved old.definitions) places))
            (sym last) (subst (IsRow operands (Some (length old.held.operands))) those
            (row_last old.held.operands operands names put));
      }

  pub puts_known : (places : List Place) (function : FunctionId) (row : ℕ) (recording : Recording)
      → places ≡ context_of env function → lookup (same_id function) recording.known ≡ Some row
      → PutsRow env places (Some row) recording recording
  unfolding Knows
  puts_known places function row recording is found = record {
    adds = adds_nothing recording;
    stands = λ knows. subst (λ w. IsRow recording.held.operands (Some row)
        (place_names env (resolved recording.definitions) w)) (sym is) (knows function row found);
  }

  pub puts_context : (places : List Place) (function : FunctionId) (row : ℕ) (old mid : Recording)
      (known : List (FunctionId × ℕ)) → places ≡ context_of env function → PutsRow env places (Some row) old mid
      → known ≡ insert_entry same_id mid.known function row
      → PutsRow env places (Some row) old (record mid { known = known })
  unfolding Knows
  puts_context places function row old mid known is put knew = record {
    adds = record {
      facts = put.adds.facts;
      scopes = put.adds.scopes;
      definitions = put.adds.definitions;
      escaping = put.adds.escaping;
      known = λ knows other at found. go knows other at found (same_id function other) refl;
    };
    stands = put.stands;
  } where
    go : Knows env old → (other : FunctionId) (at : ℕ) → lookup (same_id other) known ≡ Some at → (b : Bool)
        → same_id function other ≡ b
        → IsRow mid.held.operands (Some at) (place_names env (resolved mid.definitions) (context_of env other))
    go knows other at found false is_other =
        put.adds.known knows other at (entry_kept function other row at mid.known known knew found is_other)
    go knows other at found true same =
        subst (λ w. IsRow mid.held.operands (Some w) (place_names env (resolved mid.definitions) (context_of env other)))
        (entry_put function other row at mid.known known knew found same)
        (subst (λ w. IsRow mid.held.operands (Some row) (place_names env (resolved mid.definitions) (context_of env w)))
        (same_id-eq function other same)
        (subst (λ w. IsRow mid.held.operands (Some row) (place_names env (resolved mid.definitions) w)) is
        (subst (λ w. IsRow mid.held.operands (Some row) (place_names env (resolved w) places))
        (sym put.adds.definitions) (put.stands knows))))
