-- Events that are told one after the other, and what each of them adds to what is recorded.
use Rattle.std.proofs.Common.{◌≡◌, ◌∙◌, ℕ, List, [], ◌∷◌, ◌++◌, Option, None, ap, append-nil, append_assoc, map, refl}
use Rattle.std.proofs.Common.{subst, sym}
use Rattle.std.specs.List.{flat_map}
use Rattle.std.specs.Map.{lookup}
use Rattle.indexmap.specs.IndexMap.{insert_entry}
use Rattle.indexmap.specs.IndexSet.{insert_key}
use Rattle.rc_hir.specs.Model.{Environment, ParamPattern, Place}
use Rattle.rc_tree.specs.Model.{ReactiveFunction}
use Rattle.rc_names.proofs.NumbersLemmas.{same_id-eq}
use Rattle.rc_names.specs.Numbers.{DeclarationId, EvaluationOrder, FunctionId, ScopeId, same_id}
use Rattle.rc_memo.proofs.DistinctLemmas.{distinct_push}
use Rattle.rc_memo.proofs.EventsLemmas.{facts_told-push, flat-push, resolved_told}
use Rattle.rc_memo.proofs.GrowingLemmas.{adds_no_scopes}
use Rattle.rc_memo.proofs.LoadsLemmas.{definitions_push}
use Rattle.rc_memo.proofs.MissingLemmas.{none_some}
use Rattle.rc_memo.proofs.NodesLemmas.{itself}
use Rattle.rc_memo.proofs.RecordingLemmas.{adds_by, adds_next, adds_same}
use Rattle.rc_memo.specs.Events.{definitions_told, escaping_in, event_facts, facts_told, loads_in, params_facts}
use Rattle.rc_memo.specs.Events.{scopes_facts, scopes_in, target_facts, target_scopes}
use Rattle.rc_memo.specs.Facts.{Fact, GivesLevel, NeedsNode, distinct}
use Rattle.rc_memo.specs.Mentions.{mention_of, target_of}
use Rattle.rc_hir.specs.Environment.{declaration_of}
use Rattle.rc_memo.specs.Record.{IsRecordOf, param_name, recorded_scopes}
use Rattle.rc_memo.specs.RowEvents.{row_event}
use Rattle.rc_memo.specs.RowRecord.{record_of_rows}
use Rattle.rc_memo.specs.TreeEvents.{events_in}
use Rattle.rc_memo.specs.declared.event.Mention.{Mention}
use Rattle.rc_memo.specs.declared.event.MemoEvent.{MemoEvent}
use Rattle.rc_memo.specs.declared.event.MemoEvent.TheVariants as events
use Rattle.rc_memo.specs.declared.level.MemoizationLevel.TheVariants.{Never}
use Rattle.rc_memo.specs.declared.nodes.HeldNodes.{HeldNodes}
use Rattle.rc_memo.specs.declared.recording.Recording.{Recording}
use Rattle.rc_memo.specs.declared.table.LevelGiven.{LevelGiven}
use Rattle.rc_memo.specs.inside.Growing.{AddsScopes}
use Rattle.rc_memo.specs.inside.Recording.{Adds, AddsMentions, AddsParams, AddsTargets, IsRecorded, Knows, PutsRow, Tells}
use Rattle.rc_memo.specs.inside.Recording.{place_names}
use Rattle.rc_memo.specs.inside.RowNodes.{AddsFacts, HoldsFacts, IsRow, operand_names, resolved}

module _ (env : Environment) where
  pub tells_nothing : (recording : Recording) → Tells env [] recording recording
  unfolding Tells
  tells_nothing recording params before h =
      subst (λ w. IsRecorded env params w recording) (sym (append-nil before)) h

  pub tells_same : (more whole : List MemoEvent) (old new : Recording) → whole ≡ more → Tells env more old new
      → Tells env whole old new
  tells_same more whole old new is told = subst (λ w. Tells env w old new) (sym is) told

  pub tells_joined : (old mid new : Recording) (a b whole : List MemoEvent) → whole ≡ a ++ b → Tells env a old mid
      → Tells env b mid new → Tells env whole old new
  unfolding Tells
  tells_joined old mid new a b whole is first second params before h =
      subst (λ w. IsRecorded env params w new) (append_assoc before a b ∙ ap (λ w. before ++ w) (sym is))
      (second params (before ++ a) (first params before h))

  pub tells_next : (a b : List MemoEvent) (old mid new : Recording) → Tells env a old mid → Tells env b mid new
      → Tells env (a ++ b) old new
  tells_next a b old mid new first second = tells_joined old mid new a b (a ++ b) refl first second

  -- whatever room there is for levels before and after
  pub tells_with_room : (events : List MemoEvent) (old new : Recording) (before after : List LevelGiven)
      → Tells env events (record old { levels = before }) new → Tells env events old (record new { levels = after })
  unfolding Tells Knows
  tells_with_room events old new before after told params earlier h =
      let is = told params earlier (record {
        facts = h.facts;
        definitions = h.definitions;
        escaping = h.escaping;
        scopes = h.scopes;
        known = h.known;
      }) in
      record {
        facts = is.facts;
        definitions = is.definitions;
        escaping = is.escaping;
        scopes = is.scopes;
        known = is.known;
      }

  -- an event that is no load and by which no name escapes
  tells_plain : (event : MemoEvent) (old new : Recording) → loads_in event ≡ [] → escaping_in event ≡ []
      → (Knows env old → Adds env (event_facts (resolved old.definitions) event) (scopes_in event) old new)
      → Tells env (event ∷ []) old new
  unfolding Tells AddsScopes
  tells_plain event old new no_load no_escape adds params before h =
      let a = adds h.known in record {
        facts = subst (λ w. HoldsFacts w new.held)
            (ap (λ f. facts_told params before ++ event_facts f event)
            (resolved_told old.definitions (flat_map loads_in before) h.definitions)
            ∙ sym (facts_told-push params before event))
            (a.facts.holds (facts_told params before) h.facts);
        definitions = a.definitions ∙ h.definitions
            ∙ ap definitions_told (sym (unchanged (flat_map loads_in before) (flat-push loads_in before event) no_load));
        escaping = a.escaping ∙ h.escaping ∙ ap (distinct same_id)
            (sym (unchanged (flat_map escaping_in before) (flat-push escaping_in before event) no_escape));
        scopes = a.scopes (flat_map scopes_in before) h.scopes
            ∙ ap (λ w. recorded_scopes env (distinct same_id w)) (sym (flat-push scopes_in before event));
        known = a.known h.known;
      }
    where
      unchanged : {X : Type 0} {more whole : List X} (old : List X) → whole ≡ old ++ more → more ≡ [] → whole ≡ old
      unchanged old is none = is ∙ ap (λ w. old ++ w) none ∙ append-nil old

  -- rows

  names_same : (id : EvaluationOrder) (resolve : DeclarationId → DeclarationId) (places : List Place)
      → place_names env resolve places ≡ operand_names resolve (map (mention_of env id) places)
  unfolding mention_of
  names_same id resolve [] = refl
  names_same id resolve (place ∷ places) =
      ap (λ w. resolve (declaration_of env place.identifier) ∷ w) (names_same id resolve places)

  pub tells_row : (id : EvaluationOrder) (operands : List Place) (levels : List LevelGiven) (row : Option ℕ)
      (old one two new : Recording) → AddsMentions env id operands old one → PutsRow env operands row one two
      → AddsTargets env id row levels two new → Tells env (row_event env id operands levels ∷ []) old new
  tells_row id operands levels row old one two new mentions puts targets =
      tells_plain (row_event env id operands levels) old new refl refl (λ knows.
      let mention = map (mention_of env id) operands in
      let same : two.definitions ≡ old.definitions = puts.adds.definitions ∙ mentions.definitions in
      let stands = subst (λ w. IsRow two.held.operands row w)
      (ap (λ w. place_names env (resolved w) operands) (sym puts.adds.definitions)
      ∙ names_same id (resolved two.definitions) operands) (puts.stands (mentions.known knows)) in
      adds_next env _ _ _ _ old two new
      (adds_same env old two (append-nil _) (append-nil _) (adds_next env _ [] _ [] old one two mentions puts.adds))
      (subst (λ w. Adds env (row_targets w mention levels) (row_scopes levels) two new) same
      (targets.adds mention stands)))
    where
      row_targets : List (DeclarationId × DeclarationId) → List Mention → List LevelGiven → List Fact
      row_targets definitions mentions given =
          flat_map (target_facts (resolved definitions) mentions) (map (target_of env id) given)

      row_scopes : List LevelGiven → List ScopeId
      row_scopes given = target_scopes (map (target_of env id) given)

  pub tells_mentions : (id : EvaluationOrder) (operands : List Place) (levels : List LevelGiven) (old new : Recording)
      → levels ≡ [] → AddsMentions env id operands old new
      → Tells env (row_event env id operands levels ∷ []) old new
  tells_mentions id operands levels old new none mentions =
      subst (λ w. Tells env (row_event env id operands w ∷ []) old new) (sym none)
      (tells_plain (row_event env id operands []) old new refl refl
      (λ knows. adds_same env old new (sym (append-nil _)) (sym (append-nil _)) mentions))

  -- a load forgets what is known of contexts
  pub tells_load : (target loaded : DeclarationId) (old : Recording)
      (definitions : List (DeclarationId × DeclarationId)) (known : List (FunctionId × ℕ))
      → definitions ≡ insert_entry same_id old.definitions target loaded → known ≡ []
      → Tells env (events.Load target loaded ∷ []) old (record old { definitions = definitions; known = known })
  unfolding Tells Knows
  tells_load target loaded old definitions known put none params before h =
      let event = events.Load target loaded in record {
        facts = subst (λ w. HoldsFacts w old.held)
            (sym (facts_told-push params before event ∙ append-nil (facts_told params before))) h.facts;
        definitions = put ∙ ap (λ w. insert_entry same_id w target loaded) h.definitions
            ∙ sym (definitions_push (flat_map loads_in before) target loaded)
            ∙ ap definitions_told (sym (flat-push loads_in before event));
        escaping = h.escaping ∙ ap (distinct same_id)
            (sym (flat-push escaping_in before event ∙ append-nil (flat_map escaping_in before)));
        scopes = h.scopes ∙ ap (λ w. recorded_scopes env (distinct same_id w))
            (sym (flat-push scopes_in before event ∙ append-nil (flat_map scopes_in before)));
        known = λ function row found. absurd (none_some (ap (lookup (same_id function)) (sym none) ∙ found));
      }

  pub tells_escape : (name : DeclarationId) (old : Recording) (escaping : List DeclarationId)
      → escaping ≡ insert_key same_id old.escaping name
      → Tells env (events.Escape name ∷ []) old (record old { escaping = escaping })
  unfolding Tells Knows
  tells_escape name old escaping put params before h =
      let event = events.Escape name in record {
        facts = subst (λ w. HoldsFacts w old.held)
            (sym (facts_told-push params before event ∙ append-nil (facts_told params before))) h.facts;
        definitions = h.definitions ∙ ap definitions_told
            (sym (flat-push loads_in before event ∙ append-nil (flat_map loads_in before)));
        escaping = put ∙ ap (λ w. insert_key same_id w name) h.escaping
            ∙ sym (distinct_push same_id same_id-eq itself (flat_map escaping_in before) name)
            ∙ ap (distinct same_id) (sym (flat-push escaping_in before event));
        scopes = h.scopes ∙ ap (λ w. recorded_scopes env (distinct same_id w))
            (sym (flat-push scopes_in before event ∙ append-nil (flat_map scopes_in before)));
        known = h.known;
      }

  pub tells_within : (name : DeclarationId) (scopes : List ScopeId) (old : Recording) (held : HeldNodes)
      → AddsFacts (NeedsNode name ∷ scopes_facts name scopes) old.held held
      → Tells env (events.Within name scopes ∷ []) old (record old { held = held })
  tells_within name scopes old held facts =
      let new : Recording = record old { held = held } in
      tells_plain (events.Within name scopes) old new refl refl
      (λ knows. adds_by env (NeedsNode name ∷ scopes_facts name scopes) [] old new facts
      (adds_no_scopes env old.scopes) refl refl refl)

  -- before all events

  pub nothing_recorded : (recording : Recording) → HoldsFacts [] recording.held → recording.scopes ≡ []
      → recording.definitions ≡ [] → recording.escaping ≡ [] → recording.known ≡ [] → IsRecorded env [] [] recording
  unfolding Knows recorded_scopes
  nothing_recorded recording facts scopes definitions escaping known = record {
    facts = facts;
    definitions = definitions;
    escaping = escaping;
    scopes = scopes;
    known = λ function row found. absurd (none_some (ap (lookup (same_id function)) (sym known) ∙ found));
  }

  facts_of_params : (params : List ParamPattern)
      → flat_map (λ param. GivesLevel (param_name env param) Never ∷ []) params
      ≡ params_facts (map (param_name env) params)
  facts_of_params [] = refl
  facts_of_params (param ∷ params) = ap (λ w. GivesLevel (param_name env param) Never ∷ w) (facts_of_params params)

  pub params_recorded : (params : List ParamPattern) (start recording : Recording) → IsRecorded env [] [] start
      → AddsParams env params start recording → IsRecorded env (map (param_name env) params) [] recording
  unfolding AddsScopes
  params_recorded params start recording h added = record {
    facts = subst (λ w. HoldsFacts w recording.held)
        (facts_of_params params ∙ sym (append-nil (params_facts (map (param_name env) params))))
        (added.facts.holds [] h.facts);
    definitions = added.definitions ∙ h.definitions;
    escaping = added.escaping ∙ h.escaping;
    scopes = added.scopes [] h.scopes;
    known = added.known h.known;
  }

  pub all_recorded : (params : List DeclarationId) (all : List MemoEvent) (old new : Recording)
      → IsRecorded env params [] old → Tells env all old new → IsRecorded env params all new
  unfolding Tells
  all_recorded params all old new h told = told params [] h

-- where no name is missing, what is recorded is the record
pub record_made : (func : ReactiveFunction) (env : Environment) (recording : Recording)
    → IsRecorded env (map (param_name env) func.params) (events_in env func.body) recording
    → recording.held.missing ≡ None → IsRecordOf func env (record_of_rows (record {
      nodes = recording.held.nodes;
      operands = recording.held.operands;
      scopes = recording.scopes;
      definitions = recording.definitions;
      escaping = recording.escaping;
    }))
unfolding record_of_rows
record_made func env recording h none = record {
  complete = sym h.facts.missing ∙ none;
  nodes = (h.facts.rows none).nodes.nodes_are;
  definitions = h.definitions;
  escaping = h.escaping;
  scopes = h.scopes;
}
