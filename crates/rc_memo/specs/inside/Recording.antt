-- What is recorded of events, and what each of them adds.
use Rattle.std.specs.Prelude.{◌≡◌, ℕ, List, [], ◌∷◌, ◌++◌, Option, Some, map, slice_get}
use Rattle.std.specs.List.{flat_map}
use Rattle.std.specs.Map.{lookup}
use Rattle.std.specs.Result.{result_unwrap_or}
use Rattle.rc_hir.specs.Model.{Environment, InstructionValue, ParamPattern, Place}
use Rattle.rc_hir.specs.Operands.{context_found}
use Rattle.rc_names.specs.Numbers.{DeclarationId, EvaluationOrder, FunctionId, ScopeId, same_id}
use Rattle.rc_tree.specs.Model.{ReactiveValue}
use Rattle.rc_memo.specs.Events.{definitions_told, escaping_in, facts_told, loads_in, mention_facts, mention_scopes}
use Rattle.rc_memo.specs.Events.{scopes_in, target_facts, target_scopes}
use Rattle.rc_memo.specs.Facts.{Fact, GivesLevel, distinct}
use Rattle.rc_memo.specs.Mentions.{mention_of, target_of}
use Rattle.rc_hir.specs.Environment.{declaration_of}
use Rattle.rc_memo.specs.Record.{param_name, recorded_scopes}
use Rattle.rc_memo.specs.RowEvents.{parts_of, places_read, recorded_operands, row_event}
use Rattle.rc_memo.specs.Table.{levels_of, memo_rule, written_levels}
use Rattle.rc_memo.specs.declared.event.Mention.{Mention}
use Rattle.rc_memo.specs.declared.level.MemoizationLevel.TheVariants.{Never}
use Rattle.rc_memo.specs.declared.event.MemoEvent.{MemoEvent}
use Rattle.rc_memo.specs.declared.recording.Recording.{Recording}
use Rattle.rc_memo.specs.declared.table.LevelGiven.{LevelGiven}
use Rattle.rc_memo.specs.inside.Growing.{AddsScopes}
use Rattle.rc_memo.specs.inside.RowNodes.{AddsFacts, HoldsFacts, IsRow, operand_names, resolved}

module _ (env : Environment) where
  -- the context of a function; a function outside the table has none
  abbrev pub context_of : FunctionId → List Place
  context_of function = result_unwrap_or (context_found function (slice_get env.functions function.0)) []

  -- the names that places stand for
  abbrev pub place_names : (DeclarationId → DeclarationId) → List Place → List DeclarationId
  place_names resolve places = map (λ place. resolve (declaration_of env place.identifier)) places

  -- the names of each known context are at its recorded position
  unfoldable pub Knows : Recording → Type 0
  Knows recording = (function : FunctionId) (row : ℕ) → lookup (same_id function) recording.known ≡ Some row
      → IsRow recording.held.operands (Some row) (place_names (resolved recording.definitions) (context_of function))

  -- a call adds facts and recorded scopes, and neither a load nor a name that escapes
  pub record Adds (told : List Fact) (active : List ScopeId) (old new : Recording) : Type 0 where
    pub facts : AddsFacts told old.held new.held
    pub scopes : AddsScopes env active old.scopes new.scopes
    pub definitions : new.definitions ≡ old.definitions
    pub escaping : new.escaping ≡ old.escaping
    pub known : Knows old → Knows new

  -- a call adds the operands of a row of that id
  abbrev pub AddsMentions : EvaluationOrder → List Place → Recording → Recording → Type 0
  AddsMentions id places old new =
      Adds (flat_map (mention_facts (resolved old.definitions)) (map (mention_of env id) places))
      (mention_scopes (map (mention_of env id) places)) old new

  -- a call adds targets of a row of that id, where the names of the row's operands are at a position
  pub record AddsTargets (id : EvaluationOrder) (row : Option ℕ) (given : List LevelGiven)
      (old new : Recording) : Type 0 where
    pub adds : (operands : List Mention)
        → IsRow old.held.operands row (operand_names (resolved old.definitions) operands)
        → Adds (flat_map (target_facts (resolved old.definitions) operands) (map (target_of env id) given))
        (target_scopes (map (target_of env id) given)) old new

  -- a call gives a position at which the names of places are, and adds nothing else
  pub record PutsRow (places : List Place) (row : Option ℕ) (old new : Recording) : Type 0 where
    pub adds : Adds [] [] old new
    pub stands : Knows old → IsRow new.held.operands row (place_names (resolved old.definitions) places)

  -- what is recorded of parameters and events
  pub record IsRecorded (params : List DeclarationId) (events : List MemoEvent) (recording : Recording) : Type 0 where
    pub facts : HoldsFacts (facts_told params events) recording.held
    pub definitions : recording.definitions ≡ definitions_told (flat_map loads_in events)
    pub escaping : recording.escaping ≡ distinct same_id (flat_map escaping_in events)
    pub scopes : recording.scopes ≡ recorded_scopes env (distinct same_id (flat_map scopes_in events))
    pub known : Knows recording

  -- a call adds events, whatever the events before are
  unfoldable pub Tells : List MemoEvent → Recording → Recording → Type 0
  Tells events old new = (params : List DeclarationId) (before : List MemoEvent) → IsRecorded params before old
      → IsRecorded params (before ++ events) new

  -- a call adds that each parameter is a target that asks nothing
  abbrev pub AddsParams : List ParamPattern → Recording → Recording → Type 0
  AddsParams params old new = Adds (flat_map (λ param. GivesLevel (param_name env param) Never ∷ []) params) [] old new

  -- the row of an instruction
  abbrev pub instruction_row : EvaluationOrder → Option Place → InstructionValue → MemoEvent
  instruction_row id target value = row_event env id (recorded_operands env value)
      (levels_of env (memo_rule value) target (places_read env value) (written_levels value))

  module _ (value : ReactiveValue) where
    -- a value in a row adds the events of the rows inside
    pub record AddsRows (old new : Recording) : Type 0 where
      pub events : Tells (parts_of env value).rows old new

    -- a value in a row adds its operands
    pub record AddsPlaces (old new : List Place) : Type 0 where
      pub places : new ≡ old ++ (parts_of env value).places

    -- a value in a terminal adds the events of the rows inside
    pub record AddsWalked (old new : Recording) : Type 0 where
      pub events : Tells (parts_of env value).walked old new
