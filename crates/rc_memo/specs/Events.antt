-- What the events of a tree tell: their facts, with resolved names; the last loads; and the escaping names.
--
-- After a row that loads a name into another, the other stands for it; a name resolves by one load, not by several.
use Rattle.std.specs.Prelude.{List, [], ◌∷◌, ◌++◌, Option, None, Some, map, unwrap_or, if◌then◌else◌}
use Rattle.std.specs.List.{flat_map}
use Rattle.rc_names.specs.Numbers.{DeclarationId, ScopeId, same_id}
use Rattle.rc_memo.specs.Facts.{Fact, GivesLevel, DependsOn, HasScope, NeedsNode, distinct, only_if, or_else}
use Rattle.rc_memo.specs.declared.level.MemoizationLevel.TheVariants.{Never}
use Rattle.rc_memo.specs.declared.event.Mention.{Mention}
use Rattle.rc_memo.specs.declared.event.Target.{Target}
use Rattle.rc_memo.specs.declared.event.MemoEvent.{MemoEvent}
use Rattle.rc_memo.specs.declared.event.MemoEvent.TheVariants as events

-- a loaded name: the name that it is loaded into, and the name that it is loaded from
abbrev pub Loaded : Type 0
Loaded = DeclarationId × DeclarationId

-- the name that the last load into a name loads
abbrev pub last_load : DeclarationId → List Loaded → Option DeclarationId
last_load name [] = None
last_load name (load ∷ loads) = or_else (last_load name loads) (only_if (same_id name load.0) load.1)

-- the name that a name stands for after some loads
abbrev pub resolved_after : List Loaded → DeclarationId → DeclarationId
resolved_after loads name = unwrap_or (last_load name loads) name

-- each name that is loaded into, in the order of first coming, with the name that its last load loads
abbrev pub definitions_told : List Loaded → List (DeclarationId × DeclarationId)
definitions_told loads = map (λ name. (name, resolved_after loads name)) (distinct same_id (map (λ load. load.0) loads))

-- a name has each of these scopes
abbrev pub scopes_facts : DeclarationId → List ScopeId → List Fact
scopes_facts name scopes = flat_map (λ scope. HasScope name scope ∷ []) scopes

-- a name has its active scope
abbrev pub scope_facts : DeclarationId → Option ScopeId → List Fact
scope_facts name None = []
scope_facts name (Some scope) = HasScope name scope ∷ []

-- a name depends on another one, and not on itself
abbrev pub dependency_facts : DeclarationId → DeclarationId → List Fact
dependency_facts name other = if same_id name other then [] else DependsOn name other ∷ []

module _ (resolve : DeclarationId → DeclarationId) where
  -- a mentioned name has its active scope
  abbrev pub mention_facts : Mention → List Fact
  mention_facts mention = scope_facts (resolve mention.name) mention.scope

  -- a name depends on an operand
  unfoldable pub operand_facts : DeclarationId → Mention → List Fact
  operand_facts name operand = dependency_facts name (resolve operand.name)

  -- a target has its level, depends on each operand but itself, and has its active scope
  unfoldable pub target_facts : List Mention → Target → List Fact
  target_facts operands target = GivesLevel (resolve target.mention.name) target.level
      ∷ (flat_map (operand_facts (resolve target.mention.name)) operands ++ mention_facts target.mention)

  -- a row tells of its operands, and then of its targets
  abbrev pub row_facts : List Mention → List Target → List Fact
  row_facts operands targets = flat_map mention_facts operands ++ flat_map (target_facts operands) targets

  -- the facts of an event; a returned or reassigned name isn't resolved
  abbrev pub event_facts : MemoEvent → List Fact
  event_facts (events.Row operands targets) = row_facts operands targets
  event_facts (events.Load target loaded) = []
  event_facts (events.Within name scopes) = NeedsNode name ∷ scopes_facts name scopes
  event_facts (events.Escape name) = []

-- the load of an event
abbrev pub loads_in : MemoEvent → List Loaded
loads_in (events.Load target loaded) = (target, loaded) ∷ []
loads_in _ = []

-- the facts of events in their order, each with the names that the loads before it give
abbrev pub facts_behind : List Loaded → List MemoEvent → List Fact
facts_behind loads [] = []
facts_behind loads (event ∷ events) =
    event_facts (resolved_after loads) event ++ facts_behind (loads ++ loads_in event) events

-- the name that escapes by an event
abbrev pub escaping_in : MemoEvent → List DeclarationId
escaping_in (events.Escape name) = name ∷ []
escaping_in _ = []

-- the scope of a mention, where one is active
abbrev pub listed : Option ScopeId → List ScopeId
listed None = []
listed (Some scope) = scope ∷ []

-- the scopes that are active for the operands, and for the targets, of a row
abbrev pub mention_scopes : List Mention → List ScopeId
mention_scopes operands = flat_map (λ operand. listed operand.scope) operands

abbrev pub target_scopes : List Target → List ScopeId
target_scopes targets = flat_map (λ target. listed target.mention.scope) targets

-- the scopes that are active for the operands and targets of an event
abbrev pub scopes_in : MemoEvent → List ScopeId
scopes_in (events.Row operands targets) = mention_scopes operands ++ target_scopes targets
scopes_in _ = []

-- a parameter is a target that asks nothing
abbrev pub params_facts : List DeclarationId → List Fact
params_facts params = flat_map (λ param. GivesLevel param Never ∷ []) params

-- the facts of a function with these parameters and events
abbrev pub facts_told : List DeclarationId → List MemoEvent → List Fact
facts_told params events = params_facts params ++ facts_behind [] events
