-- The memo record of a function, and the cause of its refusal.
use Rattle.std.specs.Prelude.{◌≡◌, List, [], None, Some, map, slice_get}
use Rattle.std.specs.List.{flat_map}
use Rattle.std.specs.Option.{option_map_or}
use Rattle.rc_hir.specs.Model.{Environment, Fault, ParamPattern, ReactiveScopeDependency}
use Rattle.rc_hir.specs.declared.fault.Fault.TheVariants as faults
use Rattle.rc_hir.specs.declared.place.ParamPattern.TheVariants as params
use Rattle.rc_names.specs.Numbers.{DeclarationId, ScopeId, same_id}
use Rattle.rc_tree.specs.Model.{ReactiveFunction}
use Rattle.rc_memo.specs.Events.{definitions_told, escaping_in, facts_told, loads_in, scopes_in}
use Rattle.rc_memo.specs.Facts.{distinct, first_missing, nodes_told}
use Rattle.rc_hir.specs.Environment.{declaration_of}
use Rattle.rc_memo.specs.TreeEvents.{events_in}
use Rattle.rc_memo.specs.declared.event.MemoEvent.{MemoEvent}
use Rattle.rc_memo.specs.declared.record.MemoRecord.{MemoRecord}

-- the fault names the first name of which a node is needed and which has none yet
pub record IsUninitialised (params : List DeclarationId) (events : List MemoEvent) (fault : Fault) : Type 0 where
  pub name : DeclarationId
  pub names_it : fault ≡ faults.Uninitialised name
  pub first : first_missing [] (facts_told params events) ≡ Some name

module _ (env : Environment) where
  -- the declaration of a parameter
  abbrev pub param_name : ParamPattern → DeclarationId
  param_name (params.Place place) = declaration_of env place.identifier
  param_name (params.Spread spread) = declaration_of env spread.place.identifier

  -- the declarations of a scope's dependencies
  abbrev pub dependency_name : ReactiveScopeDependency → DeclarationId
  dependency_name dependency = declaration_of env dependency.identifier

  abbrev pub dependency_names : ScopeId → List DeclarationId
  dependency_names scope =
      option_map_or (λ known. map dependency_name known.dependencies) (slice_get env.scopes scope.0) []

  -- scopes, each with the declarations of its dependencies
  unfoldable pub recorded_scopes : List ScopeId → List (ScopeId × List DeclarationId)
  recorded_scopes scopes = map (λ scope. (scope, dependency_names scope)) scopes

-- the record is that of the function's parameters and events: no name of which a node is needed has none
pub record IsRecordOf (func : ReactiveFunction) (env : Environment) (rec : MemoRecord) : Type 0 where
  pub complete : first_missing [] (facts_told (map (param_name env) func.params) (events_in env func.body)) ≡ None
  pub nodes : rec.nodes ≡ nodes_told (facts_told (map (param_name env) func.params) (events_in env func.body))
  pub definitions : rec.definitions ≡ definitions_told (flat_map loads_in (events_in env func.body))
  pub escaping : rec.escaping ≡ distinct same_id (flat_map escaping_in (events_in env func.body))
  pub scopes : rec.scopes ≡ recorded_scopes env (distinct same_id (flat_map scopes_in (events_in env func.body)))
