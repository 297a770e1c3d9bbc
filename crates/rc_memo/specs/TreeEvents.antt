-- The events of a tree, in the order of the text: those of its rows, its returns and its scope blocks.
use Rattle.std.specs.Prelude.{List, [], ◌∷◌, ◌++◌, slice_get}
use Rattle.std.specs.List.{flat_map}
use Rattle.std.specs.Option.{option_map_or}
use Rattle.rc_hir.specs.Model.{Environment}
use Rattle.rc_names.specs.Numbers.{IdentifierId, ScopeId}
use Rattle.rc_tree.specs.Collected.{Contributions, collected}
use Rattle.rc_tree.specs.Joining.{from_around, lists}
use Rattle.rc_tree.specs.Model.{ReactiveBlock}
use Rattle.rc_hir.specs.Environment.{declaration_of}
use Rattle.rc_memo.specs.RowEvents.{row_events, walked_events}
use Rattle.rc_memo.specs.declared.event.MemoEvent.{MemoEvent}
use Rattle.rc_memo.specs.declared.event.MemoEvent.TheVariants as events

-- the events of a part, from the scope blocks around it, the outermost first
abbrev pub Events : Type 0
Events = List ScopeId → List MemoEvent

module _ (env : Environment) where
  -- the identifiers that a scope reassigns
  abbrev pub reassigned_by : ScopeId → List IdentifierId
  reassigned_by scope = option_map_or (λ known. known.reassignments) (slice_get env.scopes scope.0) []

  -- each name that a scope reassigns has the scope blocks around it, and that scope
  abbrev pub reassigned_events : ScopeId → Events
  reassigned_events scope around =
      flat_map (λ number. events.Within (declaration_of env number) (around ++ scope ∷ []) ∷ []) (reassigned_by scope)

  -- the events of each part: a returned name escapes, and has the scope blocks around the `Return`
  abbrev pub events_of_parts : Contributions Events
  events_of_parts = record {
    joining = from_around lists;
    row = λ x around. row_events env x;
    value = λ id x around. walked_events env x;
    place = λ id x around. [];
    returned = λ id place around. events.Escape (declaration_of env place.identifier)
        ∷ events.Within (declaration_of env place.identifier) around ∷ [];
    jump = λ target around. [];
    label = λ label around. [];
    scope = λ scope inside around. reassigned_events scope around ++ inside (around ++ scope ∷ []);
    pruned_scope = λ scope inside. inside;
  }

  -- the events of a whole body
  abbrev pub events_in : ReactiveBlock → List MemoEvent
  events_in body = collected events_of_parts body []
