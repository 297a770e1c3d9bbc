-- What a place in a row names: its declaration, and its scope where that is active at the row.
--
-- A number outside its table is in no scope, and stands for the declaration of its own number.
use Rattle.std.specs.Prelude.{Option, None, Some, slice_get, option_and_then, if◌then◌else◌}
use Rattle.rc_hir.specs.Environment.{declaration_of}
use Rattle.rc_hir.specs.Model.{Environment, Place}
use Rattle.rc_names.specs.Numbers.{EvaluationOrder, IdentifierId, ScopeId}
use Rattle.rc_ranges.specs.Ranges.{is_in_range}
use Rattle.rc_memo.specs.declared.event.Mention.{Mention}
use Rattle.rc_memo.specs.declared.event.Target.{Target}
use Rattle.rc_memo.specs.declared.table.LevelGiven.{LevelGiven}

module _ (env : Environment) where
  -- a scope, where its range has the id
  abbrev pub if_active : EvaluationOrder → ScopeId → Option ScopeId
  if_active id scope = option_and_then (λ known. if is_in_range id known.range then Some scope else None)
      (slice_get env.scopes scope.0)

  -- the scope of an identifier, where it is active at the id
  abbrev pub active_scope : EvaluationOrder → IdentifierId → Option ScopeId
  active_scope id number = option_and_then (if_active id)
      (option_and_then (λ identifier. identifier.scope) (slice_get env.identifiers number.0))

  -- a place in a row of that id
  unfoldable pub mention_of : EvaluationOrder → Place → Mention
  mention_of id place = record {
    name = declaration_of env place.identifier;
    scope = active_scope id place.identifier;
  }

  -- a place with its level
  unfoldable pub target_of : EvaluationOrder → LevelGiven → Target
  target_of id given = record { mention = mention_of id given.place; level = given.level }
