-- The flags of finished memoizations.
--
-- A `FinishMemoize` is pruned where its name, or each name that was stored into it, is computed in no scope block that
-- stays so far.
use Rattle.std.specs.Prelude.{Bool, true, false, Option, None, Some, is_none, option_and_then, option_map, slice_get}
use Rattle.std.specs.Prelude.{if◌then◌else◌}
use Rattle.rc_hir.specs.Model.{Environment, InstructionKind, InstructionValue, LValue, Place}
use Rattle.rc_hir.specs.declared.instruction.InstructionValue.TheVariants as kinds
use Rattle.rc_hir.specs.declared.pattern.InstructionKind.TheVariants.{Reassign}
use Rattle.rc_names.specs.Numbers.{IdentifierId, ScopeId, is_among}
use Rattle.rc_tree.specs.Model.{ReactiveInstruction, ReactiveValue}
use Rattle.rc_tree.specs.declared.value.ReactiveValue.TheVariants as reactive_values
use Rattle.rc_hir.specs.Environment.{declaration_of}
use Rattle.rc_escape.specs.declared.not_escaping.met.Met.{Met}
use Rattle.rc_escape.specs.declared.not_escaping.met.Store.{Store}
use Rattle.rc_escape.specs.Met.{are_dissolved, stored_into}

-- the row is a reassignment
abbrev pub is_reassignment : InstructionKind → Bool
is_reassignment Reassign = true
is_reassignment _ = false

module _ (env : Environment) where
  -- the scope of an identifier
  abbrev pub scope_of : IdentifierId → Option ScopeId
  scope_of number = option_and_then (λ identifier. identifier.scope) (slice_get env.identifiers number.0)

  -- a name that is stored: the declaration into which it is, with the name's scope; a name without a scope doesn't
  -- count
  abbrev pub store_of : IdentifierId → IdentifierId → Option Store
  store_of into name = option_map (λ scope. record { declaration = declaration_of env into; scope = scope })
      (scope_of name)

  -- a reassignment stores its value
  abbrev pub reassigned : LValue → Place → Option Store
  reassigned lvalue value =
      if is_reassignment lvalue.kind then store_of lvalue.place.identifier value.identifier else None

  -- a load into a target without a scope stores the loaded name
  abbrev pub loaded : Option Place → Place → Option Store
  loaded None place = None
  loaded (Some target) place =
      if is_none (scope_of target.identifier) then store_of target.identifier place.identifier else None

  -- what an instruction with this target stores
  unfoldable pub stored_by : Option Place → InstructionValue → Option Store
  stored_by target (kinds.StoreLocal lvalue value span) = reassigned lvalue value
  stored_by target (kinds.LoadLocal place span) = loaded target place
  stored_by target _ = None

  -- a row whose value is no instruction stores nothing
  abbrev pub stored_by_value : Option Place → ReactiveValue → Option Store
  stored_by_value target (reactive_values.Instruction instruction) = stored_by target instruction
  stored_by_value target _ = None

  -- whether a `FinishMemoize` of this name is pruned: by its own scope, or by those of the names that were stored into
  -- its declaration
  abbrev pub is_pruned_by : Met → IdentifierId → Option ScopeId → Bool
  is_pruned_by met name None = are_dissolved met (stored_into met (declaration_of env name))
  is_pruned_by met name (Some scope) = is_among met.dissolved scope

  abbrev pub is_pruned : Met → IdentifierId → Bool
  is_pruned met name = is_pruned_by met name (scope_of name)

  -- the instruction with its flag, which stays set where it is
  unfoldable pub flagged : Met → InstructionValue → InstructionValue
  flagged met (kinds.FinishMemoize manual_memo_id decl pruned span) =
      kinds.FinishMemoize manual_memo_id decl (if is_pruned met decl.identifier then true else pruned) span
  flagged met instruction = instruction

  abbrev pub flagged_value : Met → ReactiveValue → ReactiveValue
  flagged_value met (reactive_values.Instruction instruction) = reactive_values.Instruction (flagged met instruction)
  flagged_value met value = value

  abbrev pub flagged_row : Met → ReactiveInstruction → ReactiveInstruction
  flagged_row met row =
      record { id = row.id; lvalue = row.lvalue; value = flagged_value met row.value; span = row.span }
