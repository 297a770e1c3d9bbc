-- The statements of an early return: those in the place of a `Return`, and those in the place of a scope block's own.
--
-- No order of evaluation is set, so that the rows have no event.
use Rattle.std.specs.Prelude.{◌+◌, ℕ, true, false, List, [], ◌∷◌, Option, None, Some, codes}
use Rattle.rc_hir.specs.Model.{Effect, InstructionKind, InstructionValue, Place, ReactiveScopeEarlyReturn}
use Rattle.rc_hir.specs.declared.instruction.InstructionValue.TheVariants as kinds
use Rattle.rc_hir.specs.declared.instruction.NonLocalBinding.TheVariants.{Global}
use Rattle.rc_hir.specs.declared.instruction.PrimitiveValue.TheVariants as primitives
use Rattle.rc_hir.specs.declared.pattern.InstructionKind.TheVariants.{Let, Reassign}
use Rattle.rc_hir.specs.declared.pattern.PropertyLiteral.TheVariants as property
use Rattle.rc_hir.specs.declared.place.Effect.TheVariants.{Capture, ConditionallyMutate, Unknown}
use Rattle.rc_hir.specs.declared.place.PlaceOrSpread.TheVariants as arguments
use Rattle.rc_names.specs.Numbers.{EvaluationOrder, IdentifierId, to_id}
use Rattle.rc_names.specs.declared.span.Span.{Span}
use Rattle.rc_tree.specs.Model.{ReactiveBlock, ReactiveStatement}
use Rattle.rc_tree.specs.declared.kind.ReactiveTerminalTargetKind.TheVariants.{Labeled}
use Rattle.rc_tree.specs.declared.statement.ReactiveStatement.TheVariants as reactive
use Rattle.rc_tree.specs.declared.terminal.ReactiveTerminal.TheVariants as tree
use Rattle.rc_tree.specs.declared.value.ReactiveValue.TheVariants as reactive_values

-- the order of statements that a pass adds
abbrev pub unset : EvaluationOrder
unset = to_id 0

-- the place of one of the four temporaries, by how far its number is from the variable's
abbrev pub temporary : IdentifierId → ℕ → Place
temporary variable step =
    record { identifier = to_id (variable.0 + step); effect = Unknown; reactive = false; span = None }

-- a row that the pass adds
abbrev pub added_row : Option Span → Option Place → InstructionValue → ReactiveStatement
added_row span target value = reactive.Instruction (record {
  id = unset;
  lvalue = target;
  value = reactive_values.Instruction value;
  span = span;
})

-- a row that stores a place to the variable
abbrev pub store : InstructionKind → Effect → IdentifierId → Option Span → Place → ReactiveStatement
store kind effect variable span from = added_row span None (kinds.StoreLocal (record {
  kind = kind;
  place = record { identifier = variable; effect = effect; reactive = true; span = span };
}) from span)

-- the statements in the place of a `Return`: a store to the variable, and a jump to the label
abbrev pub stored_return : ReactiveScopeEarlyReturn → Place → List ReactiveStatement
stored_return entry place =
    store Reassign Capture entry.value place.span place
    ∷ reactive.Terminal (record { terminal = tree.Break entry.label Labeled unset; label = None }) ∷ []

-- the statements of a block under the label
abbrev pub labeled : ReactiveScopeEarlyReturn → ReactiveBlock → ReactiveStatement
labeled entry block = reactive.Terminal (record {
  terminal = tree.Label block unset;
  label = Some (record { id = entry.label; implicit = false });
})

-- the row that loads `Symbol`
abbrev pub load_symbol : ReactiveScopeEarlyReturn → ReactiveStatement
load_symbol entry = added_row entry.span (Some (temporary entry.value 2)) (kinds.LoadGlobal (Global (codes "Symbol")) entry.span)

-- the row that loads the property `for` of `Symbol`
abbrev pub load_for : ReactiveScopeEarlyReturn → ReactiveStatement
load_for entry = added_row entry.span (Some (temporary entry.value 3))
    (kinds.PropertyLoad (temporary entry.value 2) (property.String (codes "for")) entry.span)

-- the row with the argument of the call
abbrev pub load_argument : ReactiveScopeEarlyReturn → ReactiveStatement
load_argument entry = added_row entry.span (Some (temporary entry.value 4))
    (kinds.Primitive (primitives.String (codes "react.early_return_sentinel")) entry.span)

-- the row that calls `Symbol.for`
abbrev pub call : ReactiveScopeEarlyReturn → ReactiveStatement
call entry = added_row entry.span (Some (temporary entry.value 1)) (kinds.MethodCall (temporary entry.value 2)
    (temporary entry.value 3) (arguments.Place (temporary entry.value 4) ∷ []) entry.span)

-- the statements in the place of a block's own: `Symbol.for("react.early_return_sentinel")` is stored to the variable,
-- and the block's own follow under the label
abbrev pub after_sentinel : ReactiveScopeEarlyReturn → ReactiveBlock → List ReactiveStatement
after_sentinel entry block =
    load_symbol entry
    ∷ load_for entry
    ∷ load_argument entry
    ∷ call entry
    ∷ store Let ConditionallyMutate entry.value entry.span (temporary entry.value 1)
    ∷ labeled entry block ∷ []
