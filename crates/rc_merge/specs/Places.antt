-- How merging sees the statements of a list: a row that it passes over, a scope block with its scope, or any other
-- statement, which ends the group before it.
use Rattle.std.specs.Prelude.{Bool, true, false, List, [], ◌∷◌, ◌++◌, Option, None, Some, map, slice_get}
use Rattle.std.specs.Option.{option_map_or}
use Rattle.rc_hir.specs.Environment.{declaration_of}
use Rattle.rc_hir.specs.Model.{Environment, InstructionKind, InstructionValue, Place, ReactiveScope}
use Rattle.rc_hir.specs.Operands.{value_targets}
use Rattle.rc_hir.specs.TerminalOperands.{perhaps_place}
use Rattle.rc_hir.specs.declared.instruction.InstructionValue.TheVariants as kinds
use Rattle.rc_hir.specs.declared.pattern.InstructionKind.TheVariants.{Const}
use Rattle.rc_names.specs.Numbers.{DeclarationId, ScopeId, to_id}
use Rattle.rc_tree.specs.CollectedValues.{instruction_of}
use Rattle.rc_tree.specs.Unrolled.{UnrolledStatement}
use Rattle.rc_tree.specs.Model.{ReactiveInstruction}
use Rattle.rc_tree.specs.declared.statement.ReactiveStatement.TheOpen as layer

-- a row that gives a name the value of another, by a load or by a store
pub data Copy : Type 0 where
  Loads : (to from : DeclarationId) → Copy
  Stores : (to from : DeclarationId) → Copy

-- a row that merging passes over: the names that it writes, and its copy, if it makes one
pub record PassedRow : Type 0 where
  pub names : List DeclarationId
  pub copy : Option Copy

-- a scope with its number
pub record NumberedScope : Type 0 where
  pub number : ScopeId
  pub own : ReactiveScope

-- a statement as merging sees it
pub data Item : Type 0 where
  Passed : PassedRow → Item
  Block : NumberedScope → Item
  Other : Item

-- of stores, only those that bind a constant pass
abbrev pub is_const : InstructionKind → Bool
is_const Const = true
is_const _ = false

-- the kinds of rows that merging passes over
abbrev pub passes : InstructionValue → Bool
passes (kinds.BinaryExpression operator left right span) = true
passes (kinds.ComputedLoad object property span) = true
passes (kinds.JSXText value span) = true
passes (kinds.LoadGlobal binding span) = true
passes (kinds.LoadLocal place span) = true
passes (kinds.Primitive value span) = true
passes (kinds.PropertyLoad object property span) = true
passes (kinds.TemplateLiteral subexprs quasis span) = true
passes (kinds.UnaryExpression operator value span) = true
passes (kinds.StoreLocal lvalue value span) = is_const lvalue.kind
passes _ = false

-- the scope that is assumed for a number outside the table
abbrev pub no_scope : ReactiveScope
no_scope = record {
  range = record { start = to_id 0; end = to_id 0 };
  dependencies = [];
  declarations = [];
  reassignments = [];
  early_return_value = None;
  merged = [];
}

abbrev pub scope_at : List ReactiveScope → ScopeId → NumberedScope
scope_at scopes number =
    record { number = number; own = option_map_or (λ scope. scope) (slice_get scopes number.0) no_scope }

module _ (env : Environment) where
  abbrev pub name_of : Place → DeclarationId
  name_of place = declaration_of env place.identifier

  -- the copy that an instruction with this target makes, if it makes one
  abbrev pub copy_of : Option Place → InstructionValue → Option Copy
  copy_of (Some target) (kinds.LoadLocal place span) = Some (Loads (name_of target) (name_of place))
  copy_of target (kinds.StoreLocal lvalue value span) = Some (Stores (name_of lvalue.place) (name_of value))
  copy_of target value = None

  -- the names of a row's target and of its value's targets, with the row's copy
  abbrev pub passed_row : Option Place → InstructionValue → PassedRow
  passed_row target value = record {
    names = map name_of (perhaps_place target ++ value_targets value);
    copy = copy_of target value;
  }

  abbrev pub item_if : Bool → Option Place → InstructionValue → Item
  item_if true target value = Passed (passed_row target value)
  item_if false target value = Other

  -- a row passes by the kind of its instruction; an expression doesn't
  abbrev pub item_of_value : Option Place → Option InstructionValue → Item
  item_of_value target None = Other
  item_of_value target (Some value) = item_if (passes value) target value

  abbrev pub item_of_row : ReactiveInstruction → Item
  item_of_row row = item_of_value row.lvalue (instruction_of row.value)

  -- a statement, by its variant; pruned scope blocks and terminals end a group
  abbrev pub item_of : List ReactiveScope → UnrolledStatement → Item
  item_of scopes (layer.Instruction row) = item_of_row row
  item_of scopes (layer.Scope block) = Block (scope_at scopes block.scope)
  item_of scopes statement = Other

  -- the items of a list, the last one first, in front of those before the list
  abbrev pub items_before : List ReactiveScope → List UnrolledStatement → List Item → List Item
  items_before scopes [] before = before
  items_before scopes (statement ∷ statements) before =
      items_before scopes statements (item_of scopes statement ∷ before)

  abbrev pub items_of : List ReactiveScope → List UnrolledStatement → List Item
  items_of scopes statements = items_before scopes statements []
