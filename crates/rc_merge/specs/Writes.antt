-- Which names each row of a tree writes, and which copies its rows make.
use Rattle.std.specs.Prelude.{Bool, true, List, [], ◌∷◌, ◌++◌, Option, None, Some, map}
use Rattle.rc_hir.specs.Model.{Environment, InstructionValue, Place}
use Rattle.rc_hir.specs.Operands.{value_targets}
use Rattle.rc_hir.specs.TerminalOperands.{perhaps_place}
use Rattle.rc_hir.specs.declared.instruction.InstructionValue.TheVariants as kinds
use Rattle.rc_names.specs.Numbers.{DeclarationId}
use Rattle.rc_merge.specs.Places.{Copy, copy_of, is_const, name_of}
use Rattle.rc_tree.specs.Collected.{Contributions, collected}
use Rattle.rc_tree.specs.CollectedValues.{ValueContributions, collected_row, collected_value_if, instruction_of}
use Rattle.rc_tree.specs.Joining.{Joining, lists}
use Rattle.rc_tree.specs.Model.{ReactiveBlock}

-- the names that a row writes
abbrev pub Written : Type 0
Written = List DeclarationId

-- the names that a part writes for the row around it, and those that each row inside it writes
pub record Writes : Type 0 where
  pub own : Written
  pub rows : List Written

abbrev pub no_writes : Writes
no_writes = record { own = []; rows = [] }

abbrev pub joined_writes : Joining Writes
joined_writes = record {
  nothing = no_writes;
  both = λ a b. record { own = a.own ++ b.own; rows = a.rows ++ b.rows };
}

-- of stores only those of a constant copy for a render
abbrev pub is_copying : InstructionValue → Bool
is_copying (kinds.StoreLocal lvalue value span) = is_const lvalue.kind
is_copying value = true

abbrev pub listed_if : Bool → Option Copy → List Copy
listed_if true (Some copy) = copy ∷ []
listed_if _ _ = []

module _ (env : Environment) where
  abbrev pub written_by : List Place → Writes
  written_by places = record { own = map (name_of env) places; rows = [] }

  -- a row writes its target, and what its value writes for it
  abbrev pub writes_of_values : ValueContributions Writes
  writes_of_values = record {
    joining = joined_writes;
    instruction = λ id x. written_by (value_targets x);
    target = λ id x. written_by (perhaps_place x);
    row = λ x inside. record { own = []; rows = inside.own ∷ inside.rows };
  }

  abbrev pub writes_of_parts : Contributions Writes
  writes_of_parts = record {
    joining = joined_writes;
    row = collected_row writes_of_values;
    value = collected_value_if writes_of_values;
    place = λ id x. no_writes;
    returned = λ id x. no_writes;
    jump = λ target. no_writes;
    label = λ label. no_writes;
    scope = λ scope inside. inside;
    pruned_scope = λ scope inside. inside;
  }

  -- the names that each row of a tree writes, at every depth and in values too
  abbrev pub written_in : ReactiveBlock → List Written
  written_in body = (collected writes_of_parts body).rows

  abbrev pub copies_of_value : Option Place → Option InstructionValue → List Copy
  copies_of_value target None = []
  copies_of_value target (Some value) = listed_if (is_copying value) (copy_of env target value)

  abbrev pub copy_parts : Contributions (List Copy)
  copy_parts = record {
    joining = lists;
    row = λ row. copies_of_value row.lvalue (instruction_of row.value);
    value = λ id x. [];
    place = λ id x. [];
    returned = λ id x. [];
    jump = λ target. [];
    label = λ label. [];
    scope = λ scope inside. inside;
    pruned_scope = λ scope inside. inside;
  }

  -- the copies of a tree: those of its statements, at every depth
  abbrev pub copies_in : ReactiveBlock → List Copy
  copies_in = collected copy_parts
