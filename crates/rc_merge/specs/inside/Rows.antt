-- A row as the pass reads it: whether it passes, the names that it writes, and what it copies.
use Rattle.std.specs.Prelude.{Bool, false, List, ◌++◌, Option, None, Some, map}
use Rattle.std.specs.Map.{lookup}
use Rattle.std.specs.Option.{option_map_or}
use Rattle.indexmap.specs.IndexMap.{insert_entry}
use Rattle.rc_hir.specs.Model.{Environment, InstructionValue, Place}
use Rattle.rc_hir.specs.TerminalOperands.{perhaps_place}
use Rattle.rc_names.specs.Numbers.{DeclarationId, same_id}
use Rattle.rc_tree.specs.CollectedValues.{instruction_of}
use Rattle.rc_tree.specs.ReadSteps.{targets_of}
use Rattle.rc_tree.specs.Model.{ReactiveInstruction}
use Rattle.rc_merge.specs.Joining.{Copies}
use Rattle.rc_merge.specs.Places.{Copy, Loads, Stores, copy_of, name_of, passes}

abbrev pub passes_if : Option InstructionValue → Bool
passes_if value = option_map_or passes value false

abbrev pub row_passes : ReactiveInstruction → Bool
row_passes row = passes_if (instruction_of row.value)

-- which name each name copies, as pairs
abbrev pub CopyPairs : Type 0
CopyPairs = List (DeclarationId × DeclarationId)

abbrev pub copies_of : CopyPairs → Copies
copies_of pairs name = lookup (same_id name) pairs

-- what a value copies, or that value
abbrev pub source_in : CopyPairs → DeclarationId → DeclarationId
source_in pairs value = option_map_or (λ name. name) (copies_of pairs value) value

abbrev pub noted : CopyPairs → Option Copy → CopyPairs
noted pairs None = pairs
noted pairs (Some (Loads to from)) = insert_entry same_id pairs to from
noted pairs (Some (Stores to from)) = insert_entry same_id pairs to (source_in pairs from)

module _ (env : Environment) where
  abbrev pub names_of_row : ReactiveInstruction → List DeclarationId
  names_of_row row = map (name_of env) (perhaps_place row.lvalue ++ targets_of row.value)

  -- what a load with that target copies
  abbrev pub loaded : Option Place → Place → Option Copy
  loaded None from = None
  loaded (Some target) from = Some (Loads (name_of env target) (name_of env from))

  abbrev pub copy_if : Option Place → Option InstructionValue → Option Copy
  copy_if target None = None
  copy_if target (Some value) = copy_of env target value

  abbrev pub copy_of_row : ReactiveInstruction → Option Copy
  copy_of_row row = copy_if row.lvalue (instruction_of row.value)
