-- Instruction values: the kind whose name is `k`, and then its fields.
pub mod Variables
pub mod Expressions
pub mod Calls
pub mod Objects
use Rattle.std.specs.Prelude.{ℕ, List, ◌++◌, Option, option_and_then}
use Rattle.serde_json.specs.Data.{Data}
use Rattle.rc_hir.specs.Model.{InstructionValue}
use Rattle.rc_doc.specs.Kinds.Variables.{variable_kinds}
use Rattle.rc_doc.specs.Kinds.Expressions.{expression_kinds}
use Rattle.rc_doc.specs.Kinds.Calls.{call_kinds}
use Rattle.rc_doc.specs.Kinds.Objects.{object_kinds}
use Rattle.rc_doc.specs.Reading.{tag_of, variant}

-- an instruction value of the kind with this name
abbrev pub value_named : Data → List ℕ → Option InstructionValue
value_named d = variant (variable_kinds d ++ expression_kinds d ++ call_kinds d ++ object_kinds d)

-- an instruction value
unfoldable pub instruction_value_of : Data → Option InstructionValue
instruction_value_of d = option_and_then (value_named d) (tag_of d)
