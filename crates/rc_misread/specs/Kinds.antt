-- The fields of each kind of instruction value.
pub mod Variables
pub mod Expressions
pub mod Calls
pub mod Objects
use Rattle.std.specs.Prelude.{ℕ, List, ◌++◌, Option}
use Rattle.rc_doc.specs.Reading.{named}
use Rattle.rc_misread.specs.Forms.{Row}
use Rattle.rc_misread.specs.Kinds.Variables.{variable_fields}
use Rattle.rc_misread.specs.Kinds.Expressions.{expression_fields}
use Rattle.rc_misread.specs.Kinds.Calls.{call_fields}
use Rattle.rc_misread.specs.Kinds.Objects.{object_fields}

-- the fields of the instruction value of the kind with this name, in the order in which they are read
abbrev pub value_fields : List ℕ → Option (List Row)
value_fields = named (variable_fields ++ expression_fields ++ call_fields ++ object_fields)
