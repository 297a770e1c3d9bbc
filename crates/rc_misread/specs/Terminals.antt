-- The fields of each terminal.
pub mod Branches
pub mod Loops
pub mod Jumps
pub mod Blocks
use Rattle.std.specs.Prelude.{ℕ, List, ◌++◌, Option}
use Rattle.rc_doc.specs.Reading.{named}
use Rattle.rc_misread.specs.Forms.{Row}
use Rattle.rc_misread.specs.Terminals.Branches.{branch_fields}
use Rattle.rc_misread.specs.Terminals.Loops.{loop_fields}
use Rattle.rc_misread.specs.Terminals.Jumps.{jump_fields}
use Rattle.rc_misread.specs.Terminals.Blocks.{block_fields}

-- the fields of the terminal with this name, in the order in which they are read
abbrev pub terminal_fields : List ℕ → Option (List Row)
terminal_fields = named (branch_fields ++ loop_fields ++ jump_fields ++ block_fields)
