-- The end of a basic block: the terminal whose name is `k`, and then its fields.
pub mod Branches
pub mod Loops
pub mod Jumps
pub mod Blocks
use Rattle.std.specs.Prelude.{ℕ, List, ◌++◌, Option, option_and_then}
use Rattle.serde_json.specs.Data.{Data}
use Rattle.rc_hir.specs.Model.{Terminal}
use Rattle.rc_doc.specs.Reading.{tag_of, variant}
use Rattle.rc_doc.specs.Terminals.Branches.{branch_terminals}
use Rattle.rc_doc.specs.Terminals.Loops.{loop_terminals}
use Rattle.rc_doc.specs.Terminals.Jumps.{jump_terminals}
use Rattle.rc_doc.specs.Terminals.Blocks.{block_terminals}

-- the terminal with this name; those that real functions have most come first
abbrev pub terminal_named : Data → List ℕ → Option Terminal
terminal_named d = variant (jump_terminals d ++ branch_terminals d ++ block_terminals d ++ loop_terminals d)

-- a terminal
unfoldable pub terminal_of : Data → Option Terminal
terminal_of d = option_and_then (terminal_named d) (tag_of d)
