-- A block of the members that were found of it.
use Rattle.std.specs.Prelude.{Option, Some, [], option_and_then}
use Rattle.serde_json.specs.Data.{Data}
use Rattle.rc_hir.specs.Model.{BasicBlock}
use Rattle.rc_doc.specs.Numbers.{id_of}
use Rattle.rc_doc.specs.Reading.{◌>>=◌, list_of, or_absent}
use Rattle.rc_doc.specs.Terminals.{terminal_of}

abbrev pub block_of_members : (id instructions terminal : Option Data) → Option BasicBlock
block_of_members id instructions terminal = do
  id ← option_and_then id_of id
  instructions ← or_absent (list_of id_of) [] instructions
  terminal ← option_and_then terminal_of terminal
  Some (record { id = id; instructions = instructions; terminal = terminal })
