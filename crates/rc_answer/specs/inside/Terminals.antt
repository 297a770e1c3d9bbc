-- Terminals of a graph that read as themselves again.
use Rattle.std.specs.Prelude.{◌≡◌, Some}
use Rattle.rc_hir.specs.Model.{Terminal}
use Rattle.rc_doc.specs.Terminals.{terminal_of}
use Rattle.rc_flat.specs.ShownGraph.{terminal_data}

-- the printing form reads as the terminal again
abbrev pub IsTerminalAgain : Terminal → Type 0
IsTerminalAgain terminal = terminal_of (terminal_data terminal) ≡ Some terminal
