-- A case of a switch with the number of its block.
use Rattle.std.specs.Prelude.{ℕ}
use Rattle.rc_tree.specs.Model.{ReactiveSwitchCase}
use Rattle.rc_tree.specs.declared.terminal.ReactiveSwitchCase.{out-ReactiveSwitchCase}
use Rattle.rc_flat.specs.Blocks.{block_of_case, number_if}
use Rattle.rc_flat.specs.Model.{FlatSwitchCase}

abbrev pub flat_case : ℕ → ReactiveSwitchCase → FlatSwitchCase
flat_case next case = record { test = (out-ReactiveSwitchCase case).test; block = number_if next (block_of_case case) }
