-- A scope block as a pruned one, and a scope block whose statements were taken.
use Rattle.std.specs.Prelude.{[]}
use Rattle.rc_tree.specs.Model.{PrunedReactiveScopeBlock, ReactiveScopeBlock}

-- the same block as a pruned one
abbrev pub as_pruned : ReactiveScopeBlock → PrunedReactiveScopeBlock
as_pruned block = record { scope = block.scope; instructions = block.instructions }

-- the block of the same scope without statements
abbrev pub emptied_scope : ReactiveScopeBlock → ReactiveScopeBlock
emptied_scope block = record { scope = block.scope; instructions = record { statements = [] } }
