use Rattle.std.proofs.Common.{take}
use Rattle.std.specs.List.{All}
use Rattle.rc_hir.specs.Names.{FunctionInTables}
use Rattle.rc_hir.proofs.names.check_functions.Given as goal

-- the numbers of the functions so far are in their tables
abbrev pub invariant-loop-function : goal.invariant-loop-function
invariant-loop-function l = All (FunctionInTables l.env) (take l.function-index l.function-items)
