-- The faults with which the passes refuse a spelled function.
use Rattle.std.specs.Prelude.{⊤}
use Rattle.rc_hir.specs.Model.{Fault}
use Rattle.rc_hir.specs.declared.fault.Fault.TheVariants as faults
use Rattle.rc_escape.specs.WholeRecord.{LacksNode, LacksScope}
use Rattle.rc_pipe.specs.Passes.{AreInside, EndsOutside, PassState}

-- The passes may refuse, with this fault, a function that the graph spells and whose numbers are in their tables.
abbrev pub IsPassFault : PassState → Fault → Type 0
IsPassFault spelled (faults.ScopeCompleted id scope) = EndsOutside spelled.env spelled.func.body id scope
IsPassFault spelled (faults.Uninitialised declaration) =
    AreInside spelled.env spelled.func.body × LacksNode spelled.env spelled.func declaration
IsPassFault spelled (faults.NoScopeNode scope) =
    AreInside spelled.env spelled.func.body × LacksScope spelled.env spelled.func scope
IsPassFault spelled faults.NoMemory = ⊤
-- faults of the builder, and faults that no spelled function gives
IsPassFault spelled (faults.Malformed block rule) = ⊥
IsPassFault spelled (faults.Todo block) = ⊥
IsPassFault spelled (faults.EarlyReturnSet scope) = ⊥
IsPassFault spelled (faults.BadName table index) = ⊥
IsPassFault spelled faults.NoIds = ⊥
IsPassFault spelled (faults.BadTarget target) = ⊥
IsPassFault spelled (faults.FunctionCycle function) = ⊥
