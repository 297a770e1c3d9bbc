-- Why the builder refuses a graph.
use Rattle.std.specs.Prelude.{⊤}
use Rattle.rc_hir.specs.Model.{Fault, HirFunction, Environment}
use Rattle.rc_hir.specs.declared.fault.Fault.TheVariants as faults
use Rattle.rc_hir.specs.Names.{NamesInTables, NamesOutside}
use Rattle.rc_tree.specs.Model.{ReactiveFunction}
use Rattle.rc_runs.specs.Spelled.{Spells}
use Rattle.rc_build.specs.RuleFacts.{IsLabeledValue, RuleFact}

-- the graph spells no function
abbrev pub SpellsNone : HirFunction → Environment → Type 0
SpellsNone hir env = (func : ReactiveFunction) → Spells hir env func → ⊥

-- Why a fault is returned. Each cause but that of `NoMemory` asks that the one above it doesn't hold.
abbrev pub IsBuildCause : HirFunction → Environment → Fault → Type 0
IsBuildCause hir env (faults.BadName table index) = NamesOutside hir env (faults.BadName table index)
IsBuildCause hir env (faults.Malformed block rule) =
    NamesInTables hir env × SpellsNone hir env × RuleFact hir rule block
IsBuildCause hir env (faults.Todo block) = NamesInTables hir env × SpellsNone hir env × IsLabeledValue hir block
IsBuildCause hir env faults.NoMemory = ⊤
IsBuildCause hir env (faults.EarlyReturnSet scope) = ⊥
IsBuildCause hir env (faults.ScopeCompleted id scope) = ⊥
IsBuildCause hir env (faults.Uninitialised declaration) = ⊥
IsBuildCause hir env (faults.NoScopeNode scope) = ⊥
IsBuildCause hir env faults.NoIds = ⊥
IsBuildCause hir env (faults.BadTarget target) = ⊥
IsBuildCause hir env (faults.FunctionCycle function) = ⊥
