use Rattle.std.proofs.Common.{◌≡◌, drop}
use Rattle.std.specs.Map.{lookup}
use Rattle.rc_names.specs.Numbers.{ScopeId as Scope, same_id}
use Rattle.rc_tree.specs.inside.DecisionLogs.{fate_by}
use Rattle.rc_pipe.specs.inside.ListedFates.{decided_or}
use Rattle.rc_pipe.proofs.fates.decisions.Given as goal

-- what is decided so far counts, and after that the rest of the log
abbrev pub invariant-loop-entry : goal.invariant-loop-entry
invariant-loop-entry l = (scope : Scope) →
    decided_or (lookup (same_id scope) l.decided) (fate_by (drop l.entry-index l.log) scope)
    ≡ fate_by l.log scope
