-- What a statement stores, and what a break returns, said of the program's own statements.
use Rattle.std.specs.Prelude.{Bool, Option, Some, None, if◌then◌else◌}
use Rattle.rc_names.specs.Numbers.{BlockId}
use Rattle.rc_hir.specs.Model.{Environment, Place}
use Rattle.rc_tree.specs.Model.{ReactiveInstruction, ReactiveValue, ReactiveTerminalTargetKind}
use Rattle.rc_tree.specs.Unrolled.{UnrolledStatement}
use Rattle.rc_tree.specs.declared.kind.ReactiveTerminalTargetKind.TheVariants.{Labeled}
use Rattle.rc_tree.specs.declared.statement.ReactiveStatement.TheOpen as layers
use Rattle.rc_tree.specs.declared.value.ReactiveValue.{ReactiveValue-F, out-ReactiveValue}
use Rattle.rc_tree.specs.declared.value.ReactiveValue.TheOpen as value_layers
use Rattle.rc_runs.specs.PlainTree.{Base, RowStatement}
use Rattle.rc_runs.specs.Returning.{stored_by, is_early_label}

-- the place that a row with this value stores, if it reassigns a variable
abbrev pub stored_value : ReactiveInstruction → ReactiveValue-F ReactiveValue ReactiveInstruction → Option Place
stored_value row (value_layers.Instruction value) = stored_by (RowStatement row.id row.lvalue (Base value) row.span)
stored_value row value = None

-- the place that a statement stores, if it is such a row
abbrev pub stored_in : UnrolledStatement → Option Place
stored_in (layers.Instruction row) = stored_value row (out-ReactiveValue row.value)
stored_in statement = None

-- the place that a break returns, directly after a statement that stores that place
abbrev pub returned_by : Environment → Option Place → BlockId → ReactiveTerminalTargetKind → Option Place
returned_by env (Some place) target Labeled = if is_early_label env target then Some place else None
returned_by env stored target kind = None
