-- The check of break targets, terminal by terminal, with the labels met so far.
use Rattle.std.specs.Prelude.{Option, None, Some, Ok, Err, if◌then◌else◌}
use Rattle.std.specs.FinSet.{FinSet, contains, insert}
use Rattle.std.specs.Ordering.{nat_cmp}
use Rattle.rc_hir.specs.declared.fault.Fault.TheVariants.{BadTarget}
use Rattle.rc_names.specs.Numbers.{BlockId}
use Rattle.rc_tree.specs.Step.{Walk}
use Rattle.rc_tree.specs.Model.{ReactiveLabel, ReactiveTerminalStatement}
use Rattle.rc_tree.specs.declared.terminal.ReactiveTerminal.{out-ReactiveTerminal}
use Rattle.rc_checks.specs.BreakTargets.{MetTerminal, target_of}

-- the numbers of the labels met so far
abbrev pub MetLabels : Type 0
MetLabels = FinSet nat_cmp

-- the labels with that of a terminal
abbrev pub with_label : Option ReactiveLabel → MetLabels → MetLabels
with_label None labels = labels
with_label (Some label) labels = insert labels label.id.0

-- a target that is none of the labels is a fault
abbrev pub target_step : Option BlockId → Walk MetLabels
target_step None labels = Ok (tt, labels)
target_step (Some target) labels =
    if contains labels target.0 then Ok (tt, labels) else Err (BadTarget target)

-- the check of one terminal: its own label comes before its target
abbrev pub terminal_step : MetTerminal → Walk MetLabels
terminal_step x labels = target_step x.target (with_label x.label labels)

-- a terminal, met with its label
abbrev pub met_terminal : ReactiveTerminalStatement → MetTerminal
met_terminal x = record { label = x.label; target = target_of (out-ReactiveTerminal x.terminal) }
