-- How a value goes on after one of its blocks, and what is around it.
use Rattle.std.specs.Prelude.{Bool, Option, Some, None, option_and_then, option_map, if◌then◌else◌}
use Rattle.rc_names.specs.Numbers.{BlockId}
use Rattle.rc_names.specs.declared.span.Span.{Span}
use Rattle.rc_hir.specs.Model.{Terminal, HirFunction}
use Rattle.rc_hir.specs.declared.terminal.Terminal.TheVariants as terminals
use Rattle.rc_runs.specs.Graph.{basic_block, block_at, is_empty_goto}
use Rattle.rc_runs.specs.ListContext.{ValueContext}
use Rattle.rc_build.specs.declared.builder.Site.{Site}
use Rattle.rc_build.specs.declared.values.Around.{Around}
use Rattle.rc_build.specs.declared.value_steps.Step.{Step}
use Rattle.rc_build.specs.declared.value_steps.Step.TheVariants as steps
use Rattle.rc_build.specs.declared.value_terminals.ValueTerminal.{ValueTerminal}
use Rattle.rc_build.specs.inside.ValueKinds.{value_terminal}

-- how a value goes on after a block with the terminal, if that isn't the value's last one; a block that may throw
-- counts as the last one if only a `Goto` comes after it
abbrev pub step_behind : HirFunction → Terminal → Option Step
step_behind hir (terminals.MaybeThrow continuation handler id span) =
    if is_empty_goto (block_at hir continuation) then None
    else Some (steps.Throws (record { continuation = continuation; handler = handler }))
step_behind hir terminal = option_map steps.Nested (value_terminal terminal)

-- how a value goes on after the block under a key, if that isn't the value's last one
abbrev pub step_at : HirFunction → BlockId → Option Step
step_at hir key = option_and_then (λ block. step_behind hir block.terminal) (basic_block hir key)

-- the context of a value
abbrev pub value_at : Around → Bool → ValueContext
value_at around is_test = record { around = around.span; handler = around.handler; is_test = is_test }

-- what is around a value that a statement of the site's list holds itself
abbrev pub around_at : Option Span → Site → Around
around_at span site = record { span = span; handler = site.handler }

-- what is around the parts of a value terminal
abbrev pub around_parts : ValueTerminal → Option BlockId → Around
around_parts t handler = record { span = t.span; handler = handler }
