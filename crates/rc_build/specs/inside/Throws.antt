-- Blocks that may throw, as the builder reads them.
use Rattle.std.specs.Prelude.{Option, Some, None, option_and_then}
use Rattle.rc_names.specs.Numbers.{BlockId}
use Rattle.rc_hir.specs.Model.{Terminal, HirFunction}
use Rattle.rc_hir.specs.declared.terminal.Terminal.TheVariants as terminals
use Rattle.rc_runs.specs.Graph.{basic_block}
use Rattle.rc_build.specs.declared.handlers.MayThrow.{MayThrow}

-- how a `MaybeThrow` goes on, and the handler that it names
abbrev pub may_throw : Terminal → Option MayThrow
may_throw (terminals.MaybeThrow continuation handler id span) =
    Some (record { continuation = continuation; handler = handler })
may_throw _ = None

-- what the block under a key says of throwing
abbrev pub throw_at : HirFunction → BlockId → Option MayThrow
throw_at hir key = option_and_then (λ block. may_throw block.terminal) (basic_block hir key)
