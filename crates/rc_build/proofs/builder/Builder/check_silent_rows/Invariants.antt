use Rattle.std.proofs.Common.{take}
use Rattle.rc_build.specs.inside.SilentArms.{HasSilentRows}
use Rattle.rc_build.proofs.builder.Builder.check_silent_rows.Given as goal

abbrev pub invariant-loop-number : goal.invariant-loop-number
invariant-loop-number l = HasSilentRows l.fn.self.hir.now l.fn.self.env.now (take l.number-index l.numbers)
