use Rattle.std.proofs.Common.{All}
use Rattle.rc_slots.specs.CacheRun.{AllFit}
use Rattle.rc_slots_tests.specs.Plans.{one_entry}
use Rattle.rc_slots_tests.proofs.tests.cache.three_renders.Given as goal

abbrev pub invariant-loop-values : goal.invariant-loop-values
invariant-loop-values l = All (AllFit one_entry) l.all
