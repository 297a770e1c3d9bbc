use Rattle.std.proofs.Common.{length}
use Rattle.rc_names.specs.Numbers.{BlockId}
use Rattle.rc_build.specs.declared.builder.Builder.{Builder}
use Rattle.rc_build.specs.inside.ValueLoops.{BackSoFar, IsAtEnd}
use Rattle.rc_build.proofs.builder.Builder.build_back.Given as goal

abbrev pub invariant-back : goal.invariant-back
invariant-back l = (old : Builder) (key : BlockId) → IsAtEnd old l.fn.self key l.fn.around l.fn.rows l.fn.at
    → BackSoFar old l.self key l.fn.around l.fn.is_test l.pending l.built

abbrev pub decreases-back : goal.decreases-back
decreases-back l = length l.pending
