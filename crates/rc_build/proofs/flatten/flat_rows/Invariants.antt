use Rattle.std.proofs.Common.{◌≡◌}
use Rattle.rc_runs.specs.PlainTree.{Value}
use Rattle.rc_runs.specs.TreeOf.{value_of}
use Rattle.rc_build.specs.inside.Flattening.{FlatSoFar}
use Rattle.rc_build.proofs.FlattenLemmas.{sequences}
use Rattle.rc_build.proofs.flatten.flat_rows.Given as goal

abbrev pub invariant-rows : goal.invariant-rows
invariant-rows l = (plain : Value) → l.fn.value ≡ value_of plain → FlatSoFar plain l.rows l.value

abbrev pub decreases-rows : goal.decreases-rows
decreases-rows l = sequences l.value
