use Rattle.std.proofs.Common.{◌≡◌, map, take}
use Rattle.rc_merge.specs.Explained.{pair_of}
use Rattle.rc_merge.proofs.facts.pairs_of.Given as goal

abbrev pub invariant-loop-dependency : goal.invariant-loop-dependency
invariant-loop-dependency l = l.pairs ≡ map (pair_of l.env) (take l.dependency-index l.dependencies)
