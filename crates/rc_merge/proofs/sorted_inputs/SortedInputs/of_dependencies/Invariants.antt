use Rattle.std.proofs.Common.{◌≡◌, take}
use Rattle.rc_merge.specs.Inputs.{inputs_of}
use Rattle.rc_merge.proofs.sorted_inputs.SortedInputs.of_dependencies.Given as goal

abbrev pub invariant-loop-dependency : goal.invariant-loop-dependency
invariant-loop-dependency l = l.inputs.items ≡ inputs_of l.env (take l.dependency-index l.dependencies)
