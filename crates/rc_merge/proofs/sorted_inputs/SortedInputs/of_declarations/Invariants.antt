use Rattle.std.proofs.Common.{◌≡◌, map, take}
use Rattle.rc_merge.specs.Inputs.{whole}
use Rattle.rc_merge.proofs.sorted_inputs.SortedInputs.of_declarations.Given as goal

abbrev pub invariant-loop-declaration : goal.invariant-loop-declaration
invariant-loop-declaration l = l.inputs.items ≡ map whole (take l.declaration-index l.declarations)
