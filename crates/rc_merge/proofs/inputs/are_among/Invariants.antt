use Rattle.std.proofs.Common.{◌≡◌, drop}
use Rattle.rc_merge.specs.Inputs.{are_inputs_of, inputs_of}
use Rattle.rc_merge.proofs.inputs.are_among.Given as goal

abbrev pub invariant-loop-dependency : goal.invariant-loop-dependency
invariant-loop-dependency l = are_inputs_of (inputs_of l.env l.dependencies) (inputs_of l.env l.others)
    ≡ are_inputs_of (inputs_of l.env (drop l.dependency-index l.dependencies)) (inputs_of l.env l.others)
