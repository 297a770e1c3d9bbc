use Rattle.std.proofs.Common.{◌≡◌, drop}
use Rattle.std.specs.List.{list_any}
use Rattle.rc_merge.specs.Inputs.{inputs_of, same_input}
use Rattle.rc_merge.proofs.inputs.is_among.Given as goal

abbrev pub invariant-loop-other : goal.invariant-loop-other
invariant-loop-other l = list_any (same_input l.input) (inputs_of l.env l.others)
    ≡ list_any (same_input l.input) (inputs_of l.env (drop l.other-index l.others))
