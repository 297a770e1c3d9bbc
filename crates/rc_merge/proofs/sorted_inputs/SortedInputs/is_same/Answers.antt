use Rattle.std.proofs.Common.{◌∙◌}
use Rattle.rc_merge.proofs.SameInputsLemmas.{same_from_sorted}
use Rattle.rc_merge.proofs.sorted_inputs.SortedInputs.is_same.Goals as goal

pub returns-then-self-other : goal.returns-then-self-other
returns-then-self-other c a b first second =
    c.eq.ensures ∙ same_from_sorted c.args.self.now c.args.other.now a b first second c.if-self-other.true
