use Rattle.std.proofs.Common.{◌∙◌, ap, is_eq, sym}
use Rattle.rc_merge.specs.inside.InputOrder.{input_ties}
use Rattle.rc_merge.proofs.input.InputRefPartialEq.eq.Goals as goal

pub returns : goal.returns
returns c = c.is_eq.ensures ∙ ap is_eq c.cmp.ensures ∙ sym (input_ties c.args.self.now c.args.other.now)
