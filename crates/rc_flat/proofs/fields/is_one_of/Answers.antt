use Rattle.std.proofs.Common.{sym, ◌∙◌}
use Rattle.rc_flat.proofs.KeyLemmas.{one_of_texts}
use Rattle.rc_flat.proofs.fields.is_one_of.Goals as goal

pub returns : goal.returns
returns c = c.any_is.ensures ∙ sym (one_of_texts c.args.key.now c.args.names.now)
