use Rattle.std.proofs.Common.{◌∙◌, ap}
use Rattle.rc_names.specs.BitRows.{bits_of}
use Rattle.rc_names.proofs.BitRowLemmas.{bits-zero}
use Rattle.rc_names.proofs.bit_row.BitRow.new.Goals as goal

pub returns : goal.returns
returns c = ap (λ words. bits_of words c.args.n) c.in_ok-words.ensures ∙ bits-zero _ c.args.n
