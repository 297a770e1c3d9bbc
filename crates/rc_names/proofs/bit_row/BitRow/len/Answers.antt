use Rattle.std.proofs.Common.{◌∙◌, sym, ap, length}
use Rattle.rc_names.proofs.BitRowLemmas.{bits-length}
use Rattle.rc_names.proofs.bit_row.BitRow.len.Goals as goal

pub returns : goal.returns
returns c = sym (bits-length c.self.inside.words c.self.inside.len) ∙ ap length c.self.view_is
