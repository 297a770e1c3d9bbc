use Rattle.std.proofs.Common.{◌∙◌, sym, ap, Some, slice_get, arith}
use Rattle.std.proofs.lemmas.Option.{slice_get_past}
use Rattle.std.specs.Prelude.{nat_eq, ◌%◌}
use Rattle.std.specs.Int.{bit_at}
use Rattle.rc_names.specs.BitRows.{bits_of}
use Rattle.rc_names.proofs.BitRowLemmas.{bits-length, bits-get}
use Rattle.rc_names.proofs.bit_row.BitRow.get.Goals as goal

pub returns-then-i-self : goal.returns-then-i-self
returns-then-i-self c =
    let words = c.self.inside.words in
    let n = c.self.inside.len in
    sym (ap (λ bits. slice_get bits c.args.i) (sym c.self.view_is)
    ∙ slice_get_past (bits_of words n) c.args.i (omega (arith, bits-length words n, c.if-i-self.true)))

pub returns : goal.returns
returns c =
    let words = c.self.inside.words in
    let n = c.self.inside.len in
    ap Some (c.bit_of.ensures ∙ ap (λ w. nat_eq (bit_at w (c.args.i % 64)) 1) c.word_of.ensures) ∙ sym (bits-get words n c.args.i (omega (arith, c.if-i-self.false)))
    ∙ ap (λ bits. slice_get bits c.args.i) c.self.view_is
