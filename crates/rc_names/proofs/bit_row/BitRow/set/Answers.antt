use Rattle.std.proofs.Common.{◌∙◌, sym, ap, subst, set, length, ◌<◌}
use Rattle.std.specs.Int.{bit_at}
use Rattle.rc_names.specs.BitRows.{bits_of}
use Rattle.rc_names.proofs.BitRowLemmas.{bits-length, bits-set}
use Rattle.rc_names.proofs.bit_row.BitRow.set.Goals as goal

pub returns : goal.returns
returns c =
    let words = c.self.inside.words in
    let n = c.self.inside.len in
    let i = c.args.i in
    let within : i < n = subst (λ k. i < k) (sym (ap length c.self.view_is) ∙ bits-length words n) c.requires in
    ap (λ w. bits_of w n) c.set.ensures
    ∙ bits-set words n i c.with_bit-word.result c.args.value c.self.invariant within c.with_bit-word.ensures.bit
    (λ j lt ne. c.with_bit-word.ensures.others j lt ne ∙ ap (λ w. bit_at w j) c.word_of.ensures)
    ∙ ap (λ bits. set bits i c.args.value) c.self.view_is
