use Rattle.std.proofs.Common.{◌∙◌, sym, ap, w64}
use Rattle.std.specs.Prelude.{nat_eq}
use Rattle.std.proofs.lemmas.Nat.Bits.{bit_at_set_same, bit_at_set_other, bit_at_clear_same, bit_at_clear_other}
use Rattle.rc_names.proofs.bit_row.with_bit.Goals as goal

pub returns-then-value-clause-bit : goal.returns-then-value-clause-bit
returns-then-value-clause-bit c =
    ap (λ b. nat_eq b 1) (bit_at_set_same w64 c.args.word c.args.k c.requires) ∙ sym c.if-value.true

pub returns-then-value-clause-others : goal.returns-then-value-clause-others
returns-then-value-clause-others c = λ j lt ne. bit_at_set_other w64 c.args.word c.args.k c.requires j ne

pub returns-else-value-clause-bit : goal.returns-else-value-clause-bit
returns-else-value-clause-bit c =
    ap (λ b. nat_eq b 1) (bit_at_clear_same w64 c.args.word c.args.k c.requires) ∙ sym c.if-value.false

pub returns-else-value-clause-others : goal.returns-else-value-clause-others
returns-else-value-clause-others c = λ j lt ne. bit_at_clear_other w64 c.args.word c.args.k c.requires j lt ne
