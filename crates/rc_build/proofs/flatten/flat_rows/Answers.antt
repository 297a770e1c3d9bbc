use Rattle.std.proofs.Common.{sym, ap, subst, arith}
use Rattle.rc_tree.specs.Opened.{IsOpened}
use Rattle.rc_build.specs.inside.Flattening.{FlatSoFar}
use Rattle.rc_build.proofs.FlattenLemmas.{flat_done, flat_further, sequences, sequences_fewer}
use Rattle.rc_build.proofs.flatten.flat_rows.Goals as goal

pub rows-preserved : goal.rows-preserved
rows-preserved c = λ plain is.
    subst (λ z. FlatSoFar plain c.take_from.new.self z) (sym c.into_inner-value-in-Sequence.ensures)
    (flat_further c.in-Sequence.instructions (c.rows.invariant plain is)
    (subst (IsOpened c.rows.value) c.in-Sequence.is c.open_sequence.ensures) c.in_ok-take_from-in-Sequence.ensures.ok)

pub rows-smaller : goal.rows-smaller
rows-smaller c =
    let opened = subst (IsOpened c.rows.value) c.in-Sequence.is c.open_sequence.ensures in
    omega (arith, sequences_fewer c.rows.value c.in-Sequence.behind c.in-Sequence.instructions opened.0 opened.1, ap sequences c.into_inner-value-in-Sequence.ensures)

pub returns-in-Last : goal.returns-in-Last
returns-in-Last c = λ plain is.
    flat_done (c.rows.invariant plain is) (subst (IsOpened c.rows.value) c.in-Last.is c.open_sequence.ensures)
