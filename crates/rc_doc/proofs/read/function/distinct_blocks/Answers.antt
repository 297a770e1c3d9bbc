use Rattle.std.proofs.Common.{ap, is_some, sym, ◌∙◌}
use Rattle.rc_doc.proofs.Blocks.{new_key, repeated_key}
use Rattle.rc_doc.proofs.read.function.distinct_blocks.Goals as goal

pub returns-then-is_some : goal.returns-then-is_some
returns-then-is_some c =
    repeated_key _ _ _ _ _ _ c.loop-value.invariant c.loop-value-test.true c.value-item.is c.in_ok-key.ensures
    (sym (c.if-is_some.ensures ∙ ap is_some c.in_ok-insert.ensures.old))

pub loop-value-preserved : goal.loop-value-preserved
loop-value-preserved c =
    new_key _ _ _ _ _ _ c.loop-value.invariant c.loop-value-test.true c.value-item.is c.in_ok-key.ensures _
    c.in_ok-insert.ensures.entries
    (sym (c.if-is_some.ensures ∙ ap is_some c.in_ok-insert.ensures.old))
