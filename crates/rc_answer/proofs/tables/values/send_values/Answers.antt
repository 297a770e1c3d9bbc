use Rattle.std.proofs.lemmas.Result.{on_ok_weaker}
use Rattle.rc_answer.proofs.ValuesSent.{all_levels_sent, level_ends, no_level_sent, one_level_sent}
use Rattle.rc_answer.proofs.tables.values.send_values.Goals as goal

pub loop-alloc-init : goal.loop-alloc-init
loop-alloc-init g c = no_level_sent _ _ _ _ c.take-level.ensures.left c.take-level.ensures.parts

pub loop-alloc-smaller : goal.loop-alloc-smaller
loop-alloc-smaller g c =
    level_ends c.args.values c.loop-alloc.level _ _ c.loop-alloc.numbered c.send_level.new.numbered
    c.loop-alloc.numbered c.as_slice.ensures c.in_ok-send_level.ensures.grows
    c.take-level-in-loop-alloc.ensures.parts c.loop-alloc.invariant.none
    (λ none. let empty = c.is_empty.ensures.1 none in let more = c.loop-alloc-test.true in cc)

pub loop-alloc-preserved : goal.loop-alloc-preserved
loop-alloc-preserved g c =
    one_level_sent c.args.values c.loop-alloc.level _ _ c.loop-alloc.numbered c.send_level.new.numbered _
    c.as_slice.ensures c.in_ok-send_level.ensures.grows c.take-level-in-loop-alloc.ensures.parts _ _ _
    c.loop-alloc.invariant c.in_ok-send_level.ensures.sent c.take-level-in-loop-alloc.ensures.left

pub returns : goal.returns
returns g c =
    on_ok_weaker c.end_seq.result
    (all_levels_sent _ c.loop-alloc.numbered _ _ _ _ _
    (c.is_empty.ensures.0 (let done = c.loop-alloc-test.false in cc)) c.loop-alloc.invariant
    c.in_ok-begin_seq.ensures)
    c.end_seq.ensures
