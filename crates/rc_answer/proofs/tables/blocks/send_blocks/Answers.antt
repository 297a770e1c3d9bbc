use Rattle.std.proofs.Common.{◌≡◌, [], ◌∷◌, IfOk, refl, subst}
use Rattle.rc_answer.proofs.LevelsSent.{all_levels_sent, level_ends, no_level_sent, one_level_sent}
use Rattle.rc_answer.proofs.tables.blocks.send_blocks.Goals as goal

pub loop-alloc-init : goal.loop-alloc-init
loop-alloc-init g c =
    no_level_sent _ _ _ _ c.from.ensures c.from-2.ensures
    (subst (λ found. IfOk found (λ level. level ≡ c.args.body.now ∷ [])) c.in_ok-level.ensures c.one.ensures)

pub loop-alloc-smaller : goal.loop-alloc-smaller
loop-alloc-smaller g c =
    level_ends c.args.body.now c.loop-alloc.level _ _ c.loop-alloc.numbering c.send_level.new.numbering
    c.loop-alloc.numbering c.as_slice.ensures c.in_ok-send_level.ensures.blocks c.take-level.ensures.parts
    c.loop-alloc.invariant.none
    (λ none. let empty = c.is_empty.ensures.1 none in let more = c.loop-alloc-test.true in cc)

pub loop-alloc-preserved : goal.loop-alloc-preserved
loop-alloc-preserved g c =
    one_level_sent c.args.body.now c.loop-alloc.level _ _ c.loop-alloc.numbering c.send_level.new.numbering _
    c.as_slice.ensures c.in_ok-send_level.ensures.blocks c.take-level.ensures.parts _ _ _ c.loop-alloc.invariant
    c.in_ok-send_level.ensures.sends c.in_ok-send_level.ensures.values c.take-level.ensures.left refl

pub returns : goal.returns
returns g c =
    all_levels_sent _ _ c.loop-alloc.numbering _ _ _ _ _
    (c.is_empty.ensures.0 (let done = c.loop-alloc-test.false in cc)) refl c.loop-alloc.invariant c.in_ok-begin_seq.ensures c.in_ok-end_seq.ensures
