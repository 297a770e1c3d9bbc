use Rattle.std.proofs.Common.{rules}
use Rattle.rc_lines.proofs.SentLemmas.{sent_more, sent_next, sent_some_more}
use Rattle.rc_lines.proofs.page.put_pieces.Goals as goal

pub returns-in_err-put_piece-clause-err : goal.returns-in_err-put_piece-clause-err
returns-in_err-put_piece-clause-err g c =
    let before = sent_next _ _ _ c.loop-piece.buffer c.args.pieces.now c.loop-piece.piece-index c.piece-item.result
    c.loop-piece-test.true c.piece-item.is c.loop-piece.invariant.sent in
    let some = sent_some_more _ _ _ _ _ _ before c.in_err-put_piece.ensures.err in search rules

pub loop-piece-preserved : goal.loop-piece-preserved
loop-piece-preserved g c =
    let before = sent_next _ _ _ c.loop-piece.buffer c.args.pieces.now c.loop-piece.piece-index c.piece-item.result
    c.loop-piece-test.true c.piece-item.is c.loop-piece.invariant.sent in
    record { sent = sent_more _ _ _ _ _ _ before _ c.in_ok-put_piece.ensures.ok; later = search rules }
