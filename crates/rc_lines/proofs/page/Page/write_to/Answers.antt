-- The pieces above were put, and then the last one, and what waited was sent.
use Rattle.std.proofs.Common.{rules}
use Rattle.std.proofs.lemmas.Result.{on_err_weaker}
use Rattle.rc_lines.proofs.SentLemmas.{page_text, prefix_sent, sent_both, sent_both_some, sent_first_some}
use Rattle.rc_lines.proofs.SentLemmas.{sent_some_then}
use Rattle.rc_lines.specs.inside.Pieces.{piece_text, text_of}
use Rattle.rc_lines.specs.Sink.{HasAppendedPrefix}
use Rattle.rc_lines.proofs.page.Page.write_to.Goals as goal

pub returns-in_err-put_pieces-clause-err : goal.returns-in_err-put_pieces-clause-err
returns-in_err-put_pieces-clause-err g c =
    let is = page_text _ _ _ c.self.inside.last _ c.new-buffer.ensures c.as_slice.ensures.value c.self.view_is in
    let some : HasAppendedPrefix (g.K.Sink.written c.args.sink.now) (g.K.Sink.written c.put_pieces.new.sink)
    c.args.self.now =
    prefix_sent _ _ _ (sent_first_some _ _ c.new-buffer.result (text_of c.as_slice.result.now)
    (piece_text c.self.inside.last) _ is c.in_err-put_pieces.ensures.err) in
    search rules

pub returns-in_err-put_piece-clause-err : goal.returns-in_err-put_piece-clause-err
returns-in_err-put_piece-clause-err g c =
    let is = page_text _ _ _ c.self.inside.last _ c.new-buffer.ensures c.as_slice.ensures.value c.self.view_is in
    let some : HasAppendedPrefix (g.K.Sink.written c.args.sink.now) (g.K.Sink.written c.put_piece.new.sink)
    c.args.self.now =
    prefix_sent _ _ _ (sent_both_some _ _ _ _ _ _ _ _ is c.in_ok-put_pieces.ensures.ok c.in_err-put_piece.ensures.err) in
    search rules

pub returns-clause-err : goal.returns-clause-err
returns-clause-err g c =
    let is = page_text _ _ _ c.self.inside.last _ c.new-buffer.ensures c.as_slice.ensures.value c.self.view_is in
    let put = sent_both _ _ _ _ _ _ _ _ is c.in_ok-put_pieces.ensures.ok _ c.in_ok-put_piece.ensures.ok in
    on_err_weaker c.flush.result (λ it. prefix_sent _ _ _ (sent_some_then _ _ _ _ _ put it)) c.flush.ensures.err
