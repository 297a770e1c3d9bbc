-- The spaces were put, and then the text.
use Rattle.std.proofs.Common.{◌∙◌, ◌++◌, refl, ap, replicate, rules, string_bytes}
use Rattle.std.proofs.lemmas.Result.{on_err_weaker, on_ok_weaker}
use Rattle.rc_lines.proofs.SentLemmas.{sent_both, sent_both_some, sent_first_some}
use Rattle.rc_lines.specs.inside.Sent.{HasSentSome}
use Rattle.rc_lines.specs.inside.Pieces.{piece_text}
use Rattle.rc_lines.proofs.page.put_piece.Goals as goal

pub returns-in_err-put_spaces-clause-err : goal.returns-in_err-put_spaces-clause-err
returns-in_err-put_spaces-clause-err g c =
    let some : HasSentSome (g.K.Sink.written c.args.sink.now) (g.K.Sink.written c.put_spaces.new.sink)
    (c.args.buffer.now ++ piece_text c.args.piece.now) =
    sent_first_some _ _ c.args.buffer.now (replicate c.args.piece.now.spaces 32) (string_bytes c.args.piece.now.text) _
    refl c.in_err-put_spaces.ensures.err in
    search rules

pub returns-clause-ok : goal.returns-clause-ok
returns-clause-ok g c =
    let is = ap (λ xs. c.args.buffer.now ++ (replicate c.args.piece.now.spaces 32 ++ xs))
    (c.as_bytes.ensures.value ∙ c.as_str.ensures.value) in
    on_ok_weaker c.put.result (λ it. sent_both _ _ _ _ _ _ _ _ is c.in_ok-put_spaces.ensures.ok _ it) c.put.ensures.ok

pub returns-clause-err : goal.returns-clause-err
returns-clause-err g c =
    let is = ap (λ xs. c.args.buffer.now ++ (replicate c.args.piece.now.spaces 32 ++ xs))
    (c.as_bytes.ensures.value ∙ c.as_str.ensures.value) in
    on_err_weaker c.put.result (λ it. sent_both_some _ _ _ _ _ _ _ _ is c.in_ok-put_spaces.ensures.ok it)
    c.put.ensures.err
