use Rattle.std.proofs.Common.{◌∙◌, ◌≤◌, rules}
use Rattle.rc_lines.proofs.SentLemmas.{sent_more, sent_some_more, sent_spaces}
use Rattle.rc_lines.proofs.buffer.Buffer.put_spaces.Goals as goal

pub returns-in_err-put-clause-err : goal.returns-in_err-put-clause-err
returns-in_err-put-clause-err g c =
    let few : c.min-some.result ≤ c.loop-left.left = search rules in
    let before = sent_spaces _ _ _ c.loop-left.self c.as_bytes.result.now c.min-some.result c.loop-left.left
    (c.as_bytes.ensures.value ∙ c.blank.ensures) few c.loop-left.invariant.sent in
    let some = sent_some_more _ _ _ _ _ _ before c.in_err-put.ensures.err in search rules

pub loop-left-preserved : goal.loop-left-preserved
loop-left-preserved g c =
    let few : c.min-some.result ≤ c.loop-left.left = search rules in
    let before = sent_spaces _ _ _ c.loop-left.self c.as_bytes.result.now c.min-some.result c.loop-left.left
    (c.as_bytes.ensures.value ∙ c.blank.ensures) few c.loop-left.invariant.sent in
    record { sent = sent_more _ _ _ _ _ _ before _ c.in_ok-put.ensures.ok; later = search rules }
