use Rattle.std.proofs.Common.{◌≡◌, ◌∙◌, IfSome, subst, sym}
use Rattle.rc_memo.proofs.RecordingLemmas.{puts_known}
use Rattle.rc_memo.specs.inside.Recording.{context_of}
use Rattle.rc_memo.proofs.reader.RowReader.row_of.Goals as goal

pub returns-in-Some-copied : goal.returns-in-Some-copied
returns-in-Some-copied c =
    let env = c.args.self.now.env.now in
    puts_known env c.args.operands.now c.in-Some.function c.in-Some-copied.row c.args.recording.now
    (subst (λ w. IfSome w (λ function. c.args.operands.now ≡ context_of env function)) c.in-Some.is c.requires)
    (sym (c.in-Some-copied.ensures ∙ c.get.ensures))
