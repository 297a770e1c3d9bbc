use Rattle.std.proofs.Common.{◌∙◌, [], ◌∷◌, ap, subst, sym}
use Rattle.rc_memo.proofs.RecordingLemmas.{mention_active, mention_idle}
use Rattle.rc_memo.proofs.StepsLemmas.{onward}
use Rattle.rc_memo.specs.Facts.{HasScope}
use Rattle.rc_memo.specs.inside.RowNodes.{AddsFacts, resolved}
use Rattle.rc_memo.proofs.reader.RowReader.add_mention.Goals as goal

pub returns-in_default : goal.returns-in_default
returns-in_default c =
    mention_idle c.args.self.now.env.now c.args.id c.args.operand c.args.recording.now (sym c.in_default.ensures)

pub returns : goal.returns
returns c =
    let old = c.args.recording.now in
    let name = c.resolved-name.ensures ∙ ap (resolved old.definitions) c.declaration.ensures in
    onward c.record_scope.result
    (mention_active c.args.self.now.env.now c.args.id c.args.operand c.in-Some.scope old c.add_scope.new.self
    c.record_scope.new.scopes (sym c.in-Some.ensures)
    (subst (λ w. AddsFacts (HasScope w c.in-Some.scope ∷ []) old.held c.add_scope.new.self) name
    c.in_ok-add_scope.ensures)) c.record_scope.ensures
