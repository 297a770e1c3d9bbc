use Rattle.std.proofs.Common.{◌∷◌, subst}
use Rattle.rc_memo.proofs.StepsLemmas.{onward}
use Rattle.rc_memo.proofs.TellsLemmas.{tells_within}
use Rattle.rc_memo.specs.Events.{scopes_facts}
use Rattle.rc_memo.specs.Facts.{NeedsNode}
use Rattle.rc_hir.specs.Environment.{declaration_of}
use Rattle.rc_memo.specs.inside.RowNodes.{AddsFacts}
use Rattle.rc_memo.proofs.reader.RowReader.record_within.Goals as goal

pub returns : goal.returns
returns c =
    let env = c.args.self.now.env.now in
    let old = c.args.recording.now in
    let scopes = c.args.scopes.now in
    onward c.add_within.result (λ h. tells_within env (declaration_of env c.args.number) scopes old c.add_within.new.self
    (subst (λ w. AddsFacts (NeedsNode w ∷ scopes_facts w scopes) old.held c.add_within.new.self) c.declaration.ensures h))
    c.add_within.ensures
