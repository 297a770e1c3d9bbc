use Rattle.std.proofs.Common.{◌∙◌, refl, sym}
use Rattle.rc_memo.proofs.RowNodesLemmas.{adds_missing, adds_row_scope}
use Rattle.rc_memo.specs.Facts.{HasScope}
use Rattle.rc_memo.proofs.nodes.HeldNodes.add_scope.Goals as goal

pub returns-then-branch : goal.returns-then-branch
returns-then-branch c =
    adds_row_scope c.args.name c.args.scope c.args.self.now c.put_scope.new.nodes c.in_ok-put_scope.ensures.nodes
    (sym c.in_ok-put_scope.ensures.found ∙ c.if-branch.true)

pub returns : goal.returns
returns c =
    adds_missing (HasScope c.args.name c.args.scope) c.args.name c.args.self.now c.put_scope.new.nodes
    c.note_missing.new.missing refl (sym c.in_ok-put_scope.ensures.found ∙ c.if-branch.false) c.note_missing.ensures
