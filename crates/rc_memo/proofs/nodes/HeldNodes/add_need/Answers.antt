use Rattle.std.proofs.Common.{refl}
use Rattle.rc_memo.proofs.EntryLemmas.{found_none, found_some}
use Rattle.rc_memo.proofs.RowNodesLemmas.{adds_missing, adds_row_need}
use Rattle.rc_memo.specs.Facts.{NeedsNode}
use Rattle.rc_memo.proofs.nodes.HeldNodes.add_need.Goals as goal

pub returns-in-Some : goal.returns-in-Some
returns-in-Some c =
    adds_row_need c.args.name c.args.self.now
    (found_some c.args.name c.args.self.now.nodes c.in-Some.field-0.now c.in-Some.ensures)

pub returns-in-None : goal.returns-in-None
returns-in-None c =
    adds_missing (NeedsNode c.args.name) c.args.name c.args.self.now c.args.self.now.nodes c.note_missing.new.missing
    refl (found_none c.args.name c.args.self.now.nodes c.in-None.ensures) c.note_missing.ensures
