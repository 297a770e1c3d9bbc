use Rattle.rc_memo.proofs.RowNodesLemmas.{adds_row_level}
use Rattle.rc_memo.proofs.StepsLemmas.{onward}
use Rattle.rc_memo.proofs.nodes.HeldNodes.add_level.Goals as goal

pub returns : goal.returns
returns c = onward c.put_target.result (adds_row_level c.args.name c.args.level c.args.self.now c.put_target.new.nodes)
    c.put_target.ensures
