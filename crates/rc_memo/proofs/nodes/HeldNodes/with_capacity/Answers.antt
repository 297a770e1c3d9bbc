use Rattle.std.proofs.Common.{refl}
use Rattle.rc_memo.proofs.RowNodesLemmas.{no_facts}
use Rattle.rc_memo.proofs.nodes.HeldNodes.with_capacity.Goals as goal

pub returns : goal.returns
returns c = no_facts _ c.in_ok-with_capacity.ensures refl
