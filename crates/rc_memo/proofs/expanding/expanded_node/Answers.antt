use Rattle.rc_memo.proofs.ExpandedLemmas.{node_expanded}
use Rattle.rc_memo.proofs.expanding.expanded_node.Goals as goal

pub returns : goal.returns
returns c =
    node_expanded c.args.operands.now c.args.name c.args.node.now c.in_ok-dependencies_by_rows.field-0
    c.in_ok-clone_in.field-0 c.in_ok-dependencies_by_rows.ensures c.in_ok-clone_in.ensures
