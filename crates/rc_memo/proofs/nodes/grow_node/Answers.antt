use Rattle.std.proofs.Common.{◌∙◌, sym}
use Rattle.rc_memo.proofs.EntryLemmas.{at_none, at_some, found_none, found_some}
use Rattle.rc_memo.specs.inside.RowNodes.{with_target}
use Rattle.rc_memo.proofs.nodes.grow_node.Goals as goal

pub returns-in_ok-grow-in-Some-clause-nodes : goal.returns-in_ok-grow-in-Some-clause-nodes
returns-in_ok-grow-in-Some-clause-nodes c =
    c.get_mut.follows.holds _ ∙ at_some c.args.name (with_target c.args.target) c.args.nodes.now c.in-Some.node.now
    c.grow.new.node c.in-Some.ensures.value c.in_ok-grow-in-Some.ensures

pub returns-in_ok-grow-in-Some-clause-found : goal.returns-in_ok-grow-in-Some-clause-found
returns-in_ok-grow-in-Some-clause-found c =
    sym (found_some c.args.name c.args.nodes.now c.in-Some.node.now c.in-Some.ensures.value)

pub returns-in-None-clause-nodes : goal.returns-in-None-clause-nodes
returns-in-None-clause-nodes c =
    c.get_mut.follows.holds-at-none
    ∙ at_none c.args.name (with_target c.args.target) c.args.nodes.now c.in-None.ensures.value

pub returns-in-None-clause-found : goal.returns-in-None-clause-found
returns-in-None-clause-found c = sym (found_none c.args.name c.args.nodes.now c.in-None.ensures.value)
