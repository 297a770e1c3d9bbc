use Rattle.std.proofs.Common.{◌∙◌, ap, sym}
use Rattle.rc_memo.proofs.EntryLemmas.{at_none, at_some, found_none, found_some}
use Rattle.rc_memo.specs.inside.RowNodes.{with_row_scope}
use Rattle.rc_memo.proofs.nodes.put_scope.Goals as goal

pub returns-in_ok-insert-in-Some-clause-nodes : goal.returns-in_ok-insert-in-Some-clause-nodes
returns-in_ok-insert-in-Some-clause-nodes c =
    c.get_mut.follows.holds _ ∙ at_some c.args.name (with_row_scope c.args.scope) c.args.nodes.now c.in-Some.node.now _
    c.in-Some.ensures.value (ap (λ keys. record c.in-Some.node.now { scopes = keys })
    c.in_ok-insert-in-Some.ensures.keys)

pub returns-in_ok-insert-in-Some-clause-found : goal.returns-in_ok-insert-in-Some-clause-found
returns-in_ok-insert-in-Some-clause-found c =
    sym (found_some c.args.name c.args.nodes.now c.in-Some.node.now c.in-Some.ensures.value)

pub returns-in-None-clause-nodes : goal.returns-in-None-clause-nodes
returns-in-None-clause-nodes c =
    c.get_mut.follows.holds-at-none
    ∙ at_none c.args.name (with_row_scope c.args.scope) c.args.nodes.now c.in-None.ensures.value

pub returns-in-None-clause-found : goal.returns-in-None-clause-found
returns-in-None-clause-found c = sym (found_none c.args.name c.args.nodes.now c.in-None.ensures.value)
