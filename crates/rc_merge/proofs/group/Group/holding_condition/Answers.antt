use Rattle.std.proofs.Common.{◌∙◌, ap, unwrap_or}
use Rattle.rc_merge.proofs.ToldLemmas.{condition_or_last}
use Rattle.rc_merge.specs.Joining.{depends_on_outputs, shares_inputs, takes_outputs}
use Rattle.rc_merge.specs.declared.facts.MergeCondition.TheVariants.{Sources}
use Rattle.rc_merge.specs.inside.OpenGroups.{opened}
use Rattle.rc_merge.specs.inside.Rows.{copies_of}
use Rattle.rc_merge.proofs.group.Group.holding_condition.Goals as goal

pub returns : goal.returns
returns c =
    let env = c.args.known.now.env.now in
    let head = (opened c.args.self.now).head.own in
    let next = c.args.scope.now in
    c.condition_or_last.ensures ∙ ap (λ condition. unwrap_or condition Sources) c.in_ok-condition.ensures
    ∙ condition_or_last (shares_inputs env head next) (takes_outputs env head next)
    (depends_on_outputs env (copies_of c.args.copies.now) head next)
