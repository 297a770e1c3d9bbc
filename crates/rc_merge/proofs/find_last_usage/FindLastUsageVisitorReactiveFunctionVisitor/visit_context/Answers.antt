use Rattle.rc_merge.proofs.MetUsesLemmas.{context_put}
use Rattle.rc_merge.proofs.UseWalk.{context_visited}
use Rattle.rc_merge.specs.inside.MetUses.{with_all}
use Rattle.rc_merge.proofs.find_last_usage.FindLastUsageVisitorReactiveFunctionVisitor.visit_context.Goals as goal

pub returns : goal.returns
returns c =
    let env = c.args.self.now.env.now in
    let before = c.args.met.now in
    let after = c.add_context.new.self in
    context_visited env c.args.id c.args.function c.args._places.now (with_all env before) (with_all env after)
    c.requires.context
    (context_put env before.uses after.uses before.contexts after.contexts c.args.id c.args.function
    c.in_ok-add_context.ensures.contexts c.add_context.ensures.uses)
