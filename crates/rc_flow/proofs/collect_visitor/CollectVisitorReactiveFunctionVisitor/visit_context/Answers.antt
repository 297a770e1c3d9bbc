use Rattle.rc_flow.proofs.ToldLemmas.{context_told}
use Rattle.rc_flow.proofs.collect_visitor.CollectVisitorReactiveFunctionVisitor.visit_context.Goals as goal

pub returns : goal.returns
returns c =
    context_told c.args.self.now.env.now c.args._id c.args.function c.args._places.now c.args.told.now
    c.push.new.self c.requires.context c.in_ok-push.ensures.ok
