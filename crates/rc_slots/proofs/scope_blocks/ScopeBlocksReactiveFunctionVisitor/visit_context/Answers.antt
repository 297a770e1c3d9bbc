use Rattle.rc_slots.proofs.WalkLemmas.{context_lists}
use Rattle.rc_slots.proofs.scope_blocks.ScopeBlocksReactiveFunctionVisitor.visit_context.Goals as goal

pub returns : goal.returns
returns c = context_lists c.args._id c.args._places.now c.args._scopes.now
