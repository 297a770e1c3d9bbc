use Rattle.std.proofs.Common.{take}
use Rattle.rc_memo.specs.Events.{scopes_facts}
use Rattle.rc_memo.specs.inside.RowNodes.{AddsFacts}
use Rattle.rc_memo.proofs.nodes.HeldNodes.add_scopes.Given as goal

abbrev pub invariant-loop-scope : goal.invariant-loop-scope
invariant-loop-scope l = AddsFacts (scopes_facts l.name (take l.scope-index l.scope-items)) l.fn.self l.self
