use Rattle.std.proofs.Common.{[], ◌∷◌}
use Rattle.rc_memo.proofs.RowNodesLemmas.{facts_next}
use Rattle.rc_memo.proofs.StepsLemmas.{onward}
use Rattle.rc_memo.specs.Events.{scopes_facts}
use Rattle.rc_memo.specs.Facts.{NeedsNode}
use Rattle.rc_memo.proofs.nodes.HeldNodes.add_within.Goals as goal

pub returns : goal.returns
returns c =
    onward c.add_scopes.result
    (facts_next (NeedsNode c.args.name ∷ []) (scopes_facts c.args.name c.args.scopes.now) c.args.self.now
    c.add_need.new.self c.add_scopes.new.self c.add_need.ensures) c.add_scopes.ensures
