use Rattle.std.proofs.Common.{Ok, ap, sym}
use Rattle.rc_merge.proofs.MetUsesLemmas.{use_behind}
use Rattle.rc_merge.proofs.find_last_usage.FindLastUsageVisitorReactiveFunctionVisitor.visit_place.Goals as goal

pub returns : goal.returns
returns c =
    let before = c.args.met.now in
    let after = c.add_place.new.self in
    ap (λ uses. Ok (tt, uses)) (sym (use_behind c.args.self.now.env.now before.uses after.uses before.contexts
    after.contexts c.args.id c.args.place.now c.in_ok-add_place.ensures.uses c.add_place.ensures.contexts))
