use Rattle.std.proofs.Common.{◌∙◌, sym, arith, reverse}
use Rattle.rc_checks.proofs.MembershipCheck.ContextLemmas.{passed_over}
use Rattle.rc_checks.proofs.membership.contexts.places_to_visit.Goals as goal

-- a place that isn't needed
pub loop-at-preserved : goal.loop-at-preserved
loop-at-preserved c =
    let so_far = c.loop-at.invariant in
    record {
      inside = omega (arith, so_far.inside);
      left = passed_over c.args.env.now c.args.blocks.now c.loop-at.met (reverse c.loop-at.places) so_far.scopes
          c.args.context.now c.loop-at.at _ c.loop-at-test.true so_far.inside so_far.left
          (sym c.is_needed.ensures ∙ c.if-is_needed.false);
      scopes = so_far.scopes;
    }
