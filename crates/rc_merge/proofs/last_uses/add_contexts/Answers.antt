use Rattle.std.proofs.Common.{◌∙◌, ◌<◌, ap, sym, arith, length}
use Rattle.rc_merge.proofs.MetUsesLemmas.{is_inside, next_context}
use Rattle.rc_merge.specs.inside.LastUsesMet.{uses_of}
use Rattle.rc_merge.proofs.last_uses.add_contexts.Goals as goal
use Rattle.rc_merge.proofs.last_uses.add_contexts.Goals.{in-Some+in_ok-add_context, in_default}

pub loop-i-preserved : goal.loop-i-preserved
loop-i-preserved c =
    let contexts = c.args.contexts.now in
    let below : c.loop-i.i < length contexts = omega arith in
    elim c.match-at.branch [
      | in-Some+in_ok-add_context w ↦ next_context c.args.env.now contexts c.loop-i.i
          (w.in-Some.function, w.in-Some.id.now) (uses_of c.loop-i.uses) (uses_of c.match-at.uses) _ below
          (sym w.in-Some.ensures) (ap uses_of w.uses-is ∙ w.in_ok-add_context.ensures) c.loop-i.invariant
      | in_default w ↦ absurd (is_inside contexts c.loop-i.i below w.in_default.ensures)
    ]
