use Rattle.std.proofs.Common.{◌≡◌, ◌++◌, drop}
use Rattle.rc_slots.specs.CacheRun.{all_answers, no_items}
use Rattle.rc_slots.proofs.cache.render_all.Given as goal

abbrev pub invariant-loop-given : goal.invariant-loop-given
invariant-loop-given l =
    (l.cache.scopes ≡ l.fn.plan.scopes)
    × (l.answers ++ all_answers l.fn.plan.scopes l.cache.items (drop l.given-index l.given-items)
    ≡ all_answers l.fn.plan.scopes (no_items l.fn.plan.scopes) l.given-items)
