use Rattle.std.proofs.Common.{◌≡◌, drop}
use Rattle.rc_merge.specs.inside.LastUsesMet.{uses_of, with_contexts}
use Rattle.rc_merge.proofs.last_uses.add_contexts.Given as goal

-- the contexts that are left do the rest
abbrev pub invariant-loop-i : goal.invariant-loop-i
invariant-loop-i l = with_contexts l.env l.contexts (uses_of l.initial.uses)
    ≡ with_contexts l.env (drop l.i l.contexts) (uses_of l.uses)
