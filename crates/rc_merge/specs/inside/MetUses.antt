-- The uses that a walk has met so far.
use Rattle.rc_hir.specs.Model.{Environment}
use Rattle.rc_merge.specs.LastUses.{LastUses}
use Rattle.rc_merge.specs.declared.last_uses.MetUses.{MetUses}
use Rattle.rc_merge.specs.inside.LastUsesMet.{uses_of, with_contexts}

-- the last uses that were met, with those of contexts
abbrev pub with_all : Environment → MetUses → LastUses
with_all env met = with_contexts env met.contexts (uses_of met.uses)
