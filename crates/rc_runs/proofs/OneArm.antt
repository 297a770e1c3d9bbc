-- A silent arm is one chain of blocks, and a value terminal has at most one short arm.
use Rattle.std.proofs.Common.{◌≡◌, Bool, List, ◌∷◌, Option, refl, ap, subst}
use Rattle.rc_names.specs.Numbers.{BlockId}
use Rattle.rc_hir.specs.Model.{HirFunction, Environment}
use Rattle.rc_runs.specs.LastRow.{ends_value}
use Rattle.rc_runs.specs.ShortArms.{SpellsSilentArm, silent_block, silent_chain, SpellsShortArm, no_arm, left_to_test}
use Rattle.rc_runs.specs.ShortArms.{own_arm}
use Rattle.rc_runs.proofs.GraphLemmas.{one_kind, one_continuation}

module _ {hir : HirFunction} {env : Environment} where
  -- each block of the chain either goes on at the next block or may throw
  pub one_silent_arm : {handler : Option BlockId} {next key : BlockId} {a b : List BlockId}
      → SpellsSilentArm hir env handler next key a → SpellsSilentArm hir env handler next key b → a ≡ b
  one_silent_arm (silent_block f s g) (silent_block f' s' g') = refl
  one_silent_arm (silent_block f s g) (silent_chain f' s' e' h' d') =
      absurd (one_kind hir ends_value _ f' (ap ends_value e') f (ap ends_value g))
  one_silent_arm (silent_chain f s e h d) (silent_block f' s' g') =
      absurd (one_kind hir ends_value _ f (ap ends_value e) f' (ap ends_value g'))
  one_silent_arm {handler} {next} (silent_chain {key = key} f s e h d) (silent_chain {used = used} f' s' e' h' d') =
      let same = one_continuation hir key f e f' e' in
      ap (λ used. key ∷ used)
      (one_silent_arm d (subst (λ key. SpellsSilentArm hir env handler next key used) same d'))

  -- the arm, and what is left open
  pub one_short_arm : {handler : Option BlockId} {next : BlockId} {answers : Bool}
      {short behind left other : Option BlockId} {a b : List BlockId}
      → SpellsShortArm hir env handler next answers short behind left a
      → SpellsShortArm hir env handler next answers short behind other b → (left ≡ other) × (a ≡ b)
  one_short_arm no_arm no_arm = (refl, refl)
  one_short_arm left_to_test left_to_test = (refl, refl)
  one_short_arm (own_arm d) (own_arm d') = (refl, one_silent_arm d d')
