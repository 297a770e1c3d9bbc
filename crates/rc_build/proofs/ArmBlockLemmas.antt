-- The chain of a silent arm: what its blocks are, one by one, and the arm once they are marked.
use Rattle.std.proofs.Common.{◌≡◌, true, false, List, [], ◌∷◌, ◌++◌, Option, Some, None, refl, sym, ap, ◌∙◌, subst}
use Rattle.std.proofs.Common.{append_assoc, arith, eq-eqb, inl, inr}
use Rattle.std.specs.Prelude.{◌⊎◌, IsSome}
use Rattle.std.specs.Option.{option_to_list}
use Rattle.std.proofs.lemmas.List.{append-nil}
use Rattle.rc_names.specs.Numbers.{BlockId, same_id, is_among}
use Rattle.rc_hir.specs.Terminal.{evaluation_order}
use Rattle.rc_hir.specs.Model.{BasicBlock, HirFunction, Environment}
use Rattle.rc_runs.specs.Graph.{basic_block}
use Rattle.rc_runs.specs.ListContext.{is_current}
use Rattle.rc_runs.specs.Silent.{is_unset}
use Rattle.rc_runs.specs.ShortArms.{SpellsSilentArm, silent_block, silent_chain}
use Rattle.rc_build.specs.declared.builder.Builder.{Builder}
use Rattle.rc_build.specs.declared.builder.Marks.{Marks}
use Rattle.rc_build.specs.declared.builder.Site.{Site}
use Rattle.rc_build.specs.declared.handlers.MayThrow.{MayThrow}
use Rattle.rc_build.specs.References.{referenced_blocks}
use Rattle.rc_build.specs.BlockFacts.{BlockIs}
use Rattle.rc_build.specs.inside.CanBuild.{IsUsed}
use Rattle.rc_build.specs.inside.Marks.{IsUnusable, Marked, MarksBlocks}
use Rattle.rc_build.specs.inside.Setting.{Setting, setting_of}
use Rattle.rc_build.specs.inside.SilentArms.{ArmBlockBuilt, ArmBuilt, ArmPrefix, ArmSoFar, AreArmRows, CanBuildArm, HasNoArm}
use Rattle.rc_build.specs.inside.SilentArms.{HasSilentRows, SpellsArmRest}
use Rattle.rc_build.specs.inside.Task.{Progress, progress_of}
use Rattle.rc_build.specs.inside.Throws.{may_throw}
use Rattle.rc_build.specs.inside.Values.{goes_to}
use Rattle.rc_build.proofs.BuiltLemmas.{marking_drop, marking_none, marking_then, refused_back, refused_front}
use Rattle.rc_build.proofs.MarksLemmas.{among_front, among_push}
use Rattle.rc_build.proofs.SilentArmLemmas.{all_listed, silent_rows, silent_usable}
use Rattle.rc_build.proofs.MayThrowLemmas.{throws_as}
use Rattle.rc_build.proofs.ValueLemmas.{goes_to-goto, same_terminal}

module _ {hir : HirFunction} {env : Environment} {handler : Option BlockId} {next key : BlockId} where
  -- an arm whose block no tree may use is refused
  pub arm_unusable : (marks : Marks) → IsUnusable hir [] key marks → HasNoArm hir env handler next key marks.used
  arm_unusable marks none blocks (silent_block {block = block} found silent goes) sound = none block found refl sound
  arm_unusable marks none blocks (silent_chain {block = block} {used = later} found silent throws current d) sound =
      none block found refl (refused_front hir marks.used (key ∷ []) later sound refl)

  module _ {block : BasicBlock} (found : basic_block hir key ≡ Some block) where
    -- the rows of a block of a silent arm are silent
    pub arm_rows : {used : List BlockId} → SpellsSilentArm hir env handler next key used
        → HasSilentRows hir env block.instructions
    arm_rows (silent_block {block = whole} usable silent goes) = silent_rows key found whole usable silent
    arm_rows (silent_chain {block = whole} usable silent throws current d) = silent_rows key found whole usable silent

    -- the last one goes to the next block
    pub arm_ends : may_throw block.terminal ≡ None → {used : List BlockId} → SpellsSilentArm hir env handler next key used
        → (goes_to block.terminal next ≡ true) × (used ≡ key ∷ [])
    arm_ends stays (silent_block {block = whole} usable silent goes) = (
      ap (λ t. goes_to t next) (sym (same_terminal hir key block found whole usable) ∙ goes) ∙ eq-eqb next.0 next.0 refl,
      refl,
    )
    arm_ends stays (silent_chain {block = whole} usable silent throws current d) =
        let there = sym (ap may_throw throws) ∙ ap may_throw (same_terminal hir key block found whole usable) ∙ stays in
        let bad : ⊥ = cc in absurd bad

    -- the arm goes on after one that may throw, which names the current handler or none
    pub arm_behind : (throw : MayThrow) → may_throw block.terminal ≡ Some throw → {used : List BlockId}
        → SpellsSilentArm hir env handler next key used → (is_current throw.handler handler ≡ true)
        × ((later : List BlockId) × SpellsSilentArm hir env handler next throw.continuation later
        × (used ≡ key ∷ later))
    arm_behind throw is (silent_block {block = whole} usable silent goes) =
        let there = sym (ap may_throw goes) ∙ ap may_throw (same_terminal hir key block found whole usable) ∙ is in
        let bad : ⊥ = cc in absurd bad
    arm_behind throw is (silent_chain {continuation = continuation} {block = whole} {named = named} {used = later} usable
        silent throws current d) =
        let there = sym (ap may_throw throws) ∙ ap may_throw (same_terminal hir key block found whole usable) ∙ is in
        let same : record { continuation = continuation; handler = named } ≡ throw = cc in (
          ap (λ (z : MayThrow). is_current z.handler handler) (sym same) ∙ current,
          (
            later,
            subst (λ (z : MayThrow). SpellsSilentArm hir env handler next z.continuation later) same d,
            refl,
          ),
        )

    module _ {old new : Progress} (own : same_id block.id key ≡ true) (h : HasSilentRows hir env block.instructions)
        (set : is_unset (evaluation_order block.terminal) ≡ false) (m : Marked hir key block.terminal old new) where
      -- the last block of an arm is built
      pub last_prefix : may_throw block.terminal ≡ None → goes_to block.terminal next ≡ true
          → ArmBlockBuilt hir env handler next key None old new
      last_prefix stays goes =
          let goto = goes_to-goto block.terminal next goes in record {
            prefix = record {
              newly = key ∷ [];
              marking = marking_drop hir (λ other. omega arith) m.marking;
              onward = λ used none. subst (λ z. SpellsSilentArm hir env handler next key (key ∷ z)) (sym none)
                  (silent_block (silent_usable key block found own h set) h.silent goto.3);
              only = λ all d. ([], refl, (arm_ends stays d).1);
              kept = m.kept;
            };
            newly_is = refl;
          }

      -- and one that may throw, which names the current handler or none
      pub chain_prefix : (throw : MayThrow) → may_throw block.terminal ≡ Some throw
          → is_current throw.handler handler ≡ true
          → ArmBlockBuilt hir env handler next key (Some throw.continuation) old new
      chain_prefix throw is current =
          let form = throws_as block.terminal throw is in record {
            prefix = record {
              newly = key ∷ [];
              marking = marking_drop hir (λ other. omega arith)
                  (subst (λ t. MarksBlocks hir (key ∷ []) (referenced_blocks t) old.marks new.marks (key ∷ [])) form.2
                  m.marking);
              onward = λ used d. silent_chain (silent_usable key block found own h set) h.silent form.2 current d;
              only = λ all d. (arm_behind throw is d).1;
              kept = m.kept;
            };
            newly_is = refl;
          }

-- the block of an arm that is looked at, and the arm itself
pub arm_there : {hir : HirFunction} {marks : Marks} {arm key : BlockId} {block : BasicBlock}
    → basic_block hir key ≡ Some block → CanBuildArm hir marks arm key → BlockIs hir arm (λ block. Unit {0})
arm_there {hir} {marks} {arm} {key} {block} found can = go can.there
  where
    known : (found : Option BasicBlock) → basic_block hir arm ≡ found → IsSome found → BlockIs hir arm (λ block. Unit {0})
    known None p some = absurd (let bad : ⊥ = cc in bad)
    known (Some other) p some = record { block = other; found = p; holds = tt }

    go : (key ≡ arm) ⊎ IsUsed marks arm → BlockIs hir arm (λ block. Unit {0})
    go (inl same) = subst (λ z. BlockIs hir z (λ block. Unit {0})) same
        (record { block = block; found = found; holds = tt })
    go (inr used) = known (basic_block hir arm) refl (can.marked.known arm used)

pub arm_rows_are : {hir : HirFunction} {marks : Marks} {arm key : BlockId} {block : BasicBlock}
    → basic_block hir key ≡ Some block → CanBuildArm hir marks arm key → AreArmRows hir arm key block.instructions
arm_rows_are found can =
    record { listed = all_listed found; arm_is = can.arm_is; there = arm_there found can }

module _ {hir : HirFunction} {env : Environment} {handler : Option BlockId} {next arm : BlockId} where
  -- blocks of an arm, and then further ones
  arm_then : {key : BlockId} {rest : Option BlockId} {a b c : Progress}
      → ArmPrefix hir env handler next arm (Some key) a b → ArmPrefix hir env handler next key rest b c
      → ArmPrefix hir env handler next arm rest a c
  arm_then p q = record {
    newly = p.newly ++ q.newly;
    marking = marking_then hir p.marking q.marking;
    onward = λ used d. subst (SpellsSilentArm hir env handler next arm) (sym (append_assoc p.newly q.newly used))
        (p.onward (q.newly ++ used) (q.onward used d));
    only = λ all d.
        let h = p.only all d in
        let k = q.only h.0 h.1 in
        (k.0, k.1, h.2 ∙ ap (λ z. p.newly ++ z) k.2 ∙ sym (append_assoc p.newly q.newly k.0));
    kept = q.kept ∙ p.kept;
  }

  -- all blocks of an arm are marked
  arm_whole : {rest : Option BlockId} {old new : Progress} → ArmPrefix hir env handler next arm rest old new → rest ≡ None
      → ArmBuilt hir env handler next arm old new
  arm_whole {rest} {old} {new} p none = record {
    newly = p.newly;
    spelled = subst (SpellsSilentArm hir env handler next arm) (append-nil p.newly)
        (p.onward [] (subst (λ z. SpellsArmRest hir env handler next z []) (sym none) refl));
    marking = subst (λ z. MarksBlocks hir (arm ∷ []) (option_to_list z) old.marks new.marks p.newly) none p.marking;
    kept = p.kept;
  }

module _ {old : Builder} {handler : Option BlockId} {next arm : BlockId} where
  -- nothing of the arm is marked yet
  pub arm_start : CanBuildArm old.hir.now old.marks arm arm → ArmSoFar old old handler next arm (Some arm)
  arm_start can = record {
    prefix = record {
      newly = [];
      marking = marking_none old.hir.now (arm ∷ []) old.marks can.marked;
      onward = λ used d. d;
      only = λ all d. (all, d, refl);
      kept = refl;
    };
    there = λ key is. inl (let same : key ≡ arm = cc in same);
    setting = λ site. refl;
  }

  module _ {now : Builder} {at : Option BlockId} {key : BlockId} (s : ArmSoFar old now handler next arm at)
      (is : at ≡ Some key) where
    so_far : ArmPrefix old.hir.now old.env.now handler next arm (Some key) (progress_of old) (progress_of now)
    so_far = subst (λ z. ArmPrefix old.hir.now old.env.now handler next arm z (progress_of old) (progress_of now)) is
        s.prefix

    -- the next block of the arm can be built
    pub arm_further_can : (site : Site) → CanBuildArm old.hir.now old.marks arm arm
        → CanBuildArm now.hir.now now.marks arm key
    arm_further_can site can = subst (λ (z : Setting). CanBuildArm z.hir now.marks arm key) (sym (s.setting site)) (record {
      marked = so_far.marking.marked;
      referenced = so_far.marking.referenced [] can.referenced;
      arm_is = can.arm_is;
      there = s.there key is;
    })

    -- an arm that is refused after its first blocks is refused
    pub arm_refused_behind : (site : Site)
        → HasNoArm now.hir.now now.env.now handler next key now.marks.used
        → HasNoArm old.hir.now old.env.now handler next arm old.marks.used
    arm_refused_behind site none all d sound =
        let h = so_far.only all d in
        subst (λ (z : Setting). HasNoArm z.hir z.env handler next key now.marks.used) (s.setting site) none h.0 h.1
        (refused_back old.hir.now old.marks.used so_far.newly h.0 sound h.2 so_far.marking.used)

    -- one more block of the arm
    pub arm_further : {new : Builder} {rest : Option BlockId} (site : Site)
        → ((site : Site) → setting_of new site ≡ setting_of now site)
        → ArmBlockBuilt now.hir.now now.env.now handler next key rest (progress_of now) (progress_of new)
        → ArmSoFar old new handler next arm rest
    arm_further {new} {rest} site same built =
        let b = subst (λ (z : Setting). ArmBlockBuilt z.hir z.env handler next key rest (progress_of now)
        (progress_of new)) (s.setting site) built in record {
          prefix = arm_then so_far b.prefix;
          there = λ other more. inr (used (s.there key is) (b.prefix.marking.used ∙ ap (λ z. now.marks.used ++ z) b.newly_is));
          setting = λ site. same site ∙ s.setting site;
        }
      where
        used : (key ≡ arm) ⊎ IsUsed now.marks arm → new.marks.used ≡ now.marks.used ++ key ∷ [] → IsUsed new.marks arm
        used (inl alike) e = subst (λ z. is_among new.marks.used z ≡ true) alike
            (ap (λ z. is_among z key) e ∙ among_push now.marks.used key)
        used (inr there) e = ap (λ z. is_among z arm) e ∙ among_front now.marks.used (key ∷ []) arm there

  -- the arm is built
  pub arm_done : {now : Builder} {at : Option BlockId} → ArmSoFar old now handler next arm at → at ≡ None
      → ArmBuilt old.hir.now old.env.now handler next arm (progress_of old) (progress_of now)
  arm_done s none = arm_whole s.prefix none
