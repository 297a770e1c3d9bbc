-- The short arm of a value terminal: there is none, it is left to a test, or a silent arm is built for it. And whether
-- a test leaves another arm open than the one that it shares.
use Rattle.std.proofs.Common.{◌≡◌, Bool, true, false, List, [], ◌++◌, Option, Some, None, ◌||◌, refl, sym, ap, arith}
use Rattle.std.proofs.Common.{subst, eq-eqb, if◌then◌else◌, inl}
use Rattle.std.proofs.lemmas.Bool.{or_right}
use Rattle.rc_names.specs.Numbers.{BlockId, same_id, is_among}
use Rattle.rc_hir.specs.Model.{Terminal, HirFunction, Environment}
use Rattle.rc_hir.specs.declared.fault.Rule.TheVariants as rules
use Rattle.rc_hir.specs.declared.terminal.Terminal.TheVariants as terminals
use Rattle.rc_runs.specs.Spelled.{AreSound}
use Rattle.rc_runs.specs.ShortArms.{SpellsShortArm, no_arm, left_to_test, own_arm, shares_alternate}
use Rattle.rc_build.specs.declared.builder.Marks.{Marks}
use Rattle.rc_build.specs.declared.short_arms.ShortArm.{ShortArm}
use Rattle.rc_build.specs.References.{Arm, blocks_as}
use Rattle.rc_build.specs.TerminalForms.{branch_alternate, is_branch}
use Rattle.rc_build.specs.BlockFacts.{ValueBlockIs}
use Rattle.rc_build.specs.RuleFacts.{RuleFact}
use Rattle.rc_build.specs.inside.Built.{Refused}
use Rattle.rc_build.specs.inside.CanBuild.{AreReferenced}
use Rattle.rc_build.specs.inside.Marks.{MarksBlocks}
use Rattle.rc_build.specs.inside.SilentArms.{ArmBuilt, CanBuildArm, HasNoArm}
use Rattle.rc_build.specs.inside.Task.{Progress}
use Rattle.rc_build.specs.inside.ShortArms.{CanBuildShort, ShortBuilt, arm_blocks, AreShort, alternate_of, other_arm_of}
use Rattle.rc_build.proofs.BuiltLemmas.{marking_drop, marking_none}

-- the alternate of a `Branch` is one of its arms
alternate_among : (terminal : Terminal) (alternate : BlockId) → branch_alternate terminal ≡ Some alternate
    → is_among (blocks_as Arm terminal) alternate ≡ true
alternate_among (terminals.Branch test consequent other id span) alternate e =
    let same : other ≡ alternate = cc in
    or_right (same_id alternate consequent) (same_id alternate other || false)
    (ap (λ b. b || false) (eq-eqb alternate.0 other.0 (ap (λ (z : BlockId). z.0) (sym same))))
alternate_among terminal alternate e = let bad : ⊥ = cc in absurd bad

module _ {hir : HirFunction} {short : Option ShortArm} {arm : ShortArm} (is : short ≡ Some arm) where
  -- the silent arm of a short arm can be built
  pub short_arm_can : {marks : Marks} → CanBuildShort hir marks short
      → CanBuildArm hir marks arm.alternate arm.alternate
  short_arm_can {marks} can =
      let there = subst (AreShort hir) is can.short_is in record {
        marked = can.marked;
        referenced = subst (λ z. AreReferenced hir marks.used (arm_blocks z)) is can.referenced;
        arm_is = (
          arm.branch,
          record {
            block = there.here.block;
            found = there.here.found;
            holds = alternate_among there.here.block.terminal arm.alternate there.here.holds;
          },
        );
        there = inl refl;
      }

-- an arm that is no silent arm is refused
own_refused : {hir : HirFunction} {env : Environment} {handler : Option BlockId} {next alternate : BlockId} {before left : Option BlockId}
    {blocks : List BlockId} (used : List BlockId)
    → HasNoArm hir env handler next alternate used
    → SpellsShortArm hir env handler next false (Some alternate) before left blocks → AreSound hir (used ++ blocks) → ⊥
own_refused {blocks = blocks} used none (own_arm e) sound = none blocks e sound

pub short_refused : {hir : HirFunction} {env : Environment} {handler : Option BlockId} {next : BlockId} {answers : Bool} (short : Option ShortArm)
    {arm : ShortArm} (behind : Option ShortArm) → short ≡ Some arm → (used : List BlockId) → answers ≡ false
    → HasNoArm hir env handler next arm.alternate used
    → Refused hir (SpellsShortArm hir env handler next answers (alternate_of short) (alternate_of behind)) used
short_refused {hir} {env} {handler} {next} {answers} short {arm} behind is used own none left blocks d sound = own_refused used none
    (subst (λ z. SpellsShortArm hir env handler next z (alternate_of (Some arm)) (alternate_of behind) left blocks) own
    (subst (λ z. SpellsShortArm hir env handler next answers (alternate_of z) (alternate_of behind) left blocks) is d)) sound

module _ {hir : HirFunction} {env : Environment} {handler : Option BlockId} {next : BlockId} {answers : Bool} {short behind : Option ShortArm} where
  module _ {arm : ShortArm} (is : short ≡ Some arm) where
    -- a silent arm that is built is the short arm
    pub short_built : {old new : Progress} → answers ≡ false → ArmBuilt hir env handler next arm.alternate old new
        → ShortBuilt hir env handler next answers short behind behind old new
    short_built {old = old} {new} own a = record {
      newly = a.newly;
      spelled = subst (λ z. SpellsShortArm hir env handler next answers (alternate_of z) (alternate_of behind)
          (alternate_of behind) a.newly) (sym is)
          (subst (λ z. SpellsShortArm hir env handler next z (Some arm.alternate) (alternate_of behind)
          (alternate_of behind) a.newly) (sym own) (own_arm a.spelled));
      left_is = λ h. h;
      marking = subst (λ z. MarksBlocks hir (arm_blocks z) [] old.marks new.marks a.newly) (sym is) a.marking;
      kept = a.kept;
    }

    -- and so is one that is left to the test
    pub short_left : {at : Progress} → answers ≡ true → CanBuildShort hir at.marks short
        → ShortBuilt hir env handler next answers short behind (Some arm) at at
    short_left {at} test can = record {
      newly = [];
      spelled = subst (λ z. SpellsShortArm hir env handler next answers (alternate_of z) (alternate_of behind) (Some arm.alternate) [])
          (sym is)
          (subst (λ z. SpellsShortArm hir env handler next z (Some arm.alternate) (alternate_of behind) (Some arm.alternate) [])
          (sym test) left_to_test);
      left_is = λ h. subst (AreShort hir) is can.short_is;
      marking = marking_drop hir (λ other. omega arith) (marking_none hir (arm_blocks short) at.marks can.marked);
      kept = refl;
    }

  -- a value terminal without a short arm
  pub short_absent : {at : Progress} → short ≡ None → CanBuildShort hir at.marks short
      → ShortBuilt hir env handler next answers short behind behind at at
  short_absent {at} none can = record {
    newly = [];
    spelled = subst (λ z. SpellsShortArm hir env handler next answers (alternate_of z) (alternate_of behind) (alternate_of behind) [])
        (sym none) no_arm;
    left_is = λ h. h;
    marking = marking_drop hir (λ other. omega arith) (marking_none hir (arm_blocks short) at.marks can.marked);
    kept = refl;
  }

-- where no other arm is open, the alternate is shared
pub other_none : (left : Option ShortArm) (alternate : BlockId) → other_arm_of left alternate ≡ None
    → shares_alternate (alternate_of left) alternate ≡ true
other_none None alternate e = refl
other_none (Some arm) alternate e = go (same_id arm.alternate alternate) refl e
  where
    go : (b : Bool) → same_id arm.alternate alternate ≡ b
        → ◌≡◌ {A = Option BlockId} (if b then None else Some arm.branch) None → same_id arm.alternate alternate ≡ true
    go true q h = q
    go false q h = let bad : ⊥ = cc in absurd bad

-- and where one is, it isn't
pub other_some : (left : Option ShortArm) (alternate branch : BlockId) → other_arm_of left alternate ≡ Some branch
    → shares_alternate (alternate_of left) alternate ≡ false
other_some None alternate branch e = let bad : ⊥ = cc in absurd bad
other_some (Some arm) alternate branch e = go (same_id arm.alternate alternate) refl e
  where
    go : (b : Bool) → same_id arm.alternate alternate ≡ b
        → ◌≡◌ {A = Option BlockId} (if b then None else Some arm.branch) (Some branch)
        → same_id arm.alternate alternate ≡ false
    go true q h = let bad : ⊥ = cc in absurd bad
    go false q h = q

-- a terminal with an alternate is a `Branch`
alternate_branch : (terminal : Terminal) (alternate : BlockId) → branch_alternate terminal ≡ Some alternate
    → is_branch terminal ≡ true
alternate_branch (terminals.Branch test consequent other id span) alternate e = refl
alternate_branch terminal alternate e = let bad : ⊥ = cc in absurd bad

-- the fact of the `Branch` that leaves another arm open
pub short_fact : (hir : HirFunction) (left : Option ShortArm) (alternate branch : BlockId) → AreShort hir left
    → other_arm_of left alternate ≡ Some branch → RuleFact hir rules.ShortArm branch
short_fact hir None alternate branch short e = let bad : ⊥ = cc in absurd bad
short_fact hir (Some arm) alternate branch short e = go (same_id arm.alternate alternate) e
  where
    go : (b : Bool) → ◌≡◌ {A = Option BlockId} (if b then None else Some arm.branch) (Some branch)
        → RuleFact hir rules.ShortArm branch
    go true h = let bad : ⊥ = cc in absurd bad
    go false h =
        let same : arm.branch ≡ branch = cc in
        subst (λ z. ValueBlockIs hir z (λ block. is_branch block.terminal ≡ true)) same (record {
          referenced = short.referenced;
          here = record {
            block = short.here.block;
            found = short.here.found;
            holds = alternate_branch short.here.block.terminal arm.alternate short.here.holds;
          };
        })
