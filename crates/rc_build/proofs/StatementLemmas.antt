-- The parts of statements: the setting of a part, and why a fallthrough that isn't opened is a fault.
use Rattle.std.proofs.Common.{◌≡◌, Bool, true, false, List, ◌∷◌, Option, Some, None, refl, sym, ap, ◌∙◌, subst, inl, inr}
use Rattle.std.specs.Prelude.{if◌then◌else◌, is_some, ◌⊎◌, not}
use Rattle.std.proofs.lemmas.Bool.{not-false}
use Rattle.rc_names.specs.Numbers.{BlockId}
use Rattle.rc_hir.specs.declared.fault.Rule.TheVariants.{FallsElsewhere}
use Rattle.rc_hir.specs.Model.{Terminal, HirFunction}
use Rattle.rc_runs.specs.declared.frames.Frame.{Frame}
use Rattle.rc_runs.specs.declared.frames.Frame.TheVariants.{Mark}
use Rattle.rc_build.specs.declared.builder.Builder.{Builder}
use Rattle.rc_build.specs.declared.builder.Marks.{Marks}
use Rattle.rc_build.specs.declared.builder.Site.{Site}
use Rattle.rc_runs.specs.Graph.{ends_unreachable}
use Rattle.rc_runs.specs.Frames.{is_jump_target}
use Rattle.rc_runs.specs.Fallthrough.{falls_to, label_of, opens_reachable}
use Rattle.rc_build.specs.References.{fallthrough_of}
use Rattle.rc_build.specs.BlockFacts.{IsFramedApart}
use Rattle.rc_build.specs.RuleFacts.{RuleFact}
use Rattle.rc_build.specs.inside.CanBuild.{CanBuildTerminal, IsUsedApart}
use Rattle.rc_build.specs.inside.Depths.{frames_inside}
use Rattle.rc_build.specs.inside.Setting.{Setting, label_at, marked_setting, open_block, part_setting, setting_of}
use Rattle.rc_build.specs.inside.Setting.{site_inside}
use Rattle.rc_build.proofs.BuildsLemmas.{same_graph}
use Rattle.rc_build.proofs.OwnersLemmas.{target_framed}
use Rattle.rc_build.proofs.BuiltLemmas.{is_some-opened}

-- what holds at the site of a part, once its frame is entered, holds of the part's setting
pub at_part_site : (P : Setting → BlockId → Type 0) (started : Builder) (frames : List Frame) (at : Option BlockId)
    (frame : Frame) (part : BlockId) (site inner : Site) → inner ≡ site_inside at frame part site
    → started.frames ≡ frames_inside at frame frames → P (setting_of started inner) inner.block
    → P (part_setting at frame (setting_of (record started { frames = frames }) site)) part
at_part_site P started frames at frame part site inner is entered holds =
    go at (subst (λ z. P (setting_of (record started { frames = z }) (site_inside at frame part site)) part) entered
    (subst (λ (z : Site). P (setting_of started z) z.block) is holds))
  where
    go : (at : Option BlockId)
        → P (setting_of (record started { frames = frames_inside at frame frames }) (site_inside at frame part site)) part
        → P (part_setting at frame (setting_of (record started { frames = frames }) site)) part
    go None p = p
    go (Some fallthrough) p = p

-- the same of the setting of the cases of a switch, once the mark is put
pub at_cases_site : (P : Setting → Type 0) (old : Builder) {entered frames : List Frame} (at : Option BlockId)
    (frame : Frame) (site inner : Site) → inner ≡ site_inside at frame site.block site
    → entered ≡ frames_inside at frame old.frames → frames ≡ Mark ∷ entered
    → P (setting_of (record old { frames = frames }) inner) → P (marked_setting (part_setting at frame (setting_of old site)))
at_cases_site P old {entered} at frame site inner is e put holds =
    at_part_site (λ z k. P (marked_setting z)) (record old { frames = entered }) old.frames at frame site.block site inner is
    e (subst (λ z. P (setting_of (record old { frames = z }) inner)) put holds)

-- the setting of the statement, once the frame of its part is left
pub setting_left : (old started later : Builder) (site inner : Site) (frames : List Frame)
    → setting_of later inner ≡ setting_of started inner → started.hir.now ≡ old.hir.now → started.env.now ≡ old.env.now
    → frames ≡ old.frames → setting_of (record later { frames = frames }) site ≡ setting_of old site
setting_left old started later site inner frames e h v f =
    let hir : later.hir.now ≡ old.hir.now = same_graph e ∙ h in
    let env : later.env.now ≡ old.env.now = ap (λ (z : Setting). z.env) e ∙ v in
    cc

-- the label of a statement
pub label_at-opened : {at : Option BlockId} (is_open : Bool) (fallthrough : BlockId) → at ≡ open_block is_open fallthrough
    → label_at at ≡ label_of (is_some at) fallthrough
label_at-opened is_open fallthrough is = subst (λ z. label_at z ≡ label_of (is_some z) fallthrough) (sym is) (go is_open)
  where
    go : (b : Bool) → label_at (open_block b fallthrough) ≡ label_of (is_some (open_block b fallthrough)) fallthrough
    go true = refl
    go false = refl

-- a block that a jump can name is framed apart from the block where the walk is
pub target_apart : {hir : HirFunction} {marks : Marks} {handler : Option BlockId} {frames : List Frame}
    {key target : BlockId}
    {terminal : Terminal} → CanBuildTerminal hir marks handler frames key terminal → is_jump_target frames target ≡ true
    → IsFramedApart hir key target
target_apart {hir} {marks} {handler} {frames} {key} {target} can live =
    let o = target_framed hir (IsUsedApart marks key) frames target can.owned live in
    record { other = o.owner; apart = o.chosen.1; frames = o.frames }

-- a fallthrough to which a statement doesn't fall is framed apart, or ends in `Unreachable`
pub falls_badly : {hir : HirFunction} {marks : Marks} {handler : Option BlockId} {frames : List Frame}
    {key fallthrough : BlockId}
    {terminal : Terminal} {at : Option BlockId} (next : Option BlockId)
    → CanBuildTerminal hir marks handler frames key terminal → fallthrough_of terminal ≡ Some fallthrough
    → at ≡ open_block (opens_reachable hir frames fallthrough) fallthrough
    → falls_to (is_some at) fallthrough next ≡ false → RuleFact hir FallsElsewhere key
falls_badly {hir} {marks} {handler} {frames} {key} {fallthrough} {at = at} next a f o elsewhere = record {
  block = a.here.block;
  found = a.here.found;
  holds = record {
    fallthrough = fallthrough;
    falls = ap fallthrough_of a.here.holds ∙ f;
    bad = go (is_jump_target frames fallthrough) refl
        (sym (is_some-opened (opens_reachable hir frames fallthrough) fallthrough o) ∙ shut (is_some at) elsewhere);
  };
}
  where
    shut : (is_open : Bool) → falls_to is_open fallthrough next ≡ false → is_open ≡ false
    shut true e = e
    shut false e = refl

    go : (b : Bool) → is_jump_target frames fallthrough ≡ b
        → (if b then false else not (ends_unreachable hir fallthrough)) ≡ false
        → IsFramedApart hir key fallthrough ⊎ (ends_unreachable hir fallthrough ≡ true)
    go true l h = inl (target_apart a l)
    go false l h = inr (not-false (ends_unreachable hir fallthrough) h)
