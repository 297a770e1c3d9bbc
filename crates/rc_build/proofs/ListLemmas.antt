-- The loop over the blocks of a list: how far it has come, and what its ends give.
use Rattle.std.proofs.Common.{◌≡◌, ◌<◌, ◌≤◌, ◌+◌, ◌-◌, List, Ok, Option, Some, None, refl, sym, ap, ◌∙◌, subst, arith}
use Rattle.std.proofs.Common.{length, length-append}
use Rattle.rc_names.specs.Numbers.{BlockId}
use Rattle.rc_hir.specs.Model.{HirFunction}
use Rattle.rc_build.specs.declared.builder.Builder.{Builder}
use Rattle.rc_build.specs.declared.builder.Marks.{Marks}
use Rattle.rc_build.specs.declared.builder.Site.{Site}
use Rattle.rc_build.specs.inside.CanBuild.{AreMarked, CanBuildList}
use Rattle.rc_build.specs.inside.Marks.{MarksBlocks}
use Rattle.rc_build.specs.inside.Setting.{Setting, setting_of}
use Rattle.rc_build.specs.inside.Task.{FromBlock, Nothing, Spells, left, progress_of}
use Rattle.rc_build.specs.inside.Built.{Builds, BuiltPrefix, ListSoFar, Refused}
use Rattle.rc_build.proofs.BuildsLemmas.{refused_in}
use Rattle.rc_build.proofs.BuiltLemmas.{prefix_none, prefix_refused, prefix_then}
use Rattle.rc_build.proofs.MarksLemmas.{room}
use Rattle.rc_build.proofs.WalkLemmas.{at_next}

-- the graph is the same, where the setting is
pub same_blocks : (old now : Builder) (site : Site) → setting_of now site ≡ setting_of old site
    → length now.hir.now.body.blocks ≡ length old.hir.now.body.blocks
same_blocks old now site same = ap (λ (z : Setting). length z.hir.body.blocks) same

-- further marks are used, and there is room for them
pub used_longer : {hir : HirFunction} {old new : Marks} {before after blocks : List BlockId}
    → MarksBlocks hir before after old new blocks → length old.used + length blocks ≡ length new.used
used_longer {old = old} {blocks = blocks} m = omega (arith, ap length m.used, length-append old.used blocks)

-- no more blocks of the graph are left than before
pub as_few_left : {A : Type 0} {old new : Builder} {site : Site} {Built : A → Type 0} {N : Type 0} {answer : A}
    {hir : HirFunction} {before after blocks : List BlockId} → Builds old new site Built N (Ok answer)
    → MarksBlocks hir before after old.marks new.marks blocks
    → length new.hir.now.body.blocks - length new.marks.used ≤ length old.hir.now.body.blocks - length old.marks.used
as_few_left {old = old} {new} {site} b m = omega (arith, same_blocks old new site b.frames, used_longer m)

-- fewer are left, where more are used
pub fewer_left : {A : Type 0} {old new : Builder} {site : Site} {Built : A → Type 0} {N : Type 0} {answer : A}
    → Builds old new site Built N (Ok answer) → AreMarked old.hir.now new.marks
    → length old.marks.used < length new.marks.used
    → length new.hir.now.body.blocks - length new.marks.used < length old.hir.now.body.blocks - length old.marks.used
fewer_left {old = old} {new} {site} b marked more =
    omega (arith, room old.hir.now new.marks marked, same_blocks old new site b.frames, more)

pub list_start : (old : Builder) (site : Site) → AreMarked old.hir.now old.marks
    → ListSoFar old old site (Some site.block)
list_start old site m = record { built = prefix_none (FromBlock site.block) (progress_of old) m; setting = refl }

module _ {old now : Builder} {site : Site} where
  -- the block where the list goes on
  here : {at : Option BlockId} {block : BlockId} → at ≡ Some block → ListSoFar old now site at
      → BuiltPrefix (setting_of old site) (FromBlock site.block) (FromBlock block) (progress_of old) (progress_of now)
  here is so_far = subst (λ a. BuiltPrefix (setting_of old site) (FromBlock site.block) (left a) (progress_of old)
      (progress_of now)) is so_far.built

  -- it can be built
  pub list_next : {at : Option BlockId} {block : BlockId} → at ≡ Some block → ListSoFar old now site at
      → CanBuildList old.hir.now old.marks site.handler old.frames site.block
      → CanBuildList now.hir.now now.marks site.handler now.frames block
  list_next {block = block} is so_far can =
      subst (λ (z : Setting). CanBuildList z.hir now.marks site.handler z.context.frames block) (sym so_far.setting)
      (at_next old.hir.now can (here is so_far).marking)

  -- it is built
  pub list_further : {at rest : Option BlockId} {block : BlockId} {new : Builder} → at ≡ Some block
      → ListSoFar old now site at → setting_of new site ≡ setting_of now site
      → BuiltPrefix (setting_of now site) (FromBlock block) (left rest) (progress_of now) (progress_of new)
      → ListSoFar old new site rest
  list_further {rest = rest} {block} {new} is so_far same step = record {
    built = prefix_then (here is so_far) (subst (λ (z : Setting). BuiltPrefix z (FromBlock block) (left rest)
        (progress_of now) (progress_of new)) so_far.setting step);
    setting = same ∙ so_far.setting;
  }

  -- it is refused
  pub list_refused : {at : Option BlockId} {block : BlockId} → at ≡ Some block → ListSoFar old now site at
      → Refused now.hir.now (Spells (setting_of now site) (FromBlock block)) now.marks.used
      → Refused old.hir.now (Spells (setting_of old site) (FromBlock site.block)) old.marks.used
  list_refused {block = block} is so_far none = prefix_refused (here is so_far)
      (refused_in (λ z. Spells z (FromBlock block)) now.marks.used so_far.setting none)

  -- the list is at its end
  pub list_done : {at : Option BlockId} → at ≡ None → ListSoFar old now site at
      → BuiltPrefix (setting_of old site) (FromBlock site.block) Nothing (progress_of old) (progress_of now)
  list_done is so_far = subst (λ a. BuiltPrefix (setting_of old site) (FromBlock site.block) (left a) (progress_of old)
      (progress_of now)) is so_far.built
