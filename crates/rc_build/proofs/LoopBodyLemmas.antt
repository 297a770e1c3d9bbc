-- The body of a loop, after its values: when it can be built, and what both give together.
use Rattle.std.proofs.Common.{◌≡◌, ◌≤◌, List, ◌∷◌, Ok, Some, refl, sym, subst, arith, length}
use Rattle.std.specs.Prelude.{IsSome}
use Rattle.rc_hir.specs.Model.{Terminal}
use Rattle.rc_tree.specs.Model.{ReactiveStatement}
use Rattle.rc_runs.specs.LoopParts.{loop_frame}
use Rattle.rc_build.specs.declared.builder.Builder.{Builder}
use Rattle.rc_build.specs.declared.builder.Site.{Site}
use Rattle.rc_build.specs.declared.loops.LoopBody.{LoopBody}
use Rattle.rc_build.specs.declared.loops.LoopTerminal.{LoopTerminal}
use Rattle.rc_build.specs.declared.loops.LoopValues.{LoopValues}
use Rattle.rc_build.specs.inside.Built.{BuiltList, BuiltPrefix, Refused}
use Rattle.rc_build.specs.inside.CanBuild.{CanBuildList, CanBuildTerminal}
use Rattle.rc_build.specs.inside.Depths.{frames_inside}
use Rattle.rc_build.specs.inside.LoopKinds.{blocks_of, loop_of, terminal_of}
use Rattle.rc_build.specs.inside.Loops.{BuildsLoopValues, LoopValuesBuilt, PutsLoop, TurnsBuilt, body_of, tree_of}
use Rattle.rc_build.specs.inside.Setting.{Setting, part_setting, setting_of}
use Rattle.rc_build.specs.inside.Task.{FromBlock, FromTerminal, Spells, left, progress_of}
use Rattle.rc_build.proofs.CanBuildTurnsLemmas.{body_can, turns_can}
use Rattle.rc_build.proofs.ListLemmas.{used_longer}
use Rattle.rc_build.proofs.LoopKindLemmas.{loop_same}
use Rattle.rc_build.proofs.LoopLemmas.{start_marked, turns_built, turns_refused_body, values_marked}
use Rattle.rc_build.proofs.LoopStatementLemmas.{loop_built, loop_refused, tree_there}

-- the terminal is a loop, whose values are built, and nothing else changed
pub record IsBegun (old late : Builder) (site : Site) (terminal : Terminal) (t : LoopTerminal) (values : LoopValues) :
    Type 0 where
  pub is : loop_of terminal ≡ Some t
  pub built : LoopValuesBuilt (setting_of old site) t values (progress_of old) (progress_of late)
  pub same : setting_of late site ≡ setting_of old site

pub begun : {old late : Builder} {site : Site} {terminal : Terminal} {t : LoopTerminal} {values : LoopValues}
    → loop_of terminal ≡ Some t → BuildsLoopValues old late site t (Ok values)
    → IsBegun old late site terminal t values
begun is builds = record { is = is; built = builds.ok; same = builds.frames }

module _ {old late : Builder} {site : Site} {terminal : Terminal} {t : LoopTerminal} {values : LoopValues}
    (looping : IsBegun old late site terminal t values) where
  -- the values leave no more blocks unused than there were
  pub values_longer : length old.marks.used ≤ length late.marks.used
  values_longer = omega (
    arith,
    used_longer looping.built.init.marking,
    used_longer (values_marked (setting_of old site) t looping.built.turn),
  )

  module _ (at : LoopBody) (place : at ≡ body_of t) where
    -- the body can be built inside the loop's frame
    pub looping_can : CanBuildTerminal old.hir.now old.marks site.handler old.frames site.block terminal
        → CanBuildList late.hir.now late.marks site.handler (frames_inside (Some at.fallthrough) at.frame late.frames)
        at.block
    looping_can can = subst
        (λ (z : LoopBody). CanBuildList late.hir.now late.marks site.handler
        (frames_inside (Some z.fallthrough) z.frame late.frames) z.block) (sym place)
        (subst
        (λ (z : Setting). CanBuildList z.hir late.marks site.handler (loop_frame (blocks_of t) ∷ z.context.frames)
        t.body) (sym looping.same)
        (body_can t (turns_can t (subst (CanBuildTerminal old.hir.now old.marks site.handler old.frames site.block)
        (loop_same terminal t looping.is) can) looping.built.init.marking looping.built.falls_apart
        looping.built.starts_apart) (values_marked (setting_of old site) t looping.built.turn)
        (start_marked (setting_of old site) t looping.built.turn)))

    -- what holds in the frame that is entered holds in the loop's
    in_frame : (P : Setting → LoopBody → Type 0)
        → P (part_setting (Some at.fallthrough) at.frame (setting_of late site)) at
        → P (part_setting (Some t.fallthrough) (loop_frame (blocks_of t)) (setting_of old site)) (body_of t)
    in_frame P holds = subst
        (λ (z : LoopBody). P (part_setting (Some z.fallthrough) z.frame (setting_of old site)) z) place
        (subst (λ (z : Setting). P (part_setting (Some at.fallthrough) at.frame z) at) looping.same holds)

    -- a loop whose body is refused after its values is refused
    pub looping_refused :
        Refused late.hir.now (Spells (part_setting (Some at.fallthrough) at.frame (setting_of late site))
        (FromBlock at.block)) late.marks.used
        → Refused old.hir.now (Spells (setting_of old site) (FromTerminal terminal)) old.marks.used
    looping_refused none = subst
        (λ z. Refused old.hir.now (Spells (setting_of old site) (FromTerminal z)) old.marks.used)
        (sym (loop_same terminal t looping.is))
        (loop_refused (setting_of old site) t looping.built.init
        (turns_refused_body (setting_of old site) t looping.built.turn
        (in_frame (λ s z. Refused s.hir (Spells s (FromBlock z.block)) late.marks.used) none)))

    module _ {body : List ReactiveStatement} (new : Builder)
        (built : BuiltList (part_setting (Some at.fallthrough) at.frame (setting_of late site)) at.block body
        (progress_of late) (progress_of new)) where
      turns : TurnsBuilt (setting_of old site) t (values.turn, body) looping.built.mid (progress_of new)
      turns = turns_built (setting_of old site) t looping.built.turn looping.built.falls_apart
          looping.built.starts_apart (in_frame (λ s z. BuiltList s z.block body (progress_of late) (progress_of new)) built)

      -- the parts are there that the loop's kind has
      pub looping_there : IsSome (tree_of t values body)
      looping_there = tree_there (setting_of old site) t looping.built.init turns looping.built.reached

      -- the statement of the loop is built
      pub looping_built : (whole : List ReactiveStatement) → PutsLoop new.out whole t values body
          → BuiltPrefix (setting_of old site) (FromTerminal terminal) (left (Some at.fallthrough)) (progress_of old)
          (record { marks = new.marks; out = whole })
      looping_built whole put = subst
          (λ z. BuiltPrefix (setting_of old site) (FromTerminal z) (left (Some at.fallthrough)) (progress_of old)
          (record { marks = new.marks; out = whole })) (sym (loop_same terminal t looping.is))
          (subst (λ (z : LoopBody). BuiltPrefix (setting_of old site) (FromTerminal (terminal_of t))
          (left (Some z.fallthrough)) (progress_of old) (record { marks = new.marks; out = whole })) (sym place)
          (loop_built (setting_of old site) t looping.built.init turns looping.built.reached put.1 refl put.2))
