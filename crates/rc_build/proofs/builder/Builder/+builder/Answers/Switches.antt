use Rattle.std.proofs.Common.{refl, sym, ap, ◌∙◌, subst, arith, List, ◌∷◌, drop}
use Rattle.std.proofs.lemmas.Bool.{not-false, not-true}
use Rattle.rc_hir.specs.Model.{Case}
use Rattle.rc_hir.specs.declared.fault.Rule.TheVariants.{FallsElsewhere, SwitchCase}
use Rattle.rc_tree.specs.Model.{ReactiveSwitchCase}
use Rattle.rc_tree.specs.declared.terminal.ReactiveTerminal.TheVariants as tree
use Rattle.rc_runs.specs.declared.frames.Frame.TheVariants as frame_kinds
use Rattle.rc_build.specs.declared.builder.Site.{Site}
use Rattle.rc_build.specs.inside.Built.{Refused}
use Rattle.rc_build.specs.inside.CanBuild.{CanBuildList}
use Rattle.rc_build.specs.inside.Depths.{frames_inside}
use Rattle.rc_build.specs.inside.Setting.{Setting, setting_of, terminal_statement}
use Rattle.rc_build.specs.inside.Switches.{BuiltCases, CanBuildCases, SpellsKept}
use Rattle.rc_build.specs.inside.Task.{progress_of}
use Rattle.rc_build.proofs.BuildsLemmas.{breaks_rule, is_built, passes_on, same_graph}
use Rattle.rc_build.proofs.ListLemmas.{used_longer}
use Rattle.rc_build.proofs.StatementLemmas.{at_cases_site, falls_badly, setting_left}
use Rattle.rc_build.proofs.CanBuildCasesLemmas.{case_can}
use Rattle.rc_build.proofs.SwitchLemmas.{cases_done, cases_further, cases_left, cases_refused, cases_setting}
use Rattle.rc_build.proofs.SwitchLemmas.{cases_start, ends_at, ends_nowhere, fewer_cases}
use Rattle.rc_build.proofs.SwitchStatementLemmas.{kept_chosen, odd_cases, odd_none, odd_parts, odd_refused, or_parts}
use Rattle.rc_build.proofs.SwitchStatementLemmas.{switch_built, switch_can, switch_elsewhere, switch_refused}
use Rattle.rc_build.proofs.builder.Builder.+builder.Goals as goal

-- a switch

pub build_switch-returns-then-has_odd_cases : goal.build_switch-returns-then-has_odd_cases
build_switch-returns-then-has_odd_cases t c = λ span.
    let old = c.args.self.now in
    let odd = odd_parts _ _ (sym c.has_odd_cases.ensures ∙ c.if-has_odd_cases.true) in
    breaks_rule c.args.site.block SwitchCase c.malformed.ensures
    (odd_refused {s = setting_of old c.args.site} old.marks.used odd) (odd_cases c.requires.1 odd)

pub build_switch-returns-then-leaves_elsewhere : goal.build_switch-returns-then-leaves_elsewhere
build_switch-returns-then-leaves_elsewhere t c = λ span.
    let old = c.args.self.now in
    let opened = c.open_reachable-opened.ensures in
    let shut = not-true _ (sym c.leaves_elsewhere.ensures ∙ c.if-leaves_elsewhere.true) in
    breaks_rule c.args.site.block FallsElsewhere c.malformed-then-leaves_elsewhere.ensures
    (switch_elsewhere {s = setting_of old c.args.site} opened
    (kept_chosen c.args.cases.now c.args.fallthrough c.in_ok-kept.ensures c.is_target_inside-is_target.ensures)
    old.marks.used shut)
    (falls_badly c.args.site.next c.requires.1 refl opened (or_parts _ _ shut).1)

pub build_switch-build_cases_inside-requires : goal.build_switch-build_cases_inside-requires
build_switch-build_cases_inside-requires t c =
    let old = c.args.self.now in (
      omega arith,
      (
        subst (λ (z : List Case). CanBuildCases old.hir.now old.marks c.args.site.handler
            (frame_kinds.Mark ∷ frames_inside c.open_reachable-opened.result (frame_kinds.Switch c.args.fallthrough)
            old.frames) z)
            (sym c.in_ok-kept.ensures)
            (switch_can c.requires.1 c.open_reachable-opened.result c.is_target_inside-is_target.result),
        c.new-parts.ensures,
      ),
    )

pub build_switch-returns : goal.build_switch-returns
build_switch-returns t c = λ span.
    let old = c.args.self.now in
    passes_on refl refl c.in-Err.ensures
    (switch_refused {s = setting_of old c.args.site} c.open_reachable-opened.ensures
    (kept_chosen c.args.cases.now c.args.fallthrough c.in_ok-kept.ensures c.is_target_inside-is_target.ensures)
    old.marks.used)

pub build_switch-returns-in-Ok : goal.build_switch-returns-in-Ok
build_switch-returns-in-Ok t c = λ span.
    let old = c.args.self.now in
    let odd = odd_none _ _ (sym c.has_odd_cases.ensures ∙ c.if-has_odd_cases.false) in
    let falls = not-false _ (sym c.leaves_elsewhere.ensures ∙ c.if-leaves_elsewhere.false) in
    let parts = c.in-Ok.ensures in
    is_built c.open_reachable-opened.result
    (switch_built {s = setting_of old c.args.site} c.open_reachable-opened.ensures
    (kept_chosen c.args.cases.now c.args.fallthrough c.in_ok-kept.ensures c.is_target_inside-is_target.ensures) odd.0
    odd.1 falls parts.ok
    (ap (terminal_statement (tree.Switch c.args.test.now c.build_cases_inside.new.parts c.args.id)) c.label_at.ensures)
    c.in_ok-put_switch-in-Ok.ensures) parts.frames

-- its cases inside its frame

pub build_cases_inside-build_cases-requires : goal.build_cases_inside-build_cases-requires
build_cases_inside-build_cases-requires t c =
    let builder = c.args.self.now in (
      omega arith,
      (
        subst (λ (z : Site). CanBuildCases builder.hir.now builder.marks z.handler c.push.new.self c.args.kept.now)
            (sym c.inside.ensures)
            (subst (λ z. CanBuildCases builder.hir.now builder.marks c.args.site.handler z c.args.kept.now)
            (sym (c.in_ok-push.ensures.ok ∙ ap (λ z. frame_kinds.Mark ∷ z) c.in_ok-enter.ensures.ok)) c.requires.0),
        c.requires.1,
      ),
    )

pub build_cases_inside-returns-in_err-build_cases : goal.build_cases_inside-returns-in_err-build_cases
build_cases_inside-returns-in_err-build_cases t c =
    let old = c.args.self.now in
    passes_on c.from_residual-in_err-build_cases.ensures.1 refl c.in_err-build_cases.ensures
    (at_cases_site (λ z. Refused z.hir (SpellsKept z c.args.kept.now) old.marks.used) old c.args.opened c.args.frame
    c.args.site c.inside.result c.inside.ensures c.in_ok-enter.ensures.ok c.in_ok-push.ensures.ok)

pub build_cases_inside-returns : goal.build_cases_inside-returns
build_cases_inside-returns t c =
    let old = c.args.self.now in
    let started = record old { frames = c.push.new.self } in
    let marked = c.in_ok-push.ensures.ok ∙ ap (λ z. frame_kinds.Mark ∷ z) c.in_ok-enter.ensures.ok in
    let parts = c.in_ok-build_cases.ensures in
    is_built _
    (at_cases_site (λ z. BuiltCases z c.args.kept.now c.build_cases.new.parts (progress_of started)
    (progress_of c.build_cases.new.self)) old c.args.opened c.args.frame c.args.site c.inside.result c.inside.ensures
    c.in_ok-enter.ensures.ok c.in_ok-push.ensures.ok parts.ok)
    (setting_left old started c.build_cases.new.self c.args.site c.inside.result c.leave.new.self parts.frames refl refl
    (c.leave.ensures c.args.frame old.frames (c.pop.ensures.frames frame_kinds.Mark
    (frames_inside c.args.opened c.args.frame old.frames)
    (ap (λ (z : Setting). z.context.frames) parts.frames ∙ marked))))

-- the loop over them

pub build_cases-cases-init : goal.build_cases-cases-init
build_cases-cases-init t c = cases_start c.args.self.now c.args.site c.args.kept.now c.requires.1 c.requires.0

pub build_cases-build_apart-requires : goal.build_cases-build_apart-requires
build_cases-build_apart-requires t c =
    let now = c.cases.self in
    let end = ends_at c.cases.kept c.in-Some.is c.last_block.ensures.last in (
      omega (arith, cases_setting c.cases.invariant, used_longer c.cases.invariant.marking),
      subst (CanBuildList now.hir.now now.marks c.args.site.handler now.frames) end.is
          (case_can end.front end.last end.split c.cases.invariant.can),
    )

pub build_cases-returns-in_err-statements : goal.build_cases-returns-in_err-statements
build_cases-returns-in_err-statements t c =
    let end = ends_at c.cases.kept c.in-Some.is c.last_block.ensures.last in
    passes_on c.from_residual.ensures.1 (same_graph c.cases.invariant.setting) c.in_err-statements.ensures
    (cases_refused end.front end.last end.split end.is c.cases.invariant)

pub build_cases-cases-preserved : goal.build_cases-cases-preserved
build_cases-cases-preserved t c =
    let end = ends_at c.cases.kept c.in-Some.is c.last_block.ensures.last in
    let step = c.in_ok-statements.ensures in
    let taken = c.in_ok-put_case.ensures end.front end.last end.split in
    cases_further end.front end.last end.split end.is c.cases.invariant c.build_apart.new.self step.ok step.frames refl
    refl refl refl c.in_ok-push.ensures.ok taken.put taken.taken

pub build_cases-cases-smaller : goal.build_cases-cases-smaller
build_cases-cases-smaller t c =
    let end = ends_at c.cases.kept c.in-Some.is c.last_block.ensures.last in
    let taken = c.in_ok-put_case.ensures end.front end.last end.split in
    fewer_cases end.last end.split taken.taken

pub build_cases-returns : goal.build_cases-returns
build_cases-returns t c =
    let old = c.args.self.now in
    let so_far = c.cases.invariant in
    is_built _
    (subst (λ (z : List ReactiveSwitchCase). BuiltCases (setting_of old c.args.site) c.args.kept.now z (progress_of old)
    (progress_of c.cases.self)) (sym c.reverse.ensures)
    (cases_done (ends_nowhere c.cases.kept c.in_default.is c.last_block.ensures.none) so_far))
    (cases_left so_far (c.pop_many.ensures ∙ ap (λ n. drop n c.cases.self.frames) c.len.ensures))
