use Rattle.std.proofs.Common.{[], ◌∷◌, ◌++◌, Some, None, refl, sym, ap, ◌∙◌, subst, arith}
use Rattle.rc_hir.specs.declared.fault.Rule.TheVariants.{BreakTarget, FallsElsewhere}
use Rattle.rc_hir.specs.declared.terminal.Terminal.TheVariants as terminals
use Rattle.rc_tree.specs.declared.terminal.ReactiveTerminal.TheVariants as tree
use Rattle.rc_runs.specs.TreeOf.{statements_of}
use Rattle.rc_runs.specs.declared.frames.Frame.TheVariants as frame_kinds
use Rattle.rc_build.specs.declared.builder.Site.{Site}
use Rattle.rc_build.specs.inside.Built.{BuildsList}
use Rattle.rc_build.specs.inside.CanBuild.{CanBuildList}
use Rattle.rc_build.specs.inside.Depths.{frames_inside}
use Rattle.rc_build.specs.inside.Setting.{Setting, part_setting, setting_of, terminal_statement}
use Rattle.rc_build.specs.inside.Task.{FromBlock, Spells, SpellsAlternate}
use Rattle.rc_build.proofs.BranchLemmas.{alternate_lost, branch_built, branch_can, branch_lost, branch_refused}
use Rattle.rc_build.proofs.BranchLemmas.{branch_refused_later, consequent_broken, consequent_list, consequent_lost}
use Rattle.rc_build.proofs.BranchLemmas.{consequent_refused}
use Rattle.rc_build.proofs.BuildsLemmas.{breaks_rule, builds_at, built_in, is_built, list_at, passes_on, refused_in}
use Rattle.rc_build.proofs.BuildsLemmas.{same_graph}
use Rattle.rc_build.proofs.BuiltLemmas.{marking_beside, marking_none}
use Rattle.rc_build.proofs.IfLemmas.{alternate_absent, alternate_present, alternate_refused, elsewhere_parts, if_built}
use Rattle.rc_build.proofs.IfLemmas.{if_elsewhere, if_refused, if_refused_later}
use Rattle.rc_build.proofs.ListLemmas.{as_few_left}
use Rattle.rc_build.proofs.StatementLemmas.{falls_badly}
use Rattle.rc_build.proofs.WalkLemmas.{at_arm, at_first_part, at_part, none_used}
use Rattle.rc_build.proofs.builder.Builder.+builder.Goals as goal

-- a branch in a list

pub build_branch-returns-then-is_jump_target : goal.build_branch-returns-then-is_jump_target
build_branch-returns-then-is_jump_target t c = λ span.
    let old = c.args.self.now in
    let target = sym c.is_jump_target.ensures ∙ c.if-is_jump_target.true in
    breaks_rule c.args.site.block BreakTarget c.malformed.ensures
    (branch_lost {s = setting_of old c.args.site} old.marks.used target) (alternate_lost c.requires.1 target)

pub build_branch-build_consequent-requires : goal.build_branch-build_consequent-requires
build_branch-build_consequent-requires t c =
    (omega arith, (c.args.test.now, c.args.alternate, c.requires.0, c.requires.1))

pub build_branch-returns-in_err-part : goal.build_branch-returns-in_err-part
build_branch-returns-in_err-part t c = λ span.
    passes_on c.from_residual.ensures.1 refl c.in_err-part.ensures (branch_refused c.args.self.now.marks.used)

pub build_branch-build_apart-requires : goal.build_branch-build_apart-requires
build_branch-build_apart-requires t c =
    let old = c.args.self.now in
    let part = c.in_ok-part.ensures in
    let mid = c.build_consequent.new.self in (
      omega (arith, as_few_left part part.ok.marking),
      subst (λ (z : Site). CanBuildList mid.hir.now mid.marks z.handler mid.frames z.block) (sym c.at.ensures)
          (subst (λ (z : Setting). CanBuildList z.hir mid.marks c.args.site.handler z.context.frames c.args.alternate)
          (sym part.frames)
          (at_arm old.hir.now c.requires.1 (marking_beside old.hir.now part.ok.marking))),
    )

pub build_branch-returns-in_err-statements : goal.build_branch-returns-in_err-statements
build_branch-returns-in_err-statements t c = λ span.
    let part = c.in_ok-part.ensures in
    passes_on c.from_residual-in_err-statements.ensures.1 (same_graph part.frames)
    (list_at {site = c.args.site} c.args.alternate c.at.ensures c.in_err-statements.ensures)
    (λ none. branch_refused_later part.ok
    (refused_in (λ z. Spells z (FromBlock c.args.alternate)) c.build_consequent.new.self.marks.used part.frames none))

pub build_branch-returns : goal.build_branch-returns
build_branch-returns t c = λ span.
    let part = c.in_ok-part.ensures in
    let other = list_at {site = c.args.site} c.args.alternate c.at.ensures c.in_ok-statements.ensures in
    is_built None
    (branch_built part.ok (built_in (λ z. Spells z (FromBlock c.args.alternate)) part.frames other.ok)
    refl c.in_ok-put_if.ensures) (other.frames ∙ part.frames)

-- its consequent

pub build_consequent-put_break-requires : goal.build_consequent-put_break-requires
build_consequent-put_break-requires t c =
    let can = c.requires.3 in (
      terminals.Branch c.requires.0 c.args.consequent c.requires.1 c.args.id c.requires.2,
      branch_can can (sym c.is_jump_target.ensures ∙ c.if-is_jump_target.true),
    )

pub build_consequent-returns-in_err-put_break : goal.build_consequent-returns-in_err-put_break
build_consequent-returns-in_err-put_break t c =
    let target = sym c.is_jump_target.ensures ∙ c.if-is_jump_target.true in
    passes_on c.from_residual.ensures.1 refl c.in_err-put_break.ensures
    (consequent_lost {s = setting_of c.args.self.now c.args.site} c.args.consequent c.args.id c.args.self.now.marks.used
    target)

pub build_consequent-returns-then-is_jump_target : goal.build_consequent-returns-then-is_jump_target
build_consequent-returns-then-is_jump_target t c =
    let old = c.args.self.now in
    let target = sym c.is_jump_target.ensures ∙ c.if-is_jump_target.true in
    let broken = c.in_ok-put_break.ensures in
    is_built c.replace.result
    (consequent_broken {s = setting_of old c.args.site} c.args.consequent c.args.id target broken.ok.asked
    (c.replace.ensures.value ∙ broken.ok.put ∙ ap (λ z. z ++ statements_of broken.ok.statements)
    c.take-outer.ensures.left)
    broken.ok.kept c.requires.3.marked (c.replace.ensures.after ∙ c.take-outer.ensures.list)) broken.frames

pub build_consequent-build_apart-requires : goal.build_consequent-build_apart-requires
build_consequent-build_apart-requires t c =
    let old = c.args.self.now in
    let can = c.requires.3 in (
      omega arith,
      subst (λ (z : Site). CanBuildList old.hir.now old.marks z.handler old.frames z.block) (sym c.at.ensures)
          (at_arm old.hir.now can (marking_none old.hir.now
          (c.args.consequent ∷ c.requires.1 ∷ []) old.marks can.marked)),
    )

pub build_consequent-returns : goal.build_consequent-returns
build_consequent-returns t c =
    let old = c.args.self.now in
    let apart = sym c.is_jump_target.ensures ∙ c.if-is_jump_target.false in
    builds_at c.args.consequent (λ list b. consequent_list c.args.consequent c.args.id b)
    (consequent_refused {s = setting_of old c.args.site} c.args.consequent c.args.id old.marks.used apart)
    (subst (λ (z : Site). BuildsList old c.build_apart.new.self z z.block c.build_apart.result) c.at.ensures
    c.build_apart.ensures)

-- an if

pub build_if-returns-then-falls_elsewhere : goal.build_if-returns-then-falls_elsewhere
build_if-returns-then-falls_elsewhere t c = λ span.
    let opened = c.open_reachable-opened.ensures in
    let parts = elsewhere_parts _ _ (sym c.falls_elsewhere.ensures ∙ c.if-falls_elsewhere.true) in
    breaks_rule c.args.site.block FallsElsewhere c.malformed.ensures
    (if_elsewhere opened c.args.self.now.marks.used parts.0 parts.1)
    (falls_badly c.args.site.next c.requires.1 refl opened parts.1)

pub build_if-build_part-requires : goal.build_if-build_part-requires
build_if-build_part-requires t c = (
  omega arith,
  at_first_part c.args.self.now.hir.now (frame_kinds.Statement c.args.fallthrough) c.open_reachable-opened.result
      c.requires.1 refl (none_used c.args.self.now.marks) (λ other. omega arith),
)

pub build_if-returns-in_err-part : goal.build_if-returns-in_err-part
build_if-returns-in_err-part t c = λ span.
    passes_on c.from_residual.ensures.1 refl c.in_err-part.ensures
    (if_refused c.open_reachable-opened.ensures c.args.self.now.marks.used)

pub build_if-build_alternate-requires : goal.build_if-build_alternate-requires
build_if-build_alternate-requires t c =
    let old = c.args.self.now in
    let part = c.in_ok-part.ensures in
    let mid = c.build_part.new.self in
    let frame = frame_kinds.Statement c.args.fallthrough in (
      omega (arith, as_few_left part part.ok.marking),
      subst (λ (z : Setting). CanBuildList z.hir mid.marks c.args.site.handler
          (frames_inside c.open_reachable-opened.result frame
          z.context.frames) c.args.alternate) (sym part.frames)
          (at_part old.hir.now frame c.open_reachable-opened.result
          c.requires.1 refl (none_used mid.marks) (marking_beside old.hir.now part.ok.marking)),
    )

pub build_if-returns-in-Err : goal.build_if-returns-in-Err
build_if-returns-in-Err t c = λ span.
    let part = c.in_ok-part.ensures in
    passes_on refl (same_graph part.frames) c.in-Err.ensures
    (λ none. if_refused_later c.open_reachable-opened.ensures part.ok
    (refused_in (λ z. SpellsAlternate (part_setting c.open_reachable-opened.result
    (frame_kinds.Statement c.args.fallthrough) z) c.args.alternate c.args.fallthrough) c.build_part.new.self.marks.used
    part.frames none))

pub build_if-returns-in_ok-put_if-in-Ok : goal.build_if-returns-in_ok-put_if-in-Ok
build_if-returns-in_ok-put_if-in-Ok t c = λ span.
    let part = c.in_ok-part.ensures in
    let other = c.in-Ok.ensures in
    is_built c.open_reachable-opened.result
    (if_built c.open_reachable-opened.ensures (sym c.falls_elsewhere.ensures ∙ c.if-falls_elsewhere.false) part.ok
    (built_in (λ z. SpellsAlternate (part_setting c.open_reachable-opened.result
    (frame_kinds.Statement c.args.fallthrough) z) c.args.alternate c.args.fallthrough) part.frames other.ok)
    (ap (terminal_statement (tree.If c.args.test.now (record { statements = c.in_ok-part.part }) c.in-Ok.other
    c.args.id)) c.label_at-label.ensures) c.in_ok-put_if-in-Ok.ensures)
    (other.frames ∙ part.frames)

-- an alternate

pub build_alternate-returns-then-eq : goal.build_alternate-returns-then-eq
build_alternate-returns-then-eq t c =
    is_built None (alternate_absent (part_setting c.args.opened (frame_kinds.Statement c.args.fallthrough)
    (setting_of c.args.self.now c.args.site)) c.args.alternate c.args.fallthrough (sym c.eq.ensures ∙ c.if-eq.true)
    c.requires.marked) refl

pub build_alternate-returns-in_err-statements : goal.build_alternate-returns-in_err-statements
build_alternate-returns-in_err-statements t c =
    passes_on c.from_residual.ensures.1 refl c.in_err-statements.ensures
    (alternate_refused c.args.fallthrough c.args.self.now.marks.used (sym c.eq.ensures ∙ c.if-eq.false))

pub build_alternate-returns : goal.build_alternate-returns
build_alternate-returns t c =
    is_built (Some (record { statements = c.in_ok-statements.statements }))
    (alternate_present c.args.fallthrough (sym c.eq.ensures ∙ c.if-eq.false) c.in_ok-statements.ensures.ok)
    c.in_ok-statements.ensures.frames
