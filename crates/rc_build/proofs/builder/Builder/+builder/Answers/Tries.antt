use Rattle.std.proofs.Common.{refl, sym, ap, ◌∙◌, subst, arith}
use Rattle.rc_tree.specs.declared.terminal.ReactiveTerminal.TheVariants as tree
use Rattle.rc_runs.specs.declared.frames.Frame.TheVariants as frame_kinds
use Rattle.rc_build.specs.declared.builder.Site.{Site}
use Rattle.rc_build.specs.inside.CanBuild.{CanBuildList}
use Rattle.rc_build.specs.inside.Depths.{frames_inside}
use Rattle.rc_build.specs.inside.Setting.{Setting, part_setting, setting_of, site_protected, terminal_statement}
use Rattle.rc_build.specs.inside.Task.{FromBlock, Spells}
use Rattle.rc_build.proofs.BuildsLemmas.{built_in, is_built, passes_on, refused_in, same_graph}
use Rattle.rc_build.proofs.BuiltLemmas.{marking_beside}
use Rattle.rc_build.proofs.ListLemmas.{as_few_left}
use Rattle.rc_build.proofs.TryLemmas.{part_there, protected_can, same_elsewhere, try_built, try_refused}
use Rattle.rc_build.proofs.TryLemmas.{try_refused_later, try_there}
use Rattle.rc_build.proofs.WalkLemmas.{at_first_part, at_part, none_used}
use Rattle.rc_build.proofs.builder.Builder.+builder.Goals as goal

-- a try

pub build_try-build_part-requires : goal.build_try-build_part-requires
build_try-build_part-requires t c =
    let old = c.args.self.now in
    let can = c.requires.1 in (
      omega arith,
      subst (λ (z : Site). CanBuildList old.hir.now old.marks z.handler
          (frames_inside c.open_reachable-opened.result (frame_kinds.Statement c.args.fallthrough) old.frames)
          c.args.part) (sym c.protected_by.ensures) (protected_can c.args.handler (try_there can)
          (at_first_part old.hir.now (frame_kinds.Statement c.args.fallthrough) c.open_reachable-opened.result can refl
          (none_used old.marks) (λ other. omega arith))),
    )

pub build_try-returns-in_err-block : goal.build_try-returns-in_err-block
build_try-returns-in_err-block t c = λ span.
    let at = c.open_reachable-opened.result in
    passes_on c.from_residual.ensures.1 refl
    (part_there at (frame_kinds.Statement c.args.fallthrough) c.protected_by.ensures c.in_err-block.ensures)
    (try_refused {s = setting_of c.args.self.now c.args.site} c.open_reachable-opened.ensures
    c.args.self.now.marks.used)

pub build_try-build_part-requires-2 : goal.build_try-build_part-requires-2
build_try-build_part-requires-2 t c =
    let old = c.args.self.now in
    let mid = c.build_part.new.self in
    let frame = frame_kinds.Statement c.args.fallthrough in
    let block = part_there c.open_reachable-opened.result (frame_kinds.Statement c.args.fallthrough)
    c.protected_by.ensures c.in_ok-block.ensures in
    let same = same_elsewhere old mid c.args.site (site_protected c.args.handler c.args.site) block.frames in (
      omega (arith, as_few_left block block.ok.marking),
      subst (λ (z : Setting). CanBuildList z.hir mid.marks c.args.site.handler
          (frames_inside c.open_reachable-opened.result frame z.context.frames) c.args.handler) (sym same)
          (at_part old.hir.now frame c.open_reachable-opened.result c.requires.1 refl (none_used mid.marks)
          (marking_beside old.hir.now block.ok.marking)),
    )

pub build_try-returns-in-Err : goal.build_try-returns-in-Err
build_try-returns-in-Err t c = λ span.
    let old = c.args.self.now in
    let mid = c.build_part.new.self in
    let block = part_there c.open_reachable-opened.result (frame_kinds.Statement c.args.fallthrough)
    c.protected_by.ensures c.in_ok-block.ensures in
    let same = same_elsewhere old mid c.args.site (site_protected c.args.handler c.args.site) block.frames in
    passes_on refl (same_graph same) c.in-Err.ensures
    (λ none. try_refused_later {s = setting_of old c.args.site} c.open_reachable-opened.ensures block.ok
    (refused_in (λ z. Spells (part_setting c.open_reachable-opened.result
    (frame_kinds.Statement c.args.fallthrough) z) (FromBlock c.args.handler)) mid.marks.used same none))

pub build_try-returns-in_ok-put_try-in-Ok : goal.build_try-returns-in_ok-put_try-in-Ok
build_try-returns-in_ok-put_try-in-Ok t c = λ span.
    let old = c.args.self.now in
    let mid = c.build_part.new.self in
    let block = part_there c.open_reachable-opened.result (frame_kinds.Statement c.args.fallthrough)
    c.protected_by.ensures c.in_ok-block.ensures in
    let other = c.in-Ok.ensures in
    let same = same_elsewhere old mid c.args.site (site_protected c.args.handler c.args.site) block.frames in
    is_built c.open_reachable-opened.result
    (try_built {s = setting_of old c.args.site} c.open_reachable-opened.ensures block.ok
    (built_in (λ z. Spells (part_setting c.open_reachable-opened.result (frame_kinds.Statement c.args.fallthrough) z)
    (FromBlock c.args.handler)) same other.ok)
    (ap (terminal_statement (tree.Try (record { statements = c.in_ok-block.block }) c.args.binding.now
    (record { statements = c.in-Ok.other }) c.args.id)) c.label_at-label.ensures) c.in_ok-put_try-in-Ok.ensures)
    (other.frames ∙ same)
