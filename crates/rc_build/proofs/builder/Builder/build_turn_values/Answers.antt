use Rattle.std.proofs.Common.{refl, sym, ◌∙◌, subst}
use Rattle.rc_build.specs.inside.LoopKinds.{before_of}
use Rattle.rc_build.specs.inside.Loops.{CanBuildBefore, SpellsLoopBefore}
use Rattle.rc_build.specs.inside.Setting.{Setting, setting_of}
use Rattle.rc_build.proofs.BuildsLemmas.{is_built, passes_on, refused_in, same_graph}
use Rattle.rc_build.proofs.CanBuildTurnsLemmas.{before_can, test_can}
use Rattle.rc_build.proofs.LoopLemmas.{before_at, test_at, turns_refused_before, turns_refused_test, values_built}
use Rattle.rc_build.proofs.builder.Builder.build_turn_values.Goals as goal

pub build_test-requires : goal.build_test-requires
build_test-requires c = test_can c.args.terminal.now c.requires

pub returns-in_err-test : goal.returns-in_err-test
returns-in_err-test c =
    let s = setting_of c.args.self.now c.args.site in
    passes_on c.from_residual.ensures.1 refl
    (test_at c.args.terminal.now c.is_flat.ensures c.in_err-test.ensures)
    (turns_refused_test s c.args.terminal.now c.args.self.now.marks.used)

pub build_before-requires : goal.build_before-requires
build_before-requires c =
    let mid = c.build_test.new.self in
    let test = test_at c.args.terminal.now c.is_flat.ensures c.in_ok-test.ensures in
    subst (CanBuildBefore mid.hir.now mid.marks) (sym c.before-2.ensures)
    (subst (λ (z : Setting). CanBuildBefore z.hir mid.marks (before_of c.args.terminal.now.kind)) (sym test.frames)
    (before_can c.args.terminal.now c.requires test.ok.marking))

pub returns-in-Err : goal.returns-in-Err
returns-in-Err c =
    let mid = c.build_test.new.self in
    let s = setting_of c.args.self.now c.args.site in
    let test = test_at c.args.terminal.now c.is_flat.ensures c.in_ok-test.ensures in
    passes_on refl (same_graph test.frames)
    (before_at c.args.terminal.now c.before-2.ensures c.is_flat.ensures c.in-Err.ensures)
    (λ none. turns_refused_before s c.args.terminal.now test.ok
    (refused_in (λ z. SpellsLoopBefore z c.args.terminal.now) mid.marks.used test.frames none))

pub returns-in-Ok : goal.returns-in-Ok
returns-in-Ok c =
    is_built _ (values_built c.args.terminal.now c.args.site c.is_flat.ensures c.before-2.ensures c.in_ok-test.ensures
    c.in-Ok.ensures) (c.in-Ok.ensures.frames ∙ c.in_ok-test.ensures.frames)
