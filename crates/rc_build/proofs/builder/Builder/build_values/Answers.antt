use Rattle.std.proofs.Common.{refl, sym, ◌∙◌, subst}
use Rattle.rc_hir.specs.declared.fault.Rule.TheVariants.{LoopLive}
use Rattle.rc_build.specs.inside.Loops.{CanBuildBefore, CanBuildTurns, SpellsTurnsOf, TurnValuesBuilt}
use Rattle.rc_build.specs.inside.Setting.{Setting, setting_of}
use Rattle.rc_build.specs.inside.Task.{progress_of}
use Rattle.rc_build.proofs.BuildsLemmas.{breaks_rule, is_built, passes_on, refused_in, same_graph}
use Rattle.rc_build.proofs.CanBuildTurnsLemmas.{init_can, turns_can}
use Rattle.rc_build.proofs.LoopLemmas.{before_at}
use Rattle.rc_build.proofs.LoopStatementLemmas.{init_refused, live_fact, live_refused, loop_refused, not_live}
use Rattle.rc_build.proofs.builder.Builder.build_values.Goals as goal

pub returns-then-is_live : goal.returns-then-is_live
returns-then-is_live c =
    let old = c.args.self.now in
    let live = sym c.is_live.ensures ∙ c.if-is_live.true in
    breaks_rule c.args.site.block LoopLive c.malformed.ensures
    (live_refused (setting_of old c.args.site) c.args.terminal.now old.marks.used live)
    (live_fact c.args.terminal.now c.requires live)

pub build_before-requires : goal.build_before-requires
build_before-requires c =
    let old = c.args.self.now in
    subst (CanBuildBefore old.hir.now old.marks) (sym c.init.ensures) (init_can c.args.terminal.now c.requires)

pub returns-in_err-init : goal.returns-in_err-init
returns-in_err-init c =
    let s = setting_of c.args.self.now c.args.site in
    passes_on c.from_residual.ensures.1 refl
    (before_at c.args.terminal.now c.init.ensures refl c.in_err-init.ensures)
    (init_refused s c.args.terminal.now c.args.self.now.marks.used)

pub build_turn_values-requires : goal.build_turn_values-requires
build_turn_values-requires c =
    let mid = c.build_before.new.self in
    let s = setting_of c.args.self.now c.args.site in
    let init = before_at c.args.terminal.now c.init.ensures refl c.in_ok-init.ensures in
    let free = not_live s c.args.terminal.now (sym c.is_live.ensures ∙ c.if-is_live.false) in
    subst (λ (z : Setting). CanBuildTurns z.hir mid.marks c.args.site.handler z.context.frames c.args.terminal.now)
    (sym init.frames) (turns_can c.args.terminal.now c.requires init.ok.marking free.0 free.1)

pub returns-in-Err : goal.returns-in-Err
returns-in-Err c =
    let s = setting_of c.args.self.now c.args.site in
    let init = before_at c.args.terminal.now c.init.ensures refl c.in_ok-init.ensures in
    passes_on refl (same_graph init.frames) c.in-Err.ensures
    (λ none. loop_refused s c.args.terminal.now init.ok
    (refused_in (λ z. SpellsTurnsOf z c.args.terminal.now) c.build_before.new.self.marks.used init.frames none))

pub returns-in-Ok : goal.returns-in-Ok
returns-in-Ok c =
    let s = setting_of c.args.self.now c.args.site in
    let init = before_at c.args.terminal.now c.init.ensures refl c.in_ok-init.ensures in
    let free = not_live s c.args.terminal.now (sym c.is_live.ensures ∙ c.if-is_live.false) in
    is_built _ (record {
      mid = progress_of c.build_before.new.self;
      init = init.ok;
      turn = subst (λ (z : Setting). TurnValuesBuilt z c.args.terminal.now c.in-Ok.turn
          (progress_of c.build_before.new.self) (progress_of c.build_turn_values.new.self)) init.frames
          c.in-Ok.ensures.ok;
      falls_apart = free.0;
      starts_apart = free.1;
      reached = free.2;
    }) (c.in-Ok.ensures.frames ∙ init.frames)
