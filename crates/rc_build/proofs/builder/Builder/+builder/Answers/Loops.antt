use Rattle.std.proofs.Common.{Some, refl, sym, ◌∙◌, subst, arith}
use Rattle.rc_build.specs.inside.Built.{Refused}
use Rattle.rc_build.specs.inside.Setting.{setting_of}
use Rattle.rc_build.specs.inside.Task.{FromTerminal, Spells}
use Rattle.rc_build.proofs.BuildsLemmas.{is_built, passes_on, same_graph}
use Rattle.rc_build.proofs.ListLemmas.{same_blocks}
use Rattle.rc_build.proofs.LoopBodyLemmas.{begun, looping_built, looping_can, looping_refused, looping_there}
use Rattle.rc_build.proofs.LoopBodyLemmas.{values_longer}
use Rattle.rc_build.proofs.LoopKindLemmas.{loop_same, loop_there}
use Rattle.rc_build.proofs.builder.Builder.+builder.Goals as goal

-- a terminal that is a loop

pub build_loop-returns-in_err-values : goal.build_loop-returns-in_err-values
build_loop-returns-in_err-values t c =
    let old = c.args.self.now in
    let found = loop_there c.requires.1 in
    passes_on c.from_residual.ensures.1 refl (c.in_err-values.ensures found.0 found.1)
    (subst (λ z. Refused old.hir.now (Spells (setting_of old c.args.site) (FromTerminal z)) old.marks.used)
    (sym (loop_same c.args.terminal.now found.0 found.1)))

pub build_loop-build_part-requires : goal.build_loop-build_part-requires
build_loop-build_part-requires t c =
    let found = loop_there c.requires.1 in
    let values = begun found.1 (c.in_ok-values.ensures found.0 found.1) in (
      omega (
        arith,
        same_blocks c.args.self.now c.build_values_of.new.self c.args.site values.same,
        values_longer values,
      ),
      looping_can values c.body_of-frame.result (c.body_of-frame.ensures found.0 found.1) c.requires.0,
    )

pub build_loop-returns-in-Err : goal.build_loop-returns-in-Err
build_loop-returns-in-Err t c =
    let found = loop_there c.requires.1 in
    let values = begun found.1 (c.in_ok-values.ensures found.0 found.1) in
    passes_on refl (same_graph values.same) c.in-Err.ensures
    (looping_refused values c.body_of-frame.result (c.body_of-frame.ensures found.0 found.1))

pub build_loop-put_loop-requires : goal.build_loop-put_loop-requires
build_loop-put_loop-requires t c =
    let found = loop_there c.requires.1 in
    let values = begun found.1 (c.in_ok-values.ensures found.0 found.1) in (
      found.0,
      found.1,
      looping_there values c.body_of-frame.result (c.body_of-frame.ensures found.0 found.1) c.build_part.new.self
          c.in-Ok.ensures.ok,
    )

pub build_loop-returns-in_ok-put_loop-in-Ok : goal.build_loop-returns-in_ok-put_loop-in-Ok
build_loop-returns-in_ok-put_loop-in-Ok t c =
    let found = loop_there c.requires.1 in
    let values = begun found.1 (c.in_ok-values.ensures found.0 found.1) in
    let body = c.in-Ok.ensures in
    is_built (Some c.body_of-frame.result.fallthrough)
    (looping_built values c.body_of-frame.result (c.body_of-frame.ensures found.0 found.1) c.build_part.new.self body.ok _
    (c.in_ok-put_loop-in-Ok.ensures found.0 found.1)) (body.frames ∙ values.same)
