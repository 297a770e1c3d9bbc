use Rattle.std.proofs.Common.{None, sym, ap, subst}
use Rattle.rc_build.specs.inside.CanBuild.{CanBuildList}
use Rattle.rc_build.specs.inside.Task.{Progress}
use Rattle.rc_build.proofs.BuildLemmas.{at_entry, at_outermost, function_built, none_spelled}
use Rattle.rc_build.proofs.BuildsLemmas.{passed_on}
use Rattle.rc_build.proofs.reactive_function.build.Goals as goal

pub build_list-requires : goal.build_list-requires
build_list-requires c =
    let builder = c.in_ok-builder.builder in
    let hir = c.args.hir.now in
    subst (λ z. CanBuildList z builder.marks None builder.frames hir.body.entry) (sym c.in_ok-builder.ensures.hir)
    (at_entry hir builder.marks builder.frames (ap (λ (z : Progress). z.marks) c.in_ok-builder.ensures.progress)
    c.in_ok-builder.ensures.frames)

pub returns-in_err-build_list-clause-refused : goal.returns-in_err-build_list-clause-refused
returns-in_err-build_list-clause-refused c = λ named rule e.
    let start = c.in_ok-builder.ensures in
    none_spelled (at_outermost c.in_ok-builder.builder c.args.hir.now.body.entry start.hir start.env start.frames)
    (ap (λ (z : Progress). z.marks) start.progress)
    (c.in_err-build_list.ensures.refused named rule (passed_on c.from_residual-in_err-build_list.ensures.1 e))

pub returns-clause-ok : goal.returns-clause-ok
returns-clause-ok c =
    let start = c.in_ok-builder.ensures in
    function_built (at_outermost c.in_ok-builder.builder c.args.hir.now.body.entry start.hir start.env start.frames)
    start.progress c.take-statements.ensures.list
    c.in_ok-build_list.ensures.ok c.in_ok-with_header.ensures
