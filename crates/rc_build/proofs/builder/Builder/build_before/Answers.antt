use Rattle.std.proofs.Common.{None, refl}
use Rattle.rc_build.proofs.BuildsLemmas.{is_built, passes_on}
use Rattle.rc_build.proofs.LoopLemmas.{before_none, before_refused, before_some}
use Rattle.rc_build.proofs.builder.Builder.build_before.Goals as goal

pub returns-in_default : goal.returns-in_default
returns-in_default c = is_built None (before_none c.in_default.is c.requires.marked) refl

pub returns-in_err-build_going : goal.returns-in_err-build_going
returns-in_err-build_going c =
    passes_on c.from_residual.ensures.1 refl c.in_err-build_going.ensures
    (before_refused c.args.self.now.marks.used c.in-Some.is)

pub returns : goal.returns
returns c =
    let built = c.in_ok-build_going.ensures in
    is_built _ (before_some c.in-Some.is built.ok) built.frames
