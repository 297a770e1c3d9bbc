use Rattle.std.proofs.Common.{◌∙◌, refl}
use Rattle.rc_build.proofs.BuildsLemmas.{is_built, passes_on}
use Rattle.rc_build.proofs.ValueEndLemmas.{put_made, put_refused}
use Rattle.rc_build.proofs.builder.Builder.put_behind.Goals as goal

pub returns-in_err-left_open : goal.returns-in_err-left_open
returns-in_err-left_open c = λ site value end is.
    passes_on c.from_residual.ensures.1 refl (c.in_err-left_open.ensures site)
    (put_refused c.args.row c.args.is_test c.args.self.now.marks.used is
    (c.row_answers-answers.ensures value (c.get.ensures ∙ is.is)))

pub returns : goal.returns
returns c = λ site value end is.
    let left = c.in_ok-left_open.ensures site in
    is_built _ (put_made is (c.row_answers-answers.ensures value (c.get.ensures ∙ is.is)) left.ok c.in_ok-behind.ensures.value
    c.in_ok-behind.ensures.end) left.frames
