-- The pass on scopes that always invalidate has one result: the answer for each scope block is decided by its place.
use Rattle.std.proofs.Common.{◌≡◌, ◌∙◌, ◌+◌, ℕ, Bool, List, [], ◌∷◌, subst, sym}
use Rattle.rc_hir.specs.Model.{Environment}
use Rattle.rc_tree.specs.Model.{ReactiveBlock}
use Rattle.rc_tree.specs.declared.fate.ScopeFate.{ScopeFate}
use Rattle.rc_flow.specs.AlwaysInvalidating.{IsRebuiltBy, PrunesInvalidating}
use Rattle.rc_flow.specs.Unmemoized.{AreAnswers}
use Rattle.rc_flow.specs.ValueSteps.{value_steps_in}
use Rattle.rc_flow.specs.declared.value_step.ValueStep.{ValueStep}
use Rattle.rc_flow.specs.declared.value_step.ValueStep.TheVariants.{Makes, Copies, Ends}
use Rattle.rc_pipe.proofs.OneAnswer.Unique.{one_end, one_truth}

module _ (env : Environment) (steps : List ValueStep) where
  one_answers : (place : ℕ) (rest : List ValueStep) (answers answers1 : List Bool)
      → AreAnswers env steps place rest answers → AreAnswers env steps place rest answers1 → answers ≡ answers1
  one_answers place [] answers answers1 is is1 = is ∙ sym is1
  one_answers place (Makes name in_scope ∷ rest) answers answers1 is is1 =
      one_answers (place + 1) rest answers answers1 is is1
  one_answers place (Copies from to ∷ rest) answers answers1 is is1 =
      one_answers (place + 1) rest answers answers1 is is1
  one_answers place (Ends scope ∷ rest) [] answers1 is is1 = absurd is
  one_answers place (Ends scope ∷ rest) (answer ∷ answers) [] is is1 = absurd is1
  one_answers place (Ends scope ∷ rest) (answer ∷ answers) (answer1 ∷ answers1) is is1 = λ i.
      one_truth answer answer1 is.0 is1.0 i ∷ one_answers (place + 1) rest answers answers1 is.1 is1.1 i

pub one_body : (env : Environment) (before after after1 : ReactiveBlock) (log log1 : List ScopeFate)
    → PrunesInvalidating env before after log → PrunesInvalidating env before after1 log1 → after ≡ after1
one_body env before after after1 log log1 is is1 =
    let steps = value_steps_in before in
    let same = one_answers env steps 0 steps is.without.answers is1.without.answers is.without.right is1.without.right
    in
    let a = is.without.rebuilt in
    let b = subst (λ answers. IsRebuiltBy answers before after1) (sym same) is1.without.rebuilt in
    (one_end a.left b.left after after1 a.rebuilt b.rebuilt).1
