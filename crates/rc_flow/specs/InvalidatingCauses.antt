-- What makes a scope always invalidate: the first of its dependencies that is unmemoized where a block of it ends.
use Rattle.std.specs.Prelude.{◌≡◌, ◌<◌, ℕ, List, Some, slice_get}
use Rattle.rc_hir.specs.Model.{Environment}
use Rattle.rc_tree.specs.Model.{ReactiveBlock}
use Rattle.rc_flow.specs.Unmemoized.{IsUnmemoized, dependencies_of}
use Rattle.rc_flow.specs.ValueSteps.{value_steps_in}
use Rattle.rc_flow.specs.declared.invalidating_cause.InvalidatingCause.{InvalidatingCause}
use Rattle.rc_flow.specs.declared.value_step.ValueStep.TheVariants.{Ends}

-- the first entry of a list that has something
pub record IsFirst {X : Type 0} (P : X → Type 0) (xs : List X) (x : X) : Type 0 where
  pub place : ℕ
  pub here : slice_get xs place ≡ Some x
  pub has : P x
  pub first : (earlier : ℕ) (other : X) → earlier < place → slice_get xs earlier ≡ Some other → ¬ P other

-- a block of the scope ends at a place of the body, and there the dependency is the scope's first unmemoized one
pub record IsInvalidatingCause (env : Environment) (body : ReactiveBlock) (cause : InvalidatingCause) : Type 0 where
  pub place : ℕ
  pub ends : slice_get (value_steps_in body) place ≡ Some (Ends cause.scope)
  pub dependency : IsFirst (IsUnmemoized env (value_steps_in body) place) (dependencies_of env cause.scope)
      cause.dependency
