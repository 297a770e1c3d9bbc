-- The dependencies that stay: those whose names are reactive wherever a block of their scope ends.
use Rattle.std.specs.Prelude.{◌≡◌, ◌+◌, ◌↔◌, ℕ, Bool, true, List, [], ◌∷◌, ◌++◌, Some, Ok, slice_get}
use Rattle.std.specs.List.{filter}
use Rattle.rc_hir.specs.Model.{Environment, ReactiveScope, ReactiveScopeDependency}
use Rattle.rc_names.specs.Numbers.{ScopeId, to_id}
use Rattle.rc_tree.specs.Model.{ReactiveBlock}
use Rattle.rc_flow.specs.Collected.{recorded_steps}
use Rattle.rc_flow.specs.Flows.{flows_in}
use Rattle.rc_flow.specs.Reached.{IsReached}
use Rattle.rc_flow.specs.declared.step.Step.{Step}
use Rattle.rc_flow.specs.declared.step.Step.TheVariants.{Ends}

module _ (env : Environment) (steps : List Step) where
  -- the dependency's name is reactive wherever a block of its scope ends
  abbrev pub Stays : ScopeId → ReactiveScopeDependency → Type 0
  Stays scope dependency = (place : ℕ) → slice_get steps place ≡ Some (Ends scope)
      → IsReached env steps place dependency.identifier

  -- the scope keeps exactly the dependencies that stay, in their order
  pub record KeepsReactive (number : ScopeId) (old new : ReactiveScope) : Type 0 where
    pub stays : ReactiveScopeDependency → Bool
    pub tells : (dependency : ReactiveScopeDependency) → (stays dependency ≡ true) ↔ Stays number dependency
    pub kept : new ≡ record old { dependencies = filter stays old.dependencies }

  -- so does each scope of a list, whose numbers go on from that one
  abbrev pub KeepReactive : ℕ → List ReactiveScope → List ReactiveScope → Type 0
  KeepReactive number [] [] = Unit {0}
  KeepReactive number (old ∷ olds) (new ∷ news) =
      KeepsReactive (to_id number) old new × KeepReactive (number + 1) olds news
  KeepReactive number _ _ = ⊥

-- the second environment is the first one, where each scope keeps exactly the dependencies that stay over the
-- collecting steps of the body and then its flows
pub record HasReactiveDependencies (body : ReactiveBlock) (old new : Environment) : Type 0 where
  pub collecting : List Step
  pub recorded : recorded_steps old body ≡ Ok collecting
  pub others : new ≡ record old { scopes = new.scopes }
  pub scopes : KeepReactive old (collecting ++ flows_in old body) 0 old.scopes new.scopes
