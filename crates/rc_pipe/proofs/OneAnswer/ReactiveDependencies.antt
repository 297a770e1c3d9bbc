-- The pass on dependencies has one result: which dependencies stay is decided by their names.
use Rattle.std.proofs.Common.{◌≡◌, ◌∙◌, ◌+◌, ℕ, Bool, List, [], ◌∷◌, ◌++◌, ap, refl, subst, sym}
use Rattle.std.specs.List.{filter}
use Rattle.rc_hir.specs.Model.{Environment, ReactiveScope, ReactiveScopeDependency}
use Rattle.rc_names.specs.Numbers.{ScopeId}
use Rattle.rc_tree.specs.Model.{ReactiveBlock}
use Rattle.rc_tree.proofs.StepLemmas.{Ok-injective}
use Rattle.rc_flow.specs.Flows.{flows_in}
use Rattle.rc_flow.specs.ReactiveDependencies.{HasReactiveDependencies, KeepReactive, KeepsReactive}
use Rattle.rc_flow.specs.declared.step.Step.{Step}
use Rattle.rc_pipe.proofs.OneAnswer.Unique.{one_truth}

module _ (env : Environment) (steps : List Step) where
  one_scope : (number : ScopeId) (old new new1 : ReactiveScope) → KeepsReactive env steps number old new
      → KeepsReactive env steps number old new1 → new ≡ new1
  one_scope number old new new1 is is1 =
      let same : is.stays ≡ is1.stays = λ i. λ dependency.
      one_truth (is.stays dependency) (is1.stays dependency) (is.tells dependency) (is1.tells dependency) i in
      is.kept ∙ ap (λ (stays : ReactiveScopeDependency → Bool).
      record old { dependencies = filter stays old.dependencies }) same ∙ sym is1.kept

  one_table : (number : ℕ) (olds news news1 : List ReactiveScope) → KeepReactive env steps number olds news
      → KeepReactive env steps number olds news1 → news ≡ news1
  one_table number [] [] [] is is1 = refl
  one_table number [] (new ∷ news) news1 is is1 = absurd is
  one_table number [] [] (new1 ∷ news1) is is1 = absurd is1
  one_table number (old ∷ olds) [] news1 is is1 = absurd is
  one_table number (old ∷ olds) (new ∷ news) [] is is1 = absurd is1
  one_table number (old ∷ olds) (new ∷ news) (new1 ∷ news1) is is1 = λ i.
      one_scope _ old new new1 is.0 is1.0 i ∷ one_table (number + 1) olds news news1 is.1 is1.1 i

pub one_environment : (body : ReactiveBlock) (old new new1 : Environment) → HasReactiveDependencies body old new
    → HasReactiveDependencies body old new1 → new ≡ new1
one_environment body old new new1 is is1 =
    let same = Ok-injective is.collecting is1.collecting (sym is.recorded ∙ is1.recorded) in
    let kept = subst (λ steps. KeepReactive old (steps ++ flows_in old body) 0 old.scopes new1.scopes) (sym same)
    is1.scopes in
    let tables = one_table old (is.collecting ++ flows_in old body) 0 old.scopes new.scopes new1.scopes is.scopes
    kept in
    is.others ∙ ap (λ (scopes : List ReactiveScope). record old { scopes = scopes }) tables ∙ sym is1.others
