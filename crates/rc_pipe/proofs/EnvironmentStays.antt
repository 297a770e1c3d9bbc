-- What the passes leave of the environment: no table gets shorter, and where no scope has an early return, none has one
-- after the pass on dependencies.
use Rattle.std.proofs.Common.{◌≡◌, ℕ, suc, ◌+◌, List, [], ◌∷◌, ◌++◌, length, arith, refl, sym, ap, subst}
use Rattle.std.specs.List.{position_or_len}
use Rattle.rc_hir.specs.KeptNumbers.{KeepsNumbers}
use Rattle.rc_hir.specs.Model.{Environment, ReactiveScope}
use Rattle.rc_tree.specs.Model.{ReactiveBlock}
use Rattle.rc_runs.specs.EarlyReturns.{NoEarlyReturnSet, returns_early}
use Rattle.rc_flow.specs.Flows.{flows_in}
use Rattle.rc_flow.specs.ReactiveDependencies.{HasReactiveDependencies, KeepReactive}
use Rattle.rc_flow.specs.declared.step.Step.{Step}

module _ (env : Environment) (steps : List Step) where
  -- the first scope with an early return stays where it is
  same_place : (number : ℕ) (olds news : List ReactiveScope) → KeepReactive env steps number olds news
      → (position_or_len returns_early news ≡ position_or_len returns_early olds) × (length news ≡ length olds)
  same_place number [] [] kept = (refl, refl)
  same_place number (old ∷ olds) (new ∷ news) kept =
      let rest = same_place (number + 1) olds news kept.1 in
      let here : returns_early new ≡ returns_early old = ap returns_early kept.0.kept in
      (rw (here, rest.0) refl, ap suc rest.1)
  same_place number [] (new ∷ news) kept = absurd kept
  same_place number (old ∷ olds) [] kept = absurd kept

-- so none has one after it
pub still_none : (old new : Environment) {body : ReactiveBlock} → HasReactiveDependencies body old new
    → NoEarlyReturnSet old → NoEarlyReturnSet new
still_none old new {body} parts none =
    let same = same_place old (parts.collecting ++ flows_in old body) 0 old.scopes new.scopes parts.scopes in
    rw (same.0, same.1) none

-- an environment keeps its own numbers
pub keeps_own : (env : Environment) → KeepsNumbers env env
keeps_own env = record {
  identifiers = omega arith;
  types = omega arith;
  scopes = omega arith;
  functions = omega arith;
  shapes = omega arith;
  next_block = omega arith;
}

-- what keeps the numbers twice keeps them
pub keeps_through : {first between last : Environment} → KeepsNumbers first between → KeepsNumbers between last
    → KeepsNumbers first last
keeps_through before after = record {
  identifiers = omega (arith, before.identifiers, after.identifiers);
  types = omega (arith, before.types, after.types);
  scopes = omega (arith, before.scopes, after.scopes);
  functions = omega (arith, before.functions, after.functions);
  shapes = omega (arith, before.shapes, after.shapes);
  next_block = omega (arith, before.next_block, after.next_block);
}

-- and the pass on dependencies keeps them
pub dependencies_keep_numbers : (old new : Environment) {body : ReactiveBlock} → HasReactiveDependencies body old new
    → KeepsNumbers old new
dependencies_keep_numbers old new {body} parts =
    let same = same_place old (parts.collecting ++ flows_in old body) 0 old.scopes new.scopes parts.scopes in
    subst (KeepsNumbers old) (sym parts.others) (record {
      identifiers = omega arith;
      types = omega arith;
      scopes = omega (arith, same.1);
      functions = omega arith;
      shapes = omega arith;
      next_block = omega arith;
    })
