-- The fault of the rules for unused scopes names a number that is in the tree, and that is outside its table.
use Rattle.std.proofs.Common.{◌≡◌, ◌⊎◌, inl, inr, Option, None, Some, Any, slice_get, arith, refl, sym, subst}
use Rattle.std.specs.Prelude.{IfErr}
use Rattle.rc_tree.proofs.PlaceLemmas.{past_end}
use Rattle.rc_hir.specs.Names.{IsOutside, lengths}
use Rattle.rc_hir.specs.PartNames.{Name, scope_name}
use Rattle.rc_hir.specs.Model.{Environment, Fault, ReactiveScope}
use Rattle.rc_hir.specs.declared.fault.Fault.TheVariants.{NoMemory}
use Rattle.rc_hir.specs.declared.fault.TableName.TheVariants.{Scopes}
use Rattle.rc_tree.proofs.RebuiltNamesFault.{FaultsByScopes, rebuilt_faults}
use Rattle.rc_tree.specs.TreeNames.{TreeInTables, TreeNamesOutside, names_in}
use Rattle.rc_tree.specs.Model.{ReactiveBlock, ReactiveFunction, ReactiveScopeBlock}
use Rattle.rc_checks.proofs.FaultNames.{no_name_outside, of_body}
use Rattle.rc_checks.proofs.UnusedScopes.UsedScopesStay.{names_a_scope_block}
use Rattle.rc_checks.specs.UnusedScopes.{IsFirstScopeOutside, IsScopeOutside, Progress, judged, nothing_met}
use Rattle.rc_checks.specs.UnusedScopes.{unused_scope_rules}

module _ (env : Environment) (fault : Fault) where
  -- the rule for a scope block faults where its scope is outside the table
  scope_fault : (around : Progress) (x : ReactiveScopeBlock) (met : Progress) (found : Option ReactiveScope)
      → slice_get env.scopes x.scope.0 ≡ found
      → IfErr (judged found around x met) (λ f. f ≡ fault → Any (IsOutside (lengths env 0) fault) (scope_name x.scope))
  scope_fault around x met None is = λ e.
      let name : Name = (Scopes, x.scope.0) in
      (0, name, omega arith, refl, (sym e, past_end env.scopes x.scope.0 is))
  scope_fault around x met (Some scope) is = tt

  by_scopes : FaultsByScopes (unused_scope_rules env) fault (IsOutside (lengths env 0) fault)
  by_scopes = record {
    row = λ x s. tt;
    terminal = λ x s. tt;
    pruned_scope = λ x s. tt;
    scope = λ around x met. scope_fault around x met (slice_get env.scopes x.scope.0) refl;
    block = λ xs s. tt;
  }

  -- the fault of the rules names a number of the tree
  pub named_outside : (func : ReactiveFunction) → (fault ≡ NoMemory) ⊎ IsFirstScopeOutside env func.body fault
      → (fault ≡ NoMemory) ⊎ TreeNamesOutside func env fault
  named_outside func (inl memory) = inl memory
  named_outside func (inr missing) = inr (of_body func env fault (inl
      (subst (λ e. IfErr e (λ f. f ≡ fault → Any (IsOutside (lengths env 0) fault) (names_in func.body))) missing
      (rebuilt_faults (unused_scope_rules env) fault (IsOutside (lengths env 0) fault) by_scopes func.body nothing_met)
      refl)))

  -- it names the scope of a scope block
  pub first_is_outside : (before : ReactiveBlock) → (fault ≡ NoMemory) ⊎ IsFirstScopeOutside env before fault
      → (fault ≡ NoMemory) ⊎ IsScopeOutside env before fault
  first_is_outside before (inl memory) = inl memory
  first_is_outside before (inr missing) = inr (names_a_scope_block env before fault missing)

  -- where every number is in its table, the only fault is out of memory
  pub only_memory : (func : ReactiveFunction) → TreeInTables func env
      → (fault ≡ NoMemory) ⊎ TreeNamesOutside func env fault → fault ≡ NoMemory
  only_memory func known (inl memory) = memory
  only_memory func known (inr named) = absurd (no_name_outside func env fault known named)
