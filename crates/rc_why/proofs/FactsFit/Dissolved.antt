-- The facts of a dissolved scope fit: it has the dependencies of the nearest scope around it.
use Rattle.std.proofs.Common.{◌≡◌, List, subst, sym}
use Rattle.rc_hir.specs.Model.{Environment}
use Rattle.rc_names.specs.Numbers.{ScopeId}
use Rattle.rc_tree.specs.Model.{ReactiveBlock}
use Rattle.rc_tree.specs.declared.fate.Fate.TheVariants.{DissolvedInto}
use Rattle.rc_merge.proofs.DissolvedExactly.{dissolves_exactly}
use Rattle.rc_merge.specs.Merged.{merging_rule}
use Rattle.rc_merge.specs.Places.{scope_at}
use Rattle.rc_merge.specs.declared.facts.DepPair.{DepPair}
use Rattle.rc_why.proofs.FactsFit.SamePairs.{same_dependencies, turned}
use Rattle.rc_why.specs.Pairs.{HaveSamePairs}
use Rattle.rc_why.specs.ReasonOf.{pairs_at}

module _ (env : Environment) (body : ReactiveBlock) (scope parent : ScopeId) where
  same_as_parent : merging_rule env body scope (DissolvedInto parent)
      → HaveSamePairs (pairs_at env scope) (pairs_at env parent)
  same_as_parent (after, new, log, merges, told) =
      let shares = (dissolves_exactly body env after new log merges scope parent).0 told in
      turned (pairs_at env parent) (pairs_at env scope) (same_dependencies env
      (scope_at env.scopes parent).own.dependencies (scope_at env.scopes scope).own.dependencies shares.same)

  pub dissolved_fits : (own around : List DepPair) → merging_rule env body scope (DissolvedInto parent)
      → own ≡ pairs_at env scope → around ≡ pairs_at env parent → HaveSamePairs own around
  dissolved_fits own around rule is other =
      subst (λ pairs. HaveSamePairs pairs around) (sym is)
      (subst (HaveSamePairs (pairs_at env scope)) (sym other) (same_as_parent rule))
