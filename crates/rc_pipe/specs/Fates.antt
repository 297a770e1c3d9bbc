-- The fates of the scope blocks of a spelled tree. Each pass has a rule, which is judged on the function and the
-- environment that the pass received. The first rule that applies, in the order of the passes, gives the fate, and a
-- scope is kept where none does.
use Rattle.std.specs.Prelude.{◌≡◌, ◌↔◌, List, All, Contains, map}
use Rattle.std.specs.List.Sorted.{IsStrictlyIncreasing}
use Rattle.rc_names.specs.Numbers.{ScopeId}
use Rattle.rc_tree.specs.Decided.{IsFateBy}
use Rattle.rc_tree.specs.Model.{ReactiveBlock}
use Rattle.rc_tree.specs.ScopesIn.{scopes_in}
use Rattle.rc_tree.specs.declared.fate.Fate.TheVariants.{Kept}
use Rattle.rc_tree.specs.declared.fate.ScopeFate.{ScopeFate}
use Rattle.rc_pipe.specs.Passes.{IsPruned, PassState, fate_rules}

-- the listed scopes, in the order of the list
abbrev pub listed_scopes : List ScopeFate → List ScopeId
listed_scopes fates = map (λ entry. entry.scope) fates

module _ {spelled pruned : PassState} (passes : IsPruned spelled pruned) where
  -- each scope of the spelled tree is listed once, in ascending order, with its fate
  pub record AreFates (fates : List ScopeFate) : Type 0 where
    pub rising : IsStrictlyIncreasing (map (λ scope. scope.0) (listed_scopes fates))
    pub listed : (scope : ScopeId) → Contains (listed_scopes fates) scope ↔ Contains (scopes_in spelled.func.body) scope
    pub told : All (λ entry. IsFateBy (fate_rules passes) entry.scope entry.fate) fates

-- the scopes that have a scope block in the body are exactly those whose fate is kept
abbrev pub AreKeptExactly : ReactiveBlock → List ScopeFate → Type 0
AreKeptExactly body fates = All (λ entry. (entry.fate ≡ Kept) ↔ Contains (scopes_in body) entry.scope) fates
