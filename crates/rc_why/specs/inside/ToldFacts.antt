-- The facts of a scope by what the passes told, and by the environment as handed in.
use Rattle.std.specs.Prelude.{◌≡◌, All, Contains, List, [], map, slice_get}
use Rattle.std.specs.List.{find}
use Rattle.std.specs.Option.{option_map_or}
use Rattle.rc_hir.specs.Model.{DeclarationEntry, Environment, ReactiveScope}
use Rattle.rc_names.specs.Numbers.{DeclarationId, ScopeId, is_among}
use Rattle.rc_tree.specs.declared.fate.Fate.{Fate}
use Rattle.rc_tree.specs.declared.fate.Fate.TheVariants as fates
use Rattle.rc_tree.specs.declared.fate.ScopeFate.{ScopeFate}
use Rattle.rc_escape.specs.Outputs.{outputs}
use Rattle.rc_flow.specs.declared.invalidating_cause.InvalidatingCause.{InvalidatingCause}
use Rattle.rc_merge.specs.Explained.{pairs_of}
use Rattle.rc_merge.specs.Places.{scope_at}
use Rattle.rc_merge.specs.declared.facts.DepPair.{DepPair}
use Rattle.rc_merge.specs.declared.facts.MergedFacts.{MergedFacts}
use Rattle.rc_pipe.specs.declared.explaining.Told.{Told}
use Rattle.rc_why.specs.declared.reason.Facts.{Facts}
use Rattle.rc_why.specs.declared.reason.Facts.TheVariants as facts
use Rattle.rc_why.specs.declared.reason.Reason.{Reason}
use Rattle.rc_why.specs.declared.reasons.lookups.Lookups.{Lookups}
use Rattle.rc_why.specs.inside.Places.{ArePlaces}

-- the scope by which each value of the scope was declared; one outside the table declares none
abbrev pub declarers_of : ReactiveScope → List ScopeId
declarers_of own = map (λ (entry : DeclarationEntry). entry.value.scope) own.declarations

abbrev pub declarers_at : List ReactiveScope → ScopeId → List ScopeId
declarers_at scopes scope = option_map_or declarers_of (slice_get scopes scope.0) []

-- what the scope with that number depends on, by a table of scopes
abbrev pub told_pairs : Environment → List ReactiveScope → ScopeId → List DepPair
told_pairs env scopes scope = pairs_of env (scope_at scopes scope).own.dependencies

-- what merging told, as the facts of a reason
abbrev pub as_facts : MergedFacts → Facts
as_facts told =
    facts.Merged told.condition told.head told.outputs told.next told.sources told.uses told.end

-- the scopes of which merging told, and those of which the pass on scopes that always invalidate did
abbrev pub merged_scopes : List MergedFacts → List ScopeId
merged_scopes merged = map (λ (told : MergedFacts). told.scope) merged

abbrev pub caused_scopes : List InvalidatingCause → List ScopeId
caused_scopes causes = map (λ (cause : InvalidatingCause). cause.scope) causes

-- what merging told of the scope is among what it told
pub record IsToldMerged (merged : List MergedFacts) (scope : ScopeId) (it : Facts) : Type 0 where
  pub told : MergedFacts
  pub among : Contains merged told
  pub of : told.scope ≡ scope
  pub is : it ≡ as_facts told

-- a dependency that makes the scope always invalidate is among those that were told
pub record IsToldCause (causes : List InvalidatingCause) (scope : ScopeId) (it : Facts) : Type 0 where
  pub cause : InvalidatingCause
  pub among : Contains causes cause
  pub of : cause.scope ≡ scope
  pub is : it ≡ facts.AlwaysInvalidating cause.dependency

-- the facts of a scope with that fate
abbrev pub AreFactsBy : Environment → Told → ScopeId → Fate → Facts → Type 0
AreFactsBy env told scope fates.Kept it = it ≡ facts.Kept (find (is_among told.memoized) (outputs env scope))
AreFactsBy env told scope fates.NotEscaping it = it ≡ facts.NotEscaping (outputs env scope) told.memoized
AreFactsBy env told scope fates.Unused it = it ≡ facts.Unused (declarers_at told.received scope) 0 0
AreFactsBy env told scope (fates.DissolvedInto parent) it =
    it ≡ facts.Dissolved (told_pairs env told.received scope) (told_pairs env told.received parent)
AreFactsBy env told scope (fates.MergedInto head) it = IsToldMerged told.merged scope it
AreFactsBy env told scope fates.AlwaysInvalidating it = IsToldCause told.causes scope it

abbrev pub HasFactsBy : Environment → Told → Reason → Type 0
HasFactsBy env told reason = AreFactsBy env told reason.scope reason.fate reason.facts

-- where a pass told of each scope of that fate, it told of this one
abbrev pub IsThere : Told → ScopeId → Fate → Type 0
IsThere told scope (fates.MergedInto head) = Contains (merged_scopes told.merged) scope
IsThere told scope fates.AlwaysInvalidating = Contains (caused_scopes told.causes) scope
IsThere told scope other = Unit {0}

abbrev pub AreThere : Told → List ScopeFate → Type 0
AreThere told = All (λ (entry : ScopeFate). IsThere told entry.scope entry.fate)

-- the set has exactly these names
abbrev pub HasNames : List DeclarationId → List DeclarationId → Type 0
HasNames names set = (name : DeclarationId) → is_among set name ≡ is_among names name

-- what is looked up: the memoized names, and where the scopes are of which a pass told
pub record AreLookups (told : Told) (lookups : Lookups) : Type 0 where
  pub memoized : HasNames told.memoized lookups.memoized
  pub merged : ArePlaces (merged_scopes told.merged) lookups.merged
  pub causes : ArePlaces (caused_scopes told.causes) lookups.causes
