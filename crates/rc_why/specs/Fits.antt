-- When the facts of a reason fit its fate: they are of its kind, and they are what the rule of that fate asks for.
use Rattle.std.specs.Prelude.{◌≡◌, ◌<◌, ℕ, All, Contains, IfSome, List, [], length, map}
use Rattle.rc_names.specs.Numbers.{DeclarationId, EvaluationOrder, ScopeId}
use Rattle.rc_tree.specs.declared.fate.Fate.{Fate}
use Rattle.rc_tree.specs.declared.fate.Fate.TheVariants as fates
use Rattle.rc_why.specs.Pairs.{HaveSamePairs, IsWhole, whole}
use Rattle.rc_merge.specs.declared.facts.DepPair.{DepPair}
use Rattle.rc_why.specs.declared.reason.Facts.{Facts}
use Rattle.rc_why.specs.declared.reason.Facts.TheVariants as facts
use Rattle.rc_merge.specs.declared.facts.MergeCondition.{MergeCondition}
use Rattle.rc_merge.specs.declared.facts.MergeCondition.TheVariants as conditions
use Rattle.rc_merge.specs.declared.facts.NotedUse.{NotedUse}
use Rattle.rc_why.specs.declared.reason.Reason.{Reason}

-- There are outputs, and none of them is memoized.
pub record IsNotEscaping (outputs memoized : List DeclarationId) : Type 0 where
  pub some : ¬ outputs ≡ []
  pub unmemoized : All (λ output. ¬ Contains memoized output) outputs

-- Nothing is reassigned and nothing returned, and no value is declared by the scope itself.
pub record IsUnused (scope : ScopeId) (declared_by : List ScopeId) (reassignments returns : ℕ) : Type 0 where
  pub reassigned : reassignments ≡ 0
  pub returned : returns ≡ 0
  pub declared : ¬ Contains declared_by scope

-- There are dependencies, each on a whole value, and as many sources, each of which is an output.
pub record HaveSources (next : List DepPair) (outputs sources : List DeclarationId) : Type 0 where
  pub some : ¬ next ≡ []
  pub as_long : length sources ≡ length next
  pub whole : All IsWhole next
  pub among : All (Contains outputs) sources

-- the condition holds of the dependencies and the outputs of the head and of the dependencies of the next scope
abbrev pub Holds : MergeCondition → List DepPair → List DeclarationId → List DepPair → List DeclarationId → Type 0
Holds conditions.Same head outputs next sources = HaveSamePairs head next
Holds conditions.Outputs head outputs next sources = HaveSamePairs (map whole outputs) next
Holds conditions.Sources head outputs next sources = HaveSources next outputs sources

-- the last use of a name is below the id; a name without a use doesn't hinder a merge
abbrev pub IsUsedBelow : EvaluationOrder → NotedUse → Type 0
IsUsedBelow end noted = IfSome noted.last (λ last. last.0 < end.0)

abbrev pub IsDissolved : Fate → Type 0
IsDissolved fate = (around : ScopeId) × (fate ≡ fates.DissolvedInto around)

abbrev pub IsMerged : Fate → Type 0
IsMerged fate = (head : ScopeId) × (fate ≡ fates.MergedInto head)

-- the facts of a scope fit the fate
abbrev pub FactsFit : ScopeId → Fate → Facts → Type 0
FactsFit scope fate (facts.Kept output) = fate ≡ fates.Kept
FactsFit scope fate (facts.NotEscaping outputs memoized) = (fate ≡ fates.NotEscaping) × IsNotEscaping outputs memoized
FactsFit scope fate (facts.Unused declared_by reassignments returns) =
    (fate ≡ fates.Unused) × IsUnused scope declared_by reassignments returns
FactsFit scope fate (facts.Dissolved own parent) = IsDissolved fate × HaveSamePairs own parent
FactsFit scope fate (facts.Merged condition head outputs next sources uses end) =
    IsMerged fate × Holds condition head outputs next sources × All (IsUsedBelow end) uses
FactsFit scope fate (facts.AlwaysInvalidating dependency) = fate ≡ fates.AlwaysInvalidating

-- the facts of the reason fit its fate
abbrev pub Fits : Reason → Type 0
Fits reason = FactsFit reason.scope reason.fate reason.facts
