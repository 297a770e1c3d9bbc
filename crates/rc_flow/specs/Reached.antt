-- Which names are reactive at a place of a walk: those that a step before it marks, and those to which a chain of steps
-- at rising places leads from such a name.
use Rattle.std.specs.Prelude.{◌≡◌, ◌<◌, ℕ, true, List, [], ◌++◌, Option, Some, map, slice_get}
use Rattle.std.specs.Option.{option_map_or}
use Rattle.rc_hir.specs.Model.{DeclarationEntry, Environment, ReactiveScope, ReactiveScopeDependency}
use Rattle.rc_names.specs.Numbers.{IdentifierId, is_among}
use Rattle.rc_flow.specs.declared.step.Step.{Step}
use Rattle.rc_flow.specs.declared.step.Step.TheVariants.{Marks, Carries, Ends}

-- the names of a scope's dependencies
abbrev pub dependency_names : ReactiveScope → List IdentifierId
dependency_names scope = map (λ (dependency : ReactiveScopeDependency). dependency.identifier) scope.dependencies

-- the names of a scope's outputs: what it declares and what it reassigns
abbrev pub output_names : ReactiveScope → List IdentifierId
output_names scope =
    map (λ (entry : DeclarationEntry). entry.value.identifier) scope.declarations ++ scope.reassignments

-- the same of a scope that was looked up; there are none where its number is outside the table
abbrev pub dependencies_if : Option ReactiveScope → List IdentifierId
dependencies_if scope = option_map_or dependency_names scope []

abbrev pub outputs_if : Option ReactiveScope → List IdentifierId
outputs_if scope = option_map_or output_names scope []

module _ (env : Environment) where
  -- the names from which a step carries reactivity on, and those to which
  abbrev pub sources : Step → List IdentifierId
  sources (Marks name) = []
  sources (Carries from to) = from
  sources (Ends scope) = dependencies_if (slice_get env.scopes scope.0)

  abbrev pub targets : Step → List IdentifierId
  targets (Marks name) = []
  targets (Carries from to) = to
  targets (Ends scope) = outputs_if (slice_get env.scopes scope.0)

  -- the name is reactive at that place: a step before it marks the name, or carries on to it from a name that is
  -- reactive at that step
  pub data IsReached (steps : List Step) : ℕ → IdentifierId → Type 0 where
    marked : {place earlier : ℕ} {name : IdentifierId} → slice_get steps earlier ≡ Some (Marks name) → earlier < place
        → IsReached steps place name
    carried : {place earlier : ℕ} {step : Step} {source name : IdentifierId} → slice_get steps earlier ≡ Some step
        → earlier < place → is_among (sources step) source ≡ true → IsReached steps earlier source
        → is_among (targets step) name ≡ true → IsReached steps place name
