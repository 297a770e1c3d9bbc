-- Which values are new in every render at a place of the statements, and which scope blocks depend on one.
--
-- A value is always new where it is made again each time that its row runs. It is unmemoized if, besides, no scope
-- keeps it: it was made outside all scope blocks, or in a scope block that depends on such a value itself.
use Rattle.std.specs.Prelude.{◌≡◌, ◌<◌, ◌+◌, ◌↔◌, ℕ, Bool, true, false, List, [], ◌∷◌, Some, slice_get}
use Rattle.rc_hir.specs.Model.{Environment}
use Rattle.rc_names.specs.Numbers.{IdentifierId, ScopeId, is_among}
use Rattle.rc_flow.specs.Reached.{dependencies_if, outputs_if}
use Rattle.rc_flow.specs.declared.value_step.ValueStep.{ValueStep}
use Rattle.rc_flow.specs.declared.value_step.ValueStep.TheVariants.{Makes, Copies, Ends}

-- the name has a value at that place that is made again each time
pub data IsAlwaysNew (steps : List ValueStep) : ℕ → IdentifierId → Type 0 where
  made : {place earlier : ℕ} {name : IdentifierId} {in_scope : Bool}
      → slice_get steps earlier ≡ Some (Makes name in_scope) → earlier < place → IsAlwaysNew steps place name
  copied : {place earlier : ℕ} {from name : IdentifierId} → slice_get steps earlier ≡ Some (Copies from name)
      → earlier < place → IsAlwaysNew steps earlier from → IsAlwaysNew steps place name

-- the names of the dependencies of the scope with that number, and those of its outputs
abbrev pub dependencies_of : Environment → ScopeId → List IdentifierId
dependencies_of env scope = dependencies_if (slice_get env.scopes scope.0)

abbrev pub outputs_of : Environment → ScopeId → List IdentifierId
outputs_of env scope = outputs_if (slice_get env.scopes scope.0)

module _ (env : Environment) (steps : List ValueStep) where
  -- and no scope keeps it
  pub data IsUnmemoized : ℕ → IdentifierId → Type 0 where
    outside : {place earlier : ℕ} {name : IdentifierId} → slice_get steps earlier ≡ Some (Makes name false)
        → earlier < place → IsUnmemoized place name
    passed_on : {place earlier : ℕ} {from name : IdentifierId} → slice_get steps earlier ≡ Some (Copies from name)
        → earlier < place → IsUnmemoized earlier from → IsUnmemoized place name
    dropped : {place earlier : ℕ} {scope : ScopeId} {cause name : IdentifierId}
        → slice_get steps earlier ≡ Some (Ends scope) → earlier < place
        → is_among (dependencies_of env scope) cause ≡ true → IsUnmemoized earlier cause
        → is_among (outputs_of env scope) name ≡ true → IsAlwaysNew steps earlier name → IsUnmemoized place name

  -- a dependency of the scope is unmemoized where a block of the scope ends, at that place
  pub record HasUnmemoized (place : ℕ) (scope : ScopeId) : Type 0 where
    pub cause : IdentifierId
    pub among : is_among (dependencies_of env scope) cause ≡ true
    pub unmemoized : IsUnmemoized place cause

  -- the answers for the scope blocks that end from that place on, in the order in which they end
  abbrev pub AreAnswers : ℕ → List ValueStep → List Bool → Type 0
  AreAnswers place [] answers = answers ≡ []
  AreAnswers place (Ends scope ∷ rest) [] = ⊥
  AreAnswers place (Ends scope ∷ rest) (answer ∷ answers) =
      ((answer ≡ true) ↔ HasUnmemoized place scope) × AreAnswers (place + 1) rest answers
  AreAnswers place (_ ∷ rest) answers = AreAnswers (place + 1) rest answers
