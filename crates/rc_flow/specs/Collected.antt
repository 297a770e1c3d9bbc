-- The steps by which names are collected as reactive, in the order of the text, and the names that they reach.
use Rattle.std.specs.Prelude.{◌≡◌, ◌↔◌, Bool, true, false, List, [], ◌∷◌, ◌++◌, Option, None, Some, Result, Ok}
use Rattle.std.specs.Prelude.{length, slice_get, if◌then◌else◌}
use Rattle.std.specs.List.{flat_map}
use Rattle.std.specs.Option.{option_map_or}
use Rattle.rc_hir.specs.Environment.{type_of}
use Rattle.rc_hir.specs.Model.{DeclarationEntry, Environment, Fault, HirType, Place, ReactiveScope}
use Rattle.rc_hir.specs.Operands.{operands, value_targets}
use Rattle.rc_hir.specs.TerminalOperands.{perhaps_place}
use Rattle.rc_hir.specs.Types.{is_ref_type}
use Rattle.rc_hir.specs.declared.types.HirType.TheVariants.{Primitive}
use Rattle.rc_names.specs.Numbers.{IdentifierId, ScopeId, is_among}
use Rattle.rc_tree.specs.Collected.{Contributions, collected}
use Rattle.rc_tree.specs.CollectedValues.{ValueContributions, collected_row, collected_value_if, instruction_of}
use Rattle.rc_tree.specs.Joining.{Joining}
use Rattle.rc_tree.specs.Model.{ReactiveBlock, ReactiveInstruction}
use Rattle.rc_tree.specs.Step.{bind}
use Rattle.rc_flow.specs.Reached.{IsReached}
use Rattle.rc_flow.specs.declared.step.Step.{Step}
use Rattle.rc_flow.specs.declared.step.Step.TheVariants.{Marks, Carries}

-- a place that is marked reactive marks its name
abbrev pub place_steps : Place → List Step
place_steps place = if place.reactive then Marks place.identifier ∷ [] else []

-- the key of a declaration is reactive where its identifier is so by then
abbrev pub key_follows : DeclarationEntry → Step
key_follows entry = Carries (entry.value.identifier ∷ []) (entry.key ∷ [])

-- a primitive value never changes by itself
abbrev pub is_primitive : HirType → Bool
is_primitive Primitive = true
is_primitive _ = false

-- the step of a declaration by the type of its identifier: none for a primitive value, and a ref is as it was
abbrev pub step_by_type : DeclarationEntry → Option HirType → List Step
step_by_type entry None = Marks entry.key ∷ []
step_by_type entry (Some type) =
    if is_primitive type then [] else (if is_ref_type type then key_follows entry ∷ [] else Marks entry.key ∷ [])

-- the step of a declaration of a scope whose block was pruned
abbrev pub declaration_steps : Environment → DeclarationEntry → List Step
declaration_steps env entry = step_by_type entry (type_of env entry.value.identifier)

-- the steps of the declarations of a scope
abbrev pub declared_steps : Environment → ReactiveScope → List Step
declared_steps env scope = flat_map (declaration_steps env) scope.declarations

-- the steps at the end of a pruned scope block: none where its scope is outside the table
abbrev pub pruned_scope_steps : Environment → ScopeId → List Step
pruned_scope_steps env scope = option_map_or (declared_steps env) (slice_get env.scopes scope.0) []

-- the steps of a part, or the fault of an operand that can't be read
abbrev pub Recorded : Type 0
Recorded = Result (List Step) Fault

-- the steps of one part, and then of another; of two faults, the first
abbrev pub joined : Recorded → Recorded → Recorded
joined first second = bind first (λ steps. bind second (λ more. Ok (steps ++ more)))

abbrev pub recorded_joining : Joining Recorded
recorded_joining = record { nothing = Ok []; both = joined }

-- the steps of places, each of which marks its name if it is reactive
abbrev pub marked : List Place → Recorded
marked places = Ok (flat_map place_steps places)

-- the places that a row writes: its target, and those of its instruction
abbrev pub written : ReactiveInstruction → List Place
written row = perhaps_place row.lvalue ++ option_map_or value_targets (instruction_of row.value) []

module _ (env : Environment) where
  -- what a row writes is marked before what its value reads
  abbrev pub recorded_values : ValueContributions Recorded
  recorded_values = record {
    joining = recorded_joining;
    instruction = λ id x. bind (operands env.functions x) marked;
    target = λ id x. Ok [];
    row = λ row inside. joined (marked (written row)) inside;
  }

  -- a pruned scope block marks what its scope declares, after its inside
  abbrev pub recorded_parts : Contributions Recorded
  recorded_parts = record {
    joining = recorded_joining;
    row = collected_row recorded_values;
    value = collected_value_if recorded_values;
    place = λ id x. marked (perhaps_place x);
    returned = λ id x. Ok (place_steps x);
    jump = λ target. Ok [];
    label = λ label. Ok [];
    scope = λ scope inside. inside;
    pruned_scope = λ scope inside. joined inside (Ok (pruned_scope_steps env scope));
  }

  -- the steps of a body
  abbrev pub recorded_steps : ReactiveBlock → Recorded
  recorded_steps = collected recorded_parts

-- the names that the collecting steps of a body reach
pub record AreCollected (env : Environment) (body : ReactiveBlock) (names : List IdentifierId) : Type 0 where
  pub steps : List Step
  pub recorded : recorded_steps env body ≡ Ok steps
  pub reached : (name : IdentifierId) → (is_among names name ≡ true) ↔ IsReached env steps (length steps) name
