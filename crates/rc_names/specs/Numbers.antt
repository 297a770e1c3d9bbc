-- The typed numbers by their names, and when two of them are the same.
use Rattle.std.specs.Prelude.{ℕ, ◌+◌, Bool, List, [], ◌∷◌, nat_eq, if◌then◌else◌}
use Rattle.std.specs.List.{list_any}
use Rattle.rc_names.specs.declared.numbers.Id.{Id}
use Rattle.rc_names.specs.declared.numbers.Block.{Block}
use Rattle.rc_names.specs.declared.numbers.Identifier.{Identifier}
use Rattle.rc_names.specs.declared.numbers.Declaration.{Declaration}
use Rattle.rc_names.specs.declared.numbers.HirType.{HirType}
use Rattle.rc_names.specs.declared.numbers.Scope.{Scope}
use Rattle.rc_names.specs.declared.numbers.Function.{Function}
use Rattle.rc_names.specs.declared.numbers.Instruction.{Instruction}
use Rattle.rc_names.specs.declared.numbers.Evaluation.{Evaluation}

-- the eight types; `src/numbers.rt` says which things each one numbers
abbrev pub BlockId : Type 0
BlockId = Id Block

abbrev pub IdentifierId : Type 0
IdentifierId = Id Identifier

abbrev pub DeclarationId : Type 0
DeclarationId = Id Declaration

abbrev pub TypeId : Type 0
TypeId = Id HirType

abbrev pub ScopeId : Type 0
ScopeId = Id Scope

abbrev pub FunctionId : Type 0
FunctionId = Id Function

abbrev pub InstructionId : Type 0
InstructionId = Id Instruction

abbrev pub EvaluationOrder : Type 0
EvaluationOrder = Id Evaluation

-- the id with a number
abbrev pub to_id : {K : Type 0} → ℕ → Id K
to_id number = record { 0 = number; 1 = record {} }

-- two ids have the same number
abbrev pub same_id : {K : Type 0} → Id K → Id K → Bool
same_id a b = nat_eq a.0 b.0

-- the id is one of these
abbrev pub is_among : {K : Type 0} → List (Id K) → Id K → Bool
is_among names name = list_any (same_id name) names

-- how often the id is in a list
abbrev pub times : {K : Type 0} → Id K → List (Id K) → ℕ
times name [] = 0
times name (other ∷ others) = (if same_id name other then 1 else 0) + times name others
