-- The functions of a table that contain each other, and the faults that hooks give in the walk of a graph.
use Rattle.std.specs.Prelude.{◌≡◌, ℕ, List, Some, Err, slice_get}
use Rattle.rc_names.specs.Numbers.{BlockId, EvaluationOrder, FunctionId, InstructionId}
use Rattle.rc_hir.specs.Model.{Fault, BasicBlock, HirFunction, Instruction, Place}
use Rattle.rc_tree.specs.ReadFunction.{held_function}
use Rattle.rc_tree.specs.ReadSteps.{ReadSteps}
use Rattle.rc_tree.specs.Model.{ReactiveInstruction, ReactiveValue}

-- a block of the function names the row
pub data HasRow (function : HirFunction) (row : Instruction) : Type 0 where
  in_block : (i k : ℕ) (entry : BlockId × BasicBlock) (id : InstructionId)
      → slice_get function.body.blocks i ≡ Some entry → slice_get entry.1.instructions k ≡ Some id
      → slice_get function.instructions id.0 ≡ Some row
      → HasRow function row

-- a function of the table contains another: one of its blocks names a row whose value is that function
pub data ContainsFunction (functions : List HirFunction) (outer inner : FunctionId) : Type 0 where
  by_row : (function : HirFunction) (row : Instruction)
      → slice_get functions outer.0 ≡ Some function → HasRow function row → held_function row.value ≡ Some inner
      → ContainsFunction functions outer inner

-- a function is that one, or is inside it at some depth
pub data CanReach (functions : List HirFunction) : FunctionId → FunctionId → Type 0 where
  itself : {func : FunctionId} → CanReach functions func func
  through : {outer middle inner : FunctionId} → ContainsFunction functions outer middle
      → CanReach functions middle inner
      → CanReach functions outer inner

-- a function is inside itself
abbrev pub IsInsideItself : List HirFunction → FunctionId → Type 0
IsInsideItself functions func = (inner : FunctionId) × ContainsFunction functions func inner
    × CanReach functions inner func

-- no function that is reached is inside itself
abbrev pub HasNoCycle : List HirFunction → FunctionId → Type 0
HasNoCycle functions func = (g : FunctionId) → CanReach functions func g → ¬ IsInsideItself functions g

-- a function that is reached is inside itself
abbrev pub IsCycleAt : List HirFunction → FunctionId → FunctionId → Type 0
IsCycleAt functions func g = CanReach functions func g × IsInsideItself functions g

-- a hook that the walk of a graph calls gives the fault
pub data HasHookFault {S : Type 0} (v : ReadSteps S) (fault : Fault) : Type 0 where
  by_id : (id : EvaluationOrder) (s : S) → v.visit_id id s ≡ Err fault → HasHookFault v fault
  by_place : (id : EvaluationOrder) (place : Place) (s : S) → v.visit_place id place s ≡ Err fault
      → HasHookFault v fault
  by_lvalue : (id : EvaluationOrder) (place : Place) (s : S) → v.visit_lvalue id place s ≡ Err fault
      → HasHookFault v fault
  by_param : (place : Place) (s : S) → v.visit_param place s ≡ Err fault → HasHookFault v fault
  by_enter_instruction : (x : ReactiveInstruction) (s : S) → v.enter_instruction x s ≡ Err fault → HasHookFault v fault
  by_leave_instruction : (x : ReactiveInstruction) (s : S) → v.leave_instruction x s ≡ Err fault → HasHookFault v fault
  by_enter_value : (id : EvaluationOrder) (x : ReactiveValue) (s : S) → v.enter_value id x s ≡ Err fault
      → HasHookFault v fault
  by_leave_value : (id : EvaluationOrder) (x : ReactiveValue) (s : S) → v.leave_value id x s ≡ Err fault
      → HasHookFault v fault
