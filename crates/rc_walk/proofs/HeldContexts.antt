-- The operands of a row that names a nested function are the context of that function.
use Rattle.std.proofs.Common.{◌≡◌, List, Some, ap, slice_get}
use Rattle.rc_hir.specs.Model.{HirFunction, InstructionValue}
use Rattle.rc_hir.specs.Operands.{context_found, operands}
use Rattle.rc_hir.specs.declared.instruction.InstructionValue.TheVariants.{ObjectMethod, FunctionExpression}
use Rattle.rc_names.specs.Numbers.{FunctionId}
use Rattle.rc_tree.specs.ReadFunction.{held_function}

pub operands_of_held : (functions : List HirFunction) (x : InstructionValue) (function : FunctionId)
    → held_function x ≡ Some function
    → operands functions x ≡ context_found function (slice_get functions function.0)
operands_of_held functions (ObjectMethod lowered span) function is =
    let same : lowered.func ≡ function = cc in ap (λ f. context_found f (slice_get functions f.0)) same
operands_of_held functions (FunctionExpression name lowered span) function is =
    let same : lowered.func ≡ function = cc in ap (λ f. context_found f (slice_get functions f.0)) same
operands_of_held functions _ function is = let bad : ⊥ = cc in absurd bad
