-- The questions that the passes ask of a type and of an effect.
use Rattle.std.specs.Prelude.{ℕ, Bool, true, false, Option, None, Some}
use Rattle.rc_hir.specs.Model.{Effect, HirType}
use Rattle.rc_hir.specs.declared.place.Effect.TheVariants as effects
use Rattle.rc_hir.specs.declared.types.HirType.TheVariants as types
use Rattle.rc_hir.specs.declared.types.Shape.TheVariants as shapes

-- a row with this effect may change the value
abbrev pub is_mutable : Effect → Bool
is_mutable effects.Unknown = false
is_mutable effects.Freeze = false
is_mutable effects.Read = false
is_mutable effects.Capture = true
is_mutable effects.ConditionallyMutateIterator = true
is_mutable effects.ConditionallyMutate = true
is_mutable effects.Mutate = true
is_mutable effects.Store = true

-- the row of the environment's shapes that a function's type names
abbrev pub signature_row : HirType → Option ℕ
signature_row (types.Function (Some (shapes.Row row))) = Some row
signature_row _ = None

-- the value is a ref
abbrev pub is_ref_type : HirType → Bool
is_ref_type (types.Object (Some shapes.UseRef)) = true
is_ref_type _ = false

-- the value is the same in every render
abbrev pub is_stable_type : HirType → Bool
is_stable_type (types.Object (Some shapes.UseRef)) = true
is_stable_type (types.Function (Some shapes.SetState)) = true
is_stable_type (types.Function (Some shapes.SetActionState)) = true
is_stable_type (types.Function (Some shapes.Dispatch)) = true
is_stable_type (types.Function (Some shapes.StartTransition)) = true
is_stable_type (types.Function (Some shapes.SetOptimistic)) = true
is_stable_type _ = false

-- the value is a new one each time that it is made
abbrev pub is_always_invalidating_type : HirType → Bool
is_always_invalidating_type (types.Function known) = true
is_always_invalidating_type (types.Object (Some shapes.Array)) = true
is_always_invalidating_type (types.Object (Some shapes.Object)) = true
is_always_invalidating_type (types.Object (Some shapes.Function)) = true
is_always_invalidating_type (types.Object (Some shapes.Jsx)) = true
is_always_invalidating_type _ = false
