-- No printing form is null.
use Rattle.std.proofs.Common.{refl}
use Rattle.rc_hir.specs.declared.environment.IdentifierName.TheVariants as names
use Rattle.rc_hir.specs.declared.types.Shape.TheVariants as shapes
use Rattle.rc_show.specs.Showing.{NeverNull}
use Rattle.rc_flat.specs.ShownEnvironment.{early_return_data, identifier_name_data, shape_data}
use Rattle.rc_flat.specs.ShownFlat.{flat_value_data, label_data}
use Rattle.rc_flat.specs.declared.value.FlatValue.TheVariants as values

pub no_null_identifier_name : NeverNull identifier_name_data
unfolding identifier_name_data
no_null_identifier_name (names.Named name) = refl
no_null_identifier_name (names.Promoted name) = refl

pub no_null_shape : NeverNull shape_data
unfolding shape_data
no_null_shape shapes.Array = refl
no_null_shape shapes.Object = refl
no_null_shape shapes.Function = refl
no_null_shape shapes.Jsx = refl
no_null_shape shapes.UseRef = refl
no_null_shape shapes.SetState = refl
no_null_shape shapes.SetActionState = refl
no_null_shape shapes.Dispatch = refl
no_null_shape shapes.StartTransition = refl
no_null_shape shapes.SetOptimistic = refl
no_null_shape (shapes.Row row) = refl

pub no_null_early_return : NeverNull early_return_data
unfolding early_return_data
no_null_early_return x = refl

pub no_null_flat_value : NeverNull flat_value_data
unfolding flat_value_data
no_null_flat_value (values.Instruction x) = refl
no_null_flat_value (values.Nested n) = refl

pub no_null_label : NeverNull label_data
unfolding label_data
no_null_label x = refl
