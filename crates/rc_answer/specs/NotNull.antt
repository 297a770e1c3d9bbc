-- No printing form is null: the laws of `Show` for views.
use Rattle.std.specs.Prelude.{refl}
use Rattle.rc_show.specs.Showing.{NeverNull}
use Rattle.rc_flat.specs.ShownFlat.{flat_instruction_data, flat_terminal_data, nested_value_data, statement_data}
use Rattle.rc_flat.specs.ShownFlat.{terminal_statement_data}
use Rattle.rc_flat.specs.declared.statement.FlatStatement.TheVariants as flat

pub no_null_flat_instruction : NeverNull flat_instruction_data
unfolding flat_instruction_data
no_null_flat_instruction x = refl

pub no_null_nested_value : NeverNull nested_value_data
unfolding nested_value_data
no_null_nested_value x = refl

pub no_null_flat_terminal : NeverNull flat_terminal_data
unfolding flat_terminal_data
no_null_flat_terminal x = refl

pub no_null_terminal_statement : NeverNull terminal_statement_data
unfolding terminal_statement_data
no_null_terminal_statement x = refl

pub no_null_statement : NeverNull statement_data
unfolding statement_data
no_null_statement (flat.Instruction x) = refl
no_null_statement (flat.Terminal x) = refl
no_null_statement (flat.Scope x) = refl
no_null_statement (flat.PrunedScope x) = refl
