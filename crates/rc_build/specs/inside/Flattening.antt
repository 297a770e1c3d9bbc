-- How far a value is flattened.
use Rattle.std.specs.Prelude.{◌≡◌, ◌++◌, List}
use Rattle.rc_tree.specs.Model.{ReactiveInstruction, ReactiveValue}
use Rattle.rc_runs.specs.PlainTree.{Value}
use Rattle.rc_runs.specs.TreeOf.{instructions_of, value_of}
use Rattle.rc_runs.specs.Flattened.{flat_rows, final_value}

-- these rows come before the rest of the value
pub record FlatSoFar (plain : Value) (rows : List ReactiveInstruction) (value : ReactiveValue) : Type 0 where
  pub rest : Value
  pub is : value ≡ value_of rest
  pub rows_are : instructions_of (flat_rows plain) ≡ rows ++ instructions_of (flat_rows rest)
  pub final : final_value plain ≡ final_value rest
