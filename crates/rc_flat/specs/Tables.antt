-- A function as two tables: its blocks and its nested values.
use Rattle.std.specs.Prelude.{◌≡◌, List, [], ◌∷◌, Some, length}
use Rattle.serde_json.specs.Data.{Data}
use Rattle.rc_tree.specs.Model.{ReactiveFunction, ReactiveValue}
use Rattle.rc_flat.specs.Model.{FlatFunction}
use Rattle.rc_flat.specs.Values.{ListsValues}
use Rattle.rc_flat.specs.Blocks.{ListsBlocks}
use Rattle.rc_flat.specs.ReadingFlat.{flat_function_of}

-- the tables of a function: its blocks from the body on, and the nested values from those of the blocks on
pub record IsFlat (func : ReactiveFunction) (flat : FlatFunction) : Type 0 where
  pub roots : List ReactiveValue
  pub blocks : ListsBlocks (record { block = 1; value = 0 }) (func.body ∷ []) flat.blocks roots
  pub values : ListsValues (length roots) roots flat.values
  pub span : flat.span ≡ func.span
  pub id : flat.id ≡ func.id
  pub name_hint : flat.name_hint ≡ func.name_hint
  pub params : flat.params ≡ func.params
  pub generator : flat.generator ≡ func.generator
  pub is_async : flat.is_async ≡ func.is_async
  pub directives : flat.directives ≡ func.directives

-- a JSON value gives a function: it reads as two tables, and these are the function's
pub record GivesFunction (d : Data) (func : ReactiveFunction) : Type 0 where
  pub flat : FlatFunction
  pub reads : flat_function_of d ≡ Some flat
  pub tables : IsFlat func flat
