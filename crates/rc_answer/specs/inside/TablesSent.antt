-- The two tables are sent, and read as themselves again.
use Rattle.std.specs.Prelude.{◌≡◌, ℕ, List, [], ◌∷◌, Some, length}
use Rattle.serde.specs.Event.{Log}
use Rattle.rc_doc.specs.Reading.{list_of}
use Rattle.rc_tree.specs.Model.{ReactiveBlock, ReactiveValue}
use Rattle.rc_show.specs.Sending.{Sends}
use Rattle.rc_show.specs.Showing.{list_data}
use Rattle.rc_flat.specs.Blocks.{ListsBlocks}
use Rattle.rc_flat.specs.Model.{FlatStatement, NestedValue}
use Rattle.rc_flat.specs.ReadingFlat.{statement_of}
use Rattle.rc_flat.specs.ReadingFlat.Values.{nested_value_of}
use Rattle.rc_flat.specs.ShownFlat.{nested_value_data, statement_data}
use Rattle.rc_flat.specs.Values.{entry_of, ListsValues}
use Rattle.rc_answer.specs.declared.numbering.Numbered.{Numbered}
use Rattle.rc_answer.specs.inside.Levels.{AreEntries, Lengthens}

-- the table of blocks is sent, and these values are those of its rows and terminals
pub record AreBlocksSent (body : ReactiveBlock) (values : Numbered ReactiveValue) (old new : Log) : Type 0 where
  pub blocks : List (List FlatStatement)
  pub lists : ListsBlocks (record { block = 1; value = 0 }) (body ∷ []) blocks values.waiting
  pub next : values.next ≡ length values.waiting
  pub sends : Sends (list_data (list_data statement_data) blocks) old new
  pub again : list_of (list_of statement_of) (list_data (list_data statement_data) blocks) ≡ Some blocks

-- the entry of a nested value is sent
pub record IsEntrySent (next : ℕ) (value : ReactiveValue) (old new : Log) : Type 0 where
  pub entry : NestedValue
  pub is : entry_of next value ≡ Some entry
  pub sends : Sends (nested_value_data entry) old new
  pub again : nested_value_of (nested_value_data entry) ≡ Some entry

-- the entries of a level are sent after those that were sent before
pub record IsLevelSent (next : ℕ) (level : List ReactiveValue) (old new : Log) : Type 0 where
  pub entries : List NestedValue
  pub are : AreEntries next level entries
  pub sends : Lengthens nested_value_of nested_value_data entries old new

-- the table of nested values is sent
pub record AreValuesSent (values : Numbered ReactiveValue) (old new : Log) : Type 0 where
  pub entries : List NestedValue
  pub lists : ListsValues values.next values.waiting entries
  pub sends : Sends (list_data nested_value_data entries) old new
  pub again : list_of nested_value_of (list_data nested_value_data entries) ≡ Some entries
