-- Which rows a node's name is an operand of.
use Rattle.std.specs.Prelude.{◌≡◌, ◌<◌, ◌&&◌, ◌||◌, ℕ, Bool, List, [], length, nat_eq}
use Rattle.std.specs.List.{list_any}
use Rattle.rc_memo.specs.RowRecord.{operands_at}
use Rattle.rc_memo.specs.declared.row_record.RowRecord.{RowRecord}
use Rattle.rc_escape.specs.inside.WalkPlaces.{entry_or, is_place_of}

-- whether a row is in the list of a node
unfoldable pub is_user : List (List ℕ) → ℕ → ℕ → Bool
is_user users place row = list_any (nat_eq row) (entry_or [] users place)

-- a row is put to the lists at the places that pass a test
pub record AddsUsers (before after : List (List ℕ)) (row : ℕ) (takes : ℕ → Bool) : Type 0 where
  pub lists : length after ≡ length before
  pub users : (place other : ℕ) → place < length before
      → is_user after place other ≡ ((nat_eq other row && takes place) || is_user before place other)

-- each node's list has the rows that the node's name is an operand of
pub record AreUsers (rows : RowRecord) (users : List (List ℕ)) : Type 0 where
  pub lists : length users ≡ length rows.nodes
  pub exact : (place row : ℕ) → place < length rows.nodes
      → is_user users place row ≡ list_any (is_place_of rows place) (operands_at rows.operands row)
