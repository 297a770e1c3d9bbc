-- JSON values without floats and signs, with the keys of each object in byte order.
use Rattle.std.specs.Prelude.{ℕ, List, Bool, true, false, ◌&&◌}
use Rattle.std.specs.Ordering.{is_gt, nat_cmp}
use Rattle.std.specs.Cmp.Lexicographic.{slice_cmp}
use Rattle.serde_json.specs.Data.{unsigned, negative, float, Data, null, boolean, number, string, array, object}
use Rattle.serde_json.specs.Data.{Items, no_items, item, Members, no_members, member}
use Rattle.rc_show.specs.Showing.{add}

-- the key comes after those of the fields
abbrev pub comes_last : List ℕ → Members → Bool
comes_last name no_members = true
comes_last name (member other d fields) = is_gt (slice_cmp nat_cmp name other) && comes_last name fields

abbrev mutual
  -- numbers are natural numbers, and keys are in byte order
  pub is_plain : Data → Bool
  is_plain null = true
  is_plain (boolean b) = true
  is_plain (number (unsigned n)) = true
  is_plain (number (negative z)) = false
  is_plain (number (float x)) = false
  is_plain (string text) = true
  is_plain (array items) = items_plain items
  is_plain (object fields) = fields_plain no_members fields

  pub items_plain : Items → Bool
  items_plain no_items = true
  items_plain (item d items) = is_plain d && items_plain items

  -- the fields, after those that were found before
  pub fields_plain : Members → Members → Bool
  fields_plain found no_members = true
  fields_plain found (member name d fields) =
      is_plain d && (comes_last name found && fields_plain (add name d found) fields)
