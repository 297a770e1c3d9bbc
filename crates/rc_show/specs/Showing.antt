-- The printing form: the fields of an object are in the byte order of their names. A field that is `None` is left
-- out; empty lists and false are written.
use Rattle.std.specs.Prelude.{◌≡◌, ℕ, Bool, true, false, List, Option, None, Some, codes, map}
use Rattle.serde_json.specs.Data.{Data, array, boolean, member, Members, no_members, null, number, object, string}
use Rattle.serde_json.specs.Data.{unsigned}
use Rattle.serde_json.specs.View.{items_of}
use Rattle.rc_names.specs.declared.numbers.Id.{Id}

infixl 10 ◌▸◌
-- the fields with one more
abbrev pub ◌▸◌ : Members → (Members → Members) → Members
fields ▸ with_field = with_field fields

-- the fields with one more at the end
unfoldable pub add : List ℕ → Data → Members → Members
add name d no_members = member name d no_members
add name d (member first e fields) = member first e (add name d fields)

-- the fields with one more at the end, if it isn't `None`
unfoldable pub add_some : {X : Type 0} → (X → Data) → List ℕ → Option X → Members → Members
add_some shown name None fields = fields
add_some shown name (Some x) fields = add name (shown x) fields

-- the fields with the name of a variant at the end
abbrev pub tagged : List ℕ → Members → Members
tagged name = add (codes "k") (string name)

-- a variant whose one field has no name of its own
abbrev pub variant_data : List ℕ → Data → Data
variant_data name content = object (no_members ▸ tagged name ▸ add (codes "v") content)

-- a number
abbrev pub number_data : ℕ → Data
number_data n = number (unsigned n)

-- a typed number
abbrev pub id_data : {K : Type 0} → Id K → Data
id_data id = number_data id.0

-- a list
abbrev pub list_data : {X : Type 0} → (X → Data) → List X → Data
list_data shown xs = array (items_of (map shown xs))

-- a value that isn't `None` reads as itself again
abbrev pub IsReadAgain : {X : Type 0} → (Data → Option X) → (X → Data) → Option X → Type 0
IsReadAgain reads shows None = Unit {0}
IsReadAgain reads shows (Some x) = reads (shows x) ≡ Some x

-- the value is null, which a document may have in the place of a field that is left out
abbrev pub is_null : Data → Bool
is_null null = true
is_null (boolean b) = false
is_null (number n) = false
is_null (string text) = false
is_null (array items) = false
is_null (object fields) = false

-- no printing form is null
abbrev pub NeverNull : {X : Type 0} → (X → Data) → Type 0
NeverNull {X} shows = (x : X) → is_null (shows x) ≡ false
