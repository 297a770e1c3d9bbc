-- Reading a value part by part: numbers, texts, lists, and the fields of an object by their names. The definition of
-- each type of a document is then one block of such readings, one field after the other. A block with a refusal in it
-- has no value.
use Rattle.std.specs.Prelude.{◌≡◌, ℕ, ◌^◌, ◌&&◌, Bool, true, false, nat_lt, List, [], ◌∷◌, Option, Some, None, Result}
use Rattle.std.specs.Prelude.{Ok, Err, ⊤}
use Rattle.std.specs.Prelude.{option_and_then, option_map, if◌then◌else◌, codes}
use Rattle.std.specs.List.{list_any}
use Rattle.std.specs.Option.{option_map_or}
use Rattle.std.specs.Str.{bytes_eq}
use Rattle.serde_json.specs.Data.{Data, null, boolean, number, string, array, object, Items, no_items, item, Members}
use Rattle.serde_json.specs.Data.{no_members, member}
use Rattle.serde_json.specs.Events.{items_len}
use Rattle.serde_json.specs.Find.{get, at, as_u64, as_number, as_bool, as_str, as_array, as_object}
use Rattle.rc_doc.specs.declared.refusal.Refusal.{Refusal}
use Rattle.rc_doc.specs.declared.refusal.Refusal.TheVariants.{Memory, NotDoc}

infixl 10 ◌>>=◌
-- the second reading, applied to the value of the first
abbrev pub ◌>>=◌ : {A B : Type 0} → Option A → (A → Option B) → Option B
reading >>= next = option_and_then next reading

-- a call returns the value that the reading gives, refuses if the reading gives none, or runs out of memory
abbrev pub IsRead : {X : Type 0} → Result X Refusal → Option X → Type 0
IsRead (Ok x) reading = reading ≡ Some x
IsRead (Err NotDoc) reading = reading ≡ None
IsRead (Err Memory) reading = Unit {0}

-- ---- numbers, flags, texts

-- a whole number below 2^32
abbrev pub number_of : Data → Option ℕ
number_of d = do
  n ← option_and_then as_u64 (as_number d)
  if nat_lt n (2 ^ 32) then Some n else None

-- true or false
abbrev pub flag_of : Data → Option Bool
flag_of = as_bool

-- the bytes of a text
abbrev pub text_of : Data → Option (List ℕ)
text_of = as_str

-- the entry with a name
abbrev pub named : {X : Type 0} → List (List ℕ × X) → List ℕ → Option X
named [] name = None
named (row ∷ rows) name = if bytes_eq name row.0 then Some row.1 else named rows name

-- ---- arrays

-- the number of items of an array; any other value has none
abbrev pub array_len : Data → ℕ
array_len d = option_map_or items_len (as_array d) 0

-- the item at an index, which must be there
abbrev pub item_at : {X : Type 0} → (Data → Option X) → ℕ → Data → Option X
item_at read i d = option_and_then read (at i d)

-- all items, in order
abbrev pub all_items : {X : Type 0} → (Data → Option X) → Items → Option (List X)
all_items read no_items = Some []
all_items read (item d ds) = do
  x ← read d
  xs ← all_items read ds
  Some (x ∷ xs)

-- the items of an array
abbrev pub list_of : {X : Type 0} → (Data → Option X) → Data → Option (List X)
list_of read d = option_and_then (all_items read) (as_array d)

-- the items of an array that has at most 2^32 - 1
abbrev pub table_of : {X : Type 0} → (Data → Option X) → Data → Option (List X)
table_of read d = if nat_lt (array_len d) (2 ^ 32) then list_of read d else None

-- ---- objects

-- each key is one of these names
abbrev pub all_known : List (List ℕ) → Members → Bool
all_known names no_members = true
all_known names (member k d ms) = list_any (bytes_eq k) names && all_known names ms

-- the value is an object in which each key is one of these names
abbrev pub has_only : List (List ℕ) → Data → Bool
has_only names d = option_map_or (all_known names) (as_object d) false

-- an object in which each key is one of these names
abbrev pub only : List (List ℕ) → Data → Option ⊤
only names d = if has_only names d then Some tt else None

-- the name of an enum's variant that has fields
abbrev pub tag_of : Data → Option (List ℕ)
tag_of d = option_and_then as_str (get (codes "k") d)

-- the reading of the variant with that name
abbrev pub variant : {X : Type 0} → List (List ℕ × Option X) → List ℕ → Option X
variant [] name = None
variant (row ∷ rows) name = if bytes_eq name row.0 then row.1 else variant rows name

-- a field that must be there
abbrev pub field : {X : Type 0} → (Data → Option X) → List ℕ → Data → Option X
field read name d = option_and_then read (get name d)

-- a variant without fields if the value is a text, which is the variant's name, and else one that has fields
abbrev pub or_tagged : {X : Type 0} → (List ℕ → Option X) → (Data → Option X) → Data → Option X
or_tagged alone read d = option_map_or alone (as_str d) (read d)

-- the one field of a variant, which has no name of its own
abbrev pub content : {X : Type 0} → (Data → Option X) → Data → Option X
content read d = field read (codes "v") d

-- the value as it is read, and a default if it is absent
abbrev pub or_absent : {X : Type 0} → (Data → Option X) → X → Option Data → Option X
or_absent read absent None = Some absent
or_absent read absent (Some d) = read d

-- `None` for null, and else the value as it is read
abbrev pub or_null : {X : Type 0} → (Data → Option X) → Data → Option (Option X)
or_null read null = Some None
or_null read (boolean b) = option_map Some (read (boolean b))
or_null read (number n) = option_map Some (read (number n))
or_null read (string s) = option_map Some (read (string s))
or_null read (array ds) = option_map Some (read (array ds))
or_null read (object ms) = option_map Some (read (object ms))

-- a field that is `None` if it is left out or null
abbrev pub option_field : {X : Type 0} → (Data → Option X) → List ℕ → Data → Option (Option X)
option_field read name d = or_absent (or_null read) None (get name d)

-- a list that is empty if it is left out
abbrev pub list_field : {X : Type 0} → (Data → Option X) → List ℕ → Data → Option (List X)
list_field read name d = or_absent (list_of read) [] (get name d)

-- a table that is empty if it is left out
abbrev pub table_field : {X : Type 0} → (Data → Option X) → List ℕ → Data → Option (List X)
table_field read name d = or_absent (table_of read) [] (get name d)

-- a flag that is false if it is left out
abbrev pub flag_field : List ℕ → Data → Option Bool
flag_field name d = or_absent flag_of false (get name d)
