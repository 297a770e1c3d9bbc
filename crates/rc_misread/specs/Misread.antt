-- Where a value that isn't read is at fault. The way there goes from the whole value from part to part, each time to
-- the first part, in the order of the fields, that isn't read as it is asked, until every part of it is read.
use Rattle.std.specs.Prelude.{◌≡◌, ℕ, ◌+◌, true, false, List, [], ◌∷◌, ◌++◌, Option, Some, None, map, is_some}
use Rattle.std.specs.Prelude.{if◌then◌else◌, option_and_then, unwrap_or}
use Rattle.serde_json.specs.Data.{Data, null, boolean, number, string, array, object, Items, no_items, item}
use Rattle.serde_json.specs.Find.{as_array, get}
use Rattle.serde_json.specs.View.{view}
use Rattle.rc_doc.specs.Document.{doc_of}
use Rattle.rc_doc.specs.Reading.{tag_of}
use Rattle.rc_misread.specs.Fields.{fields_of}
use Rattle.rc_misread.specs.Forms.{Row, is_list, is_read, may_be_null}
use Rattle.rc_misread.specs.declared.misread.Misread.{Misread}
use Rattle.rc_misread.specs.declared.misread.Step.{Step}
use Rattle.rc_misread.specs.declared.misread.Step.TheVariants as steps
use Rattle.rc_misread.specs.declared.form.Asked.{Asked}
use Rattle.rc_misread.specs.declared.form.Form.{Form}
use Rattle.rc_misread.specs.declared.form.Form.TheVariants as forms

-- a step from a value to one of its parts
pub data Move : Type 0 where
  field : List ℕ → Move
  item_at : ℕ → Move

-- a step of the code
abbrev pub move_of : Step → Move
move_of (steps.Field name) = field name.now
move_of (steps.Item index) = item_at index

-- a part that isn't read as it is asked
pub record Found : Type 0 where
  pub move : Move
  pub asked : Asked
  pub value : Data

-- the part that this step leads to, if it is there and isn't read as it is asked
abbrev pub if_misread : Move → Asked → Option Data → Option Found
if_misread move asked None = None
if_misread move asked (Some d) =
    if is_read asked d then None else Some (record { move = move; asked = asked; value = d })

-- the first of two, or else the second
abbrev pub or_later : Option Found → Option Found → Option Found
or_later None later = later
or_later (Some found) later = Some found

-- the value, if it isn't null
abbrev pub not_null : Option Data → Option Data
not_null None = None
not_null (Some null) = None
not_null (Some (boolean b)) = Some (boolean b)
not_null (Some (number n)) = Some (number n)
not_null (Some (string s)) = Some (string s)
not_null (Some (array ds)) = Some (array ds)
not_null (Some (object ms)) = Some (object ms)

-- the value of a field, where it counts as there
abbrev pub part_at : Row → Data → Option Data
part_at row d = if may_be_null row.1 then not_null (get row.0 d) else get row.0 d

-- what is asked of a field
abbrev pub asked_of : Row → Asked
asked_of row = record { form = row.2; is_list = is_list row.1 }

-- the first of these fields that isn't read
abbrev pub misread_field : List Row → Data → Option Found
misread_field [] d = None
misread_field (row ∷ rows) d = or_later (if_misread (field row.0) (asked_of row) (part_at row d)) (misread_field rows d)

-- the first of these items that isn't read as this form; they are counted from here
abbrev pub misread_item : Form → ℕ → Items → Option Found
misread_item form count no_items = None
misread_item form count (item d ds) =
    or_later (if_misread (item_at count) (record { form = form; is_list = false }) (Some d))
    (misread_item form (count + 1) ds)

-- the form of the items of one value of this form, if it has items
abbrev pub items_of_one : Form → Option Form
items_of_one forms.Blocks = Some forms.Block
items_of_one _ = None

-- the form of the items of what is asked, if it has items
abbrev pub item_form : Asked → Option Form
item_form asked = if asked.is_list then Some asked.form else items_of_one asked.form

-- the first item that isn't read, or else the first field, in the order of the fields
abbrev pub misread_by : Option Form → Form → Data → Option Found
misread_by (Some items) form d = option_and_then (misread_item items 0) (as_array d)
misread_by None form d = option_and_then (λ rows. misread_field rows d) (fields_of form (unwrap_or (tag_of d) []))

-- the first part of the value that isn't read as it is asked
unfoldable pub misread_part : Asked → Data → Option Found
misread_part asked d = misread_by (item_form asked) asked.form d

-- a document is asked
abbrev pub a_document : Asked
a_document = record { form = forms.Document; is_list = false }

-- The way from the whole value to a part, which is asked to be this: each of its steps goes to the first part that
-- isn't read as it is asked.
pub data IsWay (whole : Data) : List Move → Asked → Data → Type 0 where
  start : IsWay whole [] a_document whole
  onward : {path : List Move} {asked : Asked} {d : Data} {next : Found} →
      IsWay whole path asked d → misread_part asked d ≡ Some next →
      IsWay whole (path ++ next.move ∷ []) next.asked next.value

-- A value isn't read as a document, and this is where: the part at the end of the way isn't read as it is asked, while
-- each part of that one is.
pub record IsMisreadAt (whole : Data) (path : List Move) (asked : Asked) (part : Data) : Type 0 where
  pub way : IsWay whole path asked part
  pub misread : is_read asked part ≡ false
  pub lowest : misread_part asked part ≡ None

-- where a value isn't read as a document; nothing of a document
abbrev pub IsFinding : Data → Option Misread → Type 0
IsFinding whole None = is_some (doc_of whole) ≡ true
IsFinding whole (Some found) = IsMisreadAt whole (map move_of found.path) found.asked (view found.value.now)
