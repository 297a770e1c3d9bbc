-- A printing form that reads as its value again, also where it may be left out.
use Rattle.std.proofs.Common.{◌≡◌, false, Option, Some, refl}
use Rattle.serde_json.specs.Data.{Data, null, boolean, number, string, array, object}
use Rattle.rc_doc.specs.Reading.{or_null}
use Rattle.rc_show.specs.Showing.{is_null}

-- the printing form reads as the value again
abbrev pub IsAgain : {X : Type 0} → (Data → Option X) → (X → Data) → X → Type 0
IsAgain reads shows x = reads (shows x) ≡ Some x

-- what isn't null and reads as a value does so in the place of a field that may be left out
not_left_out : {X : Type 0} (reads : Data → Option X) (d : Data) (x : X) → is_null d ≡ false → reads d ≡ Some x
    → or_null reads d ≡ Some (Some x)
not_left_out reads null x n h = cc
not_left_out reads (boolean b) x n h = rw h refl
not_left_out reads (number k) x n h = rw h refl
not_left_out reads (string text) x n h = rw h refl
not_left_out reads (array items) x n h = rw h refl
not_left_out reads (object fields) x n h = rw h refl

pub if_there : {X : Type 0} (reads : Data → Option X) (shows : X → Data) (x : X) → is_null (shows x) ≡ false
    → IsAgain reads shows x → or_null reads (shows x) ≡ Some (Some x)
if_there reads shows x n h = not_left_out reads (shows x) x n h
