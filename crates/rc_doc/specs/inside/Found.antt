-- The members of an object, found by one walk over them and the asked names, both of which ascend.
use Rattle.std.specs.Prelude.{ℕ, List, [], ◌∷◌, Option, Some, None, option_map, if◌then◌else◌, String, string_bytes, ⊤}
use Rattle.std.specs.Prelude.{◌≡◌, Result, Ok, Err}
use Rattle.std.specs.Borrow.{Bor}
use Rattle.std.specs.Str.{bytes_eq}
use Rattle.std.specs.declared.alloc.Global.{Global}
use Rattle.serde_json.specs.Data.{Data, Members, no_members, member}
use Rattle.serde_json.specs.Find.{get}
use Rattle.serde_json.specs.View.{view, members_view}
use Rattle.serde_json.specs.declared.value.Value.{Value}
use Rattle.rc_doc.specs.Reading.{only}
use Rattle.rc_doc.specs.declared.refusal.Refusal.{Refusal}
use Rattle.rc_doc.specs.declared.refusal.Refusal.TheVariants.{Memory, NotDoc}
use Rattle.rc_doc.specs.declared.members.Remaining.{Remaining}

-- the keys, in order
abbrev pub keys : Members → List (List ℕ)
keys no_members = []
keys (member k d ms) = k ∷ keys ms

-- the first member, if its key is the name
abbrev pub first_named : List ℕ → Members → Option Data
first_named name no_members = None
first_named name (member k d ms) = if bytes_eq k name then Some d else None

-- the members without the first one, if its key is the name
abbrev pub after_named : List ℕ → Members → Members
after_named name no_members = no_members
after_named name (member k d ms) = if bytes_eq k name then ms else member k d ms

-- no member is there
abbrev pub if_none : Members → Option ⊤
if_none no_members = Some tt
if_none (member k d ms) = None

-- the next member, if there is one, and those after it
abbrev pub from_next : Option (Bor (String Global) × Bor Value) → List (String Global × Value) → Members
from_next None later = no_members
from_next (Some row) later = member (string_bytes row.0.now) (view row.1.now) (members_view later)

-- the members that are still to be found
abbrev pub left : Remaining → Members
left members = from_next members.next members.later

-- the value that was found, as data
abbrev pub found_data : Option (Bor Value) → Option Data
found_data found = option_map (λ value. view value.now) found

-- what was found are the members with these names in the value, if it has them
abbrev pub AreMembers : List (List ℕ) → Data → List (Option Data) → Type 0
AreMembers [] d founds = Unit {0}
AreMembers (name ∷ names) d [] = Unit {0}
AreMembers (name ∷ names) d (found ∷ founds) = (get name d ≡ found) × AreMembers names d founds

-- a call finds the members with these names of an object that has no other one, and refuses any other value
abbrev pub Finds : {X : Type 0} → Result X Refusal → (X → List (Option Data)) → List (List ℕ) → Data → Type 0
Finds (Ok x) founds names d = (only names d ≡ Some tt) × AreMembers names d (founds x)
Finds (Err NotDoc) founds names d = only names d ≡ None
Finds (Err Memory) founds names d = Unit {0}
