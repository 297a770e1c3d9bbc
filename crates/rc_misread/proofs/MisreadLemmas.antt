-- The part to which a walk goes isn't read as it is asked, and nests less deep than the value that it is a part of.
use Rattle.std.proofs.Common.{◌≡◌, ◌<◌, ◌≤◌, ◌+◌, ℕ, max, Bool, true, false, List, [], ◌∷◌, Option, Some, None}
use Rattle.std.proofs.Common.{Ordering, Less, Equal, Greater, refl, subst, sym, ap, arith, nat_cmp, option_and_then, unwrap_or}
use Rattle.std.proofs.Common.{if◌then◌else◌, ◌++◌, ◌∙◌, map, option_map}
use Rattle.std.proofs.lemmas.List.{map-append}
use Rattle.std.specs.Cmp.Lexicographic.{slice_cmp}
use Rattle.std.specs.Ordering.{match_ordering}
use Rattle.serde_json.specs.Data.{Data, null, array, object, Items, no_items, item, Members}
use Rattle.serde_json.specs.Data.{no_members, member, depth, items_depth, members_depth}
use Rattle.serde_json.specs.Find.{as_array, get, get_member}
use Rattle.serde_json.specs.View.{view}
use Rattle.rc_doc.specs.Reading.{tag_of}
use Rattle.rc_misread.specs.Misread.{Found, Move, asked_of, field, if_misread, item_at, item_form, misread_by}
use Rattle.rc_misread.specs.Misread.{IsWay, a_document, misread_field, misread_item, move_of, onward, start}
use Rattle.rc_misread.specs.inside.Parts.{found_of}
use Rattle.rc_misread.specs.Misread.{misread_part, not_null, or_later, part_at}
use Rattle.rc_misread.specs.Fields.{fields_of}
use Rattle.rc_misread.specs.Forms.{Row, is_read, may_be_null}
use Rattle.rc_misread.specs.declared.misread.Part.{Part}
use Rattle.rc_misread.specs.declared.misread.Step.{Step}
use Rattle.rc_misread.specs.declared.form.Asked.{Asked}
use Rattle.rc_misread.specs.declared.form.Form.{Form}

-- ---- depth

member_at : (o : Ordering) (d e : Data) (ms : Members) (later : Option Data)
    → (later ≡ Some e → depth e ≤ members_depth ms)
    → match_ordering o later (Some d) later ≡ Some e → depth e ≤ max (depth d) (members_depth ms)
member_at Less d e ms later below found = omega (arith, below found)
member_at Equal d e ms later below found =
    let it : d ≡ e = cc in
    let same : depth d ≡ depth e = ap depth it in
    omega (arith, same)
member_at Greater d e ms later below found = omega (arith, below found)

member_depth : (key : List ℕ) (ms : Members) (e : Data) → get_member key ms ≡ Some e → depth e ≤ members_depth ms
member_depth key no_members e is = cc
member_depth key (member k d ms) e is =
    member_at (slice_cmp nat_cmp key k) d e ms (get_member key ms) (λ found. member_depth key ms e found) is

field_depth : (key : List ℕ) (d e : Data) → get key d ≡ Some e → depth e < depth d
field_depth key (object ms) e is = omega (arith, member_depth key ms e is)
field_depth key _ e is = cc

not_null_is : (part : Option Data) (e : Data) → not_null part ≡ Some e → part ≡ Some e
not_null_is None e is = cc
not_null_is (Some null) e is = cc
not_null_is (Some _) e is = is

part_depth : (row : Row) (d e : Data) → part_at row d ≡ Some e → depth e < depth d
part_depth row d e is = at (may_be_null row.1) is
  where
    at : (b : Bool) → (if b then not_null (get row.0 d) else get row.0 d) ≡ Some e → depth e < depth d
    at true found = field_depth row.0 d e (not_null_is (get row.0 d) e found)
    at false found = field_depth row.0 d e found

-- ---- parts that are found

-- the part was there, and isn't read as it is asked
record IsFound (part : Option Data) (next : Found) : Type 0 where
  there : part ≡ Some next.value
  misread : is_read next.asked next.value ≡ false

if_misread_is : (move : Move) (asked : Asked) (part : Option Data) (next : Found) → if_misread move asked part
    ≡ Some next
    → IsFound part next
if_misread_is move asked None next e = cc
if_misread_is move asked (Some d) next e = at (is_read asked d) refl e
  where
    found : Found
    found = record { move = move; asked = asked; value = d }

    at : (b : Bool) → is_read asked d ≡ b → (if b then None else Some found) ≡ Some next → IsFound (Some d) next
    at true is e = cc
    at false is e =
        let same : found ≡ next = cc in
        subst (λ next. IsFound (Some d) next) same (record { there = refl; misread = is })

-- a part nests less deep than a value, and isn't read as it is asked
pub record IsBelow (d : Data) (next : Found) : Type 0 where
  pub misread : is_read next.asked next.value ≡ false
  pub depth : depth next.value < depth d

field_at : (row : Row) (d : Data) (next : Found) (first later : Option Found)
    → if_misread (field row.0) (asked_of row) (part_at row d) ≡ first → (later ≡ Some next → IsBelow d next)
    → or_later first later ≡ Some next → IsBelow d next
field_at row d next None later is below e = below e
field_at row d next (Some found) later is below e =
    let same : found ≡ next = cc in
    let f = if_misread_is _ _ _ found is in
    subst (λ next. IsBelow d next) same (record { misread = f.misread; depth = part_depth row d found.value f.there })

field_below : (rows : List Row) (d : Data) (next : Found) → misread_field rows d ≡ Some next → IsBelow d next
field_below [] d next e = cc
field_below (row ∷ rows) d next e =
    field_at row d next (if_misread (field row.0) (asked_of row) (part_at row d)) (misread_field rows d) refl
    (λ later. field_below rows d next later) e

-- it nests no deeper than the items
record IsAmong (ds : Items) (next : Found) : Type 0 where
  misread : is_read next.asked next.value ≡ false
  within : depth next.value ≤ items_depth ds

among_at : (d : Data) (ds : Items) (next : Found) (move : Move) (one : Asked) (first later : Option Found)
    → if_misread move one (Some d) ≡ first → (later ≡ Some next → IsAmong ds next)
    → or_later first later ≡ Some next → IsAmong (item d ds) next
among_at d ds next move one None later is among e =
    let rest = among e in record { misread = rest.misread; within = omega (arith, rest.within) }
among_at d ds next move one (Some found) later is among e =
    let same : found ≡ next = cc in
    let f = if_misread_is _ _ _ found is in
    let there : Some d ≡ Some found.value = f.there in
    let value : d ≡ found.value = cc in
    let deep : depth d ≡ depth found.value = ap depth value in
    subst (λ next. IsAmong (item d ds) next) same (record { misread = f.misread; within = omega (arith, deep) })

item_below : (form : Form) (count : ℕ) (ds : Items) (next : Found) → misread_item form count ds ≡ Some next
    → IsAmong ds next
item_below form count no_items next e = cc
item_below form count (item d ds) next e =
    let one : Asked = record { form = form; is_list = false } in
    among_at d ds next (item_at count) one (if_misread (item_at count) one (Some d)) (misread_item form (count + 1) ds)
    refl (λ later. item_below form (count + 1) ds next later) e

pub part_below : (asked : Asked) (d : Data) (next : Found) → misread_part asked d ≡ Some next → IsBelow d next
unfolding misread_part
part_below asked d next e = by (item_form asked) e
  where
    items : (form : Form) (d : Data) → option_and_then (misread_item form 0) (as_array d) ≡ Some next → IsBelow d next
    items form (array ds) e =
        let among = item_below form 0 ds next e in
        record { misread = among.misread; depth = omega (arith, among.within) }
    items form _ e = cc

    fields : (rows : Option (List Row)) → option_and_then (λ rows. misread_field rows d) rows ≡ Some next
        → IsBelow d next
    fields None e = cc
    fields (Some rows) e = field_below rows d next e

    by : (form : Option Form) → misread_by form asked.form d ≡ Some next → IsBelow d next
    by (Some form) e = items form d e
    by None e = fields (fields_of asked.form (unwrap_or (tag_of d) [])) e

-- ---- the way there

pub way_start : (whole : Data) (path : List Step) → path ≡ [] → IsWay whole (map move_of path) a_document whole
way_start whole path none = rw none start

-- the call found the first part that isn't read
pub found_on : (asked : Asked) (d : Data) (found : Option Part) (next : Part)
    → option_map found_of found ≡ misread_part asked d → found ≡ Some next → misread_part asked d ≡ Some (found_of next)
found_on asked d found next value is = sym value ∙ ap (option_map found_of) is

pub way_on : {whole : Data} {asked : Asked} {d : Data} (path path' : List Step) (next : Part)
    → IsWay whole (map move_of path) asked d → misread_part asked d ≡ Some (found_of next)
    → path' ≡ path ++ next.step ∷ [] → IsWay whole (map move_of path') next.asked (view next.value.now)
way_on path path' next way found longer = rw (longer, map-append move_of path (next.step ∷ [])) (onward way found)
