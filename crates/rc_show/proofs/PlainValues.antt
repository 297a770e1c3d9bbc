-- A text with the tokens of a plain value reads as that value alone.
use Rattle.std.proofs.Common.{◌≡◌, ℕ, ◌^◌, List, [], ◌∷◌, Bool, true, false, ◌&&◌, nat_lt, Option, None, Some}
use Rattle.std.proofs.Common.{option_and_then, Ordering, Less, Equal, Greater, refl, sym, ap, ◌∙◌, arith, append-nil}
use Rattle.std.proofs.Common.{le_refl}
use Rattle.std.proofs.lemmas.Bool.{and_parts}
use Rattle.std.proofs.lemmas.Bool.Decides.{nat_tests}
use Rattle.std.specs.Ordering.{is_gt, nat_cmp, match_ordering}
use Rattle.std.specs.Cmp.Lexicographic.{slice_cmp}
use Rattle.json.specs.Token.{Token}
use Rattle.json.specs.Lex.{tokens}
use Rattle.json.specs.Json as json
use Rattle.json.specs.Tree.{json_tokens, depth}
use Rattle.json.proofs.Found.{one_reading, Some_inj}
use Rattle.json.proofs.Printed.Trees.{value-json_tokens}
use Rattle.serde_json.specs.Data.{unsigned, negative, float, Data, null, boolean, number, string, array, object}
use Rattle.serde_json.specs.Data.{Items, no_items, item, Members, no_members, member, put}
use Rattle.serde_json.specs.Read.{max_depth, of_json, of_items, of_members, read}
use Rattle.serde_json.specs.Written.{outline, items_outline, members_outline, has_float, items_have_float}
use Rattle.serde_json.specs.Written.{members_have_float}
use Rattle.serde_json.proofs.Numbers.{number_of-decimal}
use Rattle.rc_show.specs.Showing.{add}
use Rattle.rc_show.specs.inside.Plain.{comes_last, is_plain, items_plain, fields_plain}

abbrev mutual
  -- each number is one of a `Value`
  pub are_small : Data → Bool
  are_small null = true
  are_small (boolean b) = true
  are_small (number (unsigned n)) = nat_lt n (2 ^ 64)
  are_small (number (negative z)) = false
  are_small (number (float x)) = false
  are_small (string text) = true
  are_small (array items) = items_small items
  are_small (object fields) = fields_small fields

  pub items_small : Items → Bool
  items_small no_items = true
  items_small (item d items) = are_small d && items_small items

  pub fields_small : Members → Bool
  fields_small no_members = true
  fields_small (member name d fields) = are_small d && fields_small fields

pub fields_parts : (found : Members) (name : List ℕ) (d : Data) (fields : Members)
    → fields_plain found (member name d fields) ≡ true
    → (is_plain d ≡ true) × (comes_last name found ≡ true) × (fields_plain (add name d found) fields ≡ true)
fields_parts found name d fields h =
    let first = and_parts (is_plain d) _ h in
    let rest = and_parts (comes_last name found) _ first.1 in
    (first.0, rest.0, rest.1)

mutual
  pub plain_has_no_float : (d : Data) → is_plain d ≡ true → has_float d ≡ false
  plain_has_no_float null h = refl
  plain_has_no_float (boolean b) h = refl
  plain_has_no_float (number (unsigned n)) h = refl
  plain_has_no_float (number (negative z)) h = refl
  plain_has_no_float (number (float x)) h = cc
  plain_has_no_float (string text) h = refl
  plain_has_no_float (array items) h = no_float_in_items items h
  plain_has_no_float (object fields) h = no_float_in_fields no_members fields h

  no_float_in_items : (items : Items) → items_plain items ≡ true → items_have_float items ≡ false
  no_float_in_items no_items h = refl
  no_float_in_items (item d items) h =
      let parts = and_parts (is_plain d) _ h in
      rw (plain_has_no_float d parts.0, no_float_in_items items parts.1) refl

  no_float_in_fields : (found fields : Members) → fields_plain found fields ≡ true → members_have_float fields ≡ false
  no_float_in_fields found no_members h = refl
  no_float_in_fields found (member name d fields) h =
      let parts = fields_parts found name d fields h in
      rw (plain_has_no_float d parts.0, no_float_in_fields (add name d found) fields parts.2) refl

abbrev append : Members → Members → Members
append no_members fields = fields
append (member name d found) fields = member name d (append found fields)

append-none : (found : Members) → append found no_members ≡ found
append-none no_members = refl
append-none (member name d found) = ap (member name d) (append-none found)

append-add : (name : List ℕ) (d : Data) (found fields : Members)
    → append (add name d found) fields ≡ append found (member name d fields)
unfolding add
append-add name d no_members fields = refl
append-add name d (member other e found) fields = ap (member other e) (append-add name d found fields)

third : (o : Ordering) (a b c : Members) → is_gt o ≡ true → match_ordering o a b c ≡ c
third Less a b c h = cc
third Equal a b c h = cc
third Greater a b c h = refl

put-last : (name : List ℕ) (d : Data) (found : Members) → comes_last name found ≡ true
    → put name d found ≡ add name d found
unfolding add
put-last name d no_members h = refl
put-last name d (member other e found) h =
    let parts = and_parts (is_gt (slice_cmp nat_cmp name other)) _ h in
    third (slice_cmp nat_cmp name other) _ _ _ parts.0 ∙ ap (member other e) (put-last name d found parts.1)

mutual
  back : (d : Data) → is_plain d ≡ true → are_small d ≡ true → of_json (outline d) ≡ Some d
  back null h k = refl
  back (boolean b) h k = refl
  back (number (unsigned n)) h k = rw (number_of-decimal n (grind (arith, nat_tests, k))) refl
  back (number (negative z)) h k = cc
  back (number (float x)) h k = cc
  back (string text) h k = refl
  back (array items) h k = rw (items_back items h k) refl
  back (object fields) h k = rw (fields_back no_members fields h k) refl

  items_back : (items : Items) → items_plain items ≡ true → items_small items ≡ true
      → of_items (items_outline items) ≡ Some items
  items_back no_items h k = refl
  items_back (item d items) h k =
      let parts = and_parts (is_plain d) _ h in
      let small = and_parts (are_small d) _ k in
      rw (back d parts.0 small.0, items_back items parts.1 small.1) refl

  fields_back : (found fields : Members) → fields_plain found fields ≡ true → fields_small fields ≡ true
      → of_members (members_outline fields) found ≡ Some (append found fields)
  fields_back found no_members h k = ap Some (sym (append-none found))
  fields_back found (member name d fields) h k =
      let parts = fields_parts found name d fields h in
      let small = and_parts (are_small d) _ k in
      rw (back d parts.0 small.0, put-last name d found parts.1)
      (fields_back (add name d found) fields parts.2 small.1 ∙ ap Some (append-add name d found fields))

whole_reading : (o : Option (json.Json × List Token)) (e : Data)
    → option_and_then of_json (option_and_then (λ p. json.if_last p.0 p.1) o) ≡ Some e
    → (j : json.Json) × (o ≡ Some (j, [])) × (of_json j ≡ Some e)
whole_reading None e h = cc
whole_reading (Some (j, [])) e h = (j, refl, h)
whole_reading (Some (j, t ∷ ts)) e h = cc

-- a text with the tokens of a plain value reads as that value alone
pub read_back : (d e : Data) (text : List ℕ) → is_plain d ≡ true → are_small d ≡ true
    → tokens text ≡ json_tokens (outline d) → read text ≡ Some e → e ≡ d
read_back d e text h k same again =
    let found = whole_reading _ e again in
    let spelled : json.value (depth (outline d)) (tokens text) ≡ Some (outline d, []) =
    ap (json.value (depth (outline d))) (same ∙ sym (append-nil _))
    ∙ value-json_tokens (outline d) (depth (outline d)) [] (le_refl _) in
    let one = Some_inj _ _
    (one_reading max_depth (depth (outline d)) (tokens text) (found.0, []) (outline d, []) found.1 spelled) in
    Some_inj e d (sym found.2 ∙ ap (λ p. of_json p.0) one ∙ back d h k)
