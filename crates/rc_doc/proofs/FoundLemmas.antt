-- Ascending names beside ascending keys: the walk finds the member of each name, and passes all members if each key is
-- one of the names.
use Rattle.std.proofs.Common.{◌≡◌, ℕ, Bool, true, false, ◌&&◌, ◌||◌, List, [], ◌∷◌, Option, Some, None, Ordering, Less}
use Rattle.std.proofs.Common.{Equal, Greater, is_eq, String, Global, refl, sym, ap, ◌∙◌, if◌then◌else◌, bytes_eq, nat_cmp}
use Rattle.std.proofs.Common.{string_cmp, Bor, subst}
use Rattle.std.proofs.Common.{Result, Ok, Err}
use Rattle.std.specs.Bool.{⊤}
use Rattle.std.proofs.lemmas.Cmp.{nat_list_cmp_total, tied_itself}
use Rattle.std.proofs.lemmas.Map.Text.{is_eq-slice_cmp}
use Rattle.std.proofs.lemmas.Slice.Eq.{bytes_eq-Decides}
use Rattle.std.specs.Cmp.Lexicographic.{slice_cmp}
use Rattle.std.specs.List.{AllByRecursion, list_any}
use Rattle.std.specs.List.Sorted.{IsStrictlySortedBy}
use Rattle.std.specs.Map.{keys_of}
use Rattle.std.specs.Map.Iter.{TakesFirst, deref_pair}
use Rattle.std.specs.Ordering.{is_lt, ordering_reverse}
use Rattle.serde_json.proofs.Views.{Entry}
use Rattle.serde_json.specs.Data.{Data, null, boolean, number, string, array, object, Members, no_members, member}
use Rattle.serde_json.specs.Find.{as_object, get_member}
use Rattle.serde_json.specs.View.{members_view}
use Rattle.serde_json.specs.declared.value.Value.{Value}
use Rattle.rc_doc.specs.declared.refusal.Refusal.{Refusal}
use Rattle.rc_doc.specs.declared.refusal.Refusal.TheVariants.{Memory, NotDoc}
use Rattle.rc_doc.specs.Reading.{all_known, only}
use Rattle.rc_doc.specs.inside.Names.{are_ascending}
use Rattle.rc_doc.specs.inside.Found.{AreMembers, Finds, after_named, first_named, from_next, if_none, keys}

is_less : (o : Ordering) → is_lt o ≡ true → o ≡ Less
is_less Less e = refl
is_less Equal e = cc
is_less Greater e = cc

both : (a b : Bool) → (a && b) ≡ true → (a ≡ true) × (b ≡ true)
both true b e = (refl, e)
both false b e = cc

-- the name is below each of these
abbrev IsBelowEach : List ℕ → List (List ℕ) → Type 0
IsBelowEach name names = AllByRecursion (λ next. slice_cmp nat_cmp name next ≡ Less) names

below_more : (name next : List ℕ) (names : List (List ℕ)) → slice_cmp nat_cmp name next ≡ Less
    → IsBelowEach next names → IsBelowEach name names
below_more name next [] below above = tt
below_more name next (n ∷ ns) below above =
    (nat_list_cmp_total.trans name next n below above.0, below_more name next ns below above.1)

below_each : (name : List ℕ) (names : List (List ℕ)) → are_ascending (name ∷ names) ≡ true → IsBelowEach name names
below_each name [] ascending = tt
below_each name (next ∷ names) ascending =
    let below : slice_cmp nat_cmp name next ≡ Less = is_less _ (both _ _ ascending).0 in
    (below, below_more name next names below (below_each next names (both _ _ ascending).1))

above_is : (name key : List ℕ) → slice_cmp nat_cmp name key ≡ Less → slice_cmp nat_cmp key name ≡ Greater
above_is name key below = nat_list_cmp_total.antisymm key name ∙ ap ordering_reverse below

differs : (name key : List ℕ) → slice_cmp nat_cmp name key ≡ Less → bytes_eq key name ≡ false
differs name key below = sym (is_eq-slice_cmp key name) ∙ ap is_eq (above_is name key below)

same_text : (key name : List ℕ) → bytes_eq key name ≡ true → key ≡ name
same_text key name same = (bytes_eq-Decides key name).0 same

-- a name below each of these isn't one of them, so it is below a key that is
below_named : (name : List ℕ) (names : List (List ℕ)) (key : List ℕ) → IsBelowEach name names
    → list_any (bytes_eq key) names ≡ true → slice_cmp nat_cmp name key ≡ Less
below_named name [] key above is = cc
below_named name (next ∷ names) key above is =
    split (λ among. below_named name names key above.1 among) (bytes_eq key next) refl is
  where
    split : (list_any (bytes_eq key) names ≡ true → slice_cmp nat_cmp name key ≡ Less)
        → (same : Bool) → bytes_eq key next ≡ same → (same || list_any (bytes_eq key) names) ≡ true
        → slice_cmp nat_cmp name key ≡ Less
    split later true same among = rw (same_text key next same) above.0
    split later false other among = later among

-- a name below each key is the name of no member
absent : (name : List ℕ) (ms : Members) → IsBelowEach name (keys ms) → get_member name ms ≡ None
absent name no_members below = refl
absent name (member k d ms) below = rw below.0 (absent name ms below.1)

known_without : (name : List ℕ) (names : List (List ℕ)) (ms : Members) → IsBelowEach name (keys ms)
    → all_known (name ∷ names) ms ≡ all_known names ms
known_without name names no_members below = refl
known_without name names (member k d ms) below =
    rw (differs name k below.0) (ap (λ rest. list_any (bytes_eq k) names && rest) (known_without name names ms below.1))

module _ (name : List ℕ) (names : List (List ℕ)) (above : IsBelowEach name names) where
  known_after : (ms : Members) → are_ascending (keys ms) ≡ true
      → all_known (name ∷ names) ms ≡ all_known names (after_named name ms)
  known_after no_members ascend = refl
  known_after (member k d ms) ascend = split (bytes_eq k name) refl
    where
      higher : IsBelowEach k (keys ms)
      higher = below_each k (keys ms) ascend

      among : (known : Bool) → list_any (bytes_eq k) names ≡ known
          → (known && all_known (name ∷ names) ms) ≡ (known && all_known names ms)
      among false unknown = refl
      among true known =
          let below : slice_cmp nat_cmp name k ≡ Less = below_named name names k above known in
          known_without name names ms (below_more name k (keys ms) below higher)

      split : (same : Bool) → bytes_eq k name ≡ same
          → ((same || list_any (bytes_eq k) names) && all_known (name ∷ names) ms)
          ≡ all_known names (if same then ms else member k d ms)
      split true same = known_without name names ms (rw (same_text k name same) at higher)
      split false other = among (list_any (bytes_eq k) names) refl

  first_is : (ms : Members) → are_ascending (keys ms) ≡ true → all_known (name ∷ names) ms ≡ true
      → get_member name ms ≡ first_named name ms
  first_is no_members ascend known = refl
  first_is (member k d ms) ascend known = split (bytes_eq k name) refl known
    where
      split : (same : Bool) → bytes_eq k name ≡ same
          → ((same || list_any (bytes_eq k) names) && all_known (name ∷ names) ms) ≡ true
          → get_member name (member k d ms) ≡ (if same then Some d else None)
      split true same known = rw (same_text k name same, tied_itself nat_list_cmp_total name) refl
      split false other known =
          let below : slice_cmp nat_cmp name k ≡ Less = below_named name names k above (both _ _ known).0 in
          absent name (member k d ms) (below, below_more name k (keys ms) below (below_each k (keys ms) ascend))

after_ascends : (name : List ℕ) (ms : Members) → are_ascending (keys ms) ≡ true
    → are_ascending (keys (after_named name ms)) ≡ true
after_ascends name no_members ascend = refl
after_ascends name (member k d ms) ascend = split (bytes_eq k name)
  where
    split : (same : Bool) → are_ascending (keys (if same then ms else member k d ms)) ≡ true
    split true = (both _ _ ascend).1
    split false = ascend

-- passing the member of a name leaves those of higher names
get-after : (name higher : List ℕ) (ms : Members) → slice_cmp nat_cmp name higher ≡ Less
    → get_member higher ms ≡ get_member higher (after_named name ms)
get-after name higher no_members below = refl
get-after name higher (member k d ms) below = split (bytes_eq k name) refl
  where
    split : (same : Bool) → bytes_eq k name ≡ same
        → get_member higher (member k d ms) ≡ get_member higher (if same then ms else member k d ms)
    split true same = rw (same_text k name same, above_is name higher below) refl
    split false other = refl

-- these are found of the members, one name after the other, and those are left
pub data Takes : List (List ℕ) → List (Option Data) → Members → Members → Type 0 where
  all_taken : {left : Members} → Takes [] [] left left
  taken : {name : List ℕ} {names : List (List ℕ)} {found : Option Data} {more : List (Option Data)}
      {members next left : Members} → found ≡ first_named name members → next ≡ after_named name members
      → Takes names more next left
      → Takes (name ∷ names) (found ∷ more) members left

-- a reading that gives nothing but whether the test holds
abbrev if_holds : Bool → Option ⊤
if_holds test = if test then Some tt else None

known-takes : {names : List (List ℕ)} {founds : List (Option Data)} (ms left : Members)
    → Takes names founds ms left → are_ascending names ≡ true → are_ascending (keys ms) ≡ true
    → if_holds (all_known names ms) ≡ if_none left
known-takes no_members left all_taken names_ascend ascend = refl
known-takes (member k d ms) left all_taken names_ascend ascend = refl
known-takes ms left (taken {name = name} {names = names} {next = next} is after rest) names_ascend ascend =
    let above = below_each name names names_ascend in
    ap if_holds (known_after name names above ms ascend)
    ∙ rw (sym after)
    (known-takes next left rest (both _ _ names_ascend).1 (rw after (after_ascends name ms ascend)))

found-takes : {names : List (List ℕ)} {founds : List (Option Data)} (all ms left : Members)
    → Takes names founds ms left → are_ascending names ≡ true → are_ascending (keys ms) ≡ true
    → all_known names ms ≡ true → AllByRecursion (λ name. get_member name all ≡ get_member name ms) names
    → AreMembers names (object all) founds
found-takes all ms left all_taken names_ascend ascend known same = tt
found-takes all ms left (taken {name = name} {names = names} {next = next} is after rest) names_ascend ascend known
    same =
    let above = below_each name names names_ascend in (
      same.0 ∙ first_is name names above ms ascend known ∙ sym is,
      found-takes all next left rest (both _ _ names_ascend).1
          (rw after (after_ascends name ms ascend))
          (rw after (sym (known_after name names above ms ascend) ∙ known))
          (still names above same.1),
    )
  where
    still : (ns : List (List ℕ)) → IsBelowEach name ns
        → AllByRecursion (λ n. get_member n all ≡ get_member n ms) ns
        → AllByRecursion (λ n. get_member n all ≡ get_member n next) ns
    still [] above same = tt
    still (n ∷ ns) above same = (rw after (same.0 ∙ get-after name n ms above.0), still ns above.1 same.1)

is_object : (d : Data) (ms : Members) → as_object d ≡ Some ms → d ≡ object ms
is_object null ms e = cc
is_object (boolean b) ms e = cc
is_object (number n) ms e = cc
is_object (string s) ms e = cc
is_object (array ds) ms e = cc
is_object (object all) ms e = cc

holds : (known : Bool) → if_holds known ≡ Some tt → known ≡ true
holds true e = refl
holds false e = cc

module _ {names : List (List ℕ)} {founds : List (Option Data)} {members left : Members} (d : Data)
    (is : as_object d ≡ Some members) (walk : Takes names founds members left) (names_ascend : are_ascending names
    ≡ true)
    (ascend : are_ascending (keys members) ≡ true) where
  pub only_if_passed : only names d ≡ if_none left
  only_if_passed = rw (is_object d members is) (known-takes members left walk names_ascend ascend)

  pub found_if_passed : if_none left ≡ Some tt → AreMembers names d founds
  found_if_passed passed =
      let known : all_known names members ≡ true =
      holds _ (known-takes members left walk names_ascend ascend ∙ passed)
      in
      rw (is_object d members is)
      (found-takes members members left walk names_ascend ascend known (itself names))
    where
      itself : (ns : List (List ℕ)) → AllByRecursion (λ n. get_member n members ≡ get_member n members) ns
      itself [] = tt
      itself (n ∷ ns) = (refl, itself ns)

-- the keys of a map ascend
keys_ascend : (es : List Entry) → IsStrictlySortedBy string_cmp (keys_of es)
    → are_ascending (keys (members_view es)) ≡ true
unfolding IsStrictlySortedBy
keys_ascend [] sorted = refl
keys_ascend (e ∷ []) sorted = refl
keys_ascend (e ∷ next ∷ es) sorted = rw sorted.0.0 (keys_ascend (next ∷ es) sorted.1)

pub next_ascends : (es : List Entry) (next : Option (Bor (String Global) × Bor Value)) (later : List Entry)
    → IsStrictlySortedBy string_cmp (keys_of es) → TakesFirst deref_pair es next later
    → are_ascending (keys (from_next next later)) ≡ true
next_ascends es None later sorted first = refl
next_ascends es (Some row) later sorted first =
    keys_ascend ((row.0.now, row.1.now) ∷ later)
    (subst (λ (entries : List Entry). IsStrictlySortedBy string_cmp (keys_of entries)) first sorted)

-- a call refuses where the reading gives nothing
abbrev pub Refuses : {X : Type 0} → Result X Refusal → Option ⊤ → Type 0
Refuses (Ok x) reading = ⊥
Refuses (Err NotDoc) reading = reading ≡ None
Refuses (Err Memory) reading = Unit {0}

pub finds_none : {X : Type 0} (result : Result X Refusal) (founds : X → List (Option Data)) (names : List (List ℕ))
    (d : Data) → Refuses result (only names d) → Finds result founds names d
finds_none (Ok x) founds names d refused = absurd refused
finds_none (Err NotDoc) founds names d refused = refused
finds_none (Err Memory) founds names d refused = tt
