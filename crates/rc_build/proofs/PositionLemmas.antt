-- Positions of blocks in a graph: at each there is one block.
use Rattle.std.proofs.Common.{◌≡◌, ◌≢◌, ◌<◌, ℕ, Bool, true, false, List, None, Some, length, refl, sym, ap, ◌∙◌}
use Rattle.std.proofs.Common.{subst, get_or, position, cond, arith, lt-ltb, nat_lt}
use Rattle.std.specs.List.{IsDistinct}
use Rattle.std.specs.Map.{keys_of, lookup, values_of}
use Rattle.std.proofs.lemmas.List.Quantifiers.{position-Some}
use Rattle.std.proofs.lemmas.List.Sums.{position_or_len_is}
use Rattle.std.proofs.lemmas.Map.Keys.{apart_from_distinct}
use Rattle.std.proofs.lemmas.Map.Entries.{length-keys_of, length-values_of}
use Rattle.std.proofs.lemmas.Option.{slice_get-get_or}
use Rattle.indexmap.proofs.MapLemmas.{Found-position}
use Rattle.rc_names.specs.Numbers.{BlockId, same_id}
use Rattle.rc_names.proofs.NumbersLemmas.{ids_equivalence, same_id-eq}

-- a position is below the number of blocks
pub position_within : {X : Type 0} (blocks : List (BlockId × X)) (key : BlockId) (place : ℕ)
    → position (same_id key) (keys_of blocks) ≡ Some place → place < length blocks
position_within blocks key place at =
    subst (λ n. place < n) (length-keys_of blocks) (position-Some (same_id key) (keys_of blocks) place key at).0

-- at the position of a key is what is under the key
pub value_there : {X : Type 0} (blocks : List (BlockId × X)) (key : BlockId) {values : List X} {place : ℕ} {value : X}
    → position (same_id key) (keys_of blocks) ≡ Some place → values ≡ values_of blocks → value ≡ get_or values place value
    → lookup (same_id key) blocks ≡ Some value
value_there blocks key {values} {place} {value} at is here =
    let within = subst (λ n. place < n) (sym (length-values_of blocks)) (position_within blocks key place at) in
    (Found-position (same_id key) blocks place at).value ∙ slice_get-get_or (values_of blocks) place value within
    ∙ ap (λ w. Some (get_or w place value)) (sym is) ∙ ap Some (sym here)

module _ (keys : List BlockId) (key other : BlockId) where
  -- two blocks at one position are the same
  pub one_block : (place : ℕ) → position (same_id key) keys ≡ Some place → position (same_id other) keys ≡ Some place
      → other ≡ key
  one_block place at also =
      let here = get_or keys place key in
      same_id-eq other here (position-Some (same_id other) keys place key also).1
      ∙ sym (same_id-eq key here (position-Some (same_id key) keys place key at).1)

  -- two blocks with different positions, or of which one alone has a position, are different
  pub other_block : position (same_id other) keys ≢ position (same_id key) keys → same_id other key ≡ false
  other_block apart = by (same_id other key) refl
    where
      by : (b : Bool) → same_id other key ≡ b → b ≡ false
      by true same = absurd (apart (ap (λ k. position (same_id k) keys) (same_id-eq other key same)))
      by false same = refl

-- of distinct blocks, each is at its position
pub position_is : (keys : List BlockId) (key : BlockId) (place : ℕ) → IsDistinct same_id keys → place < length keys
    → get_or keys place key ≡ key → position (same_id key) keys ≡ Some place
position_is keys key place distinct within here =
    ap (λ n. cond (nat_lt n (length keys)) (Some n) None)
    (position_or_len_is (same_id key) keys place key (omega (arith, within)) before
    (λ w. ap (same_id key) here ∙ ids_equivalence.refl key))
    ∙ ap (λ b. cond b (Some place) None) (lt-ltb place (length keys) within)
  where
    before : (k : ℕ) → k < place → same_id key (get_or keys k key) ≡ false
    before k less = ids_equivalence.symm key (get_or keys k key) ∙ sym (ap (same_id (get_or keys k key)) here)
        ∙ apart_from_distinct same_id keys k place key distinct less within
