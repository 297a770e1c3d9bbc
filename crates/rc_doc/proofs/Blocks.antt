-- Reading blocks one after the other, as long as their keys are distinct.
use Rattle.std.proofs.Common.{◌≡◌, ℕ, ◌+◌, ◌<◌, Bool, true, false, ◌==◌, ◌||◌, List, [], ◌∷◌, ◌++◌, Option, Some, None}
use Rattle.std.proofs.Common.{is_some, option_and_then, length, get_or, drop, refl, sym, ap, ◌∙◌, append_assoc, arith}
use Rattle.std.proofs.lemmas.Bool.Decides.{nat_tests}
use Rattle.std.proofs.lemmas.List.{drop_more}
use Rattle.std.proofs.lemmas.List.Folds.{list_any-append}
use Rattle.std.specs.Map.{lookup}
use Rattle.indexmap.specs.IndexMap.{insert_entry}
use Rattle.serde_json.specs.View.{view, items_view}
use Rattle.serde_json.specs.declared.value.Value.{Value}
use Rattle.rc_names.specs.Numbers.{BlockId}
use Rattle.rc_hir.specs.Model.{BasicBlock}
use Rattle.rc_doc.specs.Graph.{are_distinct, has_key, if_distinct, keyed_block_of}
use Rattle.rc_doc.specs.Reading.{all_items}

abbrev pub Entry : Type 0
Entry = BlockId × BasicBlock

-- two keys are the same number
abbrev pub same_key : BlockId → BlockId → Bool
same_key m n = m.0 == n.0

-- the blocks so far, followed by those that are still to be read
abbrev pub followed : List Entry → List Value → Option (List Entry)
followed blocks left =
    option_and_then (λ entries. if_distinct (blocks ++ entries)) (all_items keyed_block_of (items_view left))

-- The blocks so far have distinct keys, and reading the others after them gives all blocks.
pub record ReadSoFar (blocks : List Entry) (left all : List Value) : Type 0 where
  pub distinct : are_distinct blocks ≡ true
  pub read : followed blocks left ≡ followed [] all

has_key-append : (key : BlockId) (xs ys : List Entry) → has_key key (xs ++ ys) ≡ (has_key key xs || has_key key ys)
has_key-append key xs ys = list_any-append (λ entry. key.0 == entry.0.0) xs ys

clash : (blocks : List Entry) (e : Entry) (es : List Entry) → has_key e.0 blocks ≡ true
    → are_distinct (blocks ++ e ∷ es) ≡ false
clash [] e es h = cc
clash (x ∷ blocks) e es h = grind (arith, nat_tests, clash blocks e es, has_key-append x.0 blocks (e ∷ es))

still_distinct : (blocks : List Entry) (e : Entry) → are_distinct blocks ≡ true → has_key e.0 blocks ≡ false
    → are_distinct (blocks ++ e ∷ []) ≡ true
still_distinct [] e h k = refl
still_distinct (x ∷ blocks) e h k =
    grind (arith, nat_tests, still_distinct blocks e, has_key-append x.0 blocks (e ∷ []))

here : (key : BlockId) (blocks : List Entry) → is_some (lookup (same_key key) blocks) ≡ has_key key blocks
here key [] = refl
here key (x ∷ blocks) = grind (arith, nat_tests, here key blocks)

appended : (key : BlockId) (b : BasicBlock) (blocks : List Entry) → has_key key blocks ≡ false
    → insert_entry same_key blocks key b ≡ blocks ++ (key, b) ∷ []
appended key b [] h = refl
appended key b (x ∷ blocks) h = grind (arith, nat_tests, appended key b blocks)

clash_in : (blocks : List Entry) (e : Entry) (es : Option (List Entry)) → has_key e.0 blocks ≡ true
    → option_and_then (λ entries. if_distinct (blocks ++ entries)) (option_and_then (λ xs. Some (e ∷ xs)) es) ≡ None
clash_in blocks e None h = refl
clash_in blocks e (Some es) h = rw (clash blocks e es h) refl

push_in : (blocks : List Entry) (e : Entry) (es : Option (List Entry))
    → option_and_then (λ entries. if_distinct (blocks ++ entries)) (option_and_then (λ xs. Some (e ∷ xs)) es)
    ≡ option_and_then (λ entries. if_distinct ((blocks ++ e ∷ []) ++ entries)) es
push_in blocks e None = refl
push_in blocks e (Some es) = ap if_distinct (sym (append_assoc blocks (e ∷ []) es))

module _ (blocks : List Entry) (values : List Value) (i : ℕ) (v : Value) (key : BlockId) (b : BasicBlock)
    (so_far : ReadSoFar blocks (drop i values) values) (lt : i < length values) (is : v ≡ get_or values i v)
    (reads : keyed_block_of (view v) ≡ Some (key, b)) where
  next_value : drop i values ≡ v ∷ drop (i + 1) values
  next_value = drop_more values i v lt ∙ ap (λ w. w ∷ drop (i + 1) values) (sym is)

  pub repeated_key : is_some (lookup (same_key key) blocks) ≡ true → followed [] values ≡ None
  repeated_key there =
      sym so_far.read ∙ ap (followed blocks) next_value ∙ rw reads
      (clash_in blocks (key, b) _ (sym (here key blocks) ∙ there))

  pub new_key : (after : List Entry) → after ≡ insert_entry same_key blocks key b
      → is_some (lookup (same_key key) blocks) ≡ false
      → ReadSoFar after (drop (i + 1) values) values
  new_key after inserted missing =
      let fresh : has_key key blocks ≡ false = sym (here key blocks) ∙ missing in
      let pushed : after ≡ blocks ++ (key, b) ∷ [] = inserted ∙ appended key b blocks fresh in
      let step : followed blocks (drop i values) ≡ followed (blocks ++ (key, b) ∷ []) (drop (i + 1) values) =
      ap (followed blocks) next_value ∙ rw reads (push_in blocks (key, b) _) in
      rw pushed
      (record { distinct = still_distinct blocks (key, b) so_far.distinct fresh; read = sym step ∙ so_far.read })
