-- A list has as many entries as the array from which it is read has items.
use Rattle.std.proofs.Common.{◌≡◌, List, [], ◌∷◌, length, Option, Some, None, option_and_then, refl, arith}
use Rattle.std.specs.Option.{option_map_or}
use Rattle.serde_json.specs.Data.{Data, Items, no_items, item}
use Rattle.serde_json.specs.Events.{items_len}
use Rattle.serde_json.specs.Find.{as_array}
use Rattle.rc_doc.specs.Reading.{all_items, array_len, list_of}

length-all_items : {X : Type 0} (read : Data → Option X) (items : Items) (xs : List X) → all_items read items ≡ Some xs
    → length xs ≡ items_len items
length-all_items {X} read no_items xs is = let e : xs ≡ [] = cc in rw e refl
length-all_items {X} read (item d items) xs is =
    split (λ ys all. length-all_items read items ys all) (read d) (all_items read items) refl is
  where
    split : ((ys : List X) → all_items read items ≡ Some ys → length ys ≡ items_len items)
        → (first : Option X) (rest : Option (List X)) → all_items read items ≡ rest
        → option_and_then (λ x. option_and_then (λ xs. Some (x ∷ xs)) rest) first ≡ Some xs
        → length xs ≡ items_len (item d items)
    split more None rest all is = absurd (let no : ⊥ = cc in no)
    split more (Some x) None all is = absurd (let no : ⊥ = cc in no)
    split more (Some x) (Some ys) all is =
        let e : xs ≡ x ∷ ys = cc in
        let n : length ys ≡ items_len items = more ys all in
        rw e (omega (arith, n))

pub length-list_of : {X : Type 0} (read : Data → Option X) (d : Data) (xs : List X) → list_of read d ≡ Some xs
    → length xs ≡ array_len d
length-list_of {X} read d xs is = split (as_array d) is
  where
    split : (items : Option Items) → option_and_then (all_items read) items ≡ Some xs
        → length xs ≡ option_map_or items_len items 0
    split None is = absurd (let no : ⊥ = cc in no)
    split (Some items) is = length-all_items read items xs is
