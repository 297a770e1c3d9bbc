-- The entries of the blocks and of the nested values of one level, and what is inside of them: the next level.
use Rattle.std.specs.Prelude.{◌≡◌, ℕ, ◌+◌, List, [], ◌∷◌, ◌++◌, Option, Some, length}
use Rattle.serde.specs.Event.{Log}
use Rattle.serde_json.specs.Data.{Data}
use Rattle.rc_tree.specs.Model.{ReactiveBlock, ReactiveValue}
use Rattle.rc_show.proofs.ShownLists.{SentSoFar}
use Rattle.rc_flat.specs.Blocks.{after_block, blocks_in, flat_statements, values_in, Next}
use Rattle.rc_flat.specs.Model.{FlatStatement, NestedValue}
use Rattle.rc_flat.specs.Values.{entry_of, inside_value}

-- any items that were sent before are now followed by these
abbrev pub Lengthens : {X : Type 0} → (Data → Option X) → (X → Data) → List X → Log → Log → Type 0
Lengthens {X} reads shows more old new =
    (before : List X) (first : Log) → SentSoFar reads shows before first old
    → SentSoFar reads shows (before ++ more) first new

abbrev pub blocks_inside : List ReactiveBlock → List ReactiveBlock
blocks_inside [] = []
blocks_inside (x ∷ xs) = blocks_in x.statements ++ blocks_inside xs

abbrev pub values_inside : List ReactiveBlock → List ReactiveValue
values_inside [] = []
values_inside (x ∷ xs) = values_in x.statements ++ values_inside xs

-- the entries of blocks, if these are the next numbers
abbrev pub flat_blocks : Next → List ReactiveBlock → List (List FlatStatement)
flat_blocks next [] = []
flat_blocks next (x ∷ xs) = flat_statements next x.statements ∷ flat_blocks (after_block next x) xs

abbrev pub inside_values : List ReactiveValue → List ReactiveValue
inside_values [] = []
inside_values (x ∷ xs) = inside_value x ++ inside_values xs

-- the entries of nested values, if this is the next number
pub data AreEntries : ℕ → List ReactiveValue → List NestedValue → Type 0 where
  no_entry : {next : ℕ} → AreEntries next [] []
  entry : {next : ℕ} {x : ReactiveValue} {xs : List ReactiveValue} {first : NestedValue} {others : List NestedValue}
      → entry_of next x ≡ Some first → AreEntries (next + length (inside_value x)) xs others
      → AreEntries next (x ∷ xs) (first ∷ others)
