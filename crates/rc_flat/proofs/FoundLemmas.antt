-- What calls take out of the parts that wait.
use Rattle.std.proofs.Common.{◌≡◌, ◌≢◌, ℕ, ◌+◌, true, false, List, [], ◌∷◌, ◌++◌, Option, Some, None, refl, arith}
use Rattle.std.specs.Prelude.{◌==◌}
use Rattle.std.proofs.lemmas.Bool.Decides.{nat_tests}
use Rattle.rc_tree.specs.Model.{ReactiveBlock, ReactiveValue}
use Rattle.rc_flat.specs.inside.Assembly.{Found, if_none, only_block, take_block, take_last, take_value}
use Rattle.rc_flat.proofs.QueueLemmas.{oldest_taken}
use Rattle.rc_flat.proofs.Waiting.{empty}

is_same : (n m : ℕ) → n ≡ m → (n == m) ≡ true
is_same n m e = grind (arith, nat_tests)

is_other : (n m : ℕ) → n ≢ m → (n == m) ≡ false
is_other n m other = grind (arith, nat_tests)

module _ (n : ℕ) (found : Found) where
  pub oldest_block : (later : List ReactiveBlock) (oldest : ReactiveBlock) → n + 1 ≡ found.next_block
      → found.blocks ≡ later ++ oldest ∷ []
      → take_block n found ≡ Some (oldest, record found { blocks = later; next_block = n })
  oldest_block later oldest number is =
      rw (is_same (n + 1) found.next_block number, oldest_taken found.blocks later oldest is) refl

  pub no_block_waits : n + 1 ≡ found.next_block → found.blocks ≡ [] → take_block n found ≡ None
  no_block_waits number none = rw (is_same (n + 1) found.next_block number, none) refl

  pub not_this_block : n + 1 ≢ found.next_block → take_block n found ≡ None
  not_this_block other = rw (is_other (n + 1) found.next_block other) refl

  pub oldest_value : (later : List ReactiveValue) (oldest : ReactiveValue) → n + 1 ≡ found.next_value
      → found.values ≡ later ++ oldest ∷ []
      → take_value n found ≡ Some (oldest, record found { values = later; next_value = n })
  oldest_value later oldest number is =
      rw (is_same (n + 1) found.next_value number, oldest_taken found.values later oldest is) refl

  pub no_value_waits : n + 1 ≡ found.next_value → found.values ≡ [] → take_value n found ≡ None
  no_value_waits number none = rw (is_same (n + 1) found.next_value number, none) refl

  pub not_this_value : n + 1 ≢ found.next_value → take_value n found ≡ None
  not_this_value other = rw (is_other (n + 1) found.next_value other) refl

-- ---- the body

none_left : {X Y : Type 0} (o : Option X) → if_none {Y = Y} o None ≡ None
none_left None = refl
none_left (Some x) = refl

some_left : {X Y : Type 0} (xs : List X) (r : Option Y) → xs ≢ [] → if_none (take_last xs) r ≡ None
some_left {X = X} {Y = Y} xs r other = split (take_last xs) refl
  where
    split : (o : Option (X × List X)) → take_last xs ≡ o → if_none o r ≡ None
    split None e = absurd (other (empty xs e))
    split (Some last) e = refl

module _ (blocks : List ReactiveBlock) (values : List ReactiveValue) where
  pub no_body : blocks ≡ [] → only_block blocks values ≡ None
  no_body none = rw none refl

  module _ (later : List ReactiveBlock) (body : ReactiveBlock) (is : blocks ≡ later ++ body ∷ []) where
    pub one_body : later ≡ [] → values ≡ [] → only_block blocks values ≡ Some body
    one_body alone none = rw (oldest_taken blocks later body is, alone, none) refl

    pub other_blocks : later ≢ [] → only_block blocks values ≡ None
    other_blocks other = rw (oldest_taken blocks later body is) (some_left later _ other)

    pub other_values : values ≢ [] → only_block blocks values ≡ None
    other_values other =
        rw (oldest_taken blocks later body is, some_left values (Some body) other) (none_left (take_last later))
