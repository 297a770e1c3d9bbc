-- The parts that wait, with more of them at the end.
use Rattle.std.proofs.Common.{◌≡◌, ◌∙◌, ℕ, ◌+◌, Bool, true, false, List, [], ◌∷◌, ◌++◌, Option, Some, None, refl, sym}
use Rattle.std.proofs.Common.{ap, subst, arith}
use Rattle.std.specs.Prelude.{◌==◌, if◌then◌else◌, length, option_and_then, unwrap_or}
use Rattle.std.proofs.lemmas.Bool.Decides.{nat_tests}
use Rattle.std.proofs.lemmas.List.{append_assoc, append-nil, length-append}
use Rattle.std.proofs.lemmas.Option.{option_and_then_some}
use Rattle.rc_tree.specs.Model.{ReactiveBlock, ReactiveValue}
use Rattle.rc_flat.specs.Blocks.{Next}
use Rattle.rc_flat.specs.inside.Assembly.{Found, if_none, only_block, take_block, take_last, take_value}
use Rattle.rc_flat.proofs.QueueLemmas.{last_taken}

-- what is in an option
pub some_is : {X : Type 0} {a b : X} → ◌≡◌ {A = Option X} (Some a) (Some b) → a ≡ b
some_is {a = a} e = ap (λ o. unwrap_or o a) e

-- a part that is read, and what is left
pub read_is : {X : Type 0} {a b : X} {f g : Found} → a ≡ b → f ≡ g
    → ◌≡◌ {A = Option (X × Found)} (Some (a, f)) (Some (b, g))
read_is p q = rw (p, q) refl

pub if_some : {X : Type 0} (b : Bool) (o : Option X) (y : X) → (if b then o else None) ≡ Some y → (b ≡ true) × (o ≡ Some y)
if_some true o y h = (refl, h)
if_some false o y h = cc

pub same : {bs cs : List ReactiveBlock} {vs us : List ReactiveValue} {b c v u : ℕ} → bs ≡ cs → vs ≡ us → b ≡ c → v ≡ u
    → ◌≡◌ {A = Found} (record { blocks = bs; values = vs; next_block = b; next_value = v })
    (record { blocks = cs; values = us; next_block = c; next_value = u })
same p q r s = rw (p, q, r, s) refl

-- the next numbers after those of the parts that wait
abbrev pub next_of : Found → Next
next_of found = record { block = found.next_block; value = found.next_value }

abbrev pub more_values : Found → List ReactiveValue → Found
more_values found vs = record found { values = found.values ++ vs; next_value = found.next_value + length vs }

abbrev pub more_blocks : Found → List ReactiveBlock → Found
more_blocks found bs = record found { blocks = found.blocks ++ bs; next_block = found.next_block + length bs }

abbrev pub more : Found → List ReactiveBlock → List ReactiveValue → Found
more found bs vs = more_values (more_blocks found bs) vs

module _ (found : Found) where
  pub no_values : found ≡ more_values found []
  no_values = same refl (sym (append-nil found.values)) refl (omega arith)

  pub no_blocks : found ≡ more_blocks found []
  no_blocks = same (sym (append-nil found.blocks)) refl (omega arith) refl

  pub none_more : found ≡ more found [] []
  none_more = same (sym (append-nil found.blocks)) (sym (append-nil found.values)) (omega arith) (omega arith)

  pub values_join : (vs us : List ReactiveValue)
      → more_values (more_values found vs) us ≡ more_values found (vs ++ us)
  values_join vs us = same refl (append_assoc found.values vs us) refl (omega (arith, length-append vs us))

  pub blocks_join : (bs cs : List ReactiveBlock)
      → more_blocks (more_blocks found bs) cs ≡ more_blocks found (bs ++ cs)
  blocks_join bs cs = same (append_assoc found.blocks bs cs) refl (omega (arith, length-append bs cs)) refl

  pub more_join : (bs cs : List ReactiveBlock) (vs us : List ReactiveValue)
      → more (more found bs vs) cs us ≡ more found (bs ++ cs) (vs ++ us)
  more_join bs cs vs us =
      same (append_assoc found.blocks bs cs) (append_assoc found.values vs us) (omega (arith, length-append bs cs))
      (omega (arith, length-append vs us))

-- ---- the last part

last_is : {X : Type 0} (xs : List X) (last : X × List X) → take_last xs ≡ Some last → xs ≡ last.1 ++ last.0 ∷ []
last_is [] last h = cc
last_is (y ∷ []) last h = ap (λ p. p.1 ++ p.0 ∷ []) (some_is h)
last_is (y ∷ z ∷ zs) last h =
    option_and_then_some _ (take_last (z ∷ zs)) _ h (λ before e r.
    ap (λ t. y ∷ t) (last_is (z ∷ zs) before e) ∙ ap (λ p. p.1 ++ p.0 ∷ []) (some_is r))

if_none_some : {X Y : Type 0} (o : Option X) (r : Option Y) (y : Y) → if_none o r ≡ Some y → (o ≡ None) × (r ≡ Some y)
if_none_some None r y h = (refl, h)
if_none_some (Some x) r y h = cc

none_before : {X : Type 0} (o : Option (X × List X)) (x : X)
    → option_and_then {U = X × List X} (λ last. Some (last.0, x ∷ last.1)) o ≡ None → o ≡ None
none_before None x h = refl
none_before (Some last) x h = cc

there : {X : Type 0} (x : X) (xs : List X) → take_last (x ∷ xs) ≡ None → ⊥
there x [] h = cc
there x (y ∷ ys) h = there y ys (none_before (take_last (y ∷ ys)) x h)

pub empty : {X : Type 0} (xs : List X) → take_last xs ≡ None → xs ≡ []
empty [] h = refl
empty (x ∷ xs) h = absurd (there x xs h)

-- one block waits, and no value
pub only_is : (bs : List ReactiveBlock) (vs : List ReactiveValue) (body : ReactiveBlock) → only_block bs vs ≡ Some body
    → (bs ≡ body ∷ []) × (vs ≡ [])
only_is bs vs body h =
    option_and_then_some _ (take_last bs) _ h (λ last e r.
    let blocks = if_none_some (take_last last.1) _ body r in
    let values = if_none_some (take_last vs) _ body blocks.1 in (
      last_is bs last e ∙ (ap (λ z. z ++ last.0 ∷ []) (empty last.1 blocks.0) ∙ ap (λ z. z ∷ []) (some_is values.1)),
      empty vs values.0,
    ))

its_number : {X : Type 0} (n : ℕ) (x : X) → (n + 1 == n + length (x ∷ [])) ≡ true
its_number n x = grind (arith, nat_tests)

number_is : {X : Type 0} (n m : ℕ) (x : X) → (n + 1 == m) ≡ true → m ≡ n + length (x ∷ [])
number_is n m x h = grind (arith, nat_tests)

-- the last value has the number before the next
pub value_taken : (found : Found) (x : ReactiveValue)
    → take_value found.next_value (more_values found (x ∷ [])) ≡ Some (x, found)
value_taken found x = rw (its_number found.next_value x, last_taken found.values x) refl

pub value_takes : (n : ℕ) (w : Found) (x : ReactiveValue) (left : Found) → take_value n w ≡ Some (x, left)
    → (n ≡ left.next_value) × (w ≡ more_values left (x ∷ []))
value_takes n w x left h =
    let test = if_some (n + 1 == w.next_value) _ (x, left) h in
    option_and_then_some _ (take_last w.values) _ test.1 (λ last e r.
    subst (λ p. (n ≡ p.1.next_value) × (w ≡ more_values p.1 (p.0 ∷ []))) (some_is r)
    (refl, same refl (last_is w.values last e) refl (number_is n w.next_value last.0 test.0)))

-- the last block has the number before the next
pub block_taken : (found : Found) (x : ReactiveBlock)
    → take_block found.next_block (more_blocks found (x ∷ [])) ≡ Some (x, found)
block_taken found x = rw (its_number found.next_block x, last_taken found.blocks x) refl

pub block_takes : (n : ℕ) (w : Found) (x : ReactiveBlock) (left : Found) → take_block n w ≡ Some (x, left)
    → (n ≡ left.next_block) × (w ≡ more_blocks left (x ∷ []))
block_takes n w x left h =
    let test = if_some (n + 1 == w.next_block) _ (x, left) h in
    option_and_then_some _ (take_last w.blocks) _ test.1 (λ last e r.
    subst (λ p. (n ≡ p.1.next_block) × (w ≡ more_blocks p.1 (p.0 ∷ []))) (some_is r)
    (refl, same (last_is w.blocks last e) refl (number_is n w.next_block last.0 test.0) refl))
