-- The words of commands.
use Rattle.std.proofs.Common.{◌≡◌, ◌⊎◌, inl, inr, ℕ, ◌<◌, ◌≤◌, ◌==◌, List, [], ◌∷◌, length, get_or, codes, decimal, refl}
use Rattle.std.proofs.Common.{ap, sym, ◌∙◌, arith, if◌then◌else◌}
use Rattle.std.proofs.lemmas.Fmt.{decimal_is_IsNumeral}
use Rattle.std.specs.Str.Parse.{digits_value}
use Rattle.rc_gen.specs.Generated.{most_units}
use Rattle.rc_program.specs.declared.command.Command.{Command}
use Rattle.rc_program.specs.declared.command.Command.TheVariants.{Tree, Fates, Why, Slots, Json, Replay}
use Rattle.rc_program.specs.declared.command.Command.TheVariants.{Generate}
use Rattle.rc_program.specs.Command.{AreWords, IsCommand, IsInRange, words_of}

-- a word of a list, and the number of the first letter of the first one
abbrev word : ℕ → List (List ℕ) → List ℕ
word i words = get_or words i []

abbrev letter : List (List ℕ) → ℕ
letter words = get_or (word 0 words) 0 0

-- the command of words that are those of a command
abbrev named : List (List ℕ) → Command
named words =
    if letter words == 116 then Tree else
    if letter words == 102 then Fates else
    if letter words == 119 then Why else
    if letter words == 115 then Slots else
    if letter words == 106 then Json else
    if letter words == 114 then Replay else
    Generate (digits_value 10 (word 1 words))

named_again : (command : Command) → IsInRange command → named (words_of command) ≡ command
named_again Tree range = refl
named_again Fates range = refl
named_again Why range = refl
named_again Slots range = refl
named_again Json range = refl
named_again Replay range = refl
named_again (Generate units) range = ap Generate (decimal_is_IsNumeral units (omega (arith, range.1))).1

-- words name one command
pub one_command : (words : List (List ℕ)) (one other : Command) → IsCommand words one → IsCommand words other
    → one ≡ other
one_command words one other is is' =
    sym (named_again one is.in_range) ∙ ap named (sym is.same ∙ is'.same) ∙ named_again other is'.in_range

-- a command has one word or two
pub one_or_two : (words : List (List ℕ)) → AreWords words → (length words ≡ 1) ⊎ (length words ≡ 2)
one_or_two words (Tree, is) = inl (ap length is.same)
one_or_two words (Fates, is) = inl (ap length is.same)
one_or_two words (Why, is) = inl (ap length is.same)
one_or_two words (Slots, is) = inl (ap length is.same)
one_or_two words (Json, is) = inl (ap length is.same)
one_or_two words (Replay, is) = inl (ap length is.same)
one_or_two words (Generate n, is) = inr (ap length is.same)

-- a command of one word
pub alone : (first : List ℕ) → AreWords (first ∷ [])
    → (first ≡ codes "tree") ⊎ ((first ≡ codes "fates") ⊎ ((first ≡ codes "why") ⊎ ((first ≡ codes "slots")
    ⊎ ((first ≡ codes "json") ⊎ (first ≡ codes "replay")))))
alone first (Tree, is) = inl (ap (word 0) is.same)
alone first (Fates, is) = inr (inl (ap (word 0) is.same))
alone first (Why, is) = inr (inr (inl (ap (word 0) is.same)))
alone first (Slots, is) = inr (inr (inr (inl (ap (word 0) is.same))))
alone first (Json, is) = inr (inr (inr (inr (inl (ap (word 0) is.same)))))
alone first (Replay, is) = inr (inr (inr (inr (inr (ap (word 0) is.same)))))
alone first (Generate n, is) = absurd (let e : 1 ≡ 2 = ap length is.same in omega arith)

-- a command of a word and a number
pub with_number : (first second : List ℕ) → AreWords (first ∷ (second ∷ []))
    → (first ≡ codes "gen") × ((units : ℕ) × (1 ≤ units) × (units ≤ most_units) × (second ≡ decimal units))
with_number first second (Tree, is) = absurd (let e : 2 ≡ 1 = ap length is.same in omega arith)
with_number first second (Fates, is) = absurd (let e : 2 ≡ 1 = ap length is.same in omega arith)
with_number first second (Why, is) = absurd (let e : 2 ≡ 1 = ap length is.same in omega arith)
with_number first second (Slots, is) = absurd (let e : 2 ≡ 1 = ap length is.same in omega arith)
with_number first second (Json, is) = absurd (let e : 2 ≡ 1 = ap length is.same in omega arith)
with_number first second (Replay, is) = absurd (let e : 2 ≡ 1 = ap length is.same in omega arith)
with_number first second (Generate n, is) =
    (ap (word 0) is.same, (n, is.in_range.0, is.in_range.1, ap (word 1) is.same))

-- a list of one word, and one of two
pub one_word : (words : List (List ℕ)) (first : List ℕ) → first ≡ get_or words 0 first → 1 ≤ length words
    → length words < 2 → words ≡ first ∷ []
one_word [] first is some few = absurd (omega arith)
one_word (x ∷ []) first is some few = ap (λ w. w ∷ []) (sym is)
one_word (x ∷ (y ∷ rest)) first is some few = absurd (omega arith)

pub two_words : (words : List (List ℕ)) (first second : List ℕ) → first ≡ get_or words 0 first
    → second ≡ get_or words 1 second → 2 ≤ length words → length words < 3 → words ≡ first ∷ (second ∷ [])
two_words [] first second is is' some few = absurd (omega arith)
two_words (x ∷ []) first second is is' some few = absurd (omega arith)
two_words (x ∷ (y ∷ [])) first second is is' some few =
    ap (λ w. w ∷ (y ∷ [])) (sym is) ∙ ap (λ w. first ∷ (w ∷ [])) (sym is')
two_words (x ∷ (y ∷ (z ∷ rest))) first second is is' some few = absurd (omega arith)

-- with these `search` finds whether words name a command
pub ruleset of_words = (one_word, two_words, one_or_two)
