-- Entries that are taken off the end of a list.
use Rattle.std.proofs.Common.{◌≡◌, ◌∙◌, ◌+◌, ◌-◌, ℕ, List, [], ◌∷◌, ◌++◌, drop, length, reverse, take}
use Rattle.std.proofs.Common.{refl, sym, ap, arith}
use Rattle.std.proofs.lemmas.List.{drop-drop, length-append, reverse-append, take_at}

-- a list without its last entry
pub before_last : {X : Type 0} (old new : List X) (last : X) → old ≡ new ++ last ∷ [] → new ≡ take (length old - 1) old
before_last old new last is =
    let long : length (new ++ last ∷ []) ≡ length new + 1 = length-append new (last ∷ []) in
    rw (is, long) (sym (take_at new (last ∷ []) (length new + 1 - 1) (omega arith)))

-- a reversed list without its last entry is the list without its first one, reversed
pub reversed_rest : {X : Type 0} (xs : List X) → take (length (reverse xs) - 1) (reverse xs) ≡ reverse (drop 1 xs)
reversed_rest [] = refl
reversed_rest (x ∷ xs) =
    sym (before_last (reverse (x ∷ xs)) (reverse xs) x (reverse-append (x ∷ []) xs))

-- the entries after an index, reversed
pub popped_behind : {X : Type 0} (all from now : List X) (i : ℕ) → from ≡ reverse (drop i all)
    → now ≡ take (length from - 1) from → now ≡ reverse (drop (i + 1) all)
popped_behind all from now i is popped =
    popped ∙ ap (λ l. take (length l - 1) l) is ∙ reversed_rest (drop i all) ∙ ap reverse (drop-drop 1 i all)
