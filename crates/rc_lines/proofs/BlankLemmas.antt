-- Facts of a text of spaces.
use Rattle.std.proofs.Common.{◌≡◌, ℕ, ◌+◌, ◌-◌, ◌≤◌, List, ◌++◌, take, replicate, slice_index, codes, ap, ◌∙◌}
use Rattle.std.proofs.Common.{append_assoc, arith}
use Rattle.std.proofs.lemmas.List.{replicate-append-replicate, take-replicate, get_or-replicate}
use Rattle.std.specs.Str.{IsCharBoundary}

-- a text with some spaces more, and the others, is the text with all of them
pub spaces_more : (old piece new : List ℕ) (some all : ℕ) → new ≡ old ++ piece → piece ≡ replicate some 32
    → some ≤ all → new ++ replicate (all - some) 32 ≡ old ++ replicate all 32
spaces_more old piece new some all longer are few =
    let rest : List ℕ = replicate (all - some) 32 in
    let sum : some + (all - some) ≡ all = omega (arith, few) in
    let joined : ◌++◌ {A = ℕ} (replicate some 32) rest ≡ replicate all 32 =
    replicate-append-replicate some (all - some) 32 ∙ ap (λ n. replicate n 32) sum in
    ap (λ xs. xs ++ rest) (longer ∙ ap (λ xs. old ++ xs) are) ∙ append_assoc old (replicate some 32) rest
    ∙ ap (λ xs. old ++ xs) joined

-- the spaces that `blank` has the front of
abbrev spaces : List ℕ
spaces = codes "                                "

pub take_spaces : (n : ℕ) → n ≤ 32 → take n spaces ≡ replicate n 32
take_spaces n few = take-replicate n 32 32 few

-- a character begins at each index of them
pub spaces_split : (n : ℕ) → n ≤ 32 → IsCharBoundary spaces n
spaces_split n few = (
  few,
  λ less high. let space : slice_index spaces n ≡ 32 = get_or-replicate 32 n 32 0 less in omega (arith, space, high),
)
