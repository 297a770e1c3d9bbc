-- A key among names that are texts.
use Rattle.std.proofs.Common.{◌≡◌, ◌||◌, ℕ, List, [], ◌∷◌, Bor, map, bytes_eq, refl, ap}
use Rattle.std.specs.List.{list_any}

pub one_of_texts : (key : List ℕ) (names : List (Bor (List ℕ)))
    → list_any (bytes_eq key) (map (λ name. name.now) names) ≡ list_any (λ name. bytes_eq key name.now) names
one_of_texts key [] = refl
one_of_texts key (name ∷ names) = ap (λ later. bytes_eq key name.now || later) (one_of_texts key names)
