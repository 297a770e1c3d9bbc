-- A set of names as a list in the order of their numbers.
use Rattle.std.specs.Prelude.{◌↔◌, ℕ, Contains, List, map}
use Rattle.std.specs.List.Sorted.{IsStrictlyIncreasing}
use Rattle.rc_names.specs.Numbers.{DeclarationId}

abbrev pub numbers_of : List DeclarationId → List ℕ
numbers_of names = map (λ name. name.0) names

-- the names of a set by rising number, each once
pub record AreInOrder (set names : List DeclarationId) : Type 0 where
  pub rising : IsStrictlyIncreasing (numbers_of names)
  pub same : (name : DeclarationId) → Contains names name ↔ Contains set name
