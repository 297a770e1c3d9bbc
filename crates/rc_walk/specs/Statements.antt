-- What is in the place of a statement, which may give way, and what is left of two lists where memory ran out between
-- them.
use Rattle.std.specs.Prelude.{◌≡◌, ◌≤◌, ◌+◌, ◌++◌, ℕ, Bool, true, false, List, [], ◌∷◌, drop, reverse, take}
use Rattle.rc_tree.specs.Model.{ReactiveStatement}

-- statements, one after the other
abbrev pub TreeStatements : Type 0
TreeStatements = List ReactiveStatement

-- a statement that stays, and none otherwise
abbrev pub added_if : Bool → ReactiveStatement → TreeStatements
added_if true statement = statement ∷ []
added_if false statement = []

-- statements were moved from the end of one list to that of another, reversed, until one of them found no memory and is
-- gone; it was at the start or after it
pub record AreTornAt (start : ℕ) (old new taken_old taken_new : TreeStatements) : Type 0 where
  pub gone : ℕ
  pub after : start ≤ gone
  pub left : new ≡ take gone old
  pub taken : taken_new ≡ taken_old ++ reverse (drop (gone + 1) old)
