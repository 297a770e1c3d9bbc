-- The contents of parts put together: no contents, and the contents of two parts.
--
-- Contents are a list in most cases. If they depend on the surroundings of a part, they are a function of these.
use Rattle.std.specs.Prelude.{List, [], ◌∷◌, ◌++◌, Option, None, Some}

-- the contents of no part, and those of two parts
pub record Joining (A : Type 0) : Type 0 where
  pub nothing : A
  pub both : A → A → A

-- lists, appended
abbrev pub lists : {X : Type 0} → Joining (List X)
lists = record { nothing = []; both = λ first second. first ++ second }

-- contents that depend on the surroundings, which both parts share
abbrev pub from_around : {W A : Type 0} → Joining A → Joining (W → A)
from_around j = record {
  nothing = λ around. j.nothing;
  both = λ first second around. j.both (first around) (second around);
}

module _ {A : Type 0} (j : Joining A) where
  -- the contents of the parts of a list, in order
  abbrev pub all_of : List A → A
  all_of [] = j.nothing
  all_of (x ∷ xs) = j.both x (all_of xs)

  -- the contents of an optional part
  abbrev pub if_there : Option A → A
  if_there None = j.nothing
  if_there (Some x) = x
