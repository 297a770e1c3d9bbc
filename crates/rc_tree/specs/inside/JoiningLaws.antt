-- The laws by which contents of parts are put together.
use Rattle.std.specs.Prelude.{◌≡◌}
use Rattle.rc_tree.specs.Joining.{Joining}

-- no contents add nothing on either side, and joining is associative
pub record IsMonoid {A : Type 0} (j : Joining A) : Type 0 where
  pub before : (x : A) → j.both j.nothing x ≡ x
  pub behind : (x : A) → j.both x j.nothing ≡ x
  pub associative : (x y z : A) → j.both (j.both x y) z ≡ j.both x (j.both y z)
