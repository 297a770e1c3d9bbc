-- The last item of a list, which has waited longest in a queue.
use Rattle.std.proofs.Common.{◌≡◌, List, [], ◌∷◌, ◌++◌, Some, refl}
use Rattle.rc_flat.specs.inside.Assembly.{take_last}

pub last_taken : {X : Type 0} (xs : List X) (x : X) → take_last (xs ++ x ∷ []) ≡ Some (x, xs)
last_taken [] x = refl
last_taken (y ∷ []) x = refl
last_taken (y ∷ z ∷ zs) x = rw (last_taken (z ∷ zs) x) refl

pub oldest_taken : {X : Type 0} (all later : List X) (oldest : X) → all ≡ later ++ oldest ∷ []
    → take_last all ≡ Some (oldest, later)
oldest_taken all later oldest is = rw is (last_taken later oldest)
