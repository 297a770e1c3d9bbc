-- A box has the value last written through the reference.
use Rattle.std.specs.Borrow.{Fml, RattleType, MutBor, Lends}
use Rattle.rc_names.specs.contracts.boxed.Boxed.{the_row}

module _ (T : RattleType) where
  abbrev pub lends_value : MutBor T.Denot → MutBor T.Denot → Fml
  lends_value s r = Lends (the_row T) T s r (λ w. w)
