-- A list has the value last written through the reference at its index.
use Rattle.std.specs.Prelude.{ℕ, List, Option, slice_set}
use Rattle.std.specs.Borrow.{Fml, RattleType, MutBor, LendsIf}
use Rattle.rc_names.specs.contracts.list.List.{the_row}

module _ (T : RattleType) where
  abbrev pub lends_item : MutBor (List T.Denot) → ℕ → Option (MutBor T.Denot) → Fml
  lends_item s i r = LendsIf (the_row T) T s r (slice_set s.now i) s.now
