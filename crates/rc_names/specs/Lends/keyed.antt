-- A map has the value last written through the reference under its key.
use Rattle.std.specs.Prelude.{◌≡◌, List, Option}
use Rattle.std.specs.Borrow.{Fml, RattleType, MutBor, LendsSo}
use Rattle.std.specs.Map.{set_value}
use Rattle.rc_names.specs.Lends.table.{NameMembers}
use Rattle.rc_names.specs.contracts.keyed.Keyed.{the_row}

module _ (K V : RattleType) (g : NameMembers K.Denot) where
  abbrev pub lends_value : MutBor (List (K.Denot × V.Denot)) → K.Denot → Option (MutBor V.Denot) → Fml
  lends_value s k r =
      LendsSo (the_row K V (record { number = g.number }) (record { eq = g.eq }) (record { hash_input = g.hash_input }))
      V s r
      (λ n w. n ≡ set_value (g.eq k) s.now w) (λ n. n ≡ s.now)
