-- A table has the value last written through the reference at its number.
use Rattle.std.specs.Prelude.{ℕ, Bool, List, Option, slice_set}
use Rattle.std.specs.Borrow.{Fml, RattleType, MutBor, LendsIf}
use Rattle.rc_names.specs.contracts.table.Table.{the_row}

-- the members of `Name`, which a clause writes as I.Name
abbrev pub NameMembers : Type 0 → Type 0
NameMembers I = record { hash_input : I → List (List ℕ); eq : I → I → Bool; number : I → ℕ }

module _ (I T : RattleType) (g : NameMembers I.Denot) where
  abbrev pub lends_entry : MutBor (List T.Denot) → ℕ → Option (MutBor T.Denot) → Fml
  lends_entry s i r =
      LendsIf (the_row I T (record { number = g.number }) (record { eq = g.eq }) (record { hash_input = g.hash_input }))
      T s r (slice_set s.now i) s.now
