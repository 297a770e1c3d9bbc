-- What a call is specified by that has a computation with fuel for its definition, and that the fuel was enough.
use Rattle.std.specs.Prelude.{◌≡◌, ◌⊎◌, Result, Ok, Err}
use Rattle.rc_hir.specs.Model.{Fault}
use Rattle.rc_hir.specs.declared.fault.Fault.TheVariants.{NoMemory}
use Rattle.rc_tree.specs.Fuel.{Fueled, OutOfFuel, Failed, Done}

-- a call returns the computation's result and leaves the expected state, or runs out of memory; where the computation
-- runs out of fuel, nothing is said of the call
abbrev pub IsFueled : {A S : Type 0} → Fueled (A × S) → Result A Fault → S → Type 0
IsFueled OutOfFuel result end = Unit {0}
IsFueled (Failed fault) result end = (result ≡ Err NoMemory) ⊎ (result ≡ Err fault)
IsFueled (Done d) result end = (result ≡ Err NoMemory) ⊎ ((result ≡ Ok d.0) × (end ≡ d.1))

-- the fuel was enough
unfoldable pub HasFuel : {A : Type 0} → Fueled A → Type 0
HasFuel OutOfFuel = ⊥
HasFuel (Failed fault) = Unit {0}
HasFuel (Done a) = Unit {0}
