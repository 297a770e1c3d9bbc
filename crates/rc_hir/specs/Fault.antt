-- The results that a call may return where any call may run out of memory.
use Rattle.std.specs.Prelude.{◌≡◌, ◌⊎◌, Result, Ok, Err}
use Rattle.rc_hir.specs.Model.{Fault}
use Rattle.rc_hir.specs.declared.fault.Fault.TheVariants.{NoMemory}

-- a call returns the expected result, or runs out of memory
abbrev pub IsExpected : {A : Type 0} → Result A Fault → Result A Fault → Type 0
IsExpected expected (Ok answer) = expected ≡ Ok answer
IsExpected expected (Err fault) = (fault ≡ NoMemory) ⊎ (expected ≡ Err fault)
