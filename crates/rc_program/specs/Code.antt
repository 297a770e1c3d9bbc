-- The numbers of the statuses.
use Rattle.std.specs.Prelude.{ℕ}
use Rattle.rc_program.specs.declared.status.Status.{Status}
use Rattle.rc_program.specs.declared.status.Status.TheVariants.{Done, Usage, NotJson, NotDoc, Refused, ReadFault}
use Rattle.rc_program.specs.declared.status.Status.TheVariants.{WriteFault, TooLarge, NoMemory, TooManySlots}

-- the number with which the process ends
abbrev pub code_of : Status → ℕ
code_of Done = 0
code_of Usage = 2
code_of NotJson = 3
code_of NotDoc = 4
code_of Refused = 5
code_of ReadFault = 6
code_of WriteFault = 7
code_of TooLarge = 8
code_of NoMemory = 9
code_of TooManySlots = 11
