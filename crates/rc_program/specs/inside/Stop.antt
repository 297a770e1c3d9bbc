-- What holds where a step of the program stops it: the status of the reason, and the facts of the status.
use Rattle.std.specs.Prelude.{ℕ, List, Option, Result, Ok, Err, ⊤}
use Rattle.rc_program.specs.declared.stop.Stop.{Stop}
use Rattle.rc_program.specs.declared.stop.Stop.TheVariants as stops
use Rattle.rc_program.specs.declared.status.Status.{Status}
use Rattle.rc_program.specs.declared.status.Status.TheVariants.{Usage, NotJson, NotDoc, ReadFault, WriteFault}
use Rattle.rc_program.specs.declared.status.Status.TheVariants.{TooLarge, NoMemory, TooManySlots}
use Rattle.rc_program.specs.Command.{Origin}
use Rattle.rc_program.specs.Device.{IsReadToEnd}
use Rattle.rc_program.specs.DueStatus.{IsDueForBytes}
use Rattle.rc_program.specs.Status.{HasDocument, HasNoDocument, HasTakenSome, HasTakenTooMany}
use Rattle.rc_program.specs.declared.given.Given.{Given}
use Rattle.rc_program.specs.declared.given.Form.{Form}

-- the status of a program that stopped
abbrev pub status_of : Stop → Status
status_of stops.Usage = Usage
status_of stops.NotJson = NotJson
status_of stops.NotDoc = NotDoc
status_of stops.ReadFault = ReadFault
status_of stops.WriteFault = WriteFault
status_of stops.TooLarge = TooLarge
status_of stops.NoMemory = NoMemory
status_of stops.TooManySlots = TooManySlots

-- the status of a program that stopped, or that came to its end with this status
abbrev pub status_from : Result Status Stop → Status
status_from (Ok status) = status
status_from (Err stop) = status_of stop

-- a step over these bytes stopped with the status that is due for them, or ran out of memory
abbrev pub IsStopFor : Form → List ℕ → Stop → Type 0
IsStopFor form bytes stops.NoMemory = ⊤
IsStopFor form bytes stop = IsDueForBytes form bytes (status_of stop)

-- Reading to the end gave these bytes, or stopped for this reason.
abbrev pub IsReadOrStop : {X : Type 0} → (X → List ℕ) → Option (List ℕ) → Option (List ℕ) → Result X Stop → Type 0
IsReadOrStop bytes_of left left' (Ok read_bytes) = IsReadToEnd left left' (bytes_of read_bytes)
IsReadOrStop bytes_of left left' (Err stops.TooLarge) = HasTakenTooMany left left'
IsReadOrStop bytes_of left left' (Err stops.ReadFault) = HasTakenSome left left'
IsReadOrStop bytes_of left left' (Err stops.NoMemory) = ⊤
IsReadOrStop bytes_of left left' (Err _) = ⊥

-- The document from there was had, or the program stopped for this reason.
abbrev pub IsDocumentOrStop : Origin → Option (List ℕ) → Option (List ℕ) → Result Given Stop → Type 0
IsDocumentOrStop origin left left' (Ok given) = HasDocument origin left left' given
IsDocumentOrStop origin left left' (Err stops.NoMemory) = ⊤
IsDocumentOrStop origin left left' (Err stop) = HasNoDocument origin left left' (status_of stop)

-- no text was made: memory ran out, or there is more than it can say
abbrev pub HasNoText : (much : Type 0) → Stop → Type 0
HasNoText much stops.NoMemory = ⊤
HasNoText much stops.TooManySlots = much
HasNoText much _ = ⊥
