-- The facts that each status gives of the words, of the bytes taken and of the bytes written.
use Rattle.std.specs.Prelude.{◌≡◌, ℕ, ◌+◌, ◌≤◌, ◌<◌, List, Option, IsSome}
use Rattle.std.specs.Io.KnownBytes.{Appends}
use Rattle.rc_hir.specs.Model.{Environment, Fault}
use Rattle.rc_pipe.specs.declared.pipeline.Pruned.{Pruned}
use Rattle.rc_pipe.specs.Headline.{IsAnswer, IsCause}
use Rattle.rc_doc.specs.declared.document.Doc.{Doc}
use Rattle.rc_program.specs.declared.command.Command.{Command}
use Rattle.rc_program.specs.declared.status.Status.{Status}
use Rattle.rc_program.specs.declared.status.Status.TheVariants.{Done, Usage, NotJson, NotDoc, Refused, ReadFault}
use Rattle.rc_program.specs.declared.status.Status.TheVariants.{WriteFault, TooLarge, NoMemory, TooManySlots}
use Rattle.rc_program.specs.Command.{AreWords, IsCommand, IsTextOf, Made, Origin, Read, origin_of}
use Rattle.rc_lines.specs.FaultLine.{fault_line, fault_name}
use Rattle.rc_lines.specs.Sink.{HasAppendedPrefix}
use Rattle.rc_program.specs.Device.{most_bytes, HasTaken, IsReadToEnd}
use Rattle.rc_program.specs.DueStatus.{IsAnswerable, IsDueForBytes, IsJsonOfDoc, IsTooMuchFor}
use Rattle.rc_program.specs.declared.given.Given.{Given}
use Rattle.rc_program.specs.declared.given.Form.{Form}

-- more bytes were taken than a document may have, by at most one buffer
abbrev pub HasTakenTooMany : Option (List ℕ) → Option (List ℕ) → Type 0
HasTakenTooMany = HasTaken (λ count. (most_bytes < count) × (count ≤ most_bytes + 65536))

-- at most as many bytes were taken as a document may have
abbrev pub HasTakenSome : Option (List ℕ) → Option (List ℕ) → Type 0
HasTakenSome = HasTaken (λ count. count ≤ most_bytes)

-- bytes for which this status is due were read to their end
pub record HasReadDue (form : Form) (left left' : Option (List ℕ)) (status : Status) : Type 0 where
  pub bytes : List ℕ
  pub whole : IsReadToEnd left left' bytes
  pub due : IsDueForBytes form bytes status

-- bytes that are JSON of this document, in this form, were read to their end
pub record HasLoaded (form : Form) (left left' : Option (List ℕ)) (given : Given) : Type 0 where
  pub bytes : List ℕ
  pub whole : IsReadToEnd left left' bytes
  pub document : IsJsonOfDoc form bytes given

-- what each status says that comes while a document of this form is read
abbrev pub HasStoppedReading : Form → Option (List ℕ) → Option (List ℕ) → Status → Type 0
HasStoppedReading form left left' NotJson = HasReadDue form left left' NotJson
HasStoppedReading form left left' NotDoc = HasReadDue form left left' NotDoc
HasStoppedReading form left left' ReadFault = HasTakenSome left left'
HasStoppedReading form left left' TooLarge = HasTakenTooMany left left'
HasStoppedReading form left left' _ = ⊥

-- this document was read, or it was made and nothing was read
abbrev pub HasDocument : Origin → Option (List ℕ) → Option (List ℕ) → Given → Type 0
HasDocument (Read form) left left' given = HasLoaded form left left' given
HasDocument (Made made) left left' given = (given ≡ made) × (left' ≡ left)

-- there is no document, for the reason of this status; one that is made is always there
abbrev pub HasNoDocument : Origin → Option (List ℕ) → Option (List ℕ) → Status → Type 0
HasNoDocument (Read form) left left' status = HasStoppedReading form left left' status
HasNoDocument (Made made) left left' status = ⊥

-- the text is that of the command for a function that is an answer for this document, by the headline
pub record IsAnswerText (command : Command) (given : Given) (text : List ℕ) : Type 0 where
  pub pruned : Pruned
  -- the environment after the passes
  pub answered : Environment
  pub answer : IsAnswer given.doc.hir given.doc.env answered pruned
  pub fits : ¬ IsTooMuchFor command given.doc
  pub says : IsTextOf command given answered pruned text

-- the text is the line of a fault with which this document's graph is refused; the fault has a line
pub record IsRefusalText (doc : Doc) (text : List ℕ) : Type 0 where
  pub fault : Fault
  pub named : IsSome (fault_name fault)
  pub cause : IsCause doc.hir doc.env fault
  pub no_answer : ¬ IsAnswerable doc
  pub line : text ≡ fault_line fault

-- the text that is written for this document if the program ends with that status
abbrev pub IsTextFor : Command → Given → Status → List ℕ → Type 0
IsTextFor command given Done text = IsAnswerText command given text
IsTextFor command given Refused text = IsRefusalText given.doc text
IsTextFor command given _ text = ⊥

-- there was a document, and the text of the command for it with that status was written in this way
pub record HasPrinted (command : Command) (status : Status) (Writes : List ℕ → Type 0) (left left' : Option (List ℕ))
    : Type 0 where
  pub given : Given
  pub text : List ℕ
  pub document : HasDocument (origin_of command) left left' given
  pub answered : IsTextFor command given status text
  pub written : Writes text

-- there was a document whose answer has more than the command's text can say
pub record HasTooMuch (command : Command) (left left' : Option (List ℕ)) : Type 0 where
  pub given : Given
  pub document : HasDocument (origin_of command) left left' given
  pub much : IsTooMuchFor command given.doc

-- The facts that each status gives of the bytes taken from the source and of those given to the sink, for a command.
abbrev pub IsOutcomeOf : Command → Option (List ℕ) → Option (List ℕ) → Option (List ℕ) → Option (List ℕ) → Status
    → Type 0
IsOutcomeOf command left left' written written' Done = HasPrinted command Done (Appends written written') left left'
IsOutcomeOf command left left' written written' Refused =
    HasPrinted command Refused (Appends written written') left left'
IsOutcomeOf command left left' written written' WriteFault =
    (status : Status) × HasPrinted command status (HasAppendedPrefix written written') left left'
IsOutcomeOf command left left' written written' Usage = ⊥
IsOutcomeOf command left left' written written' NoMemory = written' ≡ written
IsOutcomeOf command left left' written written' TooManySlots =
    HasTooMuch command left left' × (written' ≡ written)
IsOutcomeOf command left left' written written' status =
    HasNoDocument (origin_of command) left left' status × (written' ≡ written)

-- The same for words: `Usage` if they name no command, any other status if they name one.
abbrev pub IsOutcome : List (List ℕ) → Option (List ℕ) → Option (List ℕ) → Option (List ℕ) → Option (List ℕ) → Status
    → Type 0
IsOutcome words left left' written written' Usage = ¬ AreWords words × (left' ≡ left) × (written' ≡ written)
IsOutcome words left left' written written' status =
    (command : Command) × IsCommand words command × IsOutcomeOf command left left' written written' status
