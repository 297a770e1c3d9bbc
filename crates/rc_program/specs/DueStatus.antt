-- The status that is due for the bytes of a source, and which one may come in its place.
use Rattle.std.specs.Prelude.{◌≡◌, ◌⊎◌, ◌^◌, ℕ, ◌≤◌, ◌<◌, List, length, None, Option, Some, ⊤}
use Rattle.std.specs.Str.{IsUtf8}
use Rattle.serde_json.specs.Data.{Data}
use Rattle.serde_json.specs.Read.{read}
use Rattle.rc_hir.specs.Model.{Environment}
use Rattle.rc_slots.specs.Slots.{slots_of}
use Rattle.rc_tree.specs.Model.{ReactiveFunction}
use Rattle.rc_pipe.specs.Headline.{HasAnswer, IsAccepted, IsAnswer}
use Rattle.rc_pipe.specs.declared.pipeline.Pruned.{Pruned}
use Rattle.rc_doc.specs.declared.document.Doc.{Doc}
use Rattle.rc_program.specs.declared.status.Status.{Status}
use Rattle.rc_program.specs.declared.status.Status.TheVariants.{Done, NotJson, NotDoc, Refused, ReadFault, WriteFault}
use Rattle.rc_program.specs.declared.status.Status.TheVariants.{TooLarge, NoMemory, TooManySlots}
use Rattle.rc_program.specs.declared.command.Command.{Command}
use Rattle.rc_program.specs.declared.command.Command.TheVariants.{Slots}
use Rattle.rc_program.specs.Command.{Made, Origin, Read, origin_of}
use Rattle.rc_program.specs.Device.{most_bytes}
use Rattle.rc_program.specs.Given.{read_in_form}
use Rattle.rc_program.specs.declared.given.Given.{Given}
use Rattle.rc_program.specs.declared.given.Form.{Form}

-- the bytes are JSON of this value
pub record IsJson (bytes : List ℕ) (value : Data) : Type 0 where
  pub utf8 : IsUtf8 bytes
  pub reads : read bytes ≡ Some value

-- the bytes are JSON of no value
abbrev pub IsNoJson : List ℕ → Type 0
IsNoJson bytes = IsUtf8 bytes → read bytes ≡ None

-- the bytes are JSON of a document of this form
pub record IsJsonOfDoc (form : Form) (bytes : List ℕ) (given : Given) : Type 0 where
  pub value : Data
  pub json : IsJson bytes value
  pub document : read_in_form form value ≡ Some given

-- the bytes are JSON of a value that is no document of this form
pub record IsJsonOfOther (form : Form) (bytes : List ℕ) : Type 0 where
  pub value : Data
  pub json : IsJson bytes value
  pub other : read_in_form form value ≡ None

-- the document's graph is accepted and has an answer
pub record IsAnswerable (doc : Doc) : Type 0 where
  pub accepted : IsAccepted doc.hir doc.env
  pub func : ReactiveFunction
  pub answer : HasAnswer doc.hir doc.env func

-- the answer has more than the command's text can say: more slots than numbers of 32 bits count
abbrev pub Exceeds : Command → Environment → Pruned → Type 0
Exceeds Slots env pruned = 2 ^ 32 ≤ (slots_of env pruned.func).total
Exceeds command env pruned = ⊥

-- the document has an answer that has more than the command's text can say
pub record IsTooMuchFor (command : Command) (doc : Doc) : Type 0 where
  pub pruned : Pruned
  -- the environment after the passes
  pub answered : Environment
  pub answer : IsAnswer doc.hir doc.env answered pruned
  pub exceeds : Exceeds command answered pruned

-- The status that is due for a document by a command.
abbrev pub IsDueForDoc : Command → Doc → Status → Type 0
IsDueForDoc command doc Refused = ¬ IsAnswerable doc
IsDueForDoc command doc Done = IsAnswerable doc × ¬ IsTooMuchFor command doc
IsDueForDoc command doc TooManySlots = IsTooMuchFor command doc
IsDueForDoc command doc _ = ⊥

-- The status that is due for bytes that are too many, or that are JSON of no document of this form.
abbrev pub IsDueForBytes : Form → List ℕ → Status → Type 0
IsDueForBytes form bytes TooLarge = most_bytes < length bytes
IsDueForBytes form bytes NotJson = (length bytes ≤ most_bytes) × IsNoJson bytes
IsDueForBytes form bytes NotDoc = (length bytes ≤ most_bytes) × IsJsonOfOther form bytes
IsDueForBytes form bytes _ = ⊥

-- the bytes are JSON of a document of this form for which the status is due
pub record IsDueForRead (command : Command) (form : Form) (bytes : List ℕ) (status : Status) : Type 0 where
  pub size : length bytes ≤ most_bytes
  pub given : Given
  pub json : IsJsonOfDoc form bytes given
  pub due : IsDueForDoc command given.doc status

-- The status that is due for the bytes of a source by a command that reads a document of this form.
abbrev pub IsDue : Command → Form → List ℕ → Status → Type 0
IsDue command form bytes status = IsDueForBytes form bytes status ⊎ IsDueForRead command form bytes status

-- The due status, by where the document comes from: from the bytes of a source, if they can be named, or from the
-- generator.
abbrev pub IsDueFrom : Command → Origin → Option (List ℕ) → Status → Type 0
IsDueFrom command (Read form) left status = (bytes : List ℕ) × (left ≡ Some bytes) × IsDue command form bytes status
IsDueFrom command (Made given) left status = IsDueForDoc command given.doc status

-- The status that is due for a command.
abbrev pub IsDueFor : Command → Option (List ℕ) → Status → Type 0
IsDueFor command = IsDueFrom command (origin_of command)

-- A fault of the source may come for a document that is read, where the count rose.
abbrev pub CanFailToRead : Origin → Type 0 → Type 0
CanFailToRead (Read form) rose = rose
CanFailToRead (Made given) rose = ⊥

-- A status that may come instead of the due one: `NoMemory`, or the fault of a device whose count rose. The sink's
-- fault may come only for a document, since nothing else is written.
abbrev pub CanReplace : Type 0 → Type 0 → Status → Status → Type 0
CanReplace source_rose sink_rose due NoMemory = ⊤
CanReplace source_rose sink_rose due ReadFault = source_rose
CanReplace source_rose sink_rose Done WriteFault = sink_rose
CanReplace source_rose sink_rose Refused WriteFault = sink_rose
CanReplace source_rose sink_rose due _ = ⊥
