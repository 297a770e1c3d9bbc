-- Each document has one due status, and so has each list of bytes. So the facts that a status gives of a document that
-- is made, or of a source with known bytes, determine when the status comes.
use Rattle.std.proofs.Common.{◌≡◌, ◌↔◌, ◌≤◌, ℕ, ◌⊎◌, inl, inr, List, [], length, length-append, Option, Some, None, refl, ap}
use Rattle.std.proofs.Common.{subst, sym, arith, rules, ◌∙◌}
use Rattle.std.proofs.KnownBytes.{Consumes-all}
use Rattle.serde_json.specs.Data.{Data}
use Rattle.serde_json.specs.Read.{read}
use Rattle.rc_doc.specs.declared.document.Doc.{Doc}
use Rattle.rc_hir.specs.Model.{Environment}
use Rattle.rc_pipe.specs.Headline.{IsAnswer}
use Rattle.rc_pipe.specs.declared.pipeline.Pruned.{Pruned}
use Rattle.rc_program.specs.declared.command.Command.{Command}
use Rattle.rc_program.specs.declared.status.Status.{Status}
use Rattle.rc_program.specs.declared.status.Status.TheVariants.{Done, Usage, NotJson, NotDoc, Refused, ReadFault}
use Rattle.rc_program.specs.declared.status.Status.TheVariants.{WriteFault, TooLarge, NoMemory, TooManySlots}
use Rattle.rc_program.specs.declared.given.Given.{Given}
use Rattle.rc_program.specs.declared.given.Form.{Form}
use Rattle.rc_program.specs.Device.{IsReadToEnd, most_bytes}
use Rattle.rc_program.specs.Given.{read_in_form}
use Rattle.rc_program.specs.Command.{AreWords, IsCommand, Made, Origin, Read, origin_of}
use Rattle.rc_program.specs.DueStatus.{CanFailToRead, CanReplace, IsAnswerable, IsDue, IsDueFor, IsDueForBytes}
use Rattle.rc_program.specs.DueStatus.{IsDueForDoc, IsDueFrom, IsJson, IsJsonOfDoc, IsJsonOfOther, IsNoJson}
use Rattle.rc_program.specs.Status.{HasDocument, HasLoaded, HasNoDocument, HasPrinted, HasReadDue, HasStoppedReading}
use Rattle.rc_program.specs.Status.{HasTakenTooMany, IsOutcome, IsOutcomeOf, IsTextFor}
use Rattle.rc_program.proofs.WordsLemmas.{one_command}

-- an answer makes its document answerable
answerable : (doc : Doc) (answered : Environment) (pruned : Pruned) → IsAnswer doc.hir doc.env answered pruned
    → IsAnswerable doc
answerable doc answered pruned it = record {
  accepted = it.accepted;
  func = it.spelled;
  answer = record {
    spelled = it.spells;
    inside = it.passes.inside;
    recorded = it.recorded;
  };
}

-- a document is due one status
one_by_doc : (command : Command) (doc : Doc) (due due' : Status) → IsDueForDoc command doc due
    → IsDueForDoc command doc due' → due ≡ due'
one_by_doc command doc Done Done d d' = refl
one_by_doc command doc Refused Refused d d' = refl
one_by_doc command doc TooManySlots TooManySlots d d' = refl
one_by_doc command doc Done Refused d d' = absurd (d' d.0)
one_by_doc command doc Refused Done d d' = absurd (d d'.0)
one_by_doc command doc Done TooManySlots d d' = absurd (d.1 d')
one_by_doc command doc TooManySlots Done d d' = absurd (d'.1 d)
one_by_doc command doc Refused TooManySlots d d' = absurd (d (answerable doc d'.answered d'.pruned d'.answer))
one_by_doc command doc TooManySlots Refused d d' = absurd (d' (answerable doc d.answered d.pruned d.answer))
one_by_doc command doc Done due' d d' = absurd d'
one_by_doc command doc Refused due' d d' = absurd d'
one_by_doc command doc TooManySlots due' d d' = absurd d'
one_by_doc command doc due due' d d' = absurd d

module _ (bytes : List ℕ) where
  -- the bytes are JSON of one value
  one_value : (value value' : Data) → IsJson bytes value → IsJson bytes value' → value ≡ value'
  one_value value value' json json' =
      let e : read bytes ≡ Some value = json.reads in
      let e' : read bytes ≡ Some value' = json'.reads in
      cc

  -- the bytes can't be JSON both of a value and of none
  no_value : (value : Data) → IsNoJson bytes → IsJson bytes value → ⊥
  no_value value none json =
      let e : read bytes ≡ Some value = json.reads in
      let e' : read bytes ≡ None = none json.utf8 in
      cc

  -- a value that is a document is no other value
  no_other : (form : Form) (given : Given) → IsJsonOfDoc form bytes given → IsJsonOfOther form bytes → ⊥
  no_other form given j other =
      let same = one_value j.value other.value j.json other.json in
      let some : read_in_form form other.value ≡ Some given = rw same at j.document in
      let none : read_in_form form other.value ≡ None = other.other in
      cc

  -- the bytes are JSON of one document
  one_document : (form : Form) (given given' : Given) → IsJsonOfDoc form bytes given → IsJsonOfDoc form bytes given'
      → given ≡ given'
  one_document form given given' j j' =
      let same = one_value j.value j'.value j.json j'.json in
      let some : read_in_form form j'.value ≡ Some given = rw same at j.document in
      let some' : read_in_form form j'.value ≡ Some given' = j'.document in
      cc

module _ (form : Form) (bytes : List ℕ) where
  -- bytes that are due a status by themselves are due no other one by themselves, and are JSON of no document
  one_by_bytes : (due due' : Status) → IsDueForBytes form bytes due → IsDueForBytes form bytes due' → due ≡ due'
  one_by_bytes TooLarge due' d d' = search (rules, no_value, no_other)
  one_by_bytes NotJson due' d d' = search (rules, no_value, no_other)
  one_by_bytes NotDoc due' d d' = search (rules, no_value, no_other)
  one_by_bytes _ due' d d' = absurd d

  no_document : (due : Status) (given : Given) → IsDueForBytes form bytes due → length bytes ≤ most_bytes
      → IsJsonOfDoc form bytes given → ⊥
  no_document TooLarge given d size j = omega (arith, d, size)
  no_document NotJson given d size j = no_value bytes j.value d.1 j.json
  no_document NotDoc given d size j = no_other bytes form given j d.1
  no_document _ given d size j = absurd d

  -- bytes have one due status
  pub due_once : (command : Command) (due due' : Status) → IsDue command form bytes due
      → IsDue command form bytes due' → due ≡ due'
  due_once command due due' (inl d) (inl d') = one_by_bytes due due' d d'
  due_once command due due' (inl d) (inr r') = absurd (no_document due r'.given d r'.size r'.json)
  due_once command due due' (inr r) (inl d') = absurd (no_document due' r.given d' r.size r.json)
  due_once command due due' (inr r) (inr r') =
      one_by_doc command r.given.doc due due' r.due
      (subst (λ given. IsDueForDoc command given.doc due') (one_document bytes form r'.given r.given r'.json r.json)
      r'.due)

  -- a source whose bytes are known gave all of them if none is left
  all_read : (taken : List ℕ) (left' : Option (List ℕ)) → IsReadToEnd (Some bytes) left' taken → taken ≡ bytes
  all_read taken left' whole = Consumes-all (Some bytes) left' taken [] taken whole.taken whole.end refl

  -- if more bytes were taken than a document may have, the source has more
  due_of_many : (left' : Option (List ℕ)) → HasTakenTooMany (Some bytes) left' → IsDueForBytes form bytes TooLarge
  due_of_many None took = absurd took.taken
  due_of_many (Some rest) took = omega (arith, took.number.0, length-append took.bytes rest, ap length took.taken)

  -- if the bytes were read to the end, the status that is due for them is due for the source
  due_of_read : (left' : Option (List ℕ)) (status : Status) → HasReadDue form (Some bytes) left' status
      → IsDueForBytes form bytes status
  due_of_read left' status reads = let whole = all_read reads.bytes left' reads.whole in rw whole at reads.due

-- a document that is made is due one status, and so are the bytes of a source that tells them
one_due : (command : Command) (origin : Origin) (left : Option (List ℕ)) (due due' : Status)
    → IsDueFrom command origin left due → IsDueFrom command origin left due' → due ≡ due'
one_due command (Read form) left due due' d d' =
    let same : Some d.0 ≡ Some d'.0 = sym d.1 ∙ d'.1 in
    let bytes : d'.0 ≡ d.0 = cc in
    due_once form d.0 command due due' d.2 (rw bytes at d'.2)
one_due command (Made given) left due due' d d' = one_by_doc command given.doc due due' d d'

-- a document for which a text is written with this status is due it
due_of_text : (command : Command) (given : Given) (status : Status) (text : List ℕ)
    → IsTextFor command given status text → IsDueForDoc command given.doc status
due_of_text command given Done text it = (answerable given.doc it.answered it.pruned it.answer, it.fits)
due_of_text command given Refused text it = it.no_answer
due_of_text command given _ text it = absurd it

module _ (left left' : Option (List ℕ)) (due : Status) where
  -- a status that is due for the document that was had is due where that comes from
  due_of_document : (command : Command) (origin : Origin) (given : Given) (status : Status)
      → IsDueFrom command origin left due → HasDocument origin left left' given
      → IsDueForDoc command given.doc status → IsDueFrom command origin left status
  due_of_document command (Read form) given status told had d =
      let loaded : HasLoaded form (Some told.0) left' given = rw told.1 at had in
      let whole = all_read form told.0 loaded.bytes left' loaded.whole in (
        told.0,
        told.1,
        inr (record {
          size = rw whole at loaded.whole.size;
          given = given;
          json = rw whole at loaded.document;
          due = d;
        }),
      )
  due_of_document command (Made made) given status told had d =
      subst (λ it. IsDueForDoc command it.doc status) had.0 d

  -- a status that stops the reading is due for the bytes
  due_of_stop : (command : Command) (origin : Origin) (status : Status) → IsDueFrom command origin left due
      → ((form : Form) (bytes : List ℕ) → HasStoppedReading form (Some bytes) left' status
      → IsDueForBytes form bytes status)
      → HasNoDocument origin left left' status → IsDueFrom command origin left status
  due_of_stop command (Read form) status told gives stopped =
      (told.0, told.1, inl (gives form told.0 (rw told.1 at stopped)))
  due_of_stop command (Made given) status told gives stopped = absurd stopped

  -- reading fails only where a document is read
  read_failed : (origin : Origin) {rose : Type 0} → HasNoDocument origin left left' ReadFault → rose
      → CanFailToRead origin rose
  read_failed (Read form) stopped rose = rose
  read_failed (Made given) stopped rose = absurd stopped

  module _ (command : Command) (told : IsDueFor command left due) where
    -- a status that is due for the document that was had is the one that is due
    due_for_had : (given : Given) (status : Status) → HasDocument (origin_of command) left left' given
        → IsDueForDoc command given.doc status → status ≡ due
    due_for_had given status had d =
        one_due command (origin_of command) left status due
        (due_of_document command (origin_of command) given status told had d) told

    -- a status with which a text is written is due
    printed_is_due : (status : Status) {Writes : List ℕ → Type 0} → HasPrinted command status Writes left left'
        → status ≡ due
    printed_is_due status p =
        due_for_had p.given status p.document (due_of_text command p.given status p.text p.answered)

    -- a text that was written in part is excused by a fault of the sink
    written_in_part : (status : Status) {Writes : List ℕ → Type 0} (source_rose sink_rose : Type 0)
        → HasPrinted command status Writes left left' → sink_rose
        → CanReplace source_rose sink_rose status WriteFault
    written_in_part Done source_rose sink_rose p rose = rose
    written_in_part Refused source_rose sink_rose p rose = rose
    written_in_part _ source_rose sink_rose p rose = absurd p.answered

    stop_is_due : (status : Status)
        → ((form : Form) (bytes : List ℕ) → HasStoppedReading form (Some bytes) left' status
        → IsDueForBytes form bytes status)
        → HasNoDocument (origin_of command) left left' status → status ≡ due
    stop_is_due status gives stopped =
        one_due command (origin_of command) left status due
        (due_of_stop command (origin_of command) status told gives stopped) told

    -- the status is the one that is due, or is excused
    answers_due : (written written' : Option (List ℕ)) (source_rose sink_rose : Type 0) (status : Status)
        → IsOutcomeOf command left left' written written' status
        → (status ≡ ReadFault → source_rose) → (status ≡ WriteFault → sink_rose)
        → (status ≡ due) ⊎ CanReplace (CanFailToRead (origin_of command) source_rose) sink_rose due status
    answers_due written written' source_rose sink_rose Done o read_fault write_fault =
        inl (printed_is_due Done o)
    answers_due written written' source_rose sink_rose Refused o read_fault write_fault =
        inl (printed_is_due Refused o)
    answers_due written written' source_rose sink_rose Usage o read_fault write_fault = absurd o
    answers_due written written' source_rose sink_rose NotJson o read_fault write_fault =
        inl (stop_is_due NotJson (λ form bytes stopped. due_of_read form bytes left' NotJson stopped) o.0)
    answers_due written written' source_rose sink_rose NotDoc o read_fault write_fault =
        inl (stop_is_due NotDoc (λ form bytes stopped. due_of_read form bytes left' NotDoc stopped) o.0)
    answers_due written written' source_rose sink_rose TooLarge o read_fault write_fault =
        inl (stop_is_due TooLarge (λ form bytes stopped. due_of_many form bytes left' stopped) o.0)
    answers_due written written' source_rose sink_rose ReadFault o read_fault write_fault =
        inr (read_failed (origin_of command) o.0 (read_fault refl))
    answers_due written written' source_rose sink_rose WriteFault o read_fault write_fault =
        let same = printed_is_due o.0 o.1 in
        inr (subst (λ status. CanReplace (CanFailToRead (origin_of command) source_rose) sink_rose status WriteFault) same
        (written_in_part o.0 (CanFailToRead (origin_of command) source_rose) sink_rose o.1 (write_fault refl)))
    answers_due written written' source_rose sink_rose TooManySlots o read_fault write_fault =
        inl (due_for_had o.0.given TooManySlots o.0.document o.0.much)
    answers_due written written' source_rose sink_rose NoMemory o read_fault write_fault = inr tt

-- where nothing is excused but want of memory, the due text is written or memory ran out
pub completes : {source_rose sink_rose : Type 0} (status : Status)
    → (status ≡ Done) ⊎ CanReplace source_rose sink_rose Done status → ¬ source_rose → ¬ sink_rose
    → (status ≡ Done) ⊎ (status ≡ NoMemory)
completes status (inl done) source sink = inl done
completes NoMemory (inr excused) source sink = inr refl
completes ReadFault (inr excused) source sink = absurd (source excused)
completes WriteFault (inr excused) source sink = absurd (sink excused)
completes _ (inr excused) source sink = absurd excused

module _ (words : List (List ℕ)) (left left' written written' : Option (List ℕ)) where
  -- what a status says, it says of the one command of the words
  outcome_of : (command : Command) (status : Status) → IsCommand words command
      → IsOutcome words left left' written written' status
      → IsOutcomeOf command left left' written written' status
  outcome_of command Usage is o = absurd (o.0 (command, is))
  outcome_of command status is o =
      subst (λ it. IsOutcomeOf it left left' written written' status) (one_command words o.0 command o.1 is) o.2

  -- the words of a command aren't refused
  usage_of : (status : Status) → IsOutcome words left left' written written' status → ¬ AreWords words
      → status ≡ Usage
  usage_of Usage o none = refl
  usage_of status o none = absurd (none (o.0, o.1))

  -- `Usage` comes exactly where the words are those of no command
  pub usage_exactly : (status : Status) → IsOutcome words left left' written written' status
      → (status ≡ Usage) ↔ ¬ AreWords words
  usage_exactly status o = (
    λ same. (subst (λ it. IsOutcome words left left' written written' it) same o).0,
    usage_of status o,
  )

  -- the status is the one that is due for the command of the words, or is excused
  pub exactly : (command : Command) (due status : Status) (source_rose sink_rose : Type 0) → IsCommand words command
      → IsOutcome words left left' written written' status
      → (status ≡ ReadFault → source_rose) → (status ≡ WriteFault → sink_rose)
      → IsDueFor command left due
      → (status ≡ due) ⊎ CanReplace (CanFailToRead (origin_of command) source_rose) sink_rose due status
  exactly command due status source_rose sink_rose is o read_fault write_fault told =
      answers_due left left' due command told written written' source_rose sink_rose status
      (outcome_of command status is o) read_fault write_fault
