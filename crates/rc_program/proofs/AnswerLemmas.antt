-- A function that is an answer for a document gives the text of the command, and a text that is written gives the
-- outcome.
use Rattle.std.proofs.Common.{◌≡◌, ◌↔◌, ◌<◌, ◌≤◌, ◌^◌, ℕ, Bool, true, false, List, Option, Some, arith, refl, sym}
use Rattle.std.proofs.Common.{IsTrue, subst}
use Rattle.std.specs.Io.KnownBytes.{Appends}
use Rattle.rc_hir.specs.Model.{Environment}
use Rattle.rc_pipe.specs.declared.pipeline.Pruned.{Pruned}
use Rattle.rc_pipe.specs.Headline.{IsAnswer}
use Rattle.rc_replay.specs.GivenRun.{end_of, events_of}
use Rattle.rc_runs.specs.Event.{End, Event, has_throw}
use Rattle.rc_program.specs.declared.command.Command.{Command}
use Rattle.rc_program.specs.declared.status.Status.{Status}
use Rattle.rc_program.specs.declared.status.Status.TheVariants.{Done, Refused}
use Rattle.rc_program.specs.declared.command.Command.TheVariants.{Tree, Fates, Why, Slots, Json, Replay}
use Rattle.rc_program.specs.declared.command.Command.TheVariants.{Generate}
use Rattle.rc_program.specs.declared.given.Given.{Given}
use Rattle.rc_program.specs.declared.stop.Stop.{Stop}
use Rattle.rc_program.specs.declared.stop.Stop.TheVariants as stops
use Rattle.rc_program.specs.Command.{IsCommand, IsTextOf, origin_of}
use Rattle.rc_program.specs.DueStatus.{Exceeds, IsTooMuchFor}
use Rattle.rc_program.specs.ReasonLines.{reason_lines}
use Rattle.rc_program.specs.ReplayLines.{AnswersBody, IsReplayText}
use Rattle.rc_program.specs.inside.Replay.{AnswersGraph, HasBodyLine, IsTextAfter}
use Rattle.rc_program.specs.inside.Stop.{HasNoText, status_of}
use Rattle.rc_program.specs.Status.{HasDocument, IsOutcome, IsTextFor}
use Rattle.rc_slots.specs.Slots.{slots_of}
use Rattle.rc_why.specs.ReasonOf.{AreReasons}
use Rattle.rc_why.specs.declared.reason.Reason.{Reason}

-- a number of 32 bits isn't too large
pub within : {total : ℕ} → total < 2 ^ 32 → ¬ (2 ^ 32 ≤ total)
within below above = let no : ⊥ = omega (arith, below, above) in no

-- whether an answer has more than a text can say is asked of its function and its environment
exceeds_alike : (command : Command) (env other : Environment) (pruned given : Pruned) → env ≡ other
    → pruned.func ≡ given.func → Exceeds command env pruned → Exceeds command other given
exceeds_alike Slots env other pruned given same func many =
    subst (λ it. 2 ^ 32 ≤ (slots_of it given.func).total) same
    (subst (λ it. 2 ^ 32 ≤ (slots_of env it).total) func many)
exceeds_alike _ env other pruned given same func many = absurd many

-- two answers that are yes where the other is, are one
alike : {G B : Type 0} (in_graph in_body : Bool) → IsTrue in_graph ↔ G → IsTrue in_body ↔ B → (G → B) → (B → G)
    → in_body ≡ in_graph
alike true true graph body to_body to_graph = refl
alike false false graph body to_body to_graph = refl
alike true false graph body to_body to_graph = body.1 (to_body (graph.0 refl))
alike false true graph body to_body to_graph = sym (graph.1 (to_graph (body.0 refl)))

module _ (given : Given) (pruned : Pruned) (answered : Environment)
    (answer : IsAnswer given.doc.hir given.doc.env answered pruned) where
  -- the answers on a graph and on the body that it is answered by
  answers_agree : (in_graph : Bool) (in_body : Option Bool) → AnswersGraph Replay given in_graph
      → AnswersBody pruned.func answered given.run in_body → (found : Bool) → in_body ≡ Some found → found ≡ in_graph
  answers_agree in_graph in_body graph body found is =
      let asked : AnswersBody pruned.func answered given.run (Some found) =
      subst (AnswersBody pruned.func answered given.run) is body in
      let events = events_of given.run in
      let end = end_of given.run in
      alike in_graph found graph asked.1 (answer.graph_to_body events end) (answer.body_to_graph events end asked.0)

  -- the text of a command after the passes is its text
  pub text_after : (command : Command) (in_graph : Bool) (text : List ℕ) → AnswersGraph command given in_graph
      → IsTextAfter command in_graph (record { doc = record { hir = given.doc.hir; env = answered }; run = given.run })
      pruned text → IsTextOf command given answered pruned text
  text_after Tree in_graph text graph it = it
  text_after Fates in_graph text graph it = it
  text_after Why in_graph text graph it = absurd it
  text_after Slots in_graph text graph it = it
  text_after Json in_graph text graph it = it
  text_after (Generate units) in_graph text graph it = it
  text_after Replay in_graph text graph it = record {
    in_graph = in_graph;
    in_body = it.0;
    graph = graph;
    body = it.1;
    agree = answers_agree in_graph it.0 graph it.1;
    same = it.2;
  }

-- the text of a command for an answer is that for the document, with `Done`
pub text_of_answer : (command : Command) (given : Given) (pruned : Pruned) (answered : Environment)
    → IsAnswer given.doc.hir given.doc.env answered pruned → (status : Status) (text : List ℕ) → status ≡ Done
    → ((other : Environment) (one : Pruned) → IsAnswer given.doc.hir given.doc.env other one
    → (other ≡ answered) × (one.func ≡ pruned.func))
    → ¬ Exceeds command answered pruned → IsTextOf command given answered pruned text
    → IsTextFor command given status text
text_of_answer command given pruned answered answer status text done only fits is =
    subst (λ it. IsTextFor command given it text) (sym done)
    (record { pruned = pruned; answered = answered; answer = answer; fits = all_fit; says = is })
  where
    -- the answer that was given is the only one
    all_fit : IsTooMuchFor command given.doc → ⊥
    all_fit much =
        let one = only much.answered much.pruned much.answer in
        fits (exceeds_alike command much.answered answered much.pruned pruned one.0 one.1 much.exceeds)

-- the lines of a document's reasons are the text of `why`, with `Done`
pub text_of_reasons : (given : Given) (reasons : List Reason) (status : Status) (text : List ℕ)
    → AreReasons given.doc.hir given.doc.env reasons → status ≡ Done → text ≡ reason_lines reasons
    → IsTextFor Why given status text
text_of_reasons given reasons status text are done same =
    subst (λ it. IsTextFor Why given it text) (sym done) (record {
      pruned = are.pruned;
      answered = are.answered;
      answer = are.answer;
      fits = λ much. much.exceeds;
      says = record { reasons = reasons; explained = are; listed = are.fates; same = same };
    })

-- what stops the text of an answer stops that of its document
pub no_text : {much more : Type 0} (stop : Stop) → HasNoText much stop → (much → more) → HasNoText more stop
no_text stops.NoMemory none gives = tt
no_text stops.TooManySlots many gives = gives many
no_text _ none gives = absurd none

-- want of memory stops any text
pub no_memory : (much : Type 0) (stop : Stop) → stop ≡ stops.NoMemory → HasNoText much stop
no_memory much stop same = subst (HasNoText much) (sym same) tt

-- what stops the text gives the outcome with its status
pub outcome_of_no_text : (words : List (List ℕ)) (command : Command) (left left' written : Option (List ℕ))
    (given : Given) (stop : Stop) → IsCommand words command → HasDocument (origin_of command) left left' given
    → HasNoText (IsTooMuchFor command given.doc) stop → IsOutcome words left left' written written (status_of stop)
outcome_of_no_text words command left left' written given stops.NoMemory is had none = (command, is, refl)
outcome_of_no_text words command left left' written given stops.TooManySlots is had much =
    (command, is, (record { given = given; document = had; much = much }, refl))
outcome_of_no_text words command left left' written given _ is had none = absurd none

-- a text that is written whole gives the outcome with the status that it is for
pub outcome_of_written : (words : List (List ℕ)) (command : Command) (left left' written written' : Option (List ℕ))
    (given : Given) (text : List ℕ) (status : Status) → IsCommand words command
    → HasDocument (origin_of command) left left' given → IsTextFor command given status text
    → Appends written written' text → IsOutcome words left left' written written' status
outcome_of_written words command left left' written written' given text Done is had answered writes =
    (command, is, record { given = given; text = text; document = had; answered = answered; written = writes })
outcome_of_written words command left left' written written' given text Refused is had answered writes =
    (command, is, record { given = given; text = text; document = had; answered = answered; written = writes })
outcome_of_written words command left left' written written' given text _ is had answered writes = absurd answered
