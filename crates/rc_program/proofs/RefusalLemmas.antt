-- A graph that is refused, but not for memory, has no answer, and its fault has a line.
use Rattle.std.proofs.Common.{◌≡◌, ◌⊎◌, inl, inr, ℕ, List, Result, Err, IsOk, IsSome, false, true, refl, sym, ◌∙◌}
use Rattle.std.proofs.Common.{subst}
use Rattle.rc_hir.specs.Model.{Fault}
use Rattle.rc_hir.specs.declared.fault.Fault.TheVariants as faults
use Rattle.rc_tree.specs.Model.{ReactiveFunction}
use Rattle.rc_pipe.specs.Headline.{HasAnswer, IsAccepted, IsCause}
use Rattle.rc_doc.specs.declared.document.Doc.{Doc}
use Rattle.rc_lines.specs.FaultLine.{fault_line, fault_name}
use Rattle.rc_program.specs.DueStatus.{IsAnswerable}
use Rattle.rc_program.specs.Status.{IsTextFor}
use Rattle.rc_program.specs.declared.command.Command.{Command}
use Rattle.rc_program.specs.declared.given.Given.{Given}
use Rattle.rc_program.specs.declared.status.Status.{Status}
use Rattle.rc_program.specs.declared.status.Status.TheVariants.{Refused}

-- a graph that has an answer gets it, unless memory runs out
no_answer_of : {X : Type 0} (doc : Doc) (result : Result X Fault) (fault : Fault) → result ≡ Err fault
    → (fault ≡ faults.NoMemory → ⊥)
    → ((func : ReactiveFunction) → IsAccepted doc.hir doc.env → HasAnswer doc.hir doc.env func → IsOk result
    ⊎ (result ≡ Err faults.NoMemory))
    → IsAnswerable doc → ⊥
no_answer_of {X = X} doc result fault is other complete it = refuted (complete it.func it.accepted it.answer)
  where
    refuted : IsOk result ⊎ (result ≡ Err faults.NoMemory) → ⊥
    refuted (inl ok) = let bad : false ≡ true = rw is at ok in cc
    refuted (inr none) = other (let same : Err fault ≡ Err faults.NoMemory = sym is ∙ none in cc)

-- each fault that has a cause has a line, except `NoMemory`
line_of_cause : (doc : Doc) (fault : Fault) → IsCause doc.hir doc.env fault → (fault ≡ faults.NoMemory → ⊥)
    → IsSome (fault_name fault)
line_of_cause doc (faults.Malformed block rule) cause other = refl
line_of_cause doc (faults.EarlyReturnSet scope) cause other = refl
line_of_cause doc (faults.ScopeCompleted id scope) cause other = refl
line_of_cause doc (faults.BadName table index) cause other = refl
line_of_cause doc faults.NoIds cause other = refl
line_of_cause doc faults.NoMemory cause other = absurd (other refl)
line_of_cause doc (faults.Todo block) cause other = refl
line_of_cause doc (faults.Uninitialised declaration) cause other = refl
line_of_cause doc (faults.NoScopeNode scope) cause other = refl
line_of_cause doc (faults.BadTarget target) cause other = absurd cause
line_of_cause doc (faults.FunctionCycle function) cause other = absurd cause

-- the line of the fault with which a graph is refused is the text of each command, with `Refused`
pub text_of_refusal : {X : Type 0} (command : Command) (given : Given) (result : Result X Fault) (fault : Fault)
    (status : Status) (text : List ℕ) → result ≡ Err fault → IsCause given.doc.hir given.doc.env fault
    → ((func : ReactiveFunction) → IsAccepted given.doc.hir given.doc.env → HasAnswer given.doc.hir given.doc.env func
    → IsOk result ⊎ (result ≡ Err faults.NoMemory))
    → status ≡ Refused → text ≡ fault_line fault → (fault ≡ faults.NoMemory → ⊥)
    → IsTextFor command given status text
text_of_refusal {X = X} command given result fault status text is cause complete refused line other =
    subst (λ it. IsTextFor command given it text) (sym refused) (record {
      fault = fault;
      named = line_of_cause given.doc fault cause other;
      cause = cause;
      no_answer = no_answer_of given.doc result fault is other complete;
      line = line;
    })
