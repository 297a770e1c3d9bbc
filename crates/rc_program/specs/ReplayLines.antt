-- The lines of a replay: whether the run is one of the graph, and whether it is one of the answered body.
use Rattle.std.specs.Prelude.{◌≡◌, ◌↔◌, ℕ, Bool, true, false, IsTrue, List, Option, Some, None, codes, if◌then◌else◌}
use Rattle.rc_hir.specs.Model.{Environment}
use Rattle.rc_tree.specs.Model.{ReactiveFunction}
use Rattle.rc_replay.specs.GivenRun.{end_of, events_of}
use Rattle.rc_replay.specs.declared.given.GivenRun.{GivenRun}
use Rattle.rc_runs.specs.BodyRun.{IsBodyRun}
use Rattle.rc_runs.specs.Event.{has_throw}
use Rattle.rc_runs.specs.GraphRun.{IsGraphRun}
use Rattle.rc_lines.specs.LineText.{◌&◌, line}
use Rattle.rc_program.specs.declared.given.Given.{Given}

-- an answer
abbrev pub yes_or_no : Bool → List ℕ
yes_or_no answer = if answer then codes "yes" else codes "no"

-- the answer for a body, which is asked of runs without a throw alone
abbrev pub body_word : Option Bool → List ℕ
body_word None = codes "skipped"
body_word (Some answer) = yes_or_no answer

-- the two lines
abbrev pub replay_lines : (in_graph : Bool) → (in_body : Option Bool) → List ℕ
replay_lines in_graph in_body =
    line 0 (codes "graph " & yes_or_no in_graph) & line 0 (codes "body " & body_word in_body)

-- none exactly where the run has a throw, and else whether it is a run of the function's body
abbrev pub AnswersBody : ReactiveFunction → Environment → GivenRun → Option Bool → Type 0
AnswersBody func env run None = has_throw (events_of run) ≡ true
AnswersBody func env run (Some answer) =
    (has_throw (events_of run) ≡ false) × (IsTrue answer ↔ IsBodyRun func env (events_of run) (end_of run))

-- the lines for a document with its run, and for the function and the environment that it is answered by
pub record IsReplayText (given : Given) (answered : Environment) (func : ReactiveFunction) (text : List ℕ)
    : Type 0 where
  pub in_graph : Bool
  pub in_body : Option Bool
  pub graph : IsTrue in_graph ↔ IsGraphRun given.doc.hir given.doc.env (events_of given.run) (end_of given.run)
  pub body : AnswersBody func answered given.run in_body
  -- the two lines never differ where both say yes or no
  pub agree : (answer : Bool) → in_body ≡ Some answer → answer ≡ in_graph
  pub same : text ≡ replay_lines in_graph in_body
