-- The two halves of a replay's text: the answer on the graph, before the passes, and the line on the body, after them.
use Rattle.std.specs.Prelude.{◌≡◌, ◌↔◌, Bool, IsTrue, List, ℕ, Option, ⊤}
use Rattle.rc_hir.specs.Model.{Environment}
use Rattle.rc_pipe.specs.declared.pipeline.Pruned.{Pruned}
use Rattle.rc_replay.specs.GivenRun.{end_of, events_of}
use Rattle.rc_replay.specs.declared.given.GivenRun.{GivenRun}
use Rattle.rc_runs.specs.GraphRun.{IsGraphRun}
use Rattle.rc_tree.specs.Model.{ReactiveFunction}
use Rattle.rc_program.specs.Command.{IsTextOf}
use Rattle.rc_program.specs.ReplayLines.{AnswersBody, replay_lines}
use Rattle.rc_program.specs.declared.command.Command.{Command}
use Rattle.rc_program.specs.declared.command.Command.TheVariants.{Replay, Why}
use Rattle.rc_program.specs.declared.given.Given.{Given}

-- whether the run is one of the graph; commands that don't ask it have any answer
abbrev pub AnswersGraph : Command → Given → Bool → Type 0
AnswersGraph Replay given found =
    IsTrue found ↔ IsGraphRun given.doc.hir given.doc.env (events_of given.run) (end_of given.run)
AnswersGraph command given found = ⊤

-- the text is that of this answer on the graph, and of one on the body
abbrev pub HasBodyLine : ReactiveFunction → Environment → GivenRun → Bool → List ℕ → Type 0
HasBodyLine func env run in_graph text =
    (in_body : Option Bool) × AnswersBody func env run in_body × (text ≡ replay_lines in_graph in_body)

-- the text of a command once the passes are done; in a replay, the answer on the graph was this one. Reasons are asked
-- of the document as it was handed in, so they are no text after the passes.
abbrev pub IsTextAfter : Command → (in_graph : Bool) → Given → Pruned → List ℕ → Type 0
IsTextAfter Replay in_graph given pruned text = HasBodyLine pruned.func given.doc.env given.run in_graph text
IsTextAfter Why in_graph given pruned text = ⊥
IsTextAfter command in_graph given pruned text = IsTextOf command given given.doc.env pruned text
