-- The text of an answer is that of the command, and a graph that is refused gives the line of its fault.
use Rattle.std.proofs.Common.{refl, Err}
use Rattle.std.proofs.lemmas.Result.{MatchResult-weaker}
use Rattle.rc_program.proofs.AnswerLemmas.{no_memory, no_text, text_after, text_of_answer}
use Rattle.rc_program.proofs.RefusalLemmas.{text_of_refusal}
use Rattle.rc_program.proofs.answer.graph_answer.Goals as goal

pub returns-in-Ok : goal.returns-in-Ok
returns-in-Ok c =
    MatchResult-weaker c.pruned_answer.result c.pruned_answer.ensures
    (λ answer it. text_of_answer c.args.command c.args.given.now c.in-Ok.pruned c.build_and_prune_within.new.env
    c.in-Ok.ensures.ok answer.status answer.text it.0 c.in-Ok.ensures.one_answer it.1
    (text_after c.args.given.now c.in-Ok.pruned c.build_and_prune_within.new.env c.in-Ok.ensures.ok c.args.command
    c.in_ok-in_graph.in_graph answer.text c.in_ok-in_graph.ensures it.2))
    (λ stop none. no_text stop none (λ much. record {
      pruned = c.in-Ok.pruned;
      answered = c.build_and_prune_within.new.env;
      answer = c.in-Ok.ensures.ok;
      exceeds = much;
    }))

pub returns-in-Err : goal.returns-in-Err
returns-in-Err c =
    MatchResult-weaker c.refusal.result c.refusal.ensures
    (λ answer it. text_of_refusal c.args.command c.args.given.now (Err c.in-Err.fault) c.in-Err.fault answer.status
    answer.text refl c.in-Err.ensures.refused c.in-Err.ensures.complete it.0 it.1 it.2)
    (λ stop same. no_memory _ stop same)
