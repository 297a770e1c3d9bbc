-- The text of the answer is the line, and what reads back of any tables of the function does so of those in the line.
use Rattle.std.proofs.Common.{◌≡◌, subst, sym}
use Rattle.rc_answer.specs.AnswerJson.{IsAnswerJson}
use Rattle.rc_program.proofs.printing.json.json_line.Goals as goal

pub returns : goal.returns
returns c = record {
  json = json;
  env_again = c.in_ok-text.ensures.env_again;
  func_again = c.in_ok-text.ensures.func_again json.flat json.tables;
}
  where
    json : IsAnswerJson c.args.env.now c.args.pruned.now.fates c.args.pruned.now.func c.from.result
    json =
        subst (λ fates. IsAnswerJson c.args.env.now fates c.args.pruned.now.func c.from.result) c.as_slice.ensures
        (subst (IsAnswerJson c.args.env.now c.as_slice.result.now c.args.pruned.now.func) (sym c.from.ensures)
        c.in_ok-text.ensures.text)
