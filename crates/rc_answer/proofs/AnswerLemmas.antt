-- An answer is sent field by field, and its text is that of what is sent.
use Rattle.std.proofs.Common.{◌≡◌, ℕ, List, [], None, Some}
use Rattle.std.specs.Prelude.{codes}
use Rattle.serde.specs.Event.{Log, Logs, field_key, map_begins, map_ends}
use Rattle.serde.specs.declared.name.Case.TheVariants.{AsIs}
use Rattle.serde_json.specs.Data.{no_members}
use Rattle.serde_json.specs.Sent.{IsTextOf}
use Rattle.rc_hir.specs.Model.{Environment}
use Rattle.rc_tree.specs.Model.{ReactiveFunction}
use Rattle.rc_tree.specs.declared.fate.ScopeFate.{ScopeFate}
use Rattle.rc_doc.specs.Environment.{environment_of}
use Rattle.rc_show.proofs.SendingLemmas.{field_sent, object_sent}
use Rattle.rc_show.proofs.SentTexts.{text_of_sent}
use Rattle.rc_show.specs.Sending.{SendsFields}
use Rattle.rc_show.specs.Showing.{◌▸◌, add, list_data}
use Rattle.rc_flat.specs.ShownEnvironment.{environment_data}
use Rattle.rc_answer.proofs.PlainAnswers.{plain_answer}
use Rattle.rc_answer.specs.AnswerJson.{answer_data}
use Rattle.rc_answer.specs.ShownFates.{scope_fate_data}
use Rattle.rc_answer.specs.inside.AnswerSent.{IsAnswerSent, IsAnswerWritten}
use Rattle.rc_answer.specs.inside.FunctionSent.{IsFunctionSent}

module _ (env : Environment) (fates : List ScopeFate) (func : ReactiveFunction) where
  pub answer_sent : (old begun mid named last new : Log) → Logs old begun (map_begins None)
      → SendsFields (no_members ▸ add (codes "env") (environment_data env)
      ▸ add (codes "fates") (list_data scope_fate_data fates)) begun mid
      → Logs mid named (field_key (codes "func") AsIs) → IsFunctionSent func named last → Logs last new map_ends
      → environment_of (environment_data env) ≡ Some env → IsAnswerSent env fates func old new
  unfolding answer_data
  answer_sent old begun mid named last new begins before key sent ends again = record {
    flat = sent.flat;
    tables = sent.tables;
    sends = object_sent _ old begun last new begins (field_sent _ _ _ begun mid named last before key sent.sends) ends;
    env_again = again;
    func_again = sent.again;
  }

  pub answer_written : (log : Log) (text : List ℕ) → IsAnswerSent env fates func (Some []) log → IsTextOf log text
      → IsAnswerWritten env fates func text
  answer_written log text sent is = record {
    flat = sent.flat;
    tables = sent.tables;
    written = text_of_sent (answer_data env fates sent.flat) log text (plain_answer env fates sent.flat) sent.sends is;
    env_again = sent.env_again;
    func_again = sent.func_again;
  }
