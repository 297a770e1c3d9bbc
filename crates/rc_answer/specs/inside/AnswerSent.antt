-- An answer is sent, and is written.
use Rattle.std.specs.Prelude.{◌≡◌, ℕ, List, Some}
use Rattle.serde.specs.Event.{Log}
use Rattle.serde_json.specs.Written.{compact_text}
use Rattle.rc_hir.specs.Model.{Environment}
use Rattle.rc_tree.specs.Model.{ReactiveFunction}
use Rattle.rc_tree.specs.declared.fate.ScopeFate.{ScopeFate}
use Rattle.rc_doc.specs.Environment.{environment_of}
use Rattle.rc_show.specs.Sending.{Sends}
use Rattle.rc_flat.specs.Model.{FlatFunction}
use Rattle.rc_flat.specs.ReadingFlat.{flat_function_of}
use Rattle.rc_flat.specs.ShownEnvironment.{environment_data}
use Rattle.rc_flat.specs.ShownFlat.{flat_function_data}
use Rattle.rc_flat.specs.Tables.{IsFlat}
use Rattle.rc_answer.specs.AnswerJson.{answer_data}

-- the answer is sent, and its parts read as themselves again
pub record IsAnswerSent (env : Environment) (fates : List ScopeFate) (func : ReactiveFunction) (old new : Log) :
    Type 0 where
  pub flat : FlatFunction
  pub tables : IsFlat func flat
  pub sends : Sends (answer_data env fates flat) old new
  pub env_again : environment_of (environment_data env) ≡ Some env
  pub func_again : flat_function_of (flat_function_data flat) ≡ Some flat

-- the text is that of the answer, and its parts read as themselves again
pub record IsAnswerWritten (env : Environment) (fates : List ScopeFate) (func : ReactiveFunction) (text : List ℕ) :
    Type 0 where
  pub flat : FlatFunction
  pub tables : IsFlat func flat
  pub written : text ≡ compact_text (answer_data env fates flat)
  pub env_again : environment_of (environment_data env) ≡ Some env
  pub func_again : flat_function_of (flat_function_data flat) ≡ Some flat
