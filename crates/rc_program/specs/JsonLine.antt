-- The line of an answer, which is JSON: its environment, the fates of its scopes, and its function.
use Rattle.std.specs.Prelude.{◌≡◌, ℕ, List, Some}
use Rattle.rc_hir.specs.Model.{Environment}
use Rattle.rc_doc.specs.Environment.{environment_of}
use Rattle.rc_flat.specs.ShownEnvironment.{environment_data}
use Rattle.rc_flat.specs.ShownFlat.{flat_function_data}
use Rattle.rc_flat.specs.Tables.{GivesFunction}
use Rattle.rc_answer.specs.AnswerJson.{IsAnswerJson}
use Rattle.rc_pipe.specs.declared.pipeline.Pruned.{Pruned}

-- the line is the answer's JSON, and reading its parts gives the environment and the function again
pub record IsJsonLine (env : Environment) (pruned : Pruned) (text : List ℕ) : Type 0 where
  pub json : IsAnswerJson env pruned.fates pruned.func text
  pub env_again : environment_of (environment_data env) ≡ Some env
  pub func_again : GivesFunction (flat_function_data json.flat) pruned.func
