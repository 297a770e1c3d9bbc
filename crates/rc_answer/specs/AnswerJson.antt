-- The answer as one line of JSON: the environment, the fates of the scopes, and the function as two tables.
use Rattle.std.specs.Prelude.{◌≡◌, ℕ, List, [], ◌∷◌, ◌++◌, codes}
use Rattle.serde_json.specs.Data.{Data, no_members, object}
use Rattle.serde_json.specs.Written.{compact_text}
use Rattle.rc_hir.specs.Model.{Environment}
use Rattle.rc_tree.specs.Model.{ReactiveFunction}
use Rattle.rc_tree.specs.declared.fate.ScopeFate.{ScopeFate}
use Rattle.rc_show.specs.Showing.{◌▸◌, add, list_data}
use Rattle.rc_flat.specs.Model.{FlatFunction}
use Rattle.rc_flat.specs.ShownEnvironment.{environment_data}
use Rattle.rc_flat.specs.ShownFlat.{flat_function_data}
use Rattle.rc_flat.specs.Tables.{IsFlat}
use Rattle.rc_answer.specs.ShownFates.{scope_fate_data}

-- the answer, with the function as two tables
unfoldable pub answer_data : Environment → List ScopeFate → FlatFunction → Data
answer_data env fates flat =
    object (no_members ▸ add (codes "env") (environment_data env)
    ▸ add (codes "fates") (list_data scope_fate_data fates) ▸ add (codes "func") (flat_function_data flat))

-- the text is that of the answer in JSON without spaces, with a line end
pub record IsAnswerJson (env : Environment) (fates : List ScopeFate) (func : ReactiveFunction) (text : List ℕ) :
    Type 0 where
  pub flat : FlatFunction
  pub tables : IsFlat func flat
  pub written : text ≡ compact_text (answer_data env fates flat) ++ 10 ∷ []
