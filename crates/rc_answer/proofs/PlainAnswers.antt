-- The printing form of an answer has plain numbers, and keys in byte order.
use Rattle.std.proofs.Common.{◌≡◌, true, List, refl}
use Rattle.rc_hir.specs.Model.{Environment}
use Rattle.rc_tree.specs.declared.fate.Fate.{Fate}
use Rattle.rc_tree.specs.declared.fate.Fate.TheVariants as fates
use Rattle.rc_tree.specs.declared.fate.ScopeFate.{ScopeFate}
use Rattle.rc_show.proofs.PlainForms.{plain_list, IsPlain}
use Rattle.rc_show.specs.Showing.{add, add_some}
use Rattle.rc_show.specs.inside.Plain.{is_plain}
use Rattle.rc_flat.specs.Model.{FlatFunction}
use Rattle.rc_answer.proofs.PlainEnvironments.{plain_environment}
use Rattle.rc_answer.proofs.PlainTables.{plain_flat_function}
use Rattle.rc_answer.specs.AnswerJson.{answer_data}
use Rattle.rc_answer.specs.ShownFates.{fate_data, scope_fate_data}

plain_fate : (x : Fate) → IsPlain fate_data x
unfolding fate_data add add_some
plain_fate fates.Kept = refl
plain_fate fates.NotEscaping = refl
plain_fate fates.Unused = refl
plain_fate (fates.MergedInto scope) = refl
plain_fate (fates.DissolvedInto scope) = refl
plain_fate fates.AlwaysInvalidating = refl

plain_scope_fate : (x : ScopeFate) → IsPlain scope_fate_data x
unfolding scope_fate_data add add_some
plain_scope_fate x = rw (plain_fate x.fate) refl

pub plain_answer : (env : Environment) (fates : List ScopeFate) (func : FlatFunction)
    → is_plain (answer_data env fates func) ≡ true
unfolding answer_data add
plain_answer env fates func =
    rw (plain_environment env, plain_list scope_fate_data plain_scope_fate fates, plain_flat_function func) refl
