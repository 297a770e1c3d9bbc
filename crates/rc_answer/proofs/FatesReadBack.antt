-- The printing form of fates reads as those again, if that of their parts does.
use Rattle.std.proofs.Common.{refl}
use Rattle.rc_names.specs.Numbers.{ScopeId}
use Rattle.rc_tree.specs.declared.fate.Fate.{Fate}
use Rattle.rc_tree.specs.declared.fate.Fate.TheVariants as fates
use Rattle.rc_doc.specs.Numbers.{id_of}
use Rattle.rc_show.specs.Showing.{add, id_data}
use Rattle.rc_flat.proofs.Again.{IsAgain}
use Rattle.rc_answer.specs.ReadingFates.{fate_into_of, fate_of, scope_fate_of}
use Rattle.rc_answer.specs.ShownFates.{fate_data, scope_fate_data}

pub fate_again-Kept : IsAgain fate_of fate_data fates.Kept
unfolding fate_data
fate_again-Kept = refl

pub fate_again-NotEscaping : IsAgain fate_of fate_data fates.NotEscaping
unfolding fate_data
fate_again-NotEscaping = refl

pub fate_again-Unused : IsAgain fate_of fate_data fates.Unused
unfolding fate_data
fate_again-Unused = refl

pub fate_again-AlwaysInvalidating : IsAgain fate_of fate_data fates.AlwaysInvalidating
unfolding fate_data
fate_again-AlwaysInvalidating = refl

pub fate_again-MergedInto : (scope : ScopeId) → IsAgain id_of id_data scope
    → IsAgain fate_of fate_data (fates.MergedInto scope)
unfolding fate_into_of fate_data add
fate_again-MergedInto scope h = rw h refl

pub fate_again-DissolvedInto : (scope : ScopeId) → IsAgain id_of id_data scope
    → IsAgain fate_of fate_data (fates.DissolvedInto scope)
unfolding fate_into_of fate_data add
fate_again-DissolvedInto scope h = rw h refl

pub ruleset fate_again = (
  fate_again-Kept,
  fate_again-NotEscaping,
  fate_again-Unused,
  fate_again-MergedInto,
  fate_again-DissolvedInto,
  fate_again-AlwaysInvalidating,
)

pub scope_fate_again : (scope : ScopeId) (fate : Fate) → IsAgain id_of id_data scope → IsAgain fate_of fate_data fate
    → IsAgain scope_fate_of scope_fate_data (record { scope = scope; fate = fate })
unfolding scope_fate_of scope_fate_data add
scope_fate_again scope fate h g = rw (h, g) refl
