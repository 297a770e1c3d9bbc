-- Looking a label up from the outermost one to the innermost, where the last one that fits counts.
use Rattle.std.proofs.Common.{◌≡◌, ℕ, List, [], ◌∷◌, ◌++◌, reverse, refl, sym, ap, ◌∙◌}
use Rattle.std.specs.Prelude.{if◌then◌else◌}
use Rattle.std.proofs.lemmas.List.{reverse-append}
use Rattle.rc_names.specs.Numbers.{BlockId, same_id}
use Rattle.rc_replay.specs.declared.exits.LabelExit.{LabelExit}
use Rattle.rc_replay.specs.inside.Exits.{break_exit, continue_exit, continue_or}

-- one label further inside
pub break_inside : (labels : List LabelExit) (label : LabelExit) (target : BlockId)
    → break_exit (reverse (labels ++ label ∷ [])) target
    ≡ (if same_id label.block target then label.break_to else break_exit (reverse labels) target)
break_inside labels label target = ap (λ l. break_exit l target) (reverse-append labels (label ∷ []))

pub continue_inside : (labels : List LabelExit) (label : LabelExit) (target : BlockId)
    → continue_exit (reverse (labels ++ label ∷ [])) target
    ≡ continue_or label.continue_to (same_id label.block target) (continue_exit (reverse labels) target)
continue_inside labels label target = ap (λ l. continue_exit l target) (reverse-append labels (label ∷ []))
