-- Names that are put into a set one after the other.
use Rattle.std.proofs.Common.{◌≡◌, ◌∙◌, ◌+◌, ◌<◌, ℕ, Bool, true, false, List, ap, get_or, length, refl, sym, take}
use Rattle.std.proofs.lemmas.List.Folds.{list_any_more}
use Rattle.std.specs.Prelude.{◌||◌}
use Rattle.indexmap.specs.IndexSet.{insert_key}
use Rattle.rc_escape.proofs.MemoSetLemmas.{insert_among}
use Rattle.rc_names.specs.Numbers.{DeclarationId, is_among, same_id}
use Rattle.rc_why.specs.inside.ToldFacts.{HasNames}

either_way : (one other : Bool) → (one || other) ≡ (other || one)
either_way true true = refl
either_way true false = refl
either_way false true = refl
either_way false false = refl

-- one more of the names is put in
pub name_put : (names : List DeclarationId) (place : ℕ) (default : DeclarationId) → place < length names
    → (set new : List DeclarationId) → new ≡ insert_key same_id set (get_or names place default)
    → HasNames (take place names) set → HasNames (take (place + 1) names) new
name_put names place default below set new is before name =
    let last = same_id name (get_or names place default) in
    ap (λ keys. is_among keys name) is ∙ insert_among name (get_or names place default) set
    ∙ either_way last (is_among set name) ∙ ap (λ among. among || last) (before name)
    ∙ sym (list_any_more (same_id name) names place default below)
