-- A scope with an output that must be memoized keeps its block.
use Rattle.std.proofs.Common.{◌≡◌, ◌∙◌, Bool, true, false, List, [], Option, None, Some, Contains}
use Rattle.std.proofs.Common.{not, refl, slice_get, sym, ap, subst}
use Rattle.std.specs.Prelude.{◌&&◌}
use Rattle.std.specs.List.{list_any}
use Rattle.std.specs.Option.{option_map_or}
use Rattle.std.proofs.lemmas.List.Folds.{list_any_at}
use Rattle.std.proofs.lemmas.Map.Views.{list_any-from_Contains}
use Rattle.rc_hir.specs.Model.{Environment, ReactiveScope}
use Rattle.rc_names.specs.Numbers.{DeclarationId, ScopeId, is_among}
use Rattle.rc_names.proofs.NumbersLemmas.{ids_equivalence}
use Rattle.rc_tree.proofs.ListedOnce.{into_filter}
use Rattle.rc_tree.specs.Model.{ReactiveBlock, ReactiveFunction}
use Rattle.rc_tree.specs.ScopesIn.{scopes_in}
use Rattle.rc_escape.proofs.MemoSetLemmas.{least_in}
use Rattle.rc_escape.proofs.OneRecord.{one_record}
use Rattle.rc_escape.specs.MemoBounds.{IsInLeastSet}
use Rattle.rc_escape.specs.Outputs.{gives_way, is_dissolved, has_output, outputs_of}
use Rattle.rc_escape.specs.WholeRecord.{AreMemoized}
use Rattle.rc_escape.specs.NotEscaping.{IsNeededOutput, IsWithoutNotEscaping}

-- an element of a list that passes a test settles it
any_passes : {X : Type 0} (p : X → Bool) (xs : List X) (x : X) → Contains xs x → p x ≡ true → list_any p xs ≡ true
any_passes p xs x there passes = list_any_at p xs there.0 x there.1 (ap p there.2 ∙ passes)

module _ (env : Environment) (func : ReactiveFunction) (set : List DeclarationId) (memoized : AreMemoized env func set)
  where
    -- an output that must be memoized is
    needed_memoized : (scope : ScopeId) (name : DeclarationId) → IsNeededOutput env func scope name
        → is_among set name ≡ true
    needed_memoized scope name needed =
        let same = one_record func env needed.rec memoized.rec needed.recorded memoized.recorded in
        list_any-from_Contains ids_equivalence name set
        (least_in memoized.rec set memoized.memoized name (subst (λ r. IsInLeastSet r name) same needed.least))

    -- so its scope doesn't give way
    needed_stays : (scope : ScopeId) (name : DeclarationId) → IsNeededOutput env func scope name
        → is_dissolved env set scope ≡ false
    needed_stays scope name needed = by (slice_get env.scopes scope.0) needed.output
      where
        both : (early has any : Bool) → any ≡ true → (early && (has && not any)) ≡ false
        both true true any is = ap not is
        both true false any is = refl
        both false has any is = refl

        by : (found : Option ReactiveScope) → Contains (option_map_or (outputs_of env) found []) name
            → option_map_or (gives_way env set) found false ≡ false
        by None there = refl
        by (Some known) there = both _ (has_output (outputs_of env known)) _
            (any_passes (is_among set) (outputs_of env known) name there (needed_memoized scope name needed))

pub needed_left : (env : Environment) (func : ReactiveFunction) (after : ReactiveBlock)
    → IsWithoutNotEscaping env func after → (scope : ScopeId) (name : DeclarationId)
    → Contains (scopes_in func.body) scope → IsNeededOutput env func scope name → Contains (scopes_in after) scope
needed_left env func after is scope name there needed =
    subst (λ scopes. Contains scopes scope) (sym is.left)
    (into_filter (λ scope. not (is_dissolved env is.set scope)) (scopes_in func.body) scope there
    (ap not (needed_stays env func is.set is.memoized scope name needed)))
