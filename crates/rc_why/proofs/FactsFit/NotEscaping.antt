-- The facts of a scope that doesn't escape fit: it has outputs, and none of them is memoized.
use Rattle.std.proofs.Common.{◌≡◌, ◌∙◌, true, false, List, [], Option, None, Some, All, Contains}
use Rattle.std.proofs.Common.{ap, get_or, not, subst, sym, true≢false}
use Rattle.std.proofs.lemmas.Bool.{and_parts, not-true}
use Rattle.std.proofs.lemmas.List.Elements.{Contains-get_or}
use Rattle.std.proofs.lemmas.Map.Views.{list_any-from_Contains}
use Rattle.std.specs.List.{list_any}
use Rattle.std.specs.Option.{option_map_or}
use Rattle.std.specs.Prelude.{◌&&◌, is_none, slice_get}
use Rattle.rc_hir.specs.Model.{Environment, ReactiveScope}
use Rattle.rc_names.proofs.NumbersLemmas.{ids_equivalence}
use Rattle.rc_names.specs.Numbers.{DeclarationId, ScopeId, is_among}
use Rattle.rc_order.specs.Order.{AreInOrder}
use Rattle.rc_escape.specs.Outputs.{gives_way, has_output, is_dissolved, outputs, outputs_of}
use Rattle.rc_merge.proofs.Elements.{any_in, in_contains}
use Rattle.rc_why.specs.Fits.{IsNotEscaping}

module _ (env : Environment) (set : List DeclarationId) where
  -- there are outputs, and none of them is in the set
  abbrev HasNoneAmong : List DeclarationId → Type 0
  HasNoneAmong names = (has_output names ≡ true) × (list_any (is_among set) names ≡ false)

  of_entry : (own : ReactiveScope) → gives_way env set own ≡ true → HasNoneAmong (outputs_of env own)
  of_entry own gives =
      let names = outputs_of env own in
      let any = list_any (is_among set) names in
      let rest = and_parts (is_none own.early_return_value) (has_output names && not any) gives in
      let both = and_parts (has_output names) (not any) rest.1 in
      (both.0, not-true any both.1)

  of_found : (found : Option ReactiveScope) → option_map_or (gives_way env set) found false ≡ true
      → HasNoneAmong (option_map_or (outputs_of env) found [])
  of_found None gives = absurd (true≢false (sym gives))
  of_found (Some own) gives = of_entry own gives

  -- names of which none is in the set aren't among the set in order
  outside : (names memoized : List DeclarationId) → list_any (is_among set) names ≡ false → AreInOrder set memoized
      → All (λ name. ¬ Contains memoized name) names
  outside names memoized none ordered = λ place other below there.
      let name = get_or names place other in
      let among = list_any-from_Contains ids_equivalence name set ((ordered.same name).0 there) in
      let here = in_contains names name (Contains-get_or names place other below) in
      true≢false (sym (any_in (is_among set) names name here among) ∙ none)

  pub not_escaping_fits : (scope : ScopeId) (all memoized : List DeclarationId)
      → is_dissolved env set scope ≡ true → all ≡ outputs env scope → AreInOrder set memoized
      → IsNotEscaping all memoized
  not_escaping_fits scope all memoized gone are ordered =
      let none = of_found (slice_get env.scopes scope.0) gone in
      subst (λ names. IsNotEscaping names memoized) (sym are) (record {
        some = λ empty. true≢false (sym none.0 ∙ ap has_output empty);
        unmemoized = outside (outputs env scope) memoized none.1 ordered;
      })
