-- Merging changes no scope's dependencies, so scopes are compared by those that they had from the start.
use Rattle.std.proofs.Common.{◌≡◌, ◌∙◌, List, [], ◌∷◌, Option, None, Some, map, refl}
use Rattle.rc_hir.specs.Model.{Environment, InstructionValue, Place, ReactiveScope}
use Rattle.rc_names.specs.Numbers.{ScopeId}
use Rattle.rc_merge.proofs.GroupsHold.{Each, Grows, ListFits, ValueFits, group_holds, items_each, own_at, scopes_hold}
use Rattle.rc_merge.specs.Groups.{group_at}
use Rattle.rc_merge.specs.Joining.{Copies}
use Rattle.rc_merge.specs.LastUses.{LastUses}
use Rattle.rc_merge.specs.Merged.{Progress, met_list}
use Rattle.rc_merge.specs.MergedList.{scopes_at}
use Rattle.rc_merge.specs.Places.{Item, NumberedScope, PassedRow, items_of}
use Rattle.rc_tree.specs.CollectedValues.{instruction_of}
use Rattle.rc_tree.specs.Unrolled.{UnrolledStatement}
use Rattle.rc_tree.specs.Model.{ReactiveStatement}
use Rattle.rc_tree.specs.declared.statement.ReactiveStatement.{out-ReactiveStatement}
use Rattle.rc_tree.specs.declared.statement.ReactiveStatement.TheOpen as layer

-- the scopes have the dependencies of those before
abbrev pub HasDependencies : List ReactiveScope → List ReactiveScope → Type 0
HasDependencies before scopes = (n : ScopeId) → (own_at scopes n).dependencies ≡ (own_at before n).dependencies

module _ (env : Environment) (uses : LastUses) (copies : Copies) (scopes : List ReactiveScope) where
  -- the scope has the dependencies of its number at the start of the list
  abbrev pub HasOwn : NumberedScope → Type 0
  HasOwn scope = scope.own.dependencies ≡ (own_at scopes scope.number).dependencies

  abbrev AnyRow : PassedRow → Type 0
  AnyRow row = Unit {0}

  abbrev pub HaveOwn : List Item → Type 0
  HaveOwn = Each env HasOwn AnyRow

  any_value : (target : Option Place) (value : Option InstructionValue)
      → ValueFits env HasOwn AnyRow scopes target value
  any_value target None = tt
  any_value target (Some value) = λ is. tt

  list_fits : (us : List UnrolledStatement) → ListFits env HasOwn AnyRow scopes us
  list_fits [] = tt
  list_fits (layer.Instruction row ∷ us) = (any_value row.lvalue (instruction_of row.value), list_fits us)
  list_fits (layer.Terminal x ∷ us) = (tt, list_fits us)
  list_fits (layer.PrunedScope x ∷ us) = (tt, list_fits us)
  list_fits (layer.Scope block ∷ us) = (refl, list_fits us)

  -- the items of a list do
  pub items_have_own : (us : List UnrolledStatement) → HaveOwn (items_of env scopes us)
  items_have_own us = items_each env HasOwn AnyRow scopes us [] (list_fits us) tt

  -- a head keeps its own
  grows : Grows env HasOwn AnyRow uses copies
  grows before each head scope joined own here = own

  pub group_has_own : (before : List Item) → HaveOwn before → (scope : NumberedScope) → HasOwn scope
      → HasOwn (group_at env uses copies before scope)
  group_has_own = group_holds env HasOwn AnyRow uses copies grows

  pub dependencies_stay : (before : List Item) → HaveOwn before
      → HasDependencies scopes (scopes_at env uses copies scopes before)
  dependencies_stay before own n = scopes_hold env HasOwn AnyRow uses copies grows
      (λ number it. it.dependencies ≡ (own_at scopes number).dependencies) (λ scope it. it) scopes before own n refl

-- each list keeps the dependencies
pub list_dependencies : (env : Environment) (uses : LastUses) (before : List ReactiveScope) (met : Progress)
    (xs : List ReactiveStatement) → HasDependencies before met.scopes
    → HasDependencies before (met_list env uses xs met).0.scopes
list_dependencies env uses before met xs stays n =
    let us = map out-ReactiveStatement xs in
    dependencies_stay env uses met.copies met.scopes (items_of env met.scopes us)
    (items_have_own env uses met.copies met.scopes us) n ∙ stays n
