-- What holds of each scope block of a list, and of each head that another scope joins, holds of all heads, and of all
-- scopes after the list.
use Rattle.std.proofs.Common.{◌≡◌, ℕ, zero, suc, List, [], ◌∷◌, Option, None, Some, Bool, true, false, refl, sym, ap}
use Rattle.std.proofs.Common.{slice_get, subst, inl, inr}
use Rattle.std.specs.Prelude.{◌⊎◌, slice_set, if◌then◌else◌}
use Rattle.std.specs.Option.{option_map_or}
use Rattle.rc_hir.specs.Model.{Environment, InstructionValue, Place, ReactiveScope}
use Rattle.rc_names.specs.Numbers.{ScopeId, to_id}
use Rattle.rc_merge.specs.Groups.{copies_at, group_at, head_after, head_at, joins_at, joins_if, names_at}
use Rattle.rc_merge.specs.Joining.{Copies, begins, grown, joins}
use Rattle.rc_merge.specs.LastUses.{LastUses}
use Rattle.rc_merge.specs.MergedList.{scopes_after, scopes_at}
use Rattle.rc_merge.specs.Places.{Item, Passed, Block, Other, NumberedScope, PassedRow, item_if, item_of_row}
use Rattle.rc_merge.specs.Places.{item_of_value, items_before, no_scope, passed_row, passes, scope_at}
use Rattle.rc_tree.specs.CollectedValues.{instruction_of}
use Rattle.rc_tree.specs.Unrolled.{UnrolledStatement}
use Rattle.rc_tree.specs.declared.statement.ReactiveStatement.TheOpen as layer

-- the scope with that number, by itself
abbrev pub own_at : List ReactiveScope → ScopeId → ReactiveScope
own_at scopes number = (scope_at scopes number).own

-- the scope at a number of a list in which one scope was replaced
pub set_cases : (xs : List ReactiveScope) (k : ℕ) (v : ReactiveScope) (n : ℕ)
    → ((n ≡ k) × (option_map_or (λ scope. scope) (slice_get (slice_set xs k v) n) no_scope ≡ v))
    ⊎ (slice_get (slice_set xs k v) n ≡ slice_get xs n)
set_cases [] k v n = inr refl
set_cases (x ∷ xs) zero v zero = inl (refl, refl)
set_cases (x ∷ xs) zero v (suc n) = inr refl
set_cases (x ∷ xs) (suc k) v zero = inr refl
set_cases (x ∷ xs) (suc k) v (suc n) = elim (set_cases xs k v n) [
  | inl e ↦ inl (ap suc e.0, e.1)
  | inr e ↦ inr e
]

-- `OfScope` is what holds of a scope, `OfRow` of a row that passes
module _ (env : Environment) (OfScope : NumberedScope → Type 0) (OfRow : PassedRow → Type 0) where
  abbrev pub Each : List Item → Type 0
  Each [] = Unit {0}
  Each (Passed row ∷ before) = OfRow row × Each before
  Each (Other ∷ before) = Each before
  Each (Block scope ∷ before) = OfScope scope × Each before

  module _ (scopes : List ReactiveScope) where
    abbrev pub ValueFits : Option Place → Option InstructionValue → Type 0
    ValueFits target None = Unit {0}
    ValueFits target (Some value) = passes value ≡ true → OfRow (passed_row env target value)

    -- it holds of the statement's item
    abbrev pub StatementFits : UnrolledStatement → Type 0
    StatementFits (layer.Instruction row) = ValueFits row.lvalue (instruction_of row.value)
    StatementFits (layer.Scope block) = OfScope (scope_at scopes block.scope)
    StatementFits _ = Unit {0}

    abbrev pub ListFits : List UnrolledStatement → Type 0
    ListFits [] = Unit {0}
    ListFits (u ∷ us) = StatementFits u × ListFits us

    value_each : (target : Option Place) (value : Option InstructionValue) (before : List Item)
        → ValueFits target value → Each before → Each (item_of_value env target value ∷ before)
    value_each target None before fits each = each
    value_each target (Some value) before fits each = by (passes value) refl
      where
        by : (b : Bool) → passes value ≡ b → Each (item_if env b target value ∷ before)
        by true is = (fits is, each)
        by false is = each

    pub items_each : (us : List UnrolledStatement) (before : List Item) → ListFits us → Each before
        → Each (items_before env scopes us before)
    items_each [] before fits each = each
    items_each (layer.Instruction row ∷ us) before fits each =
        items_each us (item_of_row env row ∷ before) fits.1
        (value_each row.lvalue (instruction_of row.value) before fits.0 each)
    items_each (layer.Terminal x ∷ us) before fits each = items_each us (Other ∷ before) fits.1 each
    items_each (layer.PrunedScope x ∷ us) before fits each = items_each us (Other ∷ before) fits.1 each
    items_each (layer.Scope block ∷ us) before fits each =
        items_each us (Block (scope_at scopes block.scope) ∷ before) fits.1 (fits.0, each)

  module _ (uses : LastUses) (copies : Copies) where
    abbrev copies_here : List Item → Copies
    copies_here = copies_at env uses copies

    abbrev head_here : List Item → Option NumberedScope
    head_here = head_at env uses copies

    -- it holds of a head that a scope joins, with the scope in it
    abbrev pub Grows : Type 0
    Grows = (before : List Item) → Each before → (head scope : NumberedScope)
        → joins env uses (copies_here before) head.own (names_at before) scope.own ≡ true
        → OfScope head → OfScope scope → OfScope (grown env uses head scope)

    abbrev pub HeadHolds : Option NumberedScope → Type 0
    HeadHolds None = Unit {0}
    HeadHolds (Some head) = OfScope head

    module _ (grows : Grows) where
      after_holds : (before : List Item) → Each before → (head : Option NumberedScope) (scope : NumberedScope)
          → HeadHolds head → OfScope scope
          → OfScope (head_after env uses (joins_if env uses (copies_here before) head (names_at before) scope) head scope)
      after_holds before each None scope holds own = own
      after_holds before each (Some head) scope holds own =
          by (joins env uses (copies_here before) head.own (names_at before) scope.own) refl
        where
          by : (b : Bool) → joins env uses (copies_here before) head.own (names_at before) scope.own ≡ b
              → OfScope (head_after env uses b (Some head) scope)
          by true is = grows before each head scope is holds own
          by false is = own

      -- so it holds of each head
      pub head_holds : (before : List Item) → Each before → HeadHolds (head_here before)
      head_holds [] each = tt
      head_holds (Passed row ∷ before) each = head_holds before each.1
      head_holds (Other ∷ before) each = tt
      head_holds (Block scope ∷ before) each =
          by (begins env scope.own)
          (after_holds before each.1 (head_here before) scope (head_holds before each.1) each.0)
        where
          after : NumberedScope
          after = head_after env uses (joins_if env uses (copies_here before) (head_here before) (names_at before) scope)
              (head_here before) scope

          by : (b : Bool) → OfScope after → HeadHolds (if b then Some after else None)
          by true it = it
          by false it = tt

      -- and of the head of each group
      pub group_holds : (before : List Item) → Each before → (scope : NumberedScope) → OfScope scope
          → OfScope (group_at env uses copies before scope)
      group_holds before each scope own =
          after_holds before each (head_here before) scope (head_holds before each) own

      -- what follows from it for the scope with a number stays so for the scopes after the items
      pub scopes_hold : (AtNumber : ScopeId → ReactiveScope → Type 0)
          → ((scope : NumberedScope) → OfScope scope → AtNumber scope.number scope.own)
          → (scopes : List ReactiveScope) (before : List Item) → Each before → (n : ScopeId)
          → AtNumber n (own_at scopes n) → AtNumber n (own_at (scopes_at env uses copies scopes before) n)
      scopes_hold AtNumber follows scopes [] each n holds = holds
      scopes_hold AtNumber follows scopes (Passed row ∷ before) each n holds =
          scopes_hold AtNumber follows scopes before each.1 n holds
      scopes_hold AtNumber follows scopes (Other ∷ before) each n holds =
          scopes_hold AtNumber follows scopes before each n holds
      scopes_hold AtNumber follows scopes (Block scope ∷ before) each n holds =
          by (joins_at env uses copies before scope) (group_at env uses copies before scope)
          (group_holds before each.1 scope each.0) (scopes_hold AtNumber follows scopes before each.1 n holds)
        where
          earlier : List ReactiveScope
          earlier = scopes_at env uses copies scopes before

          by : (joined : Bool) (group : NumberedScope) → OfScope group → AtNumber n (own_at earlier n)
              → AtNumber n (own_at (scopes_after env uses copies scopes joined group earlier) n)
          by true group head rest = elim (set_cases earlier group.number.0 group.own n.0) [
            | inl e ↦ subst (AtNumber n) (sym e.1)
                (subst (λ number. AtNumber number group.own) (sym (ap to_id e.0)) (follows group head))
            | inr e ↦ subst (AtNumber n)
                (ap (λ found. option_map_or (λ (own : ReactiveScope). own) found no_scope) (sym e)) rest
          ]
          by false group head rest = rest
