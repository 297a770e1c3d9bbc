-- The scope blocks of a tree, each with the nearest scope block around it, in the order in which they end; and which of
-- them have the inputs of that one.
use Rattle.std.specs.Prelude.{◌≡◌, ◌↔◌, true, Contains, List, [], ◌∷◌, ◌++◌, Option, None, Some}
use Rattle.rc_hir.specs.Model.{Environment}
use Rattle.rc_names.specs.Numbers.{ScopeId}
use Rattle.rc_merge.specs.Freshness.{IsDissolvedInto}
use Rattle.rc_merge.specs.Inputs.{inputs_of, same_inputs}
use Rattle.rc_merge.specs.Places.{scope_at}
use Rattle.rc_tree.specs.Collected.{Contributions, collected}
use Rattle.rc_tree.specs.Joining.{from_around, lists}
use Rattle.rc_tree.specs.Model.{ReactiveBlock}
use Rattle.rc_tree.specs.declared.fate.ScopeFate.{ScopeFate}

-- a scope block by its scope, and the nearest one around it
pub record NestedBlock : Type 0 where
  pub scope : ScopeId
  pub around : Option ScopeId

-- the scope blocks of a part, by the nearest one around the part
abbrev pub Nested : Type 0
Nested = Option ScopeId → List NestedBlock

-- a pruned block isn't a scope block
abbrev pub nested_parts : Contributions Nested
nested_parts = record {
  joining = from_around lists;
  row = λ x around. [];
  value = λ id x around. [];
  place = λ id x around. [];
  returned = λ id x around. [];
  jump = λ target around. [];
  label = λ label around. [];
  scope = λ scope inside around. inside (Some scope) ++ record { scope = scope; around = around } ∷ [];
  pruned_scope = λ scope inside. inside;
}

-- the scope blocks of a whole body, around which there is none
abbrev pub nested_in : ReactiveBlock → List NestedBlock
nested_in body = collected nested_parts body None

-- the parent's scope block is the nearest one around a scope block of the scope, and the two have the same inputs
pub record SharesInputs (env : Environment) (body : ReactiveBlock) (scope parent : ScopeId) : Type 0 where
  pub nested : Contains (nested_in body) (record { scope = scope; around = Some parent })
  pub same : same_inputs (inputs_of env (scope_at env.scopes parent).own.dependencies)
      (inputs_of env (scope_at env.scopes scope).own.dependencies) ≡ true

-- a scope is dissolved exactly if it has the inputs of the nearest scope around it
abbrev pub DissolvesExactly : Environment → ReactiveBlock → List ScopeFate → Type 0
DissolvesExactly env body log =
    (scope parent : ScopeId) → IsDissolvedInto log scope parent ↔ SharesInputs env body scope parent
