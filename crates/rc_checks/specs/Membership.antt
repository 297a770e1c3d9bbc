-- Operands outside the blocks of their scopes, which the membership check refuses.
--
-- An operand is outside where its identifier has a scope, the operand is visited inside that scope's range, the scope
-- has a scope block in the tree, and no block of it is around the operand.
use Rattle.std.specs.Prelude.{◌≡◌, Bool, ◌&&◌, not, List, ◌∷◌, ◌++◌, Option, None, Some, Result}
use Rattle.std.specs.Prelude.{Ok, Err, All, slice_get, if◌then◌else◌}
use Rattle.rc_hir.specs.Model.{Environment, Identifier, Fault, MutableRange, ReactiveScope}
use Rattle.rc_hir.specs.declared.fault.Fault.TheVariants.{BadName}
use Rattle.rc_hir.specs.declared.fault.TableName.TheVariants.{Identifiers, Scopes}
use Rattle.rc_names.specs.Numbers.{EvaluationOrder, IdentifierId, ScopeId, is_among}
use Rattle.rc_ranges.specs.Ranges.{is_in_range}
use Rattle.rc_tree.specs.Step.{bind}
use Rattle.rc_tree.specs.Visits.{PlacedOperand, Visit}

-- the scope of an identifier that was looked up by its number; one outside its table is a bad name
abbrev pub scope_found : IdentifierId → Option Identifier → Result (Option ScopeId) Fault
scope_found number None = Err (BadName Identifiers number.0)
scope_found number (Some identifier) = Ok identifier.scope

-- the scope of the identifier under that number
abbrev pub scope_of : Environment → IdentifierId → Result (Option ScopeId) Fault
scope_of env number = scope_found number (slice_get env.identifiers number.0)

-- the range of a scope that was looked up by its number; one outside its table is a bad name
abbrev pub range_found : ScopeId → Option ReactiveScope → Result MutableRange Fault
range_found number None = Err (BadName Scopes number.0)
range_found number (Some scope) = Ok scope.range

-- the range of the scope under that number
abbrev pub range_of : Environment → ScopeId → Result MutableRange Fault
range_of env number = range_found number (slice_get env.scopes number.0)

module _ (env : Environment) (blocks : List ScopeId) where
  -- the operand is in the range of that scope, which is one of those with blocks, and none of its blocks is around it
  abbrev pub is_outside : PlacedOperand → ScopeId → MutableRange → Bool
  is_outside operand scope range =
      is_in_range operand.id range && (is_among blocks scope && not (is_among operand.enclosing scope))

  -- the operand's own scope, where it is outside of it
  abbrev pub if_outside : PlacedOperand → Option ScopeId → Result (Option ScopeId) Fault
  if_outside operand None = Ok None
  if_outside operand (Some scope) =
      bind (range_of env scope) (λ range. Ok (if is_outside operand scope range then Some scope else None))

  -- the same, with the scope of the operand's identifier
  abbrev pub operand_outside : PlacedOperand → Result (Option ScopeId) Fault
  operand_outside operand = bind (scope_of env operand.place.identifier) (if_outside operand)

  -- the scope that a visited operand is outside of, where there is one
  abbrev pub outside : Visit → Result (Option ScopeId) Fault
  outside (Ok operand) = operand_outside operand
  outside (Err fault) = Err fault

  -- each number that is looked up for the visit is in its table
  abbrev pub IsKnown : Visit → Type 0
  IsKnown visit = (scope : Option ScopeId) × (outside visit ≡ Ok scope)

  -- and the operand isn't outside
  abbrev pub IsInside : Visit → Type 0
  IsInside visit = outside visit ≡ Ok None

  -- the last operand outside is visited at that id and has that scope
  pub record IsLastOutside (visits : List Visit) (id : EvaluationOrder) (scope : ScopeId) : Type 0 where
    pub earlier : List Visit
    pub operand : PlacedOperand
    pub later : List Visit
    pub parts : visits ≡ earlier ++ Ok operand ∷ later
    pub known : All IsKnown earlier
    pub at : operand.id ≡ id
    pub is_outside : operand_outside operand ≡ Ok (Some scope)
    pub inside : All IsInside later

  -- the fault names the first number that is outside its table
  pub record IsFirstUnknown (visits : List Visit) (fault : Fault) : Type 0 where
    pub earlier : List Visit
    pub visit : Visit
    pub later : List Visit
    pub parts : visits ≡ earlier ++ visit ∷ later
    pub known : All IsKnown earlier
    pub unknown : outside visit ≡ Err fault
