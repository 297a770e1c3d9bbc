-- Where the operands of a value can't be read, or one of them is looked up in vain, the fault names a number of the
-- value, of a function of the table, or of the environment.
use Rattle.std.proofs.Common.{◌≡◌, ◌∙◌, ◌⊎◌, ◌<◌, inl, inr, ℕ, List, [], ◌∷◌, ◌++◌, length, get_or, Option, None, Some}
use Rattle.std.proofs.Common.{if◌then◌else◌, Result, Ok, Err, append_assoc, arith, refl, sym, ap, subst}
use Rattle.std.specs.List.{Any, flat_map}
use Rattle.std.proofs.lemmas.Option.{slice_get_cases}
use Rattle.rc_hir.specs.EnvironmentNames.{declaration_name, identifier_names, type_name}
use Rattle.rc_hir.specs.Names.{IsOutside, NamesOutsideIn, NamesOutsideInEnvironment, lengths}
use Rattle.rc_hir.specs.Operands.{argument_places, attribute_places, child_places, context_found, context_places}
use Rattle.rc_hir.specs.Operands.{element_places, entry_places, jsx_places, key_places, operands, tag_places}
use Rattle.rc_hir.specs.PartNames.{Name, argument_names, attribute_names, element_names, entry_names, key_names}
use Rattle.rc_hir.specs.PartNames.{lowered_names, parameter_names, names_if, pattern_names, place_names, scope_name}
use Rattle.rc_hir.specs.PartNames.{tag_names, target_names}
use Rattle.rc_hir.specs.ValueNames.{value_names}
use Rattle.rc_hir.specs.Model.{Environment, Identifier, Fault, HirFunction, InstructionValue, JsxAttribute, JsxTag}
use Rattle.rc_hir.specs.Model.{LoweredFunction, ArrayElement, ObjectPropertyKey, ObjectPropertyOrSpread, Place}
use Rattle.rc_hir.specs.Model.{PlaceOrSpread, ReactiveScope}
use Rattle.rc_hir.specs.declared.fault.TableName.TheVariants.{Functions, Identifiers, Scopes}
use Rattle.rc_hir.specs.declared.instruction.InstructionValue.TheVariants as kinds
use Rattle.rc_hir.specs.declared.instruction.JsxAttribute.TheVariants as attributes
use Rattle.rc_hir.specs.declared.instruction.JsxTag.TheVariants as tags
use Rattle.rc_hir.specs.declared.pattern.ArrayElement.TheVariants as element
use Rattle.rc_hir.specs.declared.pattern.ObjectPropertyKey.TheVariants as keys
use Rattle.rc_hir.specs.declared.pattern.ObjectPropertyOrSpread.TheVariants as entry
use Rattle.rc_hir.specs.declared.place.PlaceOrSpread.TheVariants as arguments
use Rattle.rc_names.specs.Numbers.{ScopeId}
use Rattle.rc_tree.specs.Step.{bind}
use Rattle.rc_tree.proofs.StepLemmas.{Err-injective, not_err}
use Rattle.rc_tree.proofs.AnyLemmas.{Any-flat_map, Any-left, Any-right}
use Rattle.rc_checks.specs.Membership.{if_outside, is_outside, outside, range_found, scope_found}
use Rattle.rc_tree.specs.Visits.{PlacedOperand}
use Rattle.rc_checks.proofs.FaultNames.{Covers, IsNamed, alone, behind, both, by_form, each, none}

module _ (env : Environment) (fault : Fault) where
  -- the fault names the place's identifier, which is outside its table
  abbrev pub IsUnknownPlace : Place → Type 0
  IsUnknownPlace place = IsOutside (lengths env 0) fault (Identifiers, place.identifier.0)

  -- where one of the places is unknown, the fault names one of the numbers
  abbrev CoversPlaces : List Name → List Place → Type 0
  CoversPlaces = Covers env fault IsUnknownPlace

  pub place_covers : (place : Place) → CoversPlaces (place_names place) (place ∷ [])
  place_covers place = alone place (λ missed. inl (0, (Identifiers, place.identifier.0), omega arith, refl, missed))

  two_cover : (first second : Place) → CoversPlaces (place_names first ++ place_names second) (first ∷ second ∷ [])
  two_cover first second = both (place_covers first) (place_covers second)

  places_cover : (places : List Place) → CoversPlaces (flat_map place_names places) places
  places_cover [] = none
  places_cover (place ∷ places) = both (place_covers place) (places_cover places)

  argument_covers : (x : PlaceOrSpread) → CoversPlaces (argument_names x) (argument_places x)
  argument_covers (arguments.Place place) = place_covers place
  argument_covers (arguments.Spread spread) = place_covers spread.place

  element_covers : (x : ArrayElement) → CoversPlaces (element_names x) (element_places x)
  element_covers (element.Place place) = place_covers place
  element_covers (element.Spread spread) = place_covers spread.place
  element_covers element.Hole = none

  key_covers : (x : ObjectPropertyKey) → CoversPlaces (key_names x) (key_places x)
  key_covers (keys.Identifier name) = none
  key_covers (keys.String text) = none
  key_covers (keys.Number text) = none
  key_covers (keys.Computed place) = place_covers place

  entry_covers : (x : ObjectPropertyOrSpread) → CoversPlaces (entry_names x) (entry_places x)
  entry_covers (entry.Property property) = both (key_covers property.key) (place_covers property.place)
  entry_covers (entry.Spread spread) = place_covers spread.place

  tag_covers : (x : JsxTag) → CoversPlaces (tag_names x) (tag_places x)
  tag_covers (tags.Place place) = place_covers place
  tag_covers (tags.Builtin name) = none

  attribute_covers : (x : JsxAttribute) → CoversPlaces (attribute_names x) (attribute_places x)
  attribute_covers (attributes.Attribute name place) = place_covers place
  attribute_covers (attributes.SpreadAttribute place) = place_covers place

  children_cover : (x : Option (List Place)) → CoversPlaces (names_if (flat_map place_names) x) (child_places x)
  children_cover None = none
  children_cover (Some children) = places_cover children

  -- a callee and its arguments
  call_covers : (callee : Place) (args : List PlaceOrSpread) →
      CoversPlaces (place_names callee ++ flat_map argument_names args) (callee ∷ flat_map argument_places args)
  call_covers callee args = both (place_covers callee) (each argument_names argument_places argument_covers args)

  -- a JSX element's tag, its attributes and its children
  jsx_covers : (tag : JsxTag) (props : List JsxAttribute) (children : Option (List Place)) →
      CoversPlaces (tag_names tag ++ (flat_map attribute_names props ++ names_if (flat_map place_names) children))
      (jsx_places tag props children)
  jsx_covers tag props children =
      by_form (sym (append_assoc (tag_names tag) (flat_map attribute_names props)
      (names_if (flat_map place_names) children))) refl
      (both (both (tag_covers tag) (each attribute_names attribute_places attribute_covers props))
      (children_cover children))

  -- an unknown place of a function's context is named by the function
  context_named : (function : HirFunction) → Any IsUnknownPlace function.context → NamesOutsideIn env fault function
  context_named function missed =
      let tables = lengths env (length function.instructions) in
      Any-right (IsOutside tables fault) (flat_map parameter_names function.params) _
      (Any-left (IsOutside tables fault) (flat_map place_names function.context) _
      (Any-flat_map (IsOutside tables fault) place_names function.context missed.0 missed.1 missed.2 missed.3
      (0, (Identifiers, missed.1.identifier.0), omega arith, refl, missed.4)))

  -- where the places can't be read, or one of them is unknown, the fault names one of the numbers
  abbrev pub CoversRead : List Name → Result (List Place) Fault → Type 0
  CoversRead names (Ok places) = CoversPlaces names places
  CoversRead names (Err other) = other ≡ fault → IsNamed env fault names

  -- the places of a nested function's context
  lowered_covers : (lowered : LoweredFunction) →
      CoversRead (lowered_names lowered) (context_places env.functions lowered)
  lowered_covers lowered = elim (slice_get_cases env.functions lowered.func.0).1 [
    | inl found ↦ subst (λ f. CoversRead (lowered_names lowered) (context_found lowered.func f)) (sym found.2)
        (record {
          named = λ missed. inr (inl (lowered.func.0, found.0, found.1, found.3, context_named found.0 missed));
        })
    | inr past ↦ subst (λ f. CoversRead (lowered_names lowered) (context_found lowered.func f)) (sym past.1)
        (λ is. inl (0, (Functions, lowered.func.0), omega arith, refl, (sym is, past.0)))
  ]

  -- the operands of each kind of value
  pub operands_read : (x : InstructionValue) → CoversRead (value_names x) (operands env.functions x)
  operands_read (kinds.LoadLocal place span) = place_covers place
  operands_read (kinds.LoadContext place span) = place_covers place
  operands_read (kinds.DeclareLocal lvalue span) = none
  operands_read (kinds.DeclareContext lvalue span) = none
  operands_read (kinds.StoreLocal lvalue value span) = behind (target_names lvalue) (place_covers value)
  operands_read (kinds.StoreContext lvalue value span) = two_cover lvalue.place value
  operands_read (kinds.Destructure lvalue value span) = behind (pattern_names lvalue.pattern) (place_covers value)
  operands_read (kinds.Primitive value span) = none
  operands_read (kinds.JSXText value span) = none
  operands_read (kinds.BinaryExpression operator left right span) = two_cover left right
  operands_read (kinds.UnaryExpression operator value span) = place_covers value
  operands_read (kinds.TypeCastExpression value annotation span) = place_covers value
  operands_read (kinds.Await value span) = place_covers value
  operands_read (kinds.NewExpression callee args span) = call_covers callee args
  operands_read (kinds.CallExpression callee args span) = call_covers callee args
  operands_read (kinds.MethodCall receiver property args span) =
      both (place_covers receiver) (call_covers property args)
  operands_read (kinds.ObjectExpression properties span) = each entry_names entry_places entry_covers properties
  operands_read (kinds.ObjectMethod lowered_func span) = lowered_covers lowered_func
  operands_read (kinds.FunctionExpression name lowered_func span) = lowered_covers lowered_func
  operands_read (kinds.ArrayExpression elements span) = each element_names element_places element_covers elements
  operands_read (kinds.JsxExpression tag props children span) = jsx_covers tag props children
  operands_read (kinds.JsxFragment children span) = places_cover children
  operands_read (kinds.RegExpLiteral pattern flags span) = none
  operands_read (kinds.MetaProperty meta property span) = none
  operands_read (kinds.PropertyLoad object property span) = place_covers object
  operands_read (kinds.PropertyDelete object property span) = place_covers object
  operands_read (kinds.PropertyStore object property value span) = two_cover object value
  operands_read (kinds.ComputedLoad object property span) = two_cover object property
  operands_read (kinds.ComputedDelete object property span) = two_cover object property
  operands_read (kinds.ComputedStore object property value span) =
      both (place_covers object) (two_cover property value)
  operands_read (kinds.LoadGlobal binding span) = none
  operands_read (kinds.StoreGlobal name value span) = place_covers value
  operands_read (kinds.TaggedTemplateExpression tag quasi span) = place_covers tag
  operands_read (kinds.TemplateLiteral subexprs quasis span) = places_cover subexprs
  operands_read (kinds.GetIterator collection span) = place_covers collection
  operands_read (kinds.IteratorNext iterator collection span) = two_cover iterator collection
  operands_read (kinds.NextPropertyOf value span) = place_covers value
  operands_read (kinds.PrefixUpdate lvalue operation value span) = behind (place_names lvalue) (place_covers value)
  operands_read (kinds.PostfixUpdate lvalue operation value span) = behind (place_names lvalue) (place_covers value)
  operands_read (kinds.Debugger span) = none
  operands_read (kinds.StartMemoize manual_memo_id deps span) = places_cover deps
  operands_read (kinds.FinishMemoize manual_memo_id decl pruned span) = place_covers decl

module _ (env : Environment) (fault : Fault) (blocks : List ScopeId) where
  -- a scope that is looked up in vain
  range_unknown : (operand : PlacedOperand) (own : Option ScopeId) → if_outside env blocks operand own ≡ Err fault →
      Any (IsOutside (lengths env 0) fault) (names_if scope_name own)
  range_unknown operand None e = absurd (not_err None fault e)
  range_unknown operand (Some own) e = elim (slice_get_cases env.scopes own.0).1 [
    | inl found ↦ absurd (not_err _ fault (sym (ap judged found.2) ∙ e))
    | inr past ↦
        (0, (Scopes, own.0), omega arith, refl, (sym (Err-injective _ fault (sym (ap judged past.1) ∙ e)), past.0))
  ]
    where
      judged : Option ReactiveScope → Result (Option ScopeId) Fault
      judged found = bind (range_found own found)
          (λ range. Ok (if is_outside env blocks operand own range then Some own else None))

  -- the scope of an identifier is a number of the environment
  scope_named : (number : ℕ) (identifier : Identifier) → number < length env.identifiers →
      get_or env.identifiers number identifier ≡ identifier →
      Any (IsOutside (lengths env 0) fault) (names_if scope_name identifier.scope) →
      NamesOutsideInEnvironment env fault
  scope_named number identifier below at missed =
      let Outside = IsOutside (lengths env 0) fault in
      Any-left Outside (flat_map identifier_names env.identifiers) _
      (Any-flat_map Outside identifier_names env.identifiers number identifier below at
      (Any-right Outside (declaration_name identifier.declaration_id) _
      (Any-left Outside (names_if scope_name identifier.scope) (type_name identifier.type_) missed)))

  -- an operand whose identifier or whose scope is looked up in vain
  pub operand_unknown : (operand : PlacedOperand) → outside env blocks (Ok operand) ≡ Err fault →
      IsUnknownPlace env fault operand.place ⊎ NamesOutsideInEnvironment env fault
  operand_unknown operand e = elim (slice_get_cases env.identifiers operand.place.identifier.0).1 [
    | inl found ↦ inr (scope_named operand.place.identifier.0 found.0 found.1 found.3
        (range_unknown operand found.0.scope (sym (ap judged found.2) ∙ e)))
    | inr past ↦ inl (sym (Err-injective _ fault (sym (ap judged past.1) ∙ e)), past.0)
  ]
    where
      judged : Option Identifier → Result (Option ScopeId) Fault
      judged found = bind (scope_found operand.place.identifier found) (if_outside env blocks operand)
