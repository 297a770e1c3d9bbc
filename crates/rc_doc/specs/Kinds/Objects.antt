-- Kinds that make objects, arrays and JSX, and that reach into them.
use Rattle.std.specs.Prelude.{ℕ, List, [], ◌∷◌, Option, Some, codes}
use Rattle.serde_json.specs.Data.{Data}
use Rattle.rc_hir.specs.Model.{InstructionValue}
use Rattle.rc_hir.specs.declared.instruction.InstructionValue.TheVariants as kinds
use Rattle.rc_doc.specs.Parts.{jsx_attribute_of, jsx_tag_of}
use Rattle.rc_doc.specs.Patterns.{element_of, property_literal_of, property_of}
use Rattle.rc_doc.specs.Places.{place_of, span_of}
use Rattle.rc_doc.specs.Reading.{◌>>=◌, field, list_field, list_of, only, option_field}

-- an object literal
unfoldable pub object_expression_of : Data → Option InstructionValue
object_expression_of d = do
  _ ← only (codes "k" ∷ codes "properties" ∷ codes "span" ∷ []) d
  properties ← list_field property_of (codes "properties") d
  span ← option_field span_of (codes "span") d
  Some (kinds.ObjectExpression properties span)

-- an array literal
unfoldable pub array_expression_of : Data → Option InstructionValue
array_expression_of d = do
  _ ← only (codes "elements" ∷ codes "k" ∷ codes "span" ∷ []) d
  elements ← list_field element_of (codes "elements") d
  span ← option_field span_of (codes "span") d
  Some (kinds.ArrayExpression elements span)

-- a JSX element; no list of children isn't the same as an empty list
unfoldable pub jsx_expression_of : Data → Option InstructionValue
jsx_expression_of d = do
  _ ← only (codes "children" ∷ codes "k" ∷ codes "props" ∷ codes "span" ∷ codes "tag" ∷ []) d
  tag ← field jsx_tag_of (codes "tag") d
  props ← list_field jsx_attribute_of (codes "props") d
  children ← option_field (list_of place_of) (codes "children") d
  span ← option_field span_of (codes "span") d
  Some (kinds.JsxExpression tag props children span)

-- a JSX fragment
unfoldable pub jsx_fragment_of : Data → Option InstructionValue
jsx_fragment_of d = do
  _ ← only (codes "children" ∷ codes "k" ∷ codes "span" ∷ []) d
  children ← list_field place_of (codes "children") d
  span ← option_field span_of (codes "span") d
  Some (kinds.JsxFragment children span)

-- a property of an object, by its name
unfoldable pub property_load_of : Data → Option InstructionValue
property_load_of d = do
  _ ← only (codes "k" ∷ codes "object" ∷ codes "property" ∷ codes "span" ∷ []) d
  object ← field place_of (codes "object") d
  property ← field property_literal_of (codes "property") d
  span ← option_field span_of (codes "span") d
  Some (kinds.PropertyLoad object property span)

-- a property that is deleted, by its name
unfoldable pub property_delete_of : Data → Option InstructionValue
property_delete_of d = do
  _ ← only (codes "k" ∷ codes "object" ∷ codes "property" ∷ codes "span" ∷ []) d
  object ← field place_of (codes "object") d
  property ← field property_literal_of (codes "property") d
  span ← option_field span_of (codes "span") d
  Some (kinds.PropertyDelete object property span)

-- a value for a property, by its name
unfoldable pub property_store_of : Data → Option InstructionValue
property_store_of d = do
  _ ← only (codes "k" ∷ codes "object" ∷ codes "property" ∷ codes "span" ∷ codes "value" ∷ []) d
  object ← field place_of (codes "object") d
  property ← field property_literal_of (codes "property") d
  value ← field place_of (codes "value") d
  span ← option_field span_of (codes "span") d
  Some (kinds.PropertyStore object property value span)

-- a property of an object, by a computed name
unfoldable pub computed_load_of : Data → Option InstructionValue
computed_load_of d = do
  _ ← only (codes "k" ∷ codes "object" ∷ codes "property" ∷ codes "span" ∷ []) d
  object ← field place_of (codes "object") d
  property ← field place_of (codes "property") d
  span ← option_field span_of (codes "span") d
  Some (kinds.ComputedLoad object property span)

-- a property that is deleted, by a computed name
unfoldable pub computed_delete_of : Data → Option InstructionValue
computed_delete_of d = do
  _ ← only (codes "k" ∷ codes "object" ∷ codes "property" ∷ codes "span" ∷ []) d
  object ← field place_of (codes "object") d
  property ← field place_of (codes "property") d
  span ← option_field span_of (codes "span") d
  Some (kinds.ComputedDelete object property span)

-- a value for a property, by a computed name
unfoldable pub computed_store_of : Data → Option InstructionValue
computed_store_of d = do
  _ ← only (codes "k" ∷ codes "object" ∷ codes "property" ∷ codes "span" ∷ codes "value" ∷ []) d
  object ← field place_of (codes "object") d
  property ← field place_of (codes "property") d
  value ← field place_of (codes "value") d
  span ← option_field span_of (codes "span") d
  Some (kinds.ComputedStore object property value span)

-- the kinds of this family, by their names
abbrev pub object_kinds : Data → List (List ℕ × Option InstructionValue)
object_kinds d =
    (codes "PropertyLoad", property_load_of d)
    ∷ (codes "PropertyStore", property_store_of d)
    ∷ (codes "ComputedLoad", computed_load_of d)
    ∷ (codes "ObjectExpression", object_expression_of d)
    ∷ (codes "ArrayExpression", array_expression_of d)
    ∷ (codes "JsxExpression", jsx_expression_of d)
    ∷ (codes "JsxFragment", jsx_fragment_of d)
    ∷ (codes "PropertyDelete", property_delete_of d)
    ∷ (codes "ComputedDelete", computed_delete_of d)
    ∷ (codes "ComputedStore", computed_store_of d)
    ∷ []
