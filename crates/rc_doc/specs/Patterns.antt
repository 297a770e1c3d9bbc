-- Patterns, and the parts that they share with literals.
use Rattle.std.specs.Prelude.{ℕ, List, [], ◌∷◌, Option, Some, option_and_then, option_map, codes}
use Rattle.serde_json.specs.Data.{Data}
use Rattle.serde_json.specs.Find.{as_str}
use Rattle.rc_hir.specs.Model.{ArrayElement, ArrayPatternElement, InstructionKind, LValue, LValuePattern}
use Rattle.rc_hir.specs.Model.{ObjectProperty, ObjectPropertyKey, ObjectPropertyOrSpread, Pattern, PropertyLiteral}
use Rattle.rc_hir.specs.declared.pattern.ArrayElement.TheVariants as element
use Rattle.rc_hir.specs.declared.pattern.ArrayPatternElement.TheVariants as pattern_elements
use Rattle.rc_hir.specs.declared.pattern.InstructionKind.TheVariants as kinds
use Rattle.rc_hir.specs.declared.pattern.ObjectPropertyKey.TheVariants as keys
use Rattle.rc_hir.specs.declared.pattern.ObjectPropertyOrSpread.TheVariants as entry
use Rattle.rc_hir.specs.declared.pattern.Pattern.TheVariants as patterns
use Rattle.rc_hir.specs.declared.pattern.PropertyLiteral.TheVariants as literals
use Rattle.rc_doc.specs.Places.{place_of, spread_of}
use Rattle.rc_doc.specs.Reading.{◌>>=◌, content, field, list_field, named, only, or_tagged, tag_of, text_of, variant}

-- the ways of writing, by their names
abbrev pub kind_named : List ℕ → Option InstructionKind
kind_named = named (
    (codes "Const", kinds.Const)
    ∷ (codes "Let", kinds.Let)
    ∷ (codes "Reassign", kinds.Reassign)
    ∷ (codes "Catch", kinds.Catch)
    ∷ (codes "Function", kinds.Function)
    ∷ (codes "HoistedConst", kinds.HoistedConst)
    ∷ (codes "HoistedLet", kinds.HoistedLet)
    ∷ (codes "HoistedFunction", kinds.HoistedFunction)
    ∷ [])

-- a way of writing, given by its name
abbrev pub kind_of : Data → Option InstructionKind
kind_of d = option_and_then kind_named (as_str d)

-- a place that is written
unfoldable pub lvalue_of : Data → Option LValue
lvalue_of d = do
  _ ← only (codes "kind" ∷ codes "place" ∷ []) d
  kind ← field kind_of (codes "kind") d
  place ← field place_of (codes "place") d
  Some (record { kind = kind; place = place })

-- the name of a property that is read, written or deleted
unfoldable pub property_literal_of : Data → Option PropertyLiteral
property_literal_of d = do
  _ ← only (codes "k" ∷ codes "v" ∷ []) d
  name ← tag_of d
  variant (
      (codes "String", option_map literals.String (content text_of d))
      ∷ (codes "Number", option_map literals.Number (content text_of d))
      ∷ []) name

-- the key of a property
unfoldable pub property_key_of : Data → Option ObjectPropertyKey
property_key_of d = do
  _ ← only (codes "k" ∷ codes "v" ∷ []) d
  name ← tag_of d
  variant (
      (codes "Identifier", option_map keys.Identifier (content text_of d))
      ∷ (codes "String", option_map keys.String (content text_of d))
      ∷ (codes "Number", option_map keys.Number (content text_of d))
      ∷ (codes "Computed", option_map keys.Computed (content place_of d))
      ∷ []) name

-- a property with its place
unfoldable pub object_property_of : Data → Option ObjectProperty
object_property_of d = do
  _ ← only (codes "key" ∷ codes "place" ∷ []) d
  key ← field property_key_of (codes "key") d
  place ← field place_of (codes "place") d
  Some (record { key = key; place = place })

-- an entry of an object pattern or of an object literal
unfoldable pub property_of : Data → Option ObjectPropertyOrSpread
property_of d = do
  _ ← only (codes "k" ∷ codes "v" ∷ []) d
  name ← tag_of d
  variant (
      (codes "Property", option_map entry.Property (content object_property_of d))
      ∷ (codes "Spread", option_map entry.Spread (content spread_of d))
      ∷ []) name

-- an entry of an array pattern that isn't a hole
unfoldable pub filled_pattern_element_of : Data → Option ArrayPatternElement
filled_pattern_element_of d = do
  _ ← only (codes "k" ∷ codes "v" ∷ []) d
  name ← tag_of d
  variant (
      (codes "Place", option_map pattern_elements.Place (content place_of d))
      ∷ (codes "Spread", option_map pattern_elements.Spread (content spread_of d))
      ∷ []) name

-- an entry of an array pattern; a hole is only its name
abbrev pub pattern_element_of : Data → Option ArrayPatternElement
pattern_element_of d = or_tagged (named ((codes "Hole", pattern_elements.Hole) ∷ [])) filled_pattern_element_of d

-- an entry of an array literal that isn't a hole
unfoldable pub filled_element_of : Data → Option ArrayElement
filled_element_of d = do
  _ ← only (codes "k" ∷ codes "v" ∷ []) d
  name ← tag_of d
  variant (
      (codes "Place", option_map element.Place (content place_of d))
      ∷ (codes "Spread", option_map element.Spread (content spread_of d))
      ∷ []) name

-- an entry of an array literal; a hole is only its name
abbrev pub element_of : Data → Option ArrayElement
element_of d = or_tagged (named ((codes "Hole", element.Hole) ∷ [])) filled_element_of d

-- a pattern that takes an array apart
unfoldable pub array_pattern_of : Data → Option Pattern
array_pattern_of d = do
  _ ← only (codes "items" ∷ codes "k" ∷ []) d
  items ← list_field pattern_element_of (codes "items") d
  Some (patterns.Array items)

-- a pattern that takes an object apart
unfoldable pub object_pattern_of : Data → Option Pattern
object_pattern_of d = do
  _ ← only (codes "k" ∷ codes "properties" ∷ []) d
  properties ← list_field property_of (codes "properties") d
  Some (patterns.Object properties)

-- a pattern
unfoldable pub pattern_of : Data → Option Pattern
pattern_of d = do
  name ← tag_of d
  variant ((codes "Array", array_pattern_of d) ∷ (codes "Object", object_pattern_of d) ∷ []) name

-- a pattern whose places are written
unfoldable pub lvalue_pattern_of : Data → Option LValuePattern
lvalue_pattern_of d = do
  _ ← only (codes "kind" ∷ codes "pattern" ∷ []) d
  kind ← field kind_of (codes "kind") d
  pattern ← field pattern_of (codes "pattern") d
  Some (record { kind = kind; pattern = pattern })
