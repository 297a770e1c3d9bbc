-- The printing form of patterns, and of the parts that they share with literals.
use Rattle.std.specs.Prelude.{ℕ, List, codes}
use Rattle.serde_json.specs.Data.{Data, no_members, object, string}
use Rattle.rc_hir.specs.Model.{ArrayElement, ArrayPatternElement, InstructionKind, LValue, LValuePattern}
use Rattle.rc_hir.specs.Model.{ObjectProperty, ObjectPropertyKey, ObjectPropertyOrSpread, Pattern, PropertyLiteral}
use Rattle.rc_hir.specs.declared.pattern.ArrayElement.TheVariants as element
use Rattle.rc_hir.specs.declared.pattern.ArrayPatternElement.TheVariants as pattern_elements
use Rattle.rc_hir.specs.declared.pattern.InstructionKind.TheVariants as kinds
use Rattle.rc_hir.specs.declared.pattern.ObjectPropertyKey.TheVariants as keys
use Rattle.rc_hir.specs.declared.pattern.ObjectPropertyOrSpread.TheVariants as entry
use Rattle.rc_hir.specs.declared.pattern.Pattern.TheVariants as patterns
use Rattle.rc_hir.specs.declared.pattern.PropertyLiteral.TheVariants as literals
use Rattle.rc_show.specs.Showing.{◌▸◌, add, list_data, tagged, variant_data}
use Rattle.rc_show.specs.ShownParts.Places.{place_data, spread_data}

-- the name of a way of writing
abbrev pub kind_name : InstructionKind → List ℕ
kind_name kinds.Const = codes "Const"
kind_name kinds.Let = codes "Let"
kind_name kinds.Reassign = codes "Reassign"
kind_name kinds.Catch = codes "Catch"
kind_name kinds.Function = codes "Function"
kind_name kinds.HoistedConst = codes "HoistedConst"
kind_name kinds.HoistedLet = codes "HoistedLet"
kind_name kinds.HoistedFunction = codes "HoistedFunction"

-- a way of writing
abbrev pub kind_data : InstructionKind → Data
kind_data kind = string (kind_name kind)

-- a place that is written
unfoldable pub lvalue_data : LValue → Data
lvalue_data lvalue = object (no_members ▸ add (codes "kind") (kind_data lvalue.kind) ▸ add (codes "place")
    (place_data lvalue.place))

-- the name of a property that is read, written or deleted
unfoldable pub property_literal_data : PropertyLiteral → Data
property_literal_data (literals.String name) = variant_data (codes "String") (string name)
property_literal_data (literals.Number name) = variant_data (codes "Number") (string name)

-- the key of a property
unfoldable pub property_key_data : ObjectPropertyKey → Data
property_key_data (keys.Identifier name) = variant_data (codes "Identifier") (string name)
property_key_data (keys.String name) = variant_data (codes "String") (string name)
property_key_data (keys.Number name) = variant_data (codes "Number") (string name)
property_key_data (keys.Computed place) = variant_data (codes "Computed") (place_data place)

-- a property with its place
unfoldable pub object_property_data : ObjectProperty → Data
object_property_data property =
    object (no_members ▸ add (codes "key") (property_key_data property.key) ▸ add (codes "place")
    (place_data property.place))

-- an entry of an object pattern or of an object literal
unfoldable pub property_data : ObjectPropertyOrSpread → Data
property_data (entry.Property property) = variant_data (codes "Property") (object_property_data property)
property_data (entry.Spread spread) = variant_data (codes "Spread") (spread_data spread)

-- an entry of an array pattern
unfoldable pub pattern_element_data : ArrayPatternElement → Data
pattern_element_data (pattern_elements.Place place) = variant_data (codes "Place") (place_data place)
pattern_element_data (pattern_elements.Spread spread) = variant_data (codes "Spread") (spread_data spread)
pattern_element_data pattern_elements.Hole = string (codes "Hole")

-- an entry of an array literal
unfoldable pub element_data : ArrayElement → Data
element_data (element.Place place) = variant_data (codes "Place") (place_data place)
element_data (element.Spread spread) = variant_data (codes "Spread") (spread_data spread)
element_data element.Hole = string (codes "Hole")

-- a pattern
unfoldable pub pattern_data : Pattern → Data
pattern_data (patterns.Array items) =
    object (no_members ▸ add (codes "items") (list_data pattern_element_data items) ▸ tagged (codes "Array"))
pattern_data (patterns.Object properties) =
    object (no_members ▸ tagged (codes "Object") ▸ add (codes "properties") (list_data property_data properties))

-- a pattern whose places are written
unfoldable pub lvalue_pattern_data : LValuePattern → Data
lvalue_pattern_data lvalue =
    object (no_members ▸ add (codes "kind") (kind_data lvalue.kind) ▸ add (codes "pattern")
    (pattern_data lvalue.pattern))
