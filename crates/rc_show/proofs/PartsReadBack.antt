-- The printing form of a part reads as that part again: patterns and the other parts of instruction values. A part
-- does so if its own parts do.
use Rattle.std.proofs.Common.{◌≡◌, ℕ, Bool, List, Some, refl}
use Rattle.rc_hir.specs.declared.instruction.JsxAttribute.TheVariants as attributes
use Rattle.rc_hir.specs.declared.instruction.JsxTag.TheVariants as tags
use Rattle.rc_hir.specs.Model.{LoweredFunction, ArrayPatternElement, InstructionKind, LValue, LValuePattern}
use Rattle.rc_hir.specs.Model.{ObjectProperty, ObjectPropertyOrSpread, Place, SpreadPattern}
use Rattle.rc_hir.specs.declared.instruction.NonLocalBinding.TheVariants as bindings
use Rattle.rc_hir.specs.declared.instruction.PrimitiveValue.TheVariants as primitives
use Rattle.rc_hir.specs.declared.pattern.ArrayElement.TheVariants as element
use Rattle.rc_hir.specs.declared.pattern.ArrayPatternElement.TheVariants as pattern_elements
use Rattle.rc_hir.specs.declared.pattern.InstructionKind.TheVariants as kinds
use Rattle.rc_hir.specs.declared.pattern.ObjectPropertyKey.TheVariants as keys
use Rattle.rc_hir.specs.declared.pattern.ObjectPropertyOrSpread.TheVariants as entry
use Rattle.rc_hir.specs.declared.pattern.Pattern.TheVariants as patterns
use Rattle.rc_hir.specs.declared.pattern.PropertyLiteral.TheVariants as literals
use Rattle.rc_hir.specs.declared.place.PlaceOrSpread.TheVariants as arguments
use Rattle.rc_doc.specs.Parts.{binding_of, global_of, jsx_attribute_of, jsx_tag_of, lowered_function_of, module_name_of}
use Rattle.rc_doc.specs.Parts.{named_attribute_of, primitive_content_of, primitive_value_of, spread_attribute_of}
use Rattle.rc_doc.specs.Patterns.{array_pattern_of, element_of, filled_element_of, filled_pattern_element_of, kind_of}
use Rattle.rc_doc.specs.Patterns.{lvalue_of, lvalue_pattern_of, object_pattern_of, object_property_of}
use Rattle.rc_doc.specs.Patterns.{pattern_element_of, pattern_of, property_key_of, property_literal_of, property_of}
use Rattle.rc_doc.specs.Places.{argument_of, place_of, spread_of}
use Rattle.rc_doc.specs.Reading.{list_of, number_of}
use Rattle.rc_show.specs.Showing.{add, add_some, list_data, number_data}
use Rattle.rc_show.specs.ShownParts.{binding_data, jsx_attribute_data, jsx_tag_data, lowered_function_data}
use Rattle.rc_show.specs.ShownParts.{primitive_value_data}
use Rattle.rc_show.specs.ShownParts.Patterns.{element_data, kind_data, lvalue_data, lvalue_pattern_data}
use Rattle.rc_show.specs.ShownParts.Patterns.{object_property_data, pattern_data, pattern_element_data, property_data}
use Rattle.rc_show.specs.ShownParts.Patterns.{property_key_data, property_literal_data}
use Rattle.rc_show.specs.ShownParts.Places.{argument_data, place_data, spread_data}

pub spread_again : (x : SpreadPattern) → place_of (place_data x.place) ≡ Some x.place
    → spread_of (spread_data x) ≡ Some x
unfolding spread_of spread_data add add_some
spread_again x h = rw h refl

pub argument_again-Place : (place : Place) → place_of (place_data place) ≡ Some place
    → argument_of (argument_data (arguments.Place place)) ≡ Some (arguments.Place place)
unfolding argument_of argument_data add add_some
argument_again-Place place h = rw h refl

pub argument_again-Spread : (spread : SpreadPattern) → spread_of (spread_data spread) ≡ Some spread
    → argument_of (argument_data (arguments.Spread spread)) ≡ Some (arguments.Spread spread)
unfolding argument_of argument_data add add_some
argument_again-Spread spread h = rw h refl

pub ruleset argument_again = (argument_again-Place, argument_again-Spread)

pub kind_again : (kind : InstructionKind) → kind_of (kind_data kind) ≡ Some kind
kind_again kinds.Const = refl
kind_again kinds.Let = refl
kind_again kinds.Reassign = refl
kind_again kinds.Catch = refl
kind_again kinds.Function = refl
kind_again kinds.HoistedConst = refl
kind_again kinds.HoistedLet = refl
kind_again kinds.HoistedFunction = refl

pub lvalue_again : (x : LValue) → place_of (place_data x.place) ≡ Some x.place → lvalue_of (lvalue_data x) ≡ Some x
unfolding lvalue_of lvalue_data add add_some
lvalue_again x h = rw (kind_again x.kind, h) refl

pub property_literal_again-String : (text : List ℕ) → property_literal_of (property_literal_data (literals.String text))
    ≡ Some (literals.String text)
unfolding property_literal_of property_literal_data add add_some
property_literal_again-String text = refl

pub property_literal_again-Number : (text : List ℕ) → property_literal_of (property_literal_data (literals.Number text))
    ≡ Some (literals.Number text)
unfolding property_literal_of property_literal_data add add_some
property_literal_again-Number text = refl

pub ruleset property_literal_again = (property_literal_again-String, property_literal_again-Number)

pub property_key_again-Identifier : (text : List ℕ) → property_key_of (property_key_data (keys.Identifier text))
    ≡ Some (keys.Identifier text)
unfolding property_key_of property_key_data add add_some
property_key_again-Identifier text = refl

pub property_key_again-String : (text : List ℕ) → property_key_of (property_key_data (keys.String text))
    ≡ Some (keys.String text)
unfolding property_key_of property_key_data add add_some
property_key_again-String text = refl

pub property_key_again-Number : (text : List ℕ) → property_key_of (property_key_data (keys.Number text))
    ≡ Some (keys.Number text)
unfolding property_key_of property_key_data add add_some
property_key_again-Number text = refl

pub property_key_again-Computed : (place : Place) → place_of (place_data place) ≡ Some place
    → property_key_of (property_key_data (keys.Computed place)) ≡ Some (keys.Computed place)
unfolding property_key_of property_key_data add add_some
property_key_again-Computed place h = rw h refl

pub ruleset property_key_again =
    (property_key_again-Identifier, property_key_again-String, property_key_again-Number, property_key_again-Computed)

pub object_property_again : (x : ObjectProperty) → property_key_of (property_key_data x.key) ≡ Some x.key
    → place_of (place_data x.place) ≡ Some x.place → object_property_of (object_property_data x) ≡ Some x
unfolding object_property_of object_property_data add add_some
object_property_again x h k = rw (h, k) refl

pub property_again-Property : (property : ObjectProperty)
    → object_property_of (object_property_data property) ≡ Some property
    → property_of (property_data (entry.Property property)) ≡ Some (entry.Property property)
unfolding property_of property_data add add_some
property_again-Property property h = rw h refl

pub property_again-Spread : (spread : SpreadPattern) → spread_of (spread_data spread) ≡ Some spread
    → property_of (property_data (entry.Spread spread)) ≡ Some (entry.Spread spread)
unfolding property_of property_data add add_some
property_again-Spread spread h = rw h refl

pub ruleset property_again = (property_again-Property, property_again-Spread)

pub pattern_element_again-Place : (place : Place) → place_of (place_data place) ≡ Some place
    → pattern_element_of (pattern_element_data (pattern_elements.Place place)) ≡ Some (pattern_elements.Place place)
unfolding filled_pattern_element_of pattern_element_data add add_some
pattern_element_again-Place place h = rw h refl

pub pattern_element_again-Spread : (spread : SpreadPattern) → spread_of (spread_data spread) ≡ Some spread
    → pattern_element_of (pattern_element_data (pattern_elements.Spread spread)) ≡ Some (pattern_elements.Spread spread)
unfolding filled_pattern_element_of pattern_element_data add add_some
pattern_element_again-Spread spread h = rw h refl

pub pattern_element_again-Hole : pattern_element_of (pattern_element_data pattern_elements.Hole)
    ≡ Some pattern_elements.Hole
unfolding filled_pattern_element_of pattern_element_data add add_some
pattern_element_again-Hole = refl

pub ruleset pattern_element_again =
    (pattern_element_again-Place, pattern_element_again-Spread, pattern_element_again-Hole)

pub element_again-Place : (place : Place) → place_of (place_data place) ≡ Some place
    → element_of (element_data (element.Place place)) ≡ Some (element.Place place)
unfolding filled_element_of element_data add add_some
element_again-Place place h = rw h refl

pub element_again-Spread : (spread : SpreadPattern) → spread_of (spread_data spread) ≡ Some spread
    → element_of (element_data (element.Spread spread)) ≡ Some (element.Spread spread)
unfolding filled_element_of element_data add add_some
element_again-Spread spread h = rw h refl

pub element_again-Hole : element_of (element_data element.Hole) ≡ Some element.Hole
unfolding filled_element_of element_data add add_some
element_again-Hole = refl

pub ruleset element_again = (element_again-Place, element_again-Spread, element_again-Hole)

pub pattern_again-Array : (items : List ArrayPatternElement)
    → list_of pattern_element_of (list_data pattern_element_data items) ≡ Some items
    → pattern_of (pattern_data (patterns.Array items)) ≡ Some (patterns.Array items)
unfolding pattern_of array_pattern_of object_pattern_of pattern_data add add_some
pattern_again-Array items h = rw h refl

pub pattern_again-Object : (entries : List ObjectPropertyOrSpread)
    → list_of property_of (list_data property_data entries) ≡ Some entries
    → pattern_of (pattern_data (patterns.Object entries)) ≡ Some (patterns.Object entries)
unfolding pattern_of array_pattern_of object_pattern_of pattern_data add add_some
pattern_again-Object entries h = rw h refl

pub ruleset pattern_again = (pattern_again-Array, pattern_again-Object)

pub lvalue_pattern_again : (x : LValuePattern) → pattern_of (pattern_data x.pattern) ≡ Some x.pattern
    → lvalue_pattern_of (lvalue_pattern_data x) ≡ Some x
unfolding lvalue_pattern_of lvalue_pattern_data add add_some
lvalue_pattern_again x h = rw (kind_again x.kind, h) refl

pub primitive_value_again-Null : primitive_value_of (primitive_value_data primitives.Null) ≡ Some primitives.Null
unfolding primitive_content_of primitive_value_data add add_some
primitive_value_again-Null = refl

pub primitive_value_again-Undefined : primitive_value_of (primitive_value_data primitives.Undefined)
    ≡ Some primitives.Undefined
unfolding primitive_content_of primitive_value_data add add_some
primitive_value_again-Undefined = refl

pub primitive_value_again-Boolean : (b : Bool) → primitive_value_of (primitive_value_data (primitives.Boolean b))
    ≡ Some (primitives.Boolean b)
unfolding primitive_content_of primitive_value_data add add_some
primitive_value_again-Boolean b = refl

pub primitive_value_again-Number : (text : List ℕ) → primitive_value_of (primitive_value_data (primitives.Number text))
    ≡ Some (primitives.Number text)
unfolding primitive_content_of primitive_value_data add add_some
primitive_value_again-Number text = refl

pub primitive_value_again-String : (text : List ℕ) → primitive_value_of (primitive_value_data (primitives.String text))
    ≡ Some (primitives.String text)
unfolding primitive_content_of primitive_value_data add add_some
primitive_value_again-String text = refl

pub ruleset primitive_value_again = (
  primitive_value_again-Null,
  primitive_value_again-Undefined,
  primitive_value_again-Boolean,
  primitive_value_again-Number,
  primitive_value_again-String,
)

pub binding_again-Global : (name : List ℕ) → binding_of (binding_data (bindings.Global name))
    ≡ Some (bindings.Global name)
unfolding binding_of global_of module_name_of binding_data add add_some
binding_again-Global name = refl

pub binding_again-Module : (name : List ℕ) (from : List ℕ)
    → binding_of (binding_data (bindings.Module name from)) ≡ Some (bindings.Module name from)
unfolding binding_of global_of module_name_of binding_data add add_some
binding_again-Module name from = refl

pub ruleset binding_again = (binding_again-Global, binding_again-Module)

pub jsx_tag_again-Place : (place : Place) → place_of (place_data place) ≡ Some place
    → jsx_tag_of (jsx_tag_data (tags.Place place)) ≡ Some (tags.Place place)
unfolding jsx_tag_of jsx_tag_data add add_some
jsx_tag_again-Place place h = rw h refl

pub jsx_tag_again-Builtin : (name : List ℕ) → jsx_tag_of (jsx_tag_data (tags.Builtin name)) ≡ Some (tags.Builtin name)
unfolding jsx_tag_of jsx_tag_data add add_some
jsx_tag_again-Builtin name = refl

pub ruleset jsx_tag_again = (jsx_tag_again-Place, jsx_tag_again-Builtin)

pub jsx_attribute_again-Attribute : (name : List ℕ) (place : Place) → place_of (place_data place) ≡ Some place
    → jsx_attribute_of (jsx_attribute_data (attributes.Attribute name place)) ≡ Some (attributes.Attribute name place)
unfolding jsx_attribute_of named_attribute_of spread_attribute_of jsx_attribute_data add add_some
jsx_attribute_again-Attribute name place h = rw h refl

pub jsx_attribute_again-SpreadAttribute : (place : Place) → place_of (place_data place) ≡ Some place
    → jsx_attribute_of (jsx_attribute_data (attributes.SpreadAttribute place)) ≡ Some (attributes.SpreadAttribute place)
unfolding jsx_attribute_of named_attribute_of spread_attribute_of jsx_attribute_data add add_some
jsx_attribute_again-SpreadAttribute place h = rw h refl

pub ruleset jsx_attribute_again = (jsx_attribute_again-Attribute, jsx_attribute_again-SpreadAttribute)

pub lowered_function_again : (x : LoweredFunction) → number_of (number_data x.func.0) ≡ Some x.func.0
    → lowered_function_of (lowered_function_data x) ≡ Some x
unfolding lowered_function_of lowered_function_data add add_some
lowered_function_again x h = rw h refl
