-- No printing form is null: the laws of `Show` for its types.
use Rattle.std.specs.Prelude.{◌≡◌, Bool, true, false, cond, refl}
use Rattle.serde_json.specs.Data.{Data}
use Rattle.rc_hir.specs.Model.{ArrayElement, ArrayPatternElement, JsxAttribute, JsxTag, LoweredFunction, LValue}
use Rattle.rc_hir.specs.Model.{LValuePattern, NonLocalBinding, ObjectProperty, ObjectPropertyKey}
use Rattle.rc_hir.specs.Model.{ObjectPropertyOrSpread, Pattern, Place, PlaceOrSpread, PrimitiveValue, PropertyLiteral}
use Rattle.rc_hir.specs.Model.{SpreadPattern}
use Rattle.rc_hir.specs.declared.instruction.JsxAttribute.TheVariants as attributes
use Rattle.rc_hir.specs.declared.instruction.JsxTag.TheVariants as tags
use Rattle.rc_hir.specs.declared.instruction.NonLocalBinding.TheVariants as bindings
use Rattle.rc_hir.specs.declared.instruction.PrimitiveValue.TheVariants as primitives
use Rattle.rc_hir.specs.declared.pattern.ArrayElement.TheVariants as element
use Rattle.rc_hir.specs.declared.pattern.ArrayPatternElement.TheVariants as pattern_elements
use Rattle.rc_hir.specs.declared.pattern.ObjectPropertyKey.TheVariants as keys
use Rattle.rc_hir.specs.declared.pattern.ObjectPropertyOrSpread.TheVariants as entry
use Rattle.rc_hir.specs.declared.pattern.Pattern.TheVariants as patterns
use Rattle.rc_hir.specs.declared.pattern.PropertyLiteral.TheVariants as literals
use Rattle.rc_hir.specs.declared.place.PlaceOrSpread.TheVariants as arguments
use Rattle.rc_show.specs.Showing.{is_null, NeverNull, number_data}
use Rattle.rc_show.specs.ShownParts.{binding_data, jsx_attribute_data, jsx_tag_data, lowered_function_data}
use Rattle.rc_show.specs.ShownParts.{primitive_value_data}
use Rattle.rc_show.specs.ShownParts.Patterns.{element_data, lvalue_data, lvalue_pattern_data, object_property_data}
use Rattle.rc_show.specs.ShownParts.Patterns.{pattern_data, pattern_element_data, property_data, property_key_data}
use Rattle.rc_show.specs.ShownParts.Patterns.{property_literal_data}
use Rattle.rc_show.specs.ShownParts.Places.{argument_data, is_short, long_form, place_data, spread_data}

either : (b : Bool) (x y : Data) → is_null x ≡ false → is_null y ≡ false → is_null (cond b x y) ≡ false
either true x y h k = h
either false x y h k = k

pub no_null_place : NeverNull place_data
unfolding place_data
no_null_place place = either (is_short place) (number_data place.identifier.0) (long_form place) refl refl

pub no_null_spread : NeverNull spread_data
unfolding spread_data
no_null_spread spread = refl

pub no_null_argument : NeverNull argument_data
unfolding argument_data
no_null_argument (arguments.Place place) = refl
no_null_argument (arguments.Spread spread) = refl

pub no_null_lvalue : NeverNull lvalue_data
unfolding lvalue_data
no_null_lvalue lvalue = refl

pub no_null_property_literal : NeverNull property_literal_data
unfolding property_literal_data
no_null_property_literal (literals.String name) = refl
no_null_property_literal (literals.Number name) = refl

pub no_null_property_key : NeverNull property_key_data
unfolding property_key_data
no_null_property_key (keys.Identifier name) = refl
no_null_property_key (keys.String name) = refl
no_null_property_key (keys.Number name) = refl
no_null_property_key (keys.Computed place) = refl

pub no_null_object_property : NeverNull object_property_data
unfolding object_property_data
no_null_object_property property = refl

pub no_null_property : NeverNull property_data
unfolding property_data
no_null_property (entry.Property property) = refl
no_null_property (entry.Spread spread) = refl

pub no_null_pattern_element : NeverNull pattern_element_data
unfolding pattern_element_data
no_null_pattern_element (pattern_elements.Place place) = refl
no_null_pattern_element (pattern_elements.Spread spread) = refl
no_null_pattern_element pattern_elements.Hole = refl

pub no_null_element : NeverNull element_data
unfolding element_data
no_null_element (element.Place place) = refl
no_null_element (element.Spread spread) = refl
no_null_element element.Hole = refl

pub no_null_pattern : NeverNull pattern_data
unfolding pattern_data
no_null_pattern (patterns.Array items) = refl
no_null_pattern (patterns.Object properties) = refl

pub no_null_lvalue_pattern : NeverNull lvalue_pattern_data
unfolding lvalue_pattern_data
no_null_lvalue_pattern lvalue = refl

pub no_null_primitive_value : NeverNull primitive_value_data
unfolding primitive_value_data
no_null_primitive_value primitives.Null = refl
no_null_primitive_value primitives.Undefined = refl
no_null_primitive_value (primitives.Boolean value) = refl
no_null_primitive_value (primitives.Number text) = refl
no_null_primitive_value (primitives.String text) = refl

pub no_null_binding : NeverNull binding_data
unfolding binding_data
no_null_binding (bindings.Global name) = refl
no_null_binding (bindings.Module name from) = refl

pub no_null_jsx_tag : NeverNull jsx_tag_data
unfolding jsx_tag_data
no_null_jsx_tag (tags.Place place) = refl
no_null_jsx_tag (tags.Builtin name) = refl

pub no_null_jsx_attribute : NeverNull jsx_attribute_data
unfolding jsx_attribute_data
no_null_jsx_attribute (attributes.Attribute name place) = refl
no_null_jsx_attribute (attributes.SpreadAttribute argument) = refl

pub no_null_lowered_function : NeverNull lowered_function_data
unfolding lowered_function_data
no_null_lowered_function lowered = refl
