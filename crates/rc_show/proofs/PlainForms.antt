-- Printing forms have no floats and no signs, and their fields are in byte order.
use Rattle.std.proofs.Common.{◌≡◌, ℕ, Bool, true, false, cond, List, [], ◌∷◌, Option, None, Some, refl}
use Rattle.serde_json.specs.Data.{Data, string}
use Rattle.rc_show.specs.inside.Plain.{is_plain, items_plain}
use Rattle.rc_names.specs.declared.span.Span.{Span}
use Rattle.rc_hir.specs.Model.{InstructionValue, JsxAttribute, JsxTag, LoweredFunction, NonLocalBinding, PrimitiveValue}
use Rattle.rc_hir.specs.Model.{ArrayElement, ArrayPatternElement, LValue, LValuePattern, ObjectProperty}
use Rattle.rc_hir.specs.Model.{ObjectPropertyKey, ObjectPropertyOrSpread, Pattern, PropertyLiteral, Place}
use Rattle.rc_hir.specs.Model.{PlaceOrSpread, SpreadPattern}
use Rattle.rc_hir.specs.declared.instruction.InstructionValue.TheVariants as kinds
use Rattle.rc_hir.specs.declared.instruction.JsxAttribute.TheVariants as attributes
use Rattle.rc_hir.specs.declared.instruction.JsxTag.TheVariants as tags
use Rattle.rc_hir.specs.declared.instruction.NonLocalBinding.TheVariants as bindings
use Rattle.rc_hir.specs.declared.instruction.PrimitiveValue.TheVariants as primitives
use Rattle.rc_hir.specs.declared.pattern.ArrayElement.TheVariants as element
use Rattle.rc_hir.specs.declared.pattern.ArrayPatternElement.TheVariants as pattern_elements
use Rattle.rc_hir.specs.declared.pattern.ObjectPropertyKey.TheVariants as keys
use Rattle.rc_hir.specs.declared.pattern.ObjectPropertyOrSpread.TheVariants as entry
use Rattle.rc_hir.specs.declared.pattern.Pattern.TheVariants as patterns
use Rattle.rc_hir.specs.declared.pattern.PropertyLiteral.TheVariants as literals
use Rattle.rc_hir.specs.declared.place.PlaceOrSpread.TheVariants as arguments
use Rattle.rc_show.specs.Showing.{add, add_some, list_data, number_data}
use Rattle.rc_show.specs.ShownKinds.{value_data}
use Rattle.rc_show.specs.ShownParts.{binding_data, jsx_attribute_data, jsx_tag_data, lowered_function_data}
use Rattle.rc_show.specs.ShownParts.{primitive_value_data}
use Rattle.rc_show.specs.ShownParts.Patterns.{element_data, lvalue_data, lvalue_pattern_data, object_property_data}
use Rattle.rc_show.specs.ShownParts.Patterns.{pattern_data, pattern_element_data, property_data, property_key_data}
use Rattle.rc_show.specs.ShownParts.Patterns.{property_literal_data}
use Rattle.rc_show.specs.ShownParts.Places.{argument_data, is_short, long_form, place_data, span_items, spread_data}

abbrev pub IsPlain : {X : Type 0} → (X → Data) → X → Type 0
IsPlain shows x = is_plain (shows x) ≡ true

pub plain_list : {X : Type 0} (shows : X → Data) → ((x : X) → IsPlain shows x) → (xs : List X)
    → IsPlain (list_data shows) xs
plain_list shows each [] = refl
plain_list shows each (x ∷ xs) = rw (each x) (plain_list shows each xs)

pub plain_text : (text : List ℕ) → IsPlain string text
plain_text text = refl

plain_span_items : (span : Option Span) → items_plain (span_items span) ≡ true
plain_span_items None = refl
plain_span_items (Some span) = refl

plain_choice : (b : Bool) (x y : Data) → is_plain x ≡ true → is_plain y ≡ true → is_plain (cond b x y) ≡ true
plain_choice true x y h k = h
plain_choice false x y h k = k

pub plain_place : (place : Place) → IsPlain place_data place
unfolding place_data add add_some
plain_place place = plain_choice (is_short place) (number_data place.identifier.0) (long_form place) refl
    (plain_span_items place.span)

pub plain_spread : (x : SpreadPattern) → IsPlain spread_data x
unfolding spread_data add add_some
plain_spread x = rw (plain_place x.place) refl

plain_argument : (x : PlaceOrSpread) → IsPlain argument_data x
unfolding argument_data add add_some
plain_argument (arguments.Place place) = rw (plain_place place) refl
plain_argument (arguments.Spread spread) = rw (plain_spread spread) refl

plain_lvalue : (x : LValue) → IsPlain lvalue_data x
unfolding lvalue_data add add_some
plain_lvalue x = rw (plain_place x.place) refl

pub plain_property_literal : (x : PropertyLiteral) → IsPlain property_literal_data x
unfolding property_literal_data add add_some
plain_property_literal (literals.String name) = refl
plain_property_literal (literals.Number name) = refl

plain_property_key : (x : ObjectPropertyKey) → IsPlain property_key_data x
unfolding property_key_data add add_some
plain_property_key (keys.Identifier name) = refl
plain_property_key (keys.String name) = refl
plain_property_key (keys.Number name) = refl
plain_property_key (keys.Computed place) = rw (plain_place place) refl

plain_object_property : (x : ObjectProperty) → IsPlain object_property_data x
unfolding object_property_data add add_some
plain_object_property x = rw (plain_property_key x.key, plain_place x.place) refl

plain_property : (x : ObjectPropertyOrSpread) → IsPlain property_data x
unfolding property_data add add_some
plain_property (entry.Property property) = rw (plain_object_property property) refl
plain_property (entry.Spread spread) = rw (plain_spread spread) refl

plain_pattern_element : (x : ArrayPatternElement) → IsPlain pattern_element_data x
unfolding pattern_element_data add add_some
plain_pattern_element (pattern_elements.Place place) = rw (plain_place place) refl
plain_pattern_element (pattern_elements.Spread spread) = rw (plain_spread spread) refl
plain_pattern_element pattern_elements.Hole = refl

plain_element : (x : ArrayElement) → IsPlain element_data x
unfolding element_data add add_some
plain_element (element.Place place) = rw (plain_place place) refl
plain_element (element.Spread spread) = rw (plain_spread spread) refl
plain_element element.Hole = refl

plain_pattern : (x : Pattern) → IsPlain pattern_data x
unfolding pattern_data add add_some
plain_pattern (patterns.Array items) = rw (plain_list pattern_element_data plain_pattern_element items) refl
plain_pattern (patterns.Object entries) = rw (plain_list property_data plain_property entries) refl

plain_lvalue_pattern : (x : LValuePattern) → IsPlain lvalue_pattern_data x
unfolding lvalue_pattern_data add add_some
plain_lvalue_pattern x = rw (plain_pattern x.pattern) refl

plain_primitive_value : (x : PrimitiveValue) → IsPlain primitive_value_data x
unfolding primitive_value_data add add_some
plain_primitive_value primitives.Null = refl
plain_primitive_value primitives.Undefined = refl
plain_primitive_value (primitives.Boolean b) = refl
plain_primitive_value (primitives.Number text) = refl
plain_primitive_value (primitives.String text) = refl

plain_binding : (x : NonLocalBinding) → IsPlain binding_data x
unfolding binding_data add add_some
plain_binding (bindings.Global name) = refl
plain_binding (bindings.Module name from) = refl

plain_jsx_tag : (x : JsxTag) → IsPlain jsx_tag_data x
unfolding jsx_tag_data add add_some
plain_jsx_tag (tags.Place place) = rw (plain_place place) refl
plain_jsx_tag (tags.Builtin name) = refl

plain_jsx_attribute : (x : JsxAttribute) → IsPlain jsx_attribute_data x
unfolding jsx_attribute_data add add_some
plain_jsx_attribute (attributes.Attribute name place) = rw (plain_place place) refl
plain_jsx_attribute (attributes.SpreadAttribute place) = rw (plain_place place) refl

plain_lowered_function : (x : LoweredFunction) → IsPlain lowered_function_data x
unfolding lowered_function_data add add_some
plain_lowered_function x = refl

pub plain_value : (value : InstructionValue) → IsPlain value_data value
unfolding add add_some
plain_value (kinds.LoadLocal place None) = rw (plain_place place) refl
plain_value (kinds.LoadLocal place (Some span)) = rw (plain_place place) refl
plain_value (kinds.LoadContext place None) = rw (plain_place place) refl
plain_value (kinds.LoadContext place (Some span)) = rw (plain_place place) refl
plain_value (kinds.DeclareLocal lvalue None) = rw (plain_lvalue lvalue) refl
plain_value (kinds.DeclareLocal lvalue (Some span)) = rw (plain_lvalue lvalue) refl
plain_value (kinds.DeclareContext lvalue None) = rw (plain_lvalue lvalue) refl
plain_value (kinds.DeclareContext lvalue (Some span)) = rw (plain_lvalue lvalue) refl
plain_value (kinds.StoreLocal lvalue value None) = rw (plain_lvalue lvalue, plain_place value) refl
plain_value (kinds.StoreLocal lvalue value (Some span)) = rw (plain_lvalue lvalue, plain_place value) refl
plain_value (kinds.StoreContext lvalue value None) = rw (plain_lvalue lvalue, plain_place value) refl
plain_value (kinds.StoreContext lvalue value (Some span)) = rw (plain_lvalue lvalue, plain_place value) refl
plain_value (kinds.Destructure lvalue value None) = rw (plain_lvalue_pattern lvalue, plain_place value) refl
plain_value (kinds.Destructure lvalue value (Some span)) = rw (plain_lvalue_pattern lvalue, plain_place value) refl
plain_value (kinds.Primitive value None) = rw (plain_primitive_value value) refl
plain_value (kinds.Primitive value (Some span)) = rw (plain_primitive_value value) refl
plain_value (kinds.JSXText value None) = refl
plain_value (kinds.JSXText value (Some span)) = refl
plain_value (kinds.BinaryExpression operator left right None) = rw (plain_place left, plain_place right) refl
plain_value (kinds.BinaryExpression operator left right (Some span)) = rw (plain_place left, plain_place right) refl
plain_value (kinds.UnaryExpression operator value None) = rw (plain_place value) refl
plain_value (kinds.UnaryExpression operator value (Some span)) = rw (plain_place value) refl
plain_value (kinds.TypeCastExpression value annotation None) = rw (plain_place value) refl
plain_value (kinds.TypeCastExpression value annotation (Some span)) = rw (plain_place value) refl
plain_value (kinds.Await value None) = rw (plain_place value) refl
plain_value (kinds.Await value (Some span)) = rw (plain_place value) refl
plain_value (kinds.NewExpression callee args None) =
    rw (plain_place callee, plain_list argument_data plain_argument args) refl
plain_value (kinds.NewExpression callee args (Some span)) =
    rw (plain_place callee, plain_list argument_data plain_argument args) refl
plain_value (kinds.CallExpression callee args None) =
    rw (plain_place callee, plain_list argument_data plain_argument args) refl
plain_value (kinds.CallExpression callee args (Some span)) =
    rw (plain_place callee, plain_list argument_data plain_argument args) refl
plain_value (kinds.MethodCall receiver property args None) =
    rw (plain_place receiver, plain_place property, plain_list argument_data plain_argument args) refl
plain_value (kinds.MethodCall receiver property args (Some span)) =
    rw (plain_place receiver, plain_place property, plain_list argument_data plain_argument args) refl
plain_value (kinds.ObjectExpression properties None) = rw (plain_list property_data plain_property properties) refl
plain_value (kinds.ObjectExpression properties (Some span)) =
    rw (plain_list property_data plain_property properties) refl
plain_value (kinds.ObjectMethod lowered_func None) = rw (plain_lowered_function lowered_func) refl
plain_value (kinds.ObjectMethod lowered_func (Some span)) = rw (plain_lowered_function lowered_func) refl
plain_value (kinds.FunctionExpression None lowered_func None) = rw (plain_lowered_function lowered_func) refl
plain_value (kinds.FunctionExpression None lowered_func (Some span)) = rw (plain_lowered_function lowered_func) refl
plain_value (kinds.FunctionExpression (Some name) lowered_func None) = rw (plain_lowered_function lowered_func) refl
plain_value (kinds.FunctionExpression (Some name) lowered_func (Some span)) =
    rw (plain_lowered_function lowered_func) refl
plain_value (kinds.ArrayExpression elements None) = rw (plain_list element_data plain_element elements) refl
plain_value (kinds.ArrayExpression elements (Some span)) = rw (plain_list element_data plain_element elements) refl
plain_value (kinds.JsxExpression tag props None None) =
    rw (plain_jsx_tag tag, plain_list jsx_attribute_data plain_jsx_attribute props) refl
plain_value (kinds.JsxExpression tag props None (Some span)) =
    rw (plain_jsx_tag tag, plain_list jsx_attribute_data plain_jsx_attribute props) refl
plain_value (kinds.JsxExpression tag props (Some children) None) =
    rw (
      plain_jsx_tag tag,
      plain_list jsx_attribute_data plain_jsx_attribute props,
      plain_list place_data plain_place children,
    ) refl
plain_value (kinds.JsxExpression tag props (Some children) (Some span)) =
    rw (
      plain_jsx_tag tag,
      plain_list jsx_attribute_data plain_jsx_attribute props,
      plain_list place_data plain_place children,
    ) refl
plain_value (kinds.JsxFragment children None) = rw (plain_list place_data plain_place children) refl
plain_value (kinds.JsxFragment children (Some span)) = rw (plain_list place_data plain_place children) refl
plain_value (kinds.RegExpLiteral pattern flags None) = refl
plain_value (kinds.RegExpLiteral pattern flags (Some span)) = refl
plain_value (kinds.MetaProperty meta property None) = refl
plain_value (kinds.MetaProperty meta property (Some span)) = refl
plain_value (kinds.PropertyLoad object property None) = rw (plain_place object, plain_property_literal property) refl
plain_value (kinds.PropertyLoad object property (Some span)) =
    rw (plain_place object, plain_property_literal property) refl
plain_value (kinds.PropertyDelete object property None) = rw (plain_place object, plain_property_literal property) refl
plain_value (kinds.PropertyDelete object property (Some span)) =
    rw (plain_place object, plain_property_literal property) refl
plain_value (kinds.PropertyStore object property value None) =
    rw (plain_place object, plain_property_literal property, plain_place value) refl
plain_value (kinds.PropertyStore object property value (Some span)) =
    rw (plain_place object, plain_property_literal property, plain_place value) refl
plain_value (kinds.ComputedLoad object property None) = rw (plain_place object, plain_place property) refl
plain_value (kinds.ComputedLoad object property (Some span)) = rw (plain_place object, plain_place property) refl
plain_value (kinds.ComputedDelete object property None) = rw (plain_place object, plain_place property) refl
plain_value (kinds.ComputedDelete object property (Some span)) = rw (plain_place object, plain_place property) refl
plain_value (kinds.ComputedStore object property value None) =
    rw (plain_place object, plain_place property, plain_place value) refl
plain_value (kinds.ComputedStore object property value (Some span)) =
    rw (plain_place object, plain_place property, plain_place value) refl
plain_value (kinds.LoadGlobal binding None) = rw (plain_binding binding) refl
plain_value (kinds.LoadGlobal binding (Some span)) = rw (plain_binding binding) refl
plain_value (kinds.StoreGlobal name value None) = rw (plain_place value) refl
plain_value (kinds.StoreGlobal name value (Some span)) = rw (plain_place value) refl
plain_value (kinds.TaggedTemplateExpression tag quasi None) = rw (plain_place tag) refl
plain_value (kinds.TaggedTemplateExpression tag quasi (Some span)) = rw (plain_place tag) refl
plain_value (kinds.TemplateLiteral subexprs quasis None) =
    rw (plain_list place_data plain_place subexprs, plain_list string plain_text quasis) refl
plain_value (kinds.TemplateLiteral subexprs quasis (Some span)) =
    rw (plain_list place_data plain_place subexprs, plain_list string plain_text quasis) refl
plain_value (kinds.GetIterator collection None) = rw (plain_place collection) refl
plain_value (kinds.GetIterator collection (Some span)) = rw (plain_place collection) refl
plain_value (kinds.IteratorNext iterator collection None) = rw (plain_place iterator, plain_place collection) refl
plain_value (kinds.IteratorNext iterator collection (Some span)) =
    rw (plain_place iterator, plain_place collection) refl
plain_value (kinds.NextPropertyOf value None) = rw (plain_place value) refl
plain_value (kinds.NextPropertyOf value (Some span)) = rw (plain_place value) refl
plain_value (kinds.PrefixUpdate lvalue operation value None) = rw (plain_place lvalue, plain_place value) refl
plain_value (kinds.PrefixUpdate lvalue operation value (Some span)) = rw (plain_place lvalue, plain_place value) refl
plain_value (kinds.PostfixUpdate lvalue operation value None) = rw (plain_place lvalue, plain_place value) refl
plain_value (kinds.PostfixUpdate lvalue operation value (Some span)) = rw (plain_place lvalue, plain_place value) refl
plain_value (kinds.Debugger None) = refl
plain_value (kinds.Debugger (Some span)) = refl
plain_value (kinds.StartMemoize manual_memo_id deps None) = rw (plain_list place_data plain_place deps) refl
plain_value (kinds.StartMemoize manual_memo_id deps (Some span)) = rw (plain_list place_data plain_place deps) refl
plain_value (kinds.FinishMemoize manual_memo_id decl pruned None) = rw (plain_place decl) refl
plain_value (kinds.FinishMemoize manual_memo_id decl pruned (Some span)) = rw (plain_place decl) refl
