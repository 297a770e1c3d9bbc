-- The printing form of a value reads as that value again: kinds that make objects, arrays and JSX, and that reach into
-- them. A kind does so if its fields do.
use Rattle.std.proofs.Common.{◌≡◌, List, Option, None, Some, refl}
use Rattle.rc_names.specs.declared.span.Span.{Span}
use Rattle.rc_hir.specs.Model.{JsxAttribute, JsxTag, ArrayElement, ObjectPropertyOrSpread, PropertyLiteral, Place}
use Rattle.rc_hir.specs.declared.instruction.InstructionValue.TheVariants as kinds
use Rattle.rc_doc.specs.Kinds.{instruction_value_of}
use Rattle.rc_doc.specs.Kinds.Objects.{array_expression_of, computed_delete_of, computed_load_of, computed_store_of}
use Rattle.rc_doc.specs.Kinds.Objects.{jsx_expression_of, jsx_fragment_of, object_expression_of, property_delete_of}
use Rattle.rc_doc.specs.Kinds.Objects.{property_load_of, property_store_of}
use Rattle.rc_doc.specs.Parts.{jsx_attribute_of, jsx_tag_of}
use Rattle.rc_doc.specs.Patterns.{element_of, property_literal_of, property_of}
use Rattle.rc_doc.specs.Places.{place_of, span_of}
use Rattle.rc_doc.specs.Reading.{list_of}
use Rattle.rc_show.specs.Showing.{add, add_some, IsReadAgain, list_data}
use Rattle.rc_show.specs.ShownKinds.{IsReadBack}
use Rattle.rc_show.specs.ShownParts.{jsx_attribute_data, jsx_tag_data}
use Rattle.rc_show.specs.ShownParts.Patterns.{element_data, property_data, property_literal_data}
use Rattle.rc_show.specs.ShownParts.Places.{place_data, span_data}

pub object_expression_again : (properties : List ObjectPropertyOrSpread) (span : Option Span)
    → list_of property_of (list_data property_data properties) ≡ Some properties → IsReadAgain span_of span_data span
    → IsReadBack (kinds.ObjectExpression properties span)
unfolding instruction_value_of object_expression_of add add_some
object_expression_again properties None h s = rw h refl
object_expression_again properties (Some span) h s = rw (h, s) refl

pub array_expression_again : (elements : List ArrayElement) (span : Option Span)
    → list_of element_of (list_data element_data elements) ≡ Some elements → IsReadAgain span_of span_data span
    → IsReadBack (kinds.ArrayExpression elements span)
unfolding instruction_value_of array_expression_of add add_some
array_expression_again elements None h s = rw h refl
array_expression_again elements (Some span) h s = rw (h, s) refl

pub jsx_expression_again : (tag : JsxTag) (props : List JsxAttribute) (children : Option (List Place))
    (span : Option Span)
    → jsx_tag_of (jsx_tag_data tag) ≡ Some tag → list_of jsx_attribute_of (list_data jsx_attribute_data props)
    ≡ Some props → IsReadAgain (list_of place_of) (list_data place_data) children → IsReadAgain span_of span_data span
    → IsReadBack (kinds.JsxExpression tag props children span)
unfolding instruction_value_of jsx_expression_of add add_some
jsx_expression_again tag props None None h j k s = rw (h, j) refl
jsx_expression_again tag props None (Some span) h j k s = rw (h, j, s) refl
jsx_expression_again tag props (Some children) None h j k s = rw (h, j, k) refl
jsx_expression_again tag props (Some children) (Some span) h j k s = rw (h, j, k, s) refl

pub jsx_fragment_again : (children : List Place) (span : Option Span)
    → list_of place_of (list_data place_data children) ≡ Some children → IsReadAgain span_of span_data span
    → IsReadBack (kinds.JsxFragment children span)
unfolding instruction_value_of jsx_fragment_of add add_some
jsx_fragment_again children None h s = rw h refl
jsx_fragment_again children (Some span) h s = rw (h, s) refl

pub property_load_again : (object : Place) (property : PropertyLiteral) (span : Option Span)
    → place_of (place_data object) ≡ Some object → property_literal_of (property_literal_data property) ≡ Some property
    → IsReadAgain span_of span_data span
    → IsReadBack (kinds.PropertyLoad object property span)
unfolding instruction_value_of property_load_of add add_some
property_load_again object property None h j s = rw (h, j) refl
property_load_again object property (Some span) h j s = rw (h, j, s) refl

pub property_delete_again : (object : Place) (property : PropertyLiteral) (span : Option Span)
    → place_of (place_data object) ≡ Some object → property_literal_of (property_literal_data property) ≡ Some property
    → IsReadAgain span_of span_data span
    → IsReadBack (kinds.PropertyDelete object property span)
unfolding instruction_value_of property_delete_of add add_some
property_delete_again object property None h j s = rw (h, j) refl
property_delete_again object property (Some span) h j s = rw (h, j, s) refl

pub property_store_again : (object : Place) (property : PropertyLiteral) (value : Place) (span : Option Span)
    → place_of (place_data object) ≡ Some object → property_literal_of (property_literal_data property) ≡ Some property
    → place_of (place_data value) ≡ Some value → IsReadAgain span_of span_data span
    → IsReadBack (kinds.PropertyStore object property value span)
unfolding instruction_value_of property_store_of add add_some
property_store_again object property value None h j k s = rw (h, j, k) refl
property_store_again object property value (Some span) h j k s = rw (h, j, k, s) refl

pub computed_load_again : (object : Place) (property : Place) (span : Option Span)
    → place_of (place_data object) ≡ Some object → place_of (place_data property) ≡ Some property
    → IsReadAgain span_of span_data span
    → IsReadBack (kinds.ComputedLoad object property span)
unfolding instruction_value_of computed_load_of add add_some
computed_load_again object property None h j s = rw (h, j) refl
computed_load_again object property (Some span) h j s = rw (h, j, s) refl

pub computed_delete_again : (object : Place) (property : Place) (span : Option Span)
    → place_of (place_data object) ≡ Some object → place_of (place_data property) ≡ Some property
    → IsReadAgain span_of span_data span
    → IsReadBack (kinds.ComputedDelete object property span)
unfolding instruction_value_of computed_delete_of add add_some
computed_delete_again object property None h j s = rw (h, j) refl
computed_delete_again object property (Some span) h j s = rw (h, j, s) refl

pub computed_store_again : (object : Place) (property : Place) (value : Place) (span : Option Span)
    → place_of (place_data object) ≡ Some object → place_of (place_data property) ≡ Some property
    → place_of (place_data value) ≡ Some value → IsReadAgain span_of span_data span
    → IsReadBack (kinds.ComputedStore object property value span)
unfolding instruction_value_of computed_store_of add add_some
computed_store_again object property value None h j k s = rw (h, j, k) refl
computed_store_again object property value (Some span) h j k s = rw (h, j, k, s) refl
