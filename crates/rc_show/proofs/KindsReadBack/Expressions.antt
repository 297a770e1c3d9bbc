-- The printing form of a value reads as that value again: kinds that compute a value from texts and operands. A kind
-- does so if its fields do.
use Rattle.std.proofs.Common.{◌≡◌, ℕ, List, Option, None, Some, refl}
use Rattle.serde_json.specs.Data.{string}
use Rattle.rc_names.specs.declared.span.Span.{Span}
use Rattle.rc_hir.specs.Model.{PrimitiveValue, Place}
use Rattle.rc_hir.specs.declared.instruction.InstructionValue.TheVariants as kinds
use Rattle.rc_doc.specs.Kinds.{instruction_value_of}
use Rattle.rc_doc.specs.Kinds.Expressions.{await_of, binary_expression_of, get_iterator_of, iterator_next_of}
use Rattle.rc_doc.specs.Kinds.Expressions.{jsx_text_of, meta_property_of, next_property_of_of, primitive_of}
use Rattle.rc_doc.specs.Kinds.Expressions.{regexp_literal_of, tagged_template_expression_of, template_literal_of}
use Rattle.rc_doc.specs.Kinds.Expressions.{type_cast_expression_of, unary_expression_of}
use Rattle.rc_doc.specs.Parts.{primitive_value_of}
use Rattle.rc_doc.specs.Places.{place_of, span_of}
use Rattle.rc_doc.specs.Reading.{list_of, text_of}
use Rattle.rc_show.specs.Showing.{add, add_some, IsReadAgain, list_data}
use Rattle.rc_show.specs.ShownKinds.{IsReadBack}
use Rattle.rc_show.specs.ShownParts.{primitive_value_data}
use Rattle.rc_show.specs.ShownParts.Places.{place_data, span_data}

pub primitive_again : (value : PrimitiveValue) (span : Option Span)
    → primitive_value_of (primitive_value_data value) ≡ Some value → IsReadAgain span_of span_data span
    → IsReadBack (kinds.Primitive value span)
unfolding instruction_value_of primitive_of add add_some
primitive_again value None h s = rw h refl
primitive_again value (Some span) h s = rw (h, s) refl

pub jsx_text_again : (value : List ℕ) (span : Option Span) → IsReadAgain span_of span_data span
    → IsReadBack (kinds.JSXText value span)
unfolding instruction_value_of jsx_text_of add add_some
jsx_text_again value None s = refl
jsx_text_again value (Some span) s = rw s refl

pub binary_expression_again : (operator : List ℕ) (left : Place) (right : Place) (span : Option Span)
    → place_of (place_data left) ≡ Some left → place_of (place_data right) ≡ Some right
    → IsReadAgain span_of span_data span
    → IsReadBack (kinds.BinaryExpression operator left right span)
unfolding instruction_value_of binary_expression_of add add_some
binary_expression_again operator left right None h j s = rw (h, j) refl
binary_expression_again operator left right (Some span) h j s = rw (h, j, s) refl

pub unary_expression_again : (operator : List ℕ) (value : Place) (span : Option Span)
    → place_of (place_data value) ≡ Some value → IsReadAgain span_of span_data span
    → IsReadBack (kinds.UnaryExpression operator value span)
unfolding instruction_value_of unary_expression_of add add_some
unary_expression_again operator value None h s = rw h refl
unary_expression_again operator value (Some span) h s = rw (h, s) refl

pub type_cast_expression_again : (value : Place) (annotation : List ℕ) (span : Option Span)
    → place_of (place_data value) ≡ Some value → IsReadAgain span_of span_data span
    → IsReadBack (kinds.TypeCastExpression value annotation span)
unfolding instruction_value_of type_cast_expression_of add add_some
type_cast_expression_again value annotation None h s = rw h refl
type_cast_expression_again value annotation (Some span) h s = rw (h, s) refl

pub await_again : (value : Place) (span : Option Span)
    → place_of (place_data value) ≡ Some value → IsReadAgain span_of span_data span
    → IsReadBack (kinds.Await value span)
unfolding instruction_value_of await_of add add_some
await_again value None h s = rw h refl
await_again value (Some span) h s = rw (h, s) refl

pub regexp_literal_again : (pattern : List ℕ) (flags : List ℕ) (span : Option Span)
    → IsReadAgain span_of span_data span
    → IsReadBack (kinds.RegExpLiteral pattern flags span)
unfolding instruction_value_of regexp_literal_of add add_some
regexp_literal_again pattern flags None s = refl
regexp_literal_again pattern flags (Some span) s = rw s refl

pub meta_property_again : (meta : List ℕ) (property : List ℕ) (span : Option Span)
    → IsReadAgain span_of span_data span
    → IsReadBack (kinds.MetaProperty meta property span)
unfolding instruction_value_of meta_property_of add add_some
meta_property_again meta property None s = refl
meta_property_again meta property (Some span) s = rw s refl

pub tagged_template_expression_again : (tag : Place) (quasi : List ℕ) (span : Option Span)
    → place_of (place_data tag) ≡ Some tag → IsReadAgain span_of span_data span
    → IsReadBack (kinds.TaggedTemplateExpression tag quasi span)
unfolding instruction_value_of tagged_template_expression_of add add_some
tagged_template_expression_again tag quasi None h s = rw h refl
tagged_template_expression_again tag quasi (Some span) h s = rw (h, s) refl

pub template_literal_again : (subexprs : List Place) (quasis : List (List ℕ)) (span : Option Span)
    → list_of place_of (list_data place_data subexprs) ≡ Some subexprs
    → list_of text_of (list_data string quasis) ≡ Some quasis → IsReadAgain span_of span_data span
    → IsReadBack (kinds.TemplateLiteral subexprs quasis span)
unfolding instruction_value_of template_literal_of add add_some
template_literal_again subexprs quasis None h j s = rw (h, j) refl
template_literal_again subexprs quasis (Some span) h j s = rw (h, j, s) refl

pub get_iterator_again : (collection : Place) (span : Option Span)
    → place_of (place_data collection) ≡ Some collection → IsReadAgain span_of span_data span
    → IsReadBack (kinds.GetIterator collection span)
unfolding instruction_value_of get_iterator_of add add_some
get_iterator_again collection None h s = rw h refl
get_iterator_again collection (Some span) h s = rw (h, s) refl

pub iterator_next_again : (iterator : Place) (collection : Place) (span : Option Span)
    → place_of (place_data iterator) ≡ Some iterator → place_of (place_data collection) ≡ Some collection
    → IsReadAgain span_of span_data span
    → IsReadBack (kinds.IteratorNext iterator collection span)
unfolding instruction_value_of iterator_next_of add add_some
iterator_next_again iterator collection None h j s = rw (h, j) refl
iterator_next_again iterator collection (Some span) h j s = rw (h, j, s) refl

pub next_property_of_again : (value : Place) (span : Option Span)
    → place_of (place_data value) ≡ Some value → IsReadAgain span_of span_data span
    → IsReadBack (kinds.NextPropertyOf value span)
unfolding instruction_value_of next_property_of_of add add_some
next_property_of_again value None h s = rw h refl
next_property_of_again value (Some span) h s = rw (h, s) refl
