-- Kinds that compute a value from texts and operands.
use Rattle.std.specs.Prelude.{ℕ, List, [], ◌∷◌, Option, Some, codes}
use Rattle.serde_json.specs.Data.{Data}
use Rattle.rc_hir.specs.Model.{InstructionValue}
use Rattle.rc_hir.specs.declared.instruction.InstructionValue.TheVariants as kinds
use Rattle.rc_doc.specs.Parts.{primitive_value_of}
use Rattle.rc_doc.specs.Places.{place_of, span_of}
use Rattle.rc_doc.specs.Reading.{◌>>=◌, field, list_field, only, option_field, text_of}

-- a literal of a primitive type
unfoldable pub primitive_of : Data → Option InstructionValue
primitive_of d = do
  _ ← only (codes "k" ∷ codes "span" ∷ codes "value" ∷ []) d
  value ← field primitive_value_of (codes "value") d
  span ← option_field span_of (codes "span") d
  Some (kinds.Primitive value span)

-- a text between JSX tags
unfoldable pub jsx_text_of : Data → Option InstructionValue
jsx_text_of d = do
  _ ← only (codes "k" ∷ codes "span" ∷ codes "value" ∷ []) d
  value ← field text_of (codes "value") d
  span ← option_field span_of (codes "span") d
  Some (kinds.JSXText value span)

-- an operator between two operands
unfoldable pub binary_expression_of : Data → Option InstructionValue
binary_expression_of d = do
  _ ← only (codes "k" ∷ codes "left" ∷ codes "operator" ∷ codes "right" ∷ codes "span" ∷ []) d
  operator ← field text_of (codes "operator") d
  left ← field place_of (codes "left") d
  right ← field place_of (codes "right") d
  span ← option_field span_of (codes "span") d
  Some (kinds.BinaryExpression operator left right span)

-- an operator before its operand
unfoldable pub unary_expression_of : Data → Option InstructionValue
unary_expression_of d = do
  _ ← only (codes "k" ∷ codes "operator" ∷ codes "span" ∷ codes "value" ∷ []) d
  operator ← field text_of (codes "operator") d
  value ← field place_of (codes "value") d
  span ← option_field span_of (codes "span") d
  Some (kinds.UnaryExpression operator value span)

-- a value with a type annotation
unfoldable pub type_cast_expression_of : Data → Option InstructionValue
type_cast_expression_of d = do
  _ ← only (codes "annotation" ∷ codes "k" ∷ codes "span" ∷ codes "value" ∷ []) d
  value ← field place_of (codes "value") d
  annotation ← field text_of (codes "annotation") d
  span ← option_field span_of (codes "span") d
  Some (kinds.TypeCastExpression value annotation span)

-- the value of a promise
unfoldable pub await_of : Data → Option InstructionValue
await_of d = do
  _ ← only (codes "k" ∷ codes "span" ∷ codes "value" ∷ []) d
  value ← field place_of (codes "value") d
  span ← option_field span_of (codes "span") d
  Some (kinds.Await value span)

-- a regular expression
unfoldable pub regexp_literal_of : Data → Option InstructionValue
regexp_literal_of d = do
  _ ← only (codes "flags" ∷ codes "k" ∷ codes "pattern" ∷ codes "span" ∷ []) d
  pattern ← field text_of (codes "pattern") d
  flags ← field text_of (codes "flags") d
  span ← option_field span_of (codes "span") d
  Some (kinds.RegExpLiteral pattern flags span)

-- a meta property, such as `import.meta`
unfoldable pub meta_property_of : Data → Option InstructionValue
meta_property_of d = do
  _ ← only (codes "k" ∷ codes "meta" ∷ codes "property" ∷ codes "span" ∷ []) d
  meta ← field text_of (codes "meta") d
  property ← field text_of (codes "property") d
  span ← option_field span_of (codes "span") d
  Some (kinds.MetaProperty meta property span)

-- a template with which a tag is called
unfoldable pub tagged_template_expression_of : Data → Option InstructionValue
tagged_template_expression_of d = do
  _ ← only (codes "k" ∷ codes "quasi" ∷ codes "span" ∷ codes "tag" ∷ []) d
  tag ← field place_of (codes "tag") d
  quasi ← field text_of (codes "quasi") d
  span ← option_field span_of (codes "span") d
  Some (kinds.TaggedTemplateExpression tag quasi span)

-- a template with values between its texts
unfoldable pub template_literal_of : Data → Option InstructionValue
template_literal_of d = do
  _ ← only (codes "k" ∷ codes "quasis" ∷ codes "span" ∷ codes "subexprs" ∷ []) d
  subexprs ← list_field place_of (codes "subexprs") d
  quasis ← list_field text_of (codes "quasis") d
  span ← option_field span_of (codes "span") d
  Some (kinds.TemplateLiteral subexprs quasis span)

-- the iterator of a collection
unfoldable pub get_iterator_of : Data → Option InstructionValue
get_iterator_of d = do
  _ ← only (codes "collection" ∷ codes "k" ∷ codes "span" ∷ []) d
  collection ← field place_of (codes "collection") d
  span ← option_field span_of (codes "span") d
  Some (kinds.GetIterator collection span)

-- the next value of an iterator
unfoldable pub iterator_next_of : Data → Option InstructionValue
iterator_next_of d = do
  _ ← only (codes "collection" ∷ codes "iterator" ∷ codes "k" ∷ codes "span" ∷ []) d
  iterator ← field place_of (codes "iterator") d
  collection ← field place_of (codes "collection") d
  span ← option_field span_of (codes "span") d
  Some (kinds.IteratorNext iterator collection span)

-- the next property name of an object
unfoldable pub next_property_of_of : Data → Option InstructionValue
next_property_of_of d = do
  _ ← only (codes "k" ∷ codes "span" ∷ codes "value" ∷ []) d
  value ← field place_of (codes "value") d
  span ← option_field span_of (codes "span") d
  Some (kinds.NextPropertyOf value span)

-- the kinds of this family, by their names
abbrev pub expression_kinds : Data → List (List ℕ × Option InstructionValue)
expression_kinds d =
    (codes "Primitive", primitive_of d)
    ∷ (codes "JSXText", jsx_text_of d)
    ∷ (codes "BinaryExpression", binary_expression_of d)
    ∷ (codes "UnaryExpression", unary_expression_of d)
    ∷ (codes "TypeCastExpression", type_cast_expression_of d)
    ∷ (codes "Await", await_of d)
    ∷ (codes "RegExpLiteral", regexp_literal_of d)
    ∷ (codes "MetaProperty", meta_property_of d)
    ∷ (codes "TaggedTemplateExpression", tagged_template_expression_of d)
    ∷ (codes "TemplateLiteral", template_literal_of d)
    ∷ (codes "GetIterator", get_iterator_of d)
    ∷ (codes "IteratorNext", iterator_next_of d)
    ∷ (codes "NextPropertyOf", next_property_of_of d)
    ∷ []
