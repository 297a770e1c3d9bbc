-- The printing form of instruction values.
use Rattle.std.specs.Prelude.{◌≡◌, Option, Some, codes}
use Rattle.serde_json.specs.Data.{Data, boolean, Members, no_members, string}
use Rattle.serde_json.specs.Data as json
use Rattle.rc_names.specs.declared.span.Span.{Span}
use Rattle.rc_hir.specs.Model.{InstructionValue}
use Rattle.rc_hir.specs.declared.instruction.InstructionValue.TheVariants as kinds
use Rattle.rc_doc.specs.Kinds.{instruction_value_of}
use Rattle.rc_show.specs.Showing.{◌▸◌, add, add_some, list_data, number_data, tagged}
use Rattle.rc_show.specs.ShownParts.{binding_data, jsx_attribute_data, jsx_tag_data, lowered_function_data}
use Rattle.rc_show.specs.ShownParts.{primitive_value_data}
use Rattle.rc_show.specs.ShownParts.Patterns.{element_data, lvalue_data, lvalue_pattern_data, property_data}
use Rattle.rc_show.specs.ShownParts.Patterns.{property_literal_data}
use Rattle.rc_show.specs.ShownParts.Places.{argument_data, place_data, span_data}

-- the members with the span at the end, if there is one
abbrev pub add_span : Option Span → Members → Members
add_span span fields = add_some span_data (codes "span") span fields

-- the fields of an instruction value
abbrev pub value_fields : InstructionValue → Members
value_fields (kinds.LoadLocal place span) =
    no_members ▸ tagged (codes "LoadLocal") ▸ add (codes "place") (place_data place) ▸ add_span span
value_fields (kinds.LoadContext place span) =
    no_members ▸ tagged (codes "LoadContext") ▸ add (codes "place") (place_data place) ▸ add_span span
value_fields (kinds.DeclareLocal lvalue span) =
    no_members ▸ tagged (codes "DeclareLocal") ▸ add (codes "lvalue") (lvalue_data lvalue) ▸ add_span span
value_fields (kinds.DeclareContext lvalue span) =
    no_members ▸ tagged (codes "DeclareContext") ▸ add (codes "lvalue") (lvalue_data lvalue) ▸ add_span span
value_fields (kinds.StoreLocal lvalue value span) =
    no_members ▸ tagged (codes "StoreLocal") ▸ add (codes "lvalue") (lvalue_data lvalue) ▸ add_span span
    ▸ add (codes "value") (place_data value)
value_fields (kinds.StoreContext lvalue value span) =
    no_members ▸ tagged (codes "StoreContext") ▸ add (codes "lvalue") (lvalue_data lvalue) ▸ add_span span
    ▸ add (codes "value") (place_data value)
value_fields (kinds.Destructure lvalue value span) =
    no_members ▸ tagged (codes "Destructure") ▸ add (codes "lvalue") (lvalue_pattern_data lvalue) ▸ add_span span
    ▸ add (codes "value") (place_data value)
value_fields (kinds.Primitive value span) =
    no_members ▸ tagged (codes "Primitive") ▸ add_span span ▸ add (codes "value") (primitive_value_data value)
value_fields (kinds.JSXText value span) =
    no_members ▸ tagged (codes "JSXText") ▸ add_span span ▸ add (codes "value") (string value)
value_fields (kinds.BinaryExpression operator left right span) =
    no_members ▸ tagged (codes "BinaryExpression") ▸ add (codes "left") (place_data left)
    ▸ add (codes "operator") (string operator) ▸ add (codes "right") (place_data right) ▸ add_span span
value_fields (kinds.UnaryExpression operator value span) =
    no_members ▸ tagged (codes "UnaryExpression") ▸ add (codes "operator") (string operator) ▸ add_span span
    ▸ add (codes "value") (place_data value)
value_fields (kinds.TypeCastExpression value annotation span) =
    no_members ▸ add (codes "annotation") (string annotation) ▸ tagged (codes "TypeCastExpression") ▸ add_span span
    ▸ add (codes "value") (place_data value)
value_fields (kinds.Await value span) =
    no_members ▸ tagged (codes "Await") ▸ add_span span ▸ add (codes "value") (place_data value)
value_fields (kinds.NewExpression callee args span) =
    no_members ▸ add (codes "args") (list_data argument_data args) ▸ add (codes "callee") (place_data callee)
    ▸ tagged (codes "NewExpression") ▸ add_span span
value_fields (kinds.CallExpression callee args span) =
    no_members ▸ add (codes "args") (list_data argument_data args) ▸ add (codes "callee") (place_data callee)
    ▸ tagged (codes "CallExpression") ▸ add_span span
value_fields (kinds.MethodCall receiver property args span) =
    no_members ▸ add (codes "args") (list_data argument_data args) ▸ tagged (codes "MethodCall")
    ▸ add (codes "property") (place_data property) ▸ add (codes "receiver") (place_data receiver) ▸ add_span span
value_fields (kinds.ObjectExpression properties span) =
    no_members ▸ tagged (codes "ObjectExpression") ▸ add (codes "properties") (list_data property_data properties)
    ▸ add_span span
value_fields (kinds.ObjectMethod lowered_func span) =
    no_members ▸ tagged (codes "ObjectMethod") ▸ add (codes "lowered_func") (lowered_function_data lowered_func)
    ▸ add_span span
value_fields (kinds.FunctionExpression name lowered_func span) =
    no_members ▸ tagged (codes "FunctionExpression") ▸ add (codes "lowered_func") (lowered_function_data lowered_func)
    ▸ add_some string (codes "name") name ▸ add_span span
value_fields (kinds.ArrayExpression elements span) =
    no_members ▸ add (codes "elements") (list_data element_data elements) ▸ tagged (codes "ArrayExpression")
    ▸ add_span span
value_fields (kinds.JsxExpression tag props children span) =
    no_members ▸ add_some (list_data place_data) (codes "children") children ▸ tagged (codes "JsxExpression")
    ▸ add (codes "props") (list_data jsx_attribute_data props) ▸ add_span span ▸ add (codes "tag") (jsx_tag_data tag)
value_fields (kinds.JsxFragment children span) =
    no_members ▸ add (codes "children") (list_data place_data children) ▸ tagged (codes "JsxFragment") ▸ add_span span
value_fields (kinds.RegExpLiteral pattern flags span) =
    no_members ▸ add (codes "flags") (string flags) ▸ tagged (codes "RegExpLiteral")
    ▸ add (codes "pattern") (string pattern) ▸ add_span span
value_fields (kinds.MetaProperty meta property span) =
    no_members ▸ tagged (codes "MetaProperty") ▸ add (codes "meta") (string meta)
    ▸ add (codes "property") (string property) ▸ add_span span
value_fields (kinds.PropertyLoad object property span) =
    no_members ▸ tagged (codes "PropertyLoad") ▸ add (codes "object") (place_data object)
    ▸ add (codes "property") (property_literal_data property) ▸ add_span span
value_fields (kinds.PropertyDelete object property span) =
    no_members ▸ tagged (codes "PropertyDelete") ▸ add (codes "object") (place_data object)
    ▸ add (codes "property") (property_literal_data property) ▸ add_span span
value_fields (kinds.PropertyStore object property value span) =
    no_members ▸ tagged (codes "PropertyStore") ▸ add (codes "object") (place_data object)
    ▸ add (codes "property") (property_literal_data property) ▸ add_span span ▸ add (codes "value") (place_data value)
value_fields (kinds.ComputedLoad object property span) =
    no_members ▸ tagged (codes "ComputedLoad") ▸ add (codes "object") (place_data object)
    ▸ add (codes "property") (place_data property) ▸ add_span span
value_fields (kinds.ComputedDelete object property span) =
    no_members ▸ tagged (codes "ComputedDelete") ▸ add (codes "object") (place_data object)
    ▸ add (codes "property") (place_data property) ▸ add_span span
value_fields (kinds.ComputedStore object property value span) =
    no_members ▸ tagged (codes "ComputedStore") ▸ add (codes "object") (place_data object)
    ▸ add (codes "property") (place_data property) ▸ add_span span ▸ add (codes "value") (place_data value)
value_fields (kinds.LoadGlobal binding span) =
    no_members ▸ add (codes "binding") (binding_data binding) ▸ tagged (codes "LoadGlobal") ▸ add_span span
value_fields (kinds.StoreGlobal name value span) =
    no_members ▸ tagged (codes "StoreGlobal") ▸ add (codes "name") (string name) ▸ add_span span
    ▸ add (codes "value") (place_data value)
value_fields (kinds.TaggedTemplateExpression tag quasi span) =
    no_members ▸ tagged (codes "TaggedTemplateExpression") ▸ add (codes "quasi") (string quasi) ▸ add_span span
    ▸ add (codes "tag") (place_data tag)
value_fields (kinds.TemplateLiteral subexprs quasis span) =
    no_members ▸ tagged (codes "TemplateLiteral") ▸ add (codes "quasis") (list_data string quasis) ▸ add_span span
    ▸ add (codes "subexprs") (list_data place_data subexprs)
value_fields (kinds.GetIterator collection span) =
    no_members ▸ add (codes "collection") (place_data collection) ▸ tagged (codes "GetIterator") ▸ add_span span
value_fields (kinds.IteratorNext iterator collection span) =
    no_members ▸ add (codes "collection") (place_data collection) ▸ add (codes "iterator") (place_data iterator)
    ▸ tagged (codes "IteratorNext") ▸ add_span span
value_fields (kinds.NextPropertyOf value span) =
    no_members ▸ tagged (codes "NextPropertyOf") ▸ add_span span ▸ add (codes "value") (place_data value)
value_fields (kinds.PrefixUpdate lvalue operation value span) =
    no_members ▸ tagged (codes "PrefixUpdate") ▸ add (codes "lvalue") (place_data lvalue)
    ▸ add (codes "operation") (string operation) ▸ add_span span ▸ add (codes "value") (place_data value)
value_fields (kinds.PostfixUpdate lvalue operation value span) =
    no_members ▸ tagged (codes "PostfixUpdate") ▸ add (codes "lvalue") (place_data lvalue)
    ▸ add (codes "operation") (string operation) ▸ add_span span ▸ add (codes "value") (place_data value)
value_fields (kinds.Debugger span) =
    no_members ▸ tagged (codes "Debugger") ▸ add_span span
value_fields (kinds.StartMemoize manual_memo_id deps span) =
    no_members ▸ add (codes "deps") (list_data place_data deps) ▸ tagged (codes "StartMemoize")
    ▸ add (codes "manual_memo_id") (number_data manual_memo_id) ▸ add_span span
value_fields (kinds.FinishMemoize manual_memo_id decl pruned span) =
    no_members ▸ add (codes "decl") (place_data decl) ▸ tagged (codes "FinishMemoize")
    ▸ add (codes "manual_memo_id") (number_data manual_memo_id) ▸ add (codes "pruned") (boolean pruned)
    ▸ add_span span

-- the printing form of an instruction value
abbrev pub value_data : InstructionValue → Data
value_data value = json.object (value_fields value)

-- the printing form reads as the same value again
abbrev pub IsReadBack : InstructionValue → Type 0
IsReadBack value = instruction_value_of (value_data value) ≡ Some value
