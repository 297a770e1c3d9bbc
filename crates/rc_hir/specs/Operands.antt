-- The table of the 42 kinds: the places that a value reads, and those that it writes besides its row's target.
--
-- One line a kind, in the table's order. A spread counts as its place, and a hole as nothing.
use Rattle.std.specs.Prelude.{List, [], ◌∷◌, ◌++◌, Option, None, Some, Result, Ok, Err, slice_get}
use Rattle.std.specs.List.{flat_map}
use Rattle.rc_names.specs.Numbers.{FunctionId}
use Rattle.rc_hir.specs.Model.{Place, PlaceOrSpread, ArrayElement, ArrayPatternElement, ObjectPropertyKey}
use Rattle.rc_hir.specs.Model.{ObjectPropertyOrSpread, Pattern, JsxTag, JsxAttribute, LoweredFunction, InstructionValue}
use Rattle.rc_hir.specs.Model.{HirFunction, Fault}
use Rattle.rc_hir.specs.declared.place.PlaceOrSpread.TheVariants as arguments
use Rattle.rc_hir.specs.declared.pattern.ArrayElement.TheVariants as element
use Rattle.rc_hir.specs.declared.pattern.ArrayPatternElement.TheVariants as pattern_elements
use Rattle.rc_hir.specs.declared.pattern.ObjectPropertyKey.TheVariants as keys
use Rattle.rc_hir.specs.declared.pattern.ObjectPropertyOrSpread.TheVariants as entry
use Rattle.rc_hir.specs.declared.pattern.Pattern.TheVariants as patterns
use Rattle.rc_hir.specs.declared.instruction.JsxTag.TheVariants as tags
use Rattle.rc_hir.specs.declared.instruction.JsxAttribute.TheVariants as attributes
use Rattle.rc_hir.specs.declared.instruction.InstructionValue.TheVariants as kinds
use Rattle.rc_hir.specs.declared.fault.Fault.TheVariants.{BadName}
use Rattle.rc_hir.specs.declared.fault.TableName.TheVariants.{Functions}

-- the place of an argument
abbrev pub argument_places : PlaceOrSpread → List Place
argument_places (arguments.Place place) = place ∷ []
argument_places (arguments.Spread spread) = spread.place ∷ []

-- the place of an entry of an array literal, if it has one
abbrev pub element_places : ArrayElement → List Place
element_places (element.Place place) = place ∷ []
element_places (element.Spread spread) = spread.place ∷ []
element_places element.Hole = []

-- the place of an entry of an array pattern, if it has one
abbrev pub item_places : ArrayPatternElement → List Place
item_places (pattern_elements.Place place) = place ∷ []
item_places (pattern_elements.Spread spread) = spread.place ∷ []
item_places pattern_elements.Hole = []

-- the place that a property's key is computed from, if it is computed
abbrev pub key_places : ObjectPropertyKey → List Place
key_places (keys.Identifier name) = []
key_places (keys.String text) = []
key_places (keys.Number text) = []
key_places (keys.Computed place) = place ∷ []

-- the computed key of an entry of an object literal, then its place
abbrev pub entry_places : ObjectPropertyOrSpread → List Place
entry_places (entry.Property property) = key_places property.key ++ property.place ∷ []
entry_places (entry.Spread spread) = spread.place ∷ []

-- the place of an entry of an object pattern, without its key
abbrev pub written_places : ObjectPropertyOrSpread → List Place
written_places (entry.Property property) = property.place ∷ []
written_places (entry.Spread spread) = spread.place ∷ []

-- the place that is the tag of a JSX element, if the tag is a place
abbrev pub tag_places : JsxTag → List Place
tag_places (tags.Place place) = place ∷ []
tag_places (tags.Builtin name) = []

-- the place of an attribute of a JSX element
abbrev pub attribute_places : JsxAttribute → List Place
attribute_places (attributes.Attribute name place) = place ∷ []
attribute_places (attributes.SpreadAttribute argument) = argument ∷ []

-- the children of a JSX element
abbrev pub child_places : Option (List Place) → List Place
child_places None = []
child_places (Some children) = children

-- a JSX element's tag, if it is a place, then each attribute's place, then the children
abbrev pub jsx_places : JsxTag → List JsxAttribute → Option (List Place) → List Place
jsx_places tag props children = tag_places tag ++ flat_map attribute_places props ++ child_places children

-- a pattern's places, computed keys left out
abbrev pub pattern_places : Pattern → List Place
pattern_places (patterns.Array items) = flat_map item_places items
pattern_places (patterns.Object properties) = flat_map written_places properties

-- the context of a function that was looked up by its number; a number outside the table is a bad name
abbrev pub context_found : FunctionId → Option HirFunction → Result (List Place) Fault
context_found number None = Err (BadName Functions number.0)
context_found number (Some function) = Ok function.context

-- the places of a nested function's context
abbrev pub context_places : List HirFunction → LoweredFunction → Result (List Place) Fault
context_places functions lowered = context_found lowered.func (slice_get functions lowered.func.0)

-- the operands of a value, in the order in which they are read
abbrev pub operands : List HirFunction → InstructionValue → Result (List Place) Fault
operands functions (kinds.LoadLocal place span) = Ok (place ∷ [])
operands functions (kinds.LoadContext place span) = Ok (place ∷ [])
operands functions (kinds.DeclareLocal lvalue span) = Ok []
operands functions (kinds.DeclareContext lvalue span) = Ok []
operands functions (kinds.StoreLocal lvalue value span) = Ok (value ∷ [])
operands functions (kinds.StoreContext lvalue value span) = Ok (lvalue.place ∷ value ∷ [])
operands functions (kinds.Destructure lvalue value span) = Ok (value ∷ [])
operands functions (kinds.Primitive value span) = Ok []
operands functions (kinds.JSXText value span) = Ok []
operands functions (kinds.BinaryExpression operator left right span) = Ok (left ∷ right ∷ [])
operands functions (kinds.UnaryExpression operator value span) = Ok (value ∷ [])
operands functions (kinds.TypeCastExpression value annotation span) = Ok (value ∷ [])
operands functions (kinds.Await value span) = Ok (value ∷ [])
operands functions (kinds.NewExpression callee args span) = Ok (callee ∷ flat_map argument_places args)
operands functions (kinds.CallExpression callee args span) = Ok (callee ∷ flat_map argument_places args)
operands functions (kinds.MethodCall receiver property args span) =
    Ok (receiver ∷ property ∷ flat_map argument_places args)
operands functions (kinds.ObjectExpression properties span) = Ok (flat_map entry_places properties)
operands functions (kinds.ObjectMethod lowered_func span) = context_places functions lowered_func
operands functions (kinds.FunctionExpression name lowered_func span) = context_places functions lowered_func
operands functions (kinds.ArrayExpression elements span) = Ok (flat_map element_places elements)
operands functions (kinds.JsxExpression tag props children span) = Ok (jsx_places tag props children)
operands functions (kinds.JsxFragment children span) = Ok children
operands functions (kinds.RegExpLiteral pattern flags span) = Ok []
operands functions (kinds.MetaProperty meta property span) = Ok []
operands functions (kinds.PropertyLoad object property span) = Ok (object ∷ [])
operands functions (kinds.PropertyDelete object property span) = Ok (object ∷ [])
operands functions (kinds.PropertyStore object property value span) = Ok (object ∷ value ∷ [])
operands functions (kinds.ComputedLoad object property span) = Ok (object ∷ property ∷ [])
operands functions (kinds.ComputedDelete object property span) = Ok (object ∷ property ∷ [])
operands functions (kinds.ComputedStore object property value span) = Ok (object ∷ property ∷ value ∷ [])
operands functions (kinds.LoadGlobal binding span) = Ok []
operands functions (kinds.StoreGlobal name value span) = Ok (value ∷ [])
operands functions (kinds.TaggedTemplateExpression tag quasi span) = Ok (tag ∷ [])
operands functions (kinds.TemplateLiteral subexprs quasis span) = Ok subexprs
operands functions (kinds.GetIterator collection span) = Ok (collection ∷ [])
operands functions (kinds.IteratorNext iterator collection span) = Ok (iterator ∷ collection ∷ [])
operands functions (kinds.NextPropertyOf value span) = Ok (value ∷ [])
operands functions (kinds.PrefixUpdate lvalue operation value span) = Ok (value ∷ [])
operands functions (kinds.PostfixUpdate lvalue operation value span) = Ok (value ∷ [])
operands functions (kinds.Debugger span) = Ok []
operands functions (kinds.StartMemoize manual_memo_id deps span) = Ok deps
operands functions (kinds.FinishMemoize manual_memo_id decl pruned span) = Ok (decl ∷ [])

-- the places that a value writes besides its row's target, in order
abbrev pub value_targets : InstructionValue → List Place
value_targets (kinds.DeclareLocal lvalue span) = lvalue.place ∷ []
value_targets (kinds.DeclareContext lvalue span) = lvalue.place ∷ []
value_targets (kinds.StoreLocal lvalue value span) = lvalue.place ∷ []
value_targets (kinds.StoreContext lvalue value span) = lvalue.place ∷ []
value_targets (kinds.Destructure lvalue value span) = pattern_places lvalue.pattern
value_targets (kinds.PrefixUpdate lvalue operation value span) = lvalue ∷ []
value_targets (kinds.PostfixUpdate lvalue operation value span) = lvalue ∷ []
value_targets _ = []
