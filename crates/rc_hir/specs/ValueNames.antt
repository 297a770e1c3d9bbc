-- The numbers in a value, each with the table that it indexes, one line a kind.
use Rattle.std.specs.Prelude.{List, [], ◌++◌}
use Rattle.std.specs.List.{flat_map}
use Rattle.rc_hir.specs.PartNames.{Name, names_if, place_names, target_names, lowered_names, argument_names}
use Rattle.rc_hir.specs.PartNames.{element_names, entry_names, pattern_names, tag_names, attribute_names}
use Rattle.rc_hir.specs.Model.{InstructionValue}
use Rattle.rc_hir.specs.declared.instruction.InstructionValue.TheVariants as kinds

-- the numbers in a value
abbrev pub value_names : InstructionValue → List Name
value_names (kinds.LoadLocal place span) = place_names place
value_names (kinds.LoadContext place span) = place_names place
value_names (kinds.DeclareLocal lvalue span) = target_names lvalue
value_names (kinds.DeclareContext lvalue span) = target_names lvalue
value_names (kinds.StoreLocal lvalue value span) = target_names lvalue ++ place_names value
value_names (kinds.StoreContext lvalue value span) = target_names lvalue ++ place_names value
value_names (kinds.Destructure lvalue value span) = pattern_names lvalue.pattern ++ place_names value
value_names (kinds.Primitive value span) = []
value_names (kinds.JSXText value span) = []
value_names (kinds.BinaryExpression operator left right span) = place_names left ++ place_names right
value_names (kinds.UnaryExpression operator value span) = place_names value
value_names (kinds.TypeCastExpression value annotation span) = place_names value
value_names (kinds.Await value span) = place_names value
value_names (kinds.NewExpression callee args span) = place_names callee ++ flat_map argument_names args
value_names (kinds.CallExpression callee args span) = place_names callee ++ flat_map argument_names args
value_names (kinds.MethodCall receiver property args span) =
    place_names receiver ++ (place_names property ++ flat_map argument_names args)
value_names (kinds.ObjectExpression properties span) = flat_map entry_names properties
value_names (kinds.ObjectMethod lowered_func span) = lowered_names lowered_func
value_names (kinds.FunctionExpression name lowered_func span) = lowered_names lowered_func
value_names (kinds.ArrayExpression elements span) = flat_map element_names elements
value_names (kinds.JsxExpression tag props children span) =
    tag_names tag ++ (flat_map attribute_names props ++ names_if (flat_map place_names) children)
value_names (kinds.JsxFragment children span) = flat_map place_names children
value_names (kinds.RegExpLiteral pattern flags span) = []
value_names (kinds.MetaProperty meta property span) = []
value_names (kinds.PropertyLoad object property span) = place_names object
value_names (kinds.PropertyDelete object property span) = place_names object
value_names (kinds.PropertyStore object property value span) = place_names object ++ place_names value
value_names (kinds.ComputedLoad object property span) = place_names object ++ place_names property
value_names (kinds.ComputedDelete object property span) = place_names object ++ place_names property
value_names (kinds.ComputedStore object property value span) =
    place_names object ++ (place_names property ++ place_names value)
value_names (kinds.LoadGlobal binding span) = []
value_names (kinds.StoreGlobal name value span) = place_names value
value_names (kinds.TaggedTemplateExpression tag quasi span) = place_names tag
value_names (kinds.TemplateLiteral subexprs quasis span) = flat_map place_names subexprs
value_names (kinds.GetIterator collection span) = place_names collection
value_names (kinds.IteratorNext iterator collection span) = place_names iterator ++ place_names collection
value_names (kinds.NextPropertyOf value span) = place_names value
value_names (kinds.PrefixUpdate lvalue operation value span) = place_names lvalue ++ place_names value
value_names (kinds.PostfixUpdate lvalue operation value span) = place_names lvalue ++ place_names value
value_names (kinds.Debugger span) = []
value_names (kinds.StartMemoize manual_memo_id deps span) = flat_map place_names deps
value_names (kinds.FinishMemoize manual_memo_id decl pruned span) = place_names decl
