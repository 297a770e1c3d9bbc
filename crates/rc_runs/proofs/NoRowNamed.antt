-- No number in a value is a row's, so each of them is in its table whatever rows there are.
use Rattle.std.proofs.Common.{◌≢◌, ℕ, List, [], ◌∷◌, ◌++◌, Option, None, Some, get_or, refl}
use Rattle.std.specs.List.{All, flat_map}
use Rattle.std.proofs.lemmas.List.Elements.{All-append, All-cons, All-nil}
use Rattle.rc_hir.specs.Names.{IsInTable, lengths}
use Rattle.rc_hir.specs.PartNames.{Name, argument_names, attribute_names, element_names, entry_names, item_names}
use Rattle.rc_hir.specs.PartNames.{key_names, lowered_names, pattern_names, names_if, place_names, scope_name}
use Rattle.rc_hir.specs.PartNames.{tag_names}
use Rattle.rc_hir.specs.ValueNames.{value_names}
use Rattle.rc_hir.specs.Model.{Environment, TableName, InstructionValue, JsxAttribute, JsxTag, LoweredFunction}
use Rattle.rc_hir.specs.Model.{ArrayElement, ArrayPatternElement, ObjectPropertyKey, ObjectPropertyOrSpread, Pattern}
use Rattle.rc_hir.specs.Model.{Place, PlaceOrSpread}
use Rattle.rc_hir.specs.declared.fault.TableName.TheVariants as table_names
use Rattle.rc_hir.specs.declared.instruction.InstructionValue.TheVariants as kinds
use Rattle.rc_hir.specs.declared.instruction.JsxAttribute.TheVariants as attributes
use Rattle.rc_hir.specs.declared.instruction.JsxTag.TheVariants as tags
use Rattle.rc_hir.specs.declared.pattern.ArrayElement.TheVariants as element
use Rattle.rc_hir.specs.declared.pattern.ArrayPatternElement.TheVariants as pattern_elements
use Rattle.rc_hir.specs.declared.pattern.ObjectPropertyKey.TheVariants as keys
use Rattle.rc_hir.specs.declared.pattern.ObjectPropertyOrSpread.TheVariants as entry
use Rattle.rc_hir.specs.declared.pattern.Pattern.TheVariants as patterns
use Rattle.rc_hir.specs.declared.place.PlaceOrSpread.TheVariants as arguments
use Rattle.rc_names.specs.Numbers.{ScopeId}

-- the number is the index of a table of the environment
abbrev pub IsNoRow : Name → Type 0
IsNoRow name = name.0 ≢ table_names.Instructions

abbrev pub NoRows : List Name → Type 0
NoRows names = All IsNoRow names

none : NoRows []
none = All-nil IsNoRow

alone : (t : TableName) (number : ℕ) → t ≢ table_names.Instructions → NoRows ((t, number) ∷ [])
alone t number other = All-cons IsNoRow (t, number) [] other none

both : (names others : List Name) → NoRows names → NoRows others → NoRows (names ++ others)
both names others first second = All-append IsNoRow names others first second

parts : {X : Type 0} (names : X → List Name) → ((x : X) → NoRows (names x)) → (xs : List X) →
    NoRows (flat_map names xs)
parts names each [] = none
parts names each (x ∷ xs) = both (names x) (flat_map names xs) (each x) (parts names each xs)

may_be_there : {X : Type 0} (names : X → List Name) → ((x : X) → NoRows (names x)) → (x : Option X) →
    NoRows (names_if names x)
may_be_there names each None = none
may_be_there names each (Some x) = each x

-- the parts of a value
pub scope_no_row : (id : ScopeId) → NoRows (scope_name id)
scope_no_row id = alone table_names.Scopes id.0 (λ e. let no : ⊥ = cc in no)

pub place_no_row : (place : Place) → NoRows (place_names place)
place_no_row place = alone table_names.Identifiers place.identifier.0 (λ e. let no : ⊥ = cc in no)

lowered_no_row : (lowered : LoweredFunction) → NoRows (lowered_names lowered)
lowered_no_row lowered = alone table_names.Functions lowered.func.0 (λ e. let no : ⊥ = cc in no)

two_places : (first second : Place) → NoRows (place_names first ++ place_names second)
two_places first second = both (place_names first) (place_names second) (place_no_row first) (place_no_row second)

places_no_row : (places : List Place) → NoRows (flat_map place_names places)
places_no_row places = parts place_names place_no_row places

argument_no_row : (x : PlaceOrSpread) → NoRows (argument_names x)
argument_no_row (arguments.Place place) = place_no_row place
argument_no_row (arguments.Spread spread) = place_no_row spread.place

-- the arguments of a call, after the place that is called
called_no_row : (callee : Place) (args : List PlaceOrSpread) →
    NoRows (place_names callee ++ flat_map argument_names args)
called_no_row callee args =
    both (place_names callee) (flat_map argument_names args) (place_no_row callee)
    (parts argument_names argument_no_row args)

element_no_row : (x : ArrayElement) → NoRows (element_names x)
element_no_row (element.Place place) = place_no_row place
element_no_row (element.Spread spread) = place_no_row spread.place
element_no_row element.Hole = none

item_no_row : (x : ArrayPatternElement) → NoRows (item_names x)
item_no_row (pattern_elements.Place place) = place_no_row place
item_no_row (pattern_elements.Spread spread) = place_no_row spread.place
item_no_row pattern_elements.Hole = none

key_no_row : (x : ObjectPropertyKey) → NoRows (key_names x)
key_no_row (keys.Identifier name) = none
key_no_row (keys.String text) = none
key_no_row (keys.Number text) = none
key_no_row (keys.Computed place) = place_no_row place

entry_no_row : (x : ObjectPropertyOrSpread) → NoRows (entry_names x)
entry_no_row (entry.Property property) =
    both (key_names property.key) (place_names property.place) (key_no_row property.key) (place_no_row property.place)
entry_no_row (entry.Spread spread) = place_no_row spread.place

pattern_no_row : (x : Pattern) → NoRows (pattern_names x)
pattern_no_row (patterns.Array items) = parts item_names item_no_row items
pattern_no_row (patterns.Object properties) = parts entry_names entry_no_row properties

tag_no_row : (x : JsxTag) → NoRows (tag_names x)
tag_no_row (tags.Place place) = place_no_row place
tag_no_row (tags.Builtin name) = none

attribute_no_row : (x : JsxAttribute) → NoRows (attribute_names x)
attribute_no_row (attributes.Attribute name place) = place_no_row place
attribute_no_row (attributes.SpreadAttribute place) = place_no_row place

pub value_no_row : (x : InstructionValue) → NoRows (value_names x)
value_no_row (kinds.LoadLocal place span) = place_no_row place
value_no_row (kinds.LoadContext place span) = place_no_row place
value_no_row (kinds.DeclareLocal lvalue span) = place_no_row lvalue.place
value_no_row (kinds.DeclareContext lvalue span) = place_no_row lvalue.place
value_no_row (kinds.StoreLocal lvalue value span) = two_places lvalue.place value
value_no_row (kinds.StoreContext lvalue value span) = two_places lvalue.place value
value_no_row (kinds.Destructure lvalue value span) =
    both (pattern_names lvalue.pattern) (place_names value) (pattern_no_row lvalue.pattern) (place_no_row value)
value_no_row (kinds.Primitive value span) = none
value_no_row (kinds.JSXText value span) = none
value_no_row (kinds.BinaryExpression operator left right span) = two_places left right
value_no_row (kinds.UnaryExpression operator value span) = place_no_row value
value_no_row (kinds.TypeCastExpression value annotation span) = place_no_row value
value_no_row (kinds.Await value span) = place_no_row value
value_no_row (kinds.NewExpression callee args span) = called_no_row callee args
value_no_row (kinds.CallExpression callee args span) = called_no_row callee args
value_no_row (kinds.MethodCall receiver property args span) =
    both (place_names receiver) (place_names property ++ flat_map argument_names args) (place_no_row receiver)
    (called_no_row property args)
value_no_row (kinds.ObjectExpression properties span) = parts entry_names entry_no_row properties
value_no_row (kinds.ObjectMethod lowered span) = lowered_no_row lowered
value_no_row (kinds.FunctionExpression name lowered span) = lowered_no_row lowered
value_no_row (kinds.ArrayExpression elements span) = parts element_names element_no_row elements
value_no_row (kinds.JsxExpression tag props children span) =
    both (tag_names tag) (flat_map attribute_names props ++ names_if (flat_map place_names) children) (tag_no_row tag)
    (both (flat_map attribute_names props) (names_if (flat_map place_names) children)
    (parts attribute_names attribute_no_row props) (may_be_there (flat_map place_names) places_no_row children))
value_no_row (kinds.JsxFragment children span) = places_no_row children
value_no_row (kinds.RegExpLiteral pattern flags span) = none
value_no_row (kinds.MetaProperty meta property span) = none
value_no_row (kinds.PropertyLoad object property span) = place_no_row object
value_no_row (kinds.PropertyDelete object property span) = place_no_row object
value_no_row (kinds.PropertyStore object property value span) = two_places object value
value_no_row (kinds.ComputedLoad object property span) = two_places object property
value_no_row (kinds.ComputedDelete object property span) = two_places object property
value_no_row (kinds.ComputedStore object property value span) =
    both (place_names object) (place_names property ++ place_names value) (place_no_row object)
    (two_places property value)
value_no_row (kinds.LoadGlobal binding span) = none
value_no_row (kinds.StoreGlobal name value span) = place_no_row value
value_no_row (kinds.TaggedTemplateExpression tag quasi span) = place_no_row tag
value_no_row (kinds.TemplateLiteral subexprs quasis span) = places_no_row subexprs
value_no_row (kinds.GetIterator collection span) = place_no_row collection
value_no_row (kinds.IteratorNext iterator collection span) = two_places iterator collection
value_no_row (kinds.NextPropertyOf value span) = place_no_row value
value_no_row (kinds.PrefixUpdate lvalue operation value span) = two_places lvalue value
value_no_row (kinds.PostfixUpdate lvalue operation value span) = two_places lvalue value
value_no_row (kinds.Debugger span) = none
value_no_row (kinds.StartMemoize manual_memo_id deps span) = places_no_row deps
value_no_row (kinds.FinishMemoize manual_memo_id decl pruned span) = place_no_row decl

module _ (env : Environment) (rows : ℕ) where
  in_environment : (name : Name) → IsNoRow name → IsInTable (lengths env rows) name → IsInTable (lengths env 0) name
  in_environment (table_names.Identifiers, number) other below = below
  in_environment (table_names.Declarations, number) other below = below
  in_environment (table_names.Types, number) other below = below
  in_environment (table_names.Scopes, number) other below = below
  in_environment (table_names.Functions, number) other below = below
  in_environment (table_names.Instructions, number) other below = absurd (other refl)
  in_environment (table_names.Shapes, number) other below = below

  -- numbers that are no rows' are in their tables, whatever rows there are
  pub all_in_environment : (names : List Name) → NoRows names → All (IsInTable (lengths env rows)) names →
      All (IsInTable (lengths env 0)) names
  all_in_environment names others held = λ k d below.
      in_environment (get_or names k d) (others k d below) (held k d below)
