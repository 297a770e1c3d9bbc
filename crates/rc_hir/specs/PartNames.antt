-- The numbers in a part of a value, each with the table that it indexes.
use Rattle.std.specs.Prelude.{ℕ, List, [], ◌∷◌, ◌++◌, Option, None, Some}
use Rattle.std.specs.List.{flat_map}
use Rattle.rc_names.specs.Numbers.{FunctionId, IdentifierId, InstructionId, ScopeId}
use Rattle.rc_hir.specs.Model.{TableName, Place, ParamPattern, PlaceOrSpread, ArrayElement, ArrayPatternElement}
use Rattle.rc_hir.specs.Model.{ObjectPropertyKey, ObjectPropertyOrSpread, LValue, Pattern, JsxTag, JsxAttribute}
use Rattle.rc_hir.specs.Model.{LoweredFunction}
use Rattle.rc_hir.specs.declared.fault.TableName.TheVariants.{Identifiers, Scopes, Functions, Instructions}
use Rattle.rc_hir.specs.declared.place.ParamPattern.TheVariants as param
use Rattle.rc_hir.specs.declared.place.PlaceOrSpread.TheVariants as arguments
use Rattle.rc_hir.specs.declared.pattern.ArrayElement.TheVariants as element
use Rattle.rc_hir.specs.declared.pattern.ArrayPatternElement.TheVariants as pattern_elements
use Rattle.rc_hir.specs.declared.pattern.ObjectPropertyKey.TheVariants as keys
use Rattle.rc_hir.specs.declared.pattern.ObjectPropertyOrSpread.TheVariants as entry
use Rattle.rc_hir.specs.declared.pattern.Pattern.TheVariants as patterns
use Rattle.rc_hir.specs.declared.instruction.JsxTag.TheVariants as tags
use Rattle.rc_hir.specs.declared.instruction.JsxAttribute.TheVariants as attributes

-- a number and the table that it indexes
abbrev pub Name : Type 0
Name = TableName × ℕ

-- the numbers of an optional part
abbrev pub names_if : {X : Type 0} → (X → List Name) → Option X → List Name
names_if names None = []
names_if names (Some x) = names x

-- the numbers of a value under a key
abbrev pub under_key : {K V : Type 0} → (V → List Name) → K × V → List Name
under_key names pair = names pair.1

-- an identifier's number
abbrev pub identifier_name : IdentifierId → List Name
identifier_name id = (Identifiers, id.0) ∷ []

-- a scope's number
abbrev pub scope_name : ScopeId → List Name
scope_name id = (Scopes, id.0) ∷ []

-- a nested function's number
abbrev pub function_name : FunctionId → List Name
function_name id = (Functions, id.0) ∷ []

-- the number of a row of the function at hand
abbrev pub row_name : InstructionId → List Name
row_name id = (Instructions, id.0) ∷ []

-- the number in a place
abbrev pub place_names : Place → List Name
place_names place = identifier_name place.identifier

-- the number in a place that is written
abbrev pub target_names : LValue → List Name
target_names lvalue = place_names lvalue.place

-- the number of a nested function
abbrev pub lowered_names : LoweredFunction → List Name
lowered_names lowered = function_name lowered.func

-- the number in a parameter
abbrev pub parameter_names : ParamPattern → List Name
parameter_names (param.Place place) = place_names place
parameter_names (param.Spread spread) = place_names spread.place

-- the number in an argument
abbrev pub argument_names : PlaceOrSpread → List Name
argument_names (arguments.Place place) = place_names place
argument_names (arguments.Spread spread) = place_names spread.place

-- the number in an entry of an array literal
abbrev pub element_names : ArrayElement → List Name
element_names (element.Place place) = place_names place
element_names (element.Spread spread) = place_names spread.place
element_names element.Hole = []

-- the number in an entry of an array pattern
abbrev pub item_names : ArrayPatternElement → List Name
item_names (pattern_elements.Place place) = place_names place
item_names (pattern_elements.Spread spread) = place_names spread.place
item_names pattern_elements.Hole = []

-- the number in a property's key
abbrev pub key_names : ObjectPropertyKey → List Name
key_names (keys.Identifier name) = []
key_names (keys.String text) = []
key_names (keys.Number text) = []
key_names (keys.Computed place) = place_names place

-- the numbers in an entry of an object literal or of an object pattern
abbrev pub entry_names : ObjectPropertyOrSpread → List Name
entry_names (entry.Property property) = key_names property.key ++ place_names property.place
entry_names (entry.Spread spread) = place_names spread.place

-- the numbers in a pattern
abbrev pub pattern_names : Pattern → List Name
pattern_names (patterns.Array items) = flat_map item_names items
pattern_names (patterns.Object properties) = flat_map entry_names properties

-- the number in the tag of a JSX element
abbrev pub tag_names : JsxTag → List Name
tag_names (tags.Place place) = place_names place
tag_names (tags.Builtin name) = []

-- the number in an attribute of a JSX element
abbrev pub attribute_names : JsxAttribute → List Name
attribute_names (attributes.Attribute name place) = place_names place
attribute_names (attributes.SpreadAttribute argument) = place_names argument
