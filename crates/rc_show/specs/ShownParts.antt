-- The printing form of the parts of instruction values.
pub mod Places
pub mod Patterns
use Rattle.std.specs.Prelude.{codes}
use Rattle.serde_json.specs.Data.{Data, boolean, no_members, object, string}
use Rattle.rc_hir.specs.Model.{JsxAttribute, JsxTag, LoweredFunction, NonLocalBinding, PrimitiveValue, Place}
use Rattle.rc_hir.specs.declared.instruction.JsxAttribute.TheVariants as attributes
use Rattle.rc_hir.specs.declared.instruction.JsxTag.TheVariants as tags
use Rattle.rc_hir.specs.declared.instruction.NonLocalBinding.TheVariants as bindings
use Rattle.rc_hir.specs.declared.instruction.PrimitiveValue.TheVariants as primitives
use Rattle.rc_show.specs.Showing.{◌▸◌, add, number_data, tagged, variant_data}
use Rattle.rc_show.specs.ShownParts.Places.{place_data}

-- a literal of a primitive type
unfoldable pub primitive_value_data : PrimitiveValue → Data
primitive_value_data primitives.Null = string (codes "Null")
primitive_value_data primitives.Undefined = string (codes "Undefined")
primitive_value_data (primitives.Boolean value) = variant_data (codes "Boolean") (boolean value)
primitive_value_data (primitives.Number text) = variant_data (codes "Number") (string text)
primitive_value_data (primitives.String text) = variant_data (codes "String") (string text)

-- a name from outside the function
unfoldable pub binding_data : NonLocalBinding → Data
binding_data (bindings.Global name) = object (no_members ▸ tagged (codes "Global") ▸ add (codes "name") (string name))
binding_data (bindings.Module name from) =
    object (no_members ▸ tagged (codes "Module") ▸ add (codes "module") (string from)
    ▸ add (codes "name") (string name))

-- the tag of a JSX element
unfoldable pub jsx_tag_data : JsxTag → Data
jsx_tag_data (tags.Place place) = variant_data (codes "Place") (place_data place)
jsx_tag_data (tags.Builtin name) = variant_data (codes "Builtin") (string name)

-- an attribute of a JSX element
unfoldable pub jsx_attribute_data : JsxAttribute → Data
jsx_attribute_data (attributes.Attribute name place) =
    object (no_members ▸ tagged (codes "Attribute") ▸ add (codes "name") (string name)
    ▸ add (codes "place") (place_data place))
jsx_attribute_data (attributes.SpreadAttribute argument) =
    object (no_members ▸ add (codes "argument") (place_data argument) ▸ tagged (codes "SpreadAttribute"))

-- a nested function, by its number
unfoldable pub lowered_function_data : LoweredFunction → Data
lowered_function_data lowered = object (no_members ▸ add (codes "func") (number_data lowered.func.0))
