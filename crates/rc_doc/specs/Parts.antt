-- The parts of instruction values besides places, patterns and texts.
use Rattle.std.specs.Prelude.{[], ◌∷◌, Option, Some, option_map, codes}
use Rattle.serde_json.specs.Data.{Data}
use Rattle.rc_hir.specs.Model.{JsxAttribute, JsxTag, LoweredFunction, NonLocalBinding, PrimitiveValue}
use Rattle.rc_hir.specs.declared.instruction.JsxAttribute.TheVariants as attributes
use Rattle.rc_hir.specs.declared.instruction.JsxTag.TheVariants as tags
use Rattle.rc_hir.specs.declared.instruction.NonLocalBinding.TheVariants as bindings
use Rattle.rc_hir.specs.declared.instruction.PrimitiveValue.TheVariants as primitives
use Rattle.rc_doc.specs.Numbers.{id_of}
use Rattle.rc_doc.specs.Places.{place_of}
use Rattle.rc_doc.specs.Reading.{◌>>=◌, content, field, flag_field, named, only, or_tagged, tag_of, text_of, variant}

-- a literal with a content; a flag that is left out is false
unfoldable pub primitive_content_of : Data → Option PrimitiveValue
primitive_content_of d = do
  _ ← only (codes "k" ∷ codes "v" ∷ []) d
  name ← tag_of d
  variant (
      (codes "Boolean", option_map primitives.Boolean (flag_field (codes "v") d))
      ∷ (codes "Number", option_map primitives.Number (content text_of d))
      ∷ (codes "String", option_map primitives.String (content text_of d))
      ∷ []) name

-- a literal of a primitive type
abbrev pub primitive_value_of : Data → Option PrimitiveValue
primitive_value_of d = or_tagged (named ((codes "Null", primitives.Null) ∷ (codes "Undefined", primitives.Undefined) ∷
    [])) primitive_content_of d

-- a name that belongs to no module
unfoldable pub global_of : Data → Option NonLocalBinding
global_of d = do
  _ ← only (codes "k" ∷ codes "name" ∷ []) d
  name ← field text_of (codes "name") d
  Some (bindings.Global name)

-- a name of a module
unfoldable pub module_name_of : Data → Option NonLocalBinding
module_name_of d = do
  _ ← only (codes "k" ∷ codes "module" ∷ codes "name" ∷ []) d
  name ← field text_of (codes "name") d
  from ← field text_of (codes "module") d
  Some (bindings.Module name from)

-- a name from outside the function
unfoldable pub binding_of : Data → Option NonLocalBinding
binding_of d = do
  name ← tag_of d
  variant ((codes "Global", global_of d) ∷ (codes "Module", module_name_of d) ∷ []) name

-- the tag of a JSX element
unfoldable pub jsx_tag_of : Data → Option JsxTag
jsx_tag_of d = do
  _ ← only (codes "k" ∷ codes "v" ∷ []) d
  name ← tag_of d
  variant (
      (codes "Place", option_map tags.Place (content place_of d))
      ∷ (codes "Builtin", option_map tags.Builtin (content text_of d))
      ∷ []) name

-- an attribute with a name
unfoldable pub named_attribute_of : Data → Option JsxAttribute
named_attribute_of d = do
  _ ← only (codes "k" ∷ codes "name" ∷ codes "place" ∷ []) d
  name ← field text_of (codes "name") d
  place ← field place_of (codes "place") d
  Some (attributes.Attribute name place)

-- all attributes of an object
unfoldable pub spread_attribute_of : Data → Option JsxAttribute
spread_attribute_of d = do
  _ ← only (codes "argument" ∷ codes "k" ∷ []) d
  argument ← field place_of (codes "argument") d
  Some (attributes.SpreadAttribute argument)

-- an attribute of a JSX element
unfoldable pub jsx_attribute_of : Data → Option JsxAttribute
jsx_attribute_of d = do
  name ← tag_of d
  variant ((codes "Attribute", named_attribute_of d) ∷ (codes "SpreadAttribute", spread_attribute_of d) ∷ []) name

-- a nested function, by its number
unfoldable pub lowered_function_of : Data → Option LoweredFunction
lowered_function_of d = do
  _ ← only (codes "func" ∷ []) d
  func ← field id_of (codes "func") d
  Some (record { func = func })
