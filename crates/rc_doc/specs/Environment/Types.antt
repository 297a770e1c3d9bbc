-- What is known of the values of an identifier: types and shapes.
use Rattle.std.specs.Prelude.{ℕ, List, [], ◌∷◌, Option, Some, option_map, codes}
use Rattle.serde_json.specs.Data.{Data}
use Rattle.rc_hir.specs.Model.{HirType, Shape, ShapeRow}
use Rattle.rc_hir.specs.declared.types.HirType.TheVariants as types
use Rattle.rc_hir.specs.declared.types.Shape.TheVariants as shapes
use Rattle.rc_doc.specs.Reading.{◌>>=◌, content, flag_field, named, number_of, only, option_field, or_tagged, tag_of}
use Rattle.rc_doc.specs.Reading.{variant}

-- the shapes without a number, by their names
abbrev pub shape_named : List ℕ → Option Shape
shape_named = named (
    (codes "Array", shapes.Array)
    ∷ (codes "Object", shapes.Object)
    ∷ (codes "Function", shapes.Function)
    ∷ (codes "Jsx", shapes.Jsx)
    ∷ (codes "UseRef", shapes.UseRef)
    ∷ (codes "SetState", shapes.SetState)
    ∷ (codes "SetActionState", shapes.SetActionState)
    ∷ (codes "Dispatch", shapes.Dispatch)
    ∷ (codes "StartTransition", shapes.StartTransition)
    ∷ (codes "SetOptimistic", shapes.SetOptimistic)
    ∷ [])

-- a shape by the number of its row
unfoldable pub shape_row_number_of : Data → Option Shape
shape_row_number_of d = do
  _ ← only (codes "k" ∷ codes "v" ∷ []) d
  name ← tag_of d
  variant ((codes "Row", option_map shapes.Row (content number_of d)) ∷ []) name

-- the shape of an object or of a function
abbrev pub shape_of : Data → Option Shape
shape_of d = or_tagged shape_named shape_row_number_of d

-- the type of an object or of a function, which may have a shape
unfoldable pub shaped_type_of : Data → Option HirType
shaped_type_of d = do
  _ ← only (codes "k" ∷ codes "shape" ∷ []) d
  name ← tag_of d
  shape ← option_field shape_of (codes "shape") d
  named ((codes "Object", types.Object shape) ∷ (codes "Function", types.Function shape) ∷ []) name

-- the type of an identifier
abbrev pub type_of : Data → Option HirType
type_of d = or_tagged (named ((codes "Primitive", types.Primitive) ∷ (codes "Other", types.Other) ∷ [])) shaped_type_of
    d

-- a row of the shapes
unfoldable pub shape_row_of : Data → Option ShapeRow
shape_row_of d = do
  _ ← only (codes "hook" ∷ codes "no_alias" ∷ []) d
  hook ← flag_field (codes "hook") d
  no_alias ← flag_field (codes "no_alias") d
  Some (record { hook = hook; no_alias = no_alias })
