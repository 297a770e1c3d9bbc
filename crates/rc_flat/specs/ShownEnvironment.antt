-- The printing form of an environment, which a document's readers read as that environment again.
use Rattle.std.specs.Prelude.{codes}
use Rattle.serde_json.specs.Data.{Data, boolean, no_members, object, string}
use Rattle.rc_hir.specs.Model.{Config, DeclarationEntry, DependencyPathEntry, Environment, HirType, Identifier}
use Rattle.rc_hir.specs.Model.{IdentifierName, MutableRange, ReactiveScope, ReactiveScopeDeclaration}
use Rattle.rc_hir.specs.Model.{ReactiveScopeDependency, ReactiveScopeEarlyReturn, Shape, ShapeRow}
use Rattle.rc_hir.specs.declared.environment.IdentifierName.TheVariants as names
use Rattle.rc_hir.specs.declared.types.HirType.TheVariants as types
use Rattle.rc_hir.specs.declared.types.Shape.TheVariants as shapes
use Rattle.rc_show.specs.Showing.{◌▸◌, add, add_some, id_data, list_data, number_data, tagged, variant_data}
use Rattle.rc_show.specs.ShownKinds.{add_span}
use Rattle.rc_show.specs.ShownParts.Patterns.{property_literal_data}
use Rattle.rc_flat.specs.ShownGraph.{add_id, function_data}

-- a name in the source, or one that a pass gave
unfoldable pub identifier_name_data : IdentifierName → Data
identifier_name_data (names.Named name) = variant_data (codes "Named") (string name)
identifier_name_data (names.Promoted name) = variant_data (codes "Promoted") (string name)

-- the entry of an identifier
unfoldable pub identifier_data : Identifier → Data
identifier_data x =
    object (no_members ▸ add_id (codes "declaration_id") x.declaration_id
    ▸ add_some identifier_name_data (codes "name") x.name ▸ add_some id_data (codes "scope") x.scope ▸ add_span x.span
    ▸ add_id (codes "type_") x.type_)

-- the shape of an object or of a function
unfoldable pub shape_data : Shape → Data
shape_data shapes.Array = string (codes "Array")
shape_data shapes.Object = string (codes "Object")
shape_data shapes.Function = string (codes "Function")
shape_data shapes.Jsx = string (codes "Jsx")
shape_data shapes.UseRef = string (codes "UseRef")
shape_data shapes.SetState = string (codes "SetState")
shape_data shapes.SetActionState = string (codes "SetActionState")
shape_data shapes.Dispatch = string (codes "Dispatch")
shape_data shapes.StartTransition = string (codes "StartTransition")
shape_data shapes.SetOptimistic = string (codes "SetOptimistic")
shape_data (shapes.Row row) = variant_data (codes "Row") (number_data row)

-- the type of an identifier
unfoldable pub type_data : HirType → Data
type_data types.Primitive = string (codes "Primitive")
type_data (types.Object shape) =
    object (no_members ▸ tagged (codes "Object") ▸ add_some shape_data (codes "shape") shape)
type_data (types.Function shape) =
    object (no_members ▸ tagged (codes "Function") ▸ add_some shape_data (codes "shape") shape)
type_data types.Other = string (codes "Other")

-- a row of the shapes
unfoldable pub shape_row_data : ShapeRow → Data
shape_row_data row =
    object (no_members ▸ add (codes "hook") (boolean row.hook) ▸ add (codes "no_alias") (boolean row.no_alias))

-- the ids from start up to end
unfoldable pub range_data : MutableRange → Data
range_data range = object (no_members ▸ add_id (codes "end") range.end ▸ add_id (codes "start") range.start)

-- a step from a value to one of its properties
unfoldable pub path_entry_data : DependencyPathEntry → Data
path_entry_data x =
    object (no_members ▸ add (codes "optional") (boolean x.optional)
    ▸ add (codes "property") (property_literal_data x.property))

-- a value whose changes make a scope recompute, given as a path from an identifier
unfoldable pub dependency_data : ReactiveScopeDependency → Data
dependency_data x =
    object (no_members ▸ add_id (codes "identifier") x.identifier
    ▸ add (codes "path") (list_data path_entry_data x.path) ▸ add (codes "reactive") (boolean x.reactive)
    ▸ add_span x.span)

-- a value that a scope declares
unfoldable pub declaration_data : ReactiveScopeDeclaration → Data
declaration_data x = object (no_members ▸ add_id (codes "identifier") x.identifier ▸ add_id (codes "scope") x.scope)

-- a declaration under its key
unfoldable pub declaration_entry_data : DeclarationEntry → Data
declaration_entry_data x =
    object (no_members ▸ add_id (codes "key") x.key ▸ add (codes "value") (declaration_data x.value))

-- the sentinel variable that stands for a return inside a scope
unfoldable pub early_return_data : ReactiveScopeEarlyReturn → Data
early_return_data x =
    object (no_members ▸ add_id (codes "label") x.label ▸ add_span x.span ▸ add_id (codes "value") x.value)

-- a part of a function whose values may be kept between renders
unfoldable pub scope_data : ReactiveScope → Data
scope_data x =
    object (no_members ▸ add (codes "declarations") (list_data declaration_entry_data x.declarations)
    ▸ add (codes "dependencies") (list_data dependency_data x.dependencies)
    ▸ add_some early_return_data (codes "early_return_value") x.early_return_value
    ▸ add (codes "merged") (list_data id_data x.merged) ▸ add (codes "range") (range_data x.range)
    ▸ add (codes "reassignments") (list_data id_data x.reassignments))

-- the options that the passes go by
unfoldable pub config_data : Config → Data
config_data x =
    object (no_members ▸ add (codes "enable_forest") (boolean x.enable_forest)
    ▸ add (codes "enable_preserve_existing_memoization_guarantees")
    (boolean x.enable_preserve_existing_memoization_guarantees))

-- the tables, and the next number of a block
unfoldable pub environment_data : Environment → Data
environment_data env =
    object (no_members ▸ add (codes "config") (config_data env.config)
    ▸ add (codes "functions") (list_data function_data env.functions)
    ▸ add (codes "identifiers") (list_data identifier_data env.identifiers)
    ▸ add (codes "next_block") (number_data env.next_block) ▸ add (codes "scopes") (list_data scope_data env.scopes)
    ▸ add (codes "shapes") (list_data shape_row_data env.shapes) ▸ add (codes "types") (list_data type_data env.types))
