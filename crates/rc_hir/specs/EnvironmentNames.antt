-- The numbers in the environment, those of its functions left out, each with the table that it indexes.
use Rattle.std.specs.Prelude.{List, [], ◌∷◌, ◌++◌}
use Rattle.std.specs.List.{flat_map}
use Rattle.rc_names.specs.Numbers.{DeclarationId, TypeId}
use Rattle.rc_hir.specs.PartNames.{Name, identifier_name, names_if, scope_name}
use Rattle.rc_hir.specs.declared.fault.TableName.TheVariants.{Declarations, Types, Shapes}
use Rattle.rc_hir.specs.Model.{HirType, Shape, DeclarationEntry, ReactiveScope, ReactiveScopeDependency}
use Rattle.rc_hir.specs.Model.{ReactiveScopeEarlyReturn, Identifier, Environment}
use Rattle.rc_hir.specs.declared.types.HirType.TheVariants as types
use Rattle.rc_hir.specs.declared.types.Shape.TheVariants as shapes

-- a declaration's number
abbrev pub declaration_name : DeclarationId → List Name
declaration_name id = (Declarations, id.0) ∷ []

-- a type's number
abbrev pub type_name : TypeId → List Name
type_name id = (Types, id.0) ∷ []

-- the numbers in the entry of an identifier
abbrev pub identifier_names : Identifier → List Name
identifier_names identifier =
    declaration_name identifier.declaration_id ++ (names_if scope_name identifier.scope ++ type_name identifier.type_)

-- the number in a shape
abbrev pub shape_names : Shape → List Name
shape_names (shapes.Row row) = (Shapes, row) ∷ []
shape_names _ = []

-- the number in a type
abbrev pub type_names : HirType → List Name
type_names (types.Object known) = names_if shape_names known
type_names (types.Function known) = names_if shape_names known
type_names _ = []

-- the number in a dependency of a scope
abbrev pub dependency_names : ReactiveScopeDependency → List Name
dependency_names dependency = identifier_name dependency.identifier

-- the numbers in a declaration of a scope
abbrev pub declaration_names : DeclarationEntry → List Name
declaration_names entry =
    identifier_name entry.key ++ (identifier_name entry.value.identifier ++ scope_name entry.value.scope)

-- the number in the early return of a scope
abbrev pub early_return_names : ReactiveScopeEarlyReturn → List Name
early_return_names early = identifier_name early.value

-- the numbers in a scope
abbrev pub scope_names : ReactiveScope → List Name
scope_names scope =
    (flat_map dependency_names scope.dependencies ++ flat_map declaration_names scope.declarations)
    ++ (flat_map identifier_name scope.reassignments
    ++ (names_if early_return_names scope.early_return_value ++ flat_map scope_name scope.merged))

-- the numbers in the environment, those of its functions left out
abbrev pub environment_names : Environment → List Name
environment_names env =
    flat_map identifier_names env.identifiers ++ (flat_map type_names env.types ++ flat_map scope_names env.scopes)
