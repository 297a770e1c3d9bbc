-- The printing form of an environment has plain numbers, and keys in byte order.
use Rattle.std.proofs.Common.{Option, None, Some, refl}
use Rattle.rc_names.specs.declared.span.Span.{Span}
use Rattle.rc_names.specs.Numbers.{ScopeId}
use Rattle.rc_hir.specs.Model.{Config, DeclarationEntry, DependencyPathEntry, Environment, HirType, Identifier}
use Rattle.rc_hir.specs.Model.{IdentifierName, MutableRange, ReactiveScope, ReactiveScopeDeclaration}
use Rattle.rc_hir.specs.Model.{ReactiveScopeDependency, ReactiveScopeEarlyReturn, Shape, ShapeRow}
use Rattle.rc_hir.specs.declared.environment.IdentifierName.TheVariants as names
use Rattle.rc_hir.specs.declared.types.HirType.TheVariants as types
use Rattle.rc_hir.specs.declared.types.Shape.TheVariants as shapes
use Rattle.rc_show.proofs.PlainForms.{plain_list, plain_property_literal, IsPlain}
use Rattle.rc_show.specs.Showing.{add, add_some, id_data}
use Rattle.rc_flat.specs.ShownEnvironment.{config_data, declaration_data, declaration_entry_data, dependency_data}
use Rattle.rc_flat.specs.ShownEnvironment.{early_return_data, environment_data, identifier_data, identifier_name_data}
use Rattle.rc_flat.specs.ShownEnvironment.{path_entry_data, range_data, scope_data, shape_data, shape_row_data}
use Rattle.rc_flat.specs.ShownEnvironment.{type_data}
use Rattle.rc_flat.specs.ShownGraph.{function_data}
use Rattle.rc_answer.proofs.PlainGraphs.{plain_function, plain_id}

plain_identifier_name : (x : IdentifierName) → IsPlain identifier_name_data x
unfolding identifier_name_data add add_some
plain_identifier_name (names.Named name) = refl
plain_identifier_name (names.Promoted name) = refl

identifier_with : (x : Identifier) (name : Option IdentifierName) (scope : Option ScopeId) (span : Option Span)
    → IsPlain identifier_data (record x { name = name; scope = scope; span = span })
unfolding identifier_data add add_some
identifier_with x None None None = refl
identifier_with x None None (Some span) = refl
identifier_with x None (Some scope) None = refl
identifier_with x None (Some scope) (Some span) = refl
identifier_with x (Some name) None None = rw (plain_identifier_name name) refl
identifier_with x (Some name) None (Some span) = rw (plain_identifier_name name) refl
identifier_with x (Some name) (Some scope) None = rw (plain_identifier_name name) refl
identifier_with x (Some name) (Some scope) (Some span) = rw (plain_identifier_name name) refl

plain_identifier : (x : Identifier) → IsPlain identifier_data x
plain_identifier x = identifier_with x x.name x.scope x.span

plain_shape : (x : Shape) → IsPlain shape_data x
unfolding shape_data add add_some
plain_shape shapes.Array = refl
plain_shape shapes.Object = refl
plain_shape shapes.Function = refl
plain_shape shapes.Jsx = refl
plain_shape shapes.UseRef = refl
plain_shape shapes.SetState = refl
plain_shape shapes.SetActionState = refl
plain_shape shapes.Dispatch = refl
plain_shape shapes.StartTransition = refl
plain_shape shapes.SetOptimistic = refl
plain_shape (shapes.Row row) = refl

plain_type : (x : HirType) → IsPlain type_data x
unfolding type_data add add_some
plain_type types.Primitive = refl
plain_type (types.Object None) = refl
plain_type (types.Object (Some shape)) = rw (plain_shape shape) refl
plain_type (types.Function None) = refl
plain_type (types.Function (Some shape)) = rw (plain_shape shape) refl
plain_type types.Other = refl

plain_shape_row : (x : ShapeRow) → IsPlain shape_row_data x
unfolding shape_row_data add add_some
plain_shape_row x = refl

plain_range : (x : MutableRange) → IsPlain range_data x
unfolding range_data add add_some
plain_range x = refl

plain_path_entry : (x : DependencyPathEntry) → IsPlain path_entry_data x
unfolding path_entry_data add add_some
plain_path_entry x = rw (plain_property_literal x.property) refl

dependency_with : (x : ReactiveScopeDependency) (span : Option Span)
    → IsPlain dependency_data (record x { span = span })
unfolding dependency_data add add_some
dependency_with x None = rw (plain_list path_entry_data plain_path_entry x.path) refl
dependency_with x (Some span) = rw (plain_list path_entry_data plain_path_entry x.path) refl

plain_dependency : (x : ReactiveScopeDependency) → IsPlain dependency_data x
plain_dependency x = dependency_with x x.span

plain_declaration : (x : ReactiveScopeDeclaration) → IsPlain declaration_data x
unfolding declaration_data add add_some
plain_declaration x = refl

plain_declaration_entry : (x : DeclarationEntry) → IsPlain declaration_entry_data x
unfolding declaration_entry_data add add_some
plain_declaration_entry x = rw (plain_declaration x.value) refl

early_return_with : (x : ReactiveScopeEarlyReturn) (span : Option Span)
    → IsPlain early_return_data (record x { span = span })
unfolding early_return_data add add_some
early_return_with x None = refl
early_return_with x (Some span) = refl

plain_early_return : (x : ReactiveScopeEarlyReturn) → IsPlain early_return_data x
plain_early_return x = early_return_with x x.span

scope_with : (x : ReactiveScope) (early_return_value : Option ReactiveScopeEarlyReturn)
    → IsPlain scope_data (record x { early_return_value = early_return_value })
unfolding scope_data add add_some
scope_with x None =
    rw (
      plain_list declaration_entry_data plain_declaration_entry x.declarations,
      plain_list dependency_data plain_dependency x.dependencies,
      plain_list id_data plain_id x.merged,
      plain_range x.range,
      plain_list id_data plain_id x.reassignments,
    ) refl
scope_with x (Some early_return_value) =
    rw (
      plain_list declaration_entry_data plain_declaration_entry x.declarations,
      plain_list dependency_data plain_dependency x.dependencies,
      plain_list id_data plain_id x.merged,
      plain_range x.range,
      plain_list id_data plain_id x.reassignments,
      plain_early_return early_return_value,
    ) refl

plain_scope : (x : ReactiveScope) → IsPlain scope_data x
plain_scope x = scope_with x x.early_return_value

plain_config : (x : Config) → IsPlain config_data x
unfolding config_data add add_some
plain_config x = refl

pub plain_environment : (x : Environment) → IsPlain environment_data x
unfolding environment_data add add_some
plain_environment x =
    rw (
      plain_config x.config,
      plain_list function_data plain_function x.functions,
      plain_list identifier_data plain_identifier x.identifiers,
      plain_list scope_data plain_scope x.scopes,
      plain_list shape_row_data plain_shape_row x.shapes,
      plain_list type_data plain_type x.types,
    ) refl
