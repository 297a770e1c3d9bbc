-- The printing form of an environment reads as that environment again, if that of its parts does.
use Rattle.std.proofs.Common.{ℕ, Bool, List, Option, None, Some, refl}
use Rattle.rc_names.specs.declared.span.Span.{Span}
use Rattle.rc_names.specs.Numbers.{BlockId, DeclarationId, EvaluationOrder, IdentifierId, ScopeId, TypeId}
use Rattle.rc_hir.specs.Model.{DeclarationEntry, DependencyPathEntry, Environment, IdentifierName, MutableRange}
use Rattle.rc_hir.specs.Model.{PropertyLiteral, ReactiveScopeDeclaration, ReactiveScopeDependency}
use Rattle.rc_hir.specs.Model.{ReactiveScopeEarlyReturn, Shape}
use Rattle.rc_hir.specs.declared.environment.IdentifierName.TheVariants as names
use Rattle.rc_hir.specs.declared.types.HirType.TheVariants as types
use Rattle.rc_hir.specs.declared.types.Shape.TheVariants as shapes
use Rattle.rc_doc.specs.Environment.{config_of, environment_of, identifier_name_of, identifier_of}
use Rattle.rc_doc.specs.Environment.Scopes.{declaration_entry_of, declaration_of, dependency_of, early_return_of}
use Rattle.rc_doc.specs.Environment.Scopes.{path_entry_of, range_of, scope_of}
use Rattle.rc_doc.specs.Environment.Types.{shape_of, shape_row_number_of, shape_row_of, shaped_type_of, type_of}
use Rattle.rc_doc.specs.Graph.{function_of}
use Rattle.rc_doc.specs.Numbers.{id_of}
use Rattle.rc_doc.specs.Patterns.{property_literal_of}
use Rattle.rc_doc.specs.Places.{span_of}
use Rattle.rc_doc.specs.Reading.{list_of, number_of, table_of}
use Rattle.rc_show.specs.Showing.{add, add_some, id_data, list_data, number_data, IsReadAgain}
use Rattle.rc_show.specs.ShownParts.Patterns.{property_literal_data}
use Rattle.rc_show.specs.ShownParts.Places.{span_data}
use Rattle.rc_flat.proofs.Again.{if_there, IsAgain}
use Rattle.rc_flat.proofs.NeverNull.{no_null_early_return, no_null_identifier_name, no_null_shape}
use Rattle.rc_flat.specs.ShownEnvironment.{config_data, declaration_data, declaration_entry_data, dependency_data}
use Rattle.rc_flat.specs.ShownEnvironment.{early_return_data, environment_data, identifier_data, identifier_name_data}
use Rattle.rc_flat.specs.ShownEnvironment.{path_entry_data, range_data, scope_data, shape_data, shape_row_data, type_data}
use Rattle.rc_flat.specs.ShownGraph.{function_data}

pub identifier_name_again-Named : (name : List ℕ) → IsAgain identifier_name_of identifier_name_data (names.Named name)
unfolding identifier_name_of identifier_name_data add add_some
identifier_name_again-Named name = refl

pub identifier_name_again-Promoted : (name : List ℕ)
    → IsAgain identifier_name_of identifier_name_data (names.Promoted name)
unfolding identifier_name_of identifier_name_data add add_some
identifier_name_again-Promoted name = refl

pub ruleset identifier_name_again = (identifier_name_again-Named, identifier_name_again-Promoted)

pub identifier_again : (declaration_id : DeclarationId) (name : Option IdentifierName) (scope : Option ScopeId)
    (type_ : TypeId) (span : Option Span) → IsAgain id_of id_data declaration_id
    → IsReadAgain identifier_name_of identifier_name_data name → IsReadAgain id_of id_data scope
    → IsAgain id_of id_data type_ → IsReadAgain span_of span_data span
    → IsAgain identifier_of identifier_data (record { declaration_id = declaration_id; name = name; scope = scope; type_ = type_; span = span })
unfolding identifier_of identifier_data add add_some
identifier_again declaration_id None None type_ None h g k m p = rw (h, m) refl
identifier_again declaration_id None None type_ (Some span) h g k m p = rw (h, m, p) refl
identifier_again declaration_id None (Some scope) type_ None h g k m p = rw (h, k, m) refl
identifier_again declaration_id None (Some scope) type_ (Some span) h g k m p = rw (h, k, m, p) refl
identifier_again declaration_id (Some name) None type_ None h g k m p =
    rw (h, if_there identifier_name_of identifier_name_data name (no_null_identifier_name name) g, m) refl
identifier_again declaration_id (Some name) None type_ (Some span) h g k m p =
    rw (h, if_there identifier_name_of identifier_name_data name (no_null_identifier_name name) g, m, p) refl
identifier_again declaration_id (Some name) (Some scope) type_ None h g k m p =
    rw (h, if_there identifier_name_of identifier_name_data name (no_null_identifier_name name) g, k, m) refl
identifier_again declaration_id (Some name) (Some scope) type_ (Some span) h g k m p =
    rw (h, if_there identifier_name_of identifier_name_data name (no_null_identifier_name name) g, k, m, p) refl

-- a number of a row, where the shape has one
abbrev pub IsRowAgain : Shape → Type 0
IsRowAgain (shapes.Row row) = IsAgain number_of number_data row
IsRowAgain _ = Unit {0}

pub shape_again : (x : Shape) → IsRowAgain x → IsAgain shape_of shape_data x
unfolding shape_row_number_of shape_data add
shape_again shapes.Array h = refl
shape_again shapes.Object h = refl
shape_again shapes.Function h = refl
shape_again shapes.Jsx h = refl
shape_again shapes.UseRef h = refl
shape_again shapes.SetState h = refl
shape_again shapes.SetActionState h = refl
shape_again shapes.Dispatch h = refl
shape_again shapes.StartTransition h = refl
shape_again shapes.SetOptimistic h = refl
shape_again (shapes.Row row) h = rw h refl

pub type_again-Primitive : IsAgain type_of type_data types.Primitive
unfolding shaped_type_of type_data
type_again-Primitive = refl

pub type_again-Object : (shape : Option Shape) → IsReadAgain shape_of shape_data shape
    → IsAgain type_of type_data (types.Object shape)
unfolding shaped_type_of type_data add add_some
type_again-Object None h = refl
type_again-Object (Some shape) h = rw (if_there shape_of shape_data shape (no_null_shape shape) h) refl

pub type_again-Function : (shape : Option Shape) → IsReadAgain shape_of shape_data shape
    → IsAgain type_of type_data (types.Function shape)
unfolding shaped_type_of type_data add add_some
type_again-Function None h = refl
type_again-Function (Some shape) h = rw (if_there shape_of shape_data shape (no_null_shape shape) h) refl

pub type_again-Other : IsAgain type_of type_data types.Other
unfolding shaped_type_of type_data
type_again-Other = refl

pub ruleset type_again = (type_again-Primitive, type_again-Object, type_again-Function, type_again-Other)

pub shape_row_again : (hook no_alias : Bool)
    → IsAgain shape_row_of shape_row_data (record { hook = hook; no_alias = no_alias })
unfolding shape_row_of shape_row_data add add_some
shape_row_again hook no_alias = refl

pub range_again : (start end : EvaluationOrder) → IsAgain id_of id_data start → IsAgain id_of id_data end
    → IsAgain range_of range_data (record { start = start; end = end })
unfolding range_of range_data add add_some
range_again start end h g = rw (h, g) refl

pub path_entry_again : (property : PropertyLiteral) (optional : Bool)
    → IsAgain property_literal_of property_literal_data property
    → IsAgain path_entry_of path_entry_data (record { property = property; optional = optional })
unfolding path_entry_of path_entry_data add add_some
path_entry_again property optional h = rw h refl

pub dependency_again : (identifier : IdentifierId) (reactive : Bool) (path : List DependencyPathEntry)
    (span : Option Span) → IsAgain id_of id_data identifier
    → IsAgain (list_of path_entry_of) (list_data path_entry_data) path → IsReadAgain span_of span_data span
    → IsAgain dependency_of dependency_data (record { identifier = identifier; reactive = reactive; path = path; span = span })
unfolding dependency_of dependency_data add add_some
dependency_again identifier reactive path None h g k = rw (h, g) refl
dependency_again identifier reactive path (Some span) h g k = rw (h, g, k) refl

pub declaration_again : (identifier : IdentifierId) (scope : ScopeId) → IsAgain id_of id_data identifier
    → IsAgain id_of id_data scope
    → IsAgain declaration_of declaration_data (record { identifier = identifier; scope = scope })
unfolding declaration_of declaration_data add add_some
declaration_again identifier scope h g = rw (h, g) refl

pub declaration_entry_again : (key : IdentifierId) (value : ReactiveScopeDeclaration) → IsAgain id_of id_data key
    → IsAgain declaration_of declaration_data value
    → IsAgain declaration_entry_of declaration_entry_data (record { key = key; value = value })
unfolding declaration_entry_of declaration_entry_data add add_some
declaration_entry_again key value h g = rw (h, g) refl

pub early_return_again : (value : IdentifierId) (span : Option Span) (label : BlockId) → IsAgain id_of id_data value
    → IsReadAgain span_of span_data span → IsAgain id_of id_data label
    → IsAgain early_return_of early_return_data (record { value = value; span = span; label = label })
unfolding early_return_of early_return_data add add_some
early_return_again value None label h g k = rw (h, k) refl
early_return_again value (Some span) label h g k = rw (h, g, k) refl

pub scope_again : (range : MutableRange) (dependencies : List ReactiveScopeDependency)
    (declarations : List DeclarationEntry) (reassignments : List IdentifierId)
    (early_return_value : Option ReactiveScopeEarlyReturn) (merged : List ScopeId) → IsAgain range_of range_data range
    → IsAgain (list_of dependency_of) (list_data dependency_data) dependencies
    → IsAgain (list_of declaration_entry_of) (list_data declaration_entry_data) declarations
    → IsAgain (list_of id_of) (list_data id_data) reassignments
    → IsReadAgain early_return_of early_return_data early_return_value
    → IsAgain (list_of id_of) (list_data id_data) merged
    → IsAgain scope_of scope_data (record { range = range; dependencies = dependencies; declarations = declarations; reassignments = reassignments; early_return_value = early_return_value; merged = merged })
unfolding scope_of scope_data add add_some
scope_again range dependencies declarations reassignments None merged h g k m p q = rw (h, g, k, m, q) refl
scope_again range dependencies declarations reassignments (Some early_return_value) merged h g k m p q =
    rw (
      h,
      g,
      k,
      m,
      if_there early_return_of early_return_data early_return_value (no_null_early_return early_return_value) p,
      q,
    ) refl

pub config_again : (enable_forest enable_preserve_existing_memoization_guarantees : Bool)
    → IsAgain config_of config_data (record { enable_forest = enable_forest; enable_preserve_existing_memoization_guarantees = enable_preserve_existing_memoization_guarantees })
unfolding config_of config_data add add_some
config_again enable_forest enable_preserve_existing_memoization_guarantees = refl

pub environment_again : (x : Environment) → IsAgain (table_of identifier_of) (list_data identifier_data) x.identifiers
    → IsAgain (table_of type_of) (list_data type_data) x.types
    → IsAgain (table_of scope_of) (list_data scope_data) x.scopes
    → IsAgain (table_of function_of) (list_data function_data) x.functions
    → IsAgain (list_of shape_row_of) (list_data shape_row_data) x.shapes → IsAgain config_of config_data x.config
    → IsAgain number_of number_data x.next_block → IsAgain environment_of environment_data x
unfolding environment_of environment_data add add_some
environment_again x i t s f r c n = rw (i, t, s, f, r, c, n) refl
