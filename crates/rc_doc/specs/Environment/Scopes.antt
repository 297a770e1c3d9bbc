-- Reactive scopes with what they depend on and what they declare.
use Rattle.std.specs.Prelude.{[], ◌∷◌, Option, Some, codes}
use Rattle.serde_json.specs.Data.{Data}
use Rattle.rc_hir.specs.Model.{DeclarationEntry, DependencyPathEntry, MutableRange, ReactiveScope}
use Rattle.rc_hir.specs.Model.{ReactiveScopeDeclaration, ReactiveScopeDependency, ReactiveScopeEarlyReturn}
use Rattle.rc_doc.specs.Numbers.{id_of}
use Rattle.rc_doc.specs.Patterns.{property_literal_of}
use Rattle.rc_doc.specs.Places.{span_of}
use Rattle.rc_doc.specs.Reading.{◌>>=◌, field, flag_field, list_field, only, option_field}

-- the ids from start up to end
unfoldable pub range_of : Data → Option MutableRange
range_of d = do
  _ ← only (codes "end" ∷ codes "start" ∷ []) d
  start ← field id_of (codes "start") d
  end ← field id_of (codes "end") d
  Some (record { start = start; end = end })

-- a step from a value to one of its properties
unfoldable pub path_entry_of : Data → Option DependencyPathEntry
path_entry_of d = do
  _ ← only (codes "optional" ∷ codes "property" ∷ []) d
  property ← field property_literal_of (codes "property") d
  optional ← flag_field (codes "optional") d
  Some (record { property = property; optional = optional })

-- a value whose changes make a scope recompute, given as a path from an identifier
unfoldable pub dependency_of : Data → Option ReactiveScopeDependency
dependency_of d = do
  _ ← only (codes "identifier" ∷ codes "path" ∷ codes "reactive" ∷ codes "span" ∷ []) d
  identifier ← field id_of (codes "identifier") d
  reactive ← flag_field (codes "reactive") d
  path ← list_field path_entry_of (codes "path") d
  span ← option_field span_of (codes "span") d
  Some (record { identifier = identifier; reactive = reactive; path = path; span = span })

-- a value that a scope declares
unfoldable pub declaration_of : Data → Option ReactiveScopeDeclaration
declaration_of d = do
  _ ← only (codes "identifier" ∷ codes "scope" ∷ []) d
  identifier ← field id_of (codes "identifier") d
  scope ← field id_of (codes "scope") d
  Some (record { identifier = identifier; scope = scope })

-- a declaration under its key
unfoldable pub declaration_entry_of : Data → Option DeclarationEntry
declaration_entry_of d = do
  _ ← only (codes "key" ∷ codes "value" ∷ []) d
  key ← field id_of (codes "key") d
  value ← field declaration_of (codes "value") d
  Some (record { key = key; value = value })

-- the sentinel variable that stands for a return inside a scope
unfoldable pub early_return_of : Data → Option ReactiveScopeEarlyReturn
early_return_of d = do
  _ ← only (codes "label" ∷ codes "span" ∷ codes "value" ∷ []) d
  value ← field id_of (codes "value") d
  span ← option_field span_of (codes "span") d
  label ← field id_of (codes "label") d
  Some (record { value = value; span = span; label = label })

-- a part of a function whose values may be kept between renders
unfoldable pub scope_of : Data → Option ReactiveScope
scope_of d = do
  _ ← only (codes "declarations" ∷ codes "dependencies" ∷ codes "early_return_value" ∷ codes "merged" ∷ codes "range" ∷
      codes "reassignments" ∷ []) d
  range ← field range_of (codes "range") d
  dependencies ← list_field dependency_of (codes "dependencies") d
  declarations ← list_field declaration_entry_of (codes "declarations") d
  reassignments ← list_field id_of (codes "reassignments") d
  early_return_value ← option_field early_return_of (codes "early_return_value") d
  merged ← list_field id_of (codes "merged") d
  Some (record {
    range = range;
    dependencies = dependencies;
    declarations = declarations;
    reassignments = reassignments;
    early_return_value = early_return_value;
    merged = merged;
  })
