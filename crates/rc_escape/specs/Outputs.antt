-- The outputs of scopes, and which scope blocks give way.
--
-- The outputs of a scope are the names that it declares and those that it reassigns. Its block gives way where it has
-- an output, none of them is memoized, and no early return is set.
use Rattle.std.specs.Prelude.{◌&&◌, not, Bool, true, false, List, [], ◌∷◌, ◌++◌, map, is_none, slice_get}
use Rattle.std.specs.List.{filter, list_any}
use Rattle.std.specs.Option.{option_map_or}
use Rattle.rc_hir.specs.Model.{Environment, ReactiveScope}
use Rattle.rc_names.specs.Numbers.{DeclarationId, ScopeId, is_among}
use Rattle.rc_tree.specs.declared.fate.Fate.TheVariants.{NotEscaping}
use Rattle.rc_tree.specs.declared.fate.ScopeFate.{ScopeFate}
use Rattle.rc_hir.specs.Environment.{declaration_of}

-- a scope whose block gives way, with its fate
abbrev pub not_escaping : ScopeId → ScopeFate
not_escaping scope = record { scope = scope; fate = NotEscaping }

-- there is an output
abbrev pub has_output : List DeclarationId → Bool
has_output [] = false
has_output (name ∷ names) = true

module _ (env : Environment) where
  -- the outputs of a scope: the names that it declares, and then those that it reassigns
  abbrev pub outputs_of : ReactiveScope → List DeclarationId
  outputs_of scope = map (λ entry. declaration_of env entry.value.identifier) scope.declarations
      ++ map (declaration_of env) scope.reassignments

  -- the outputs of the scope of a number; one outside the table has none
  abbrev pub outputs : ScopeId → List DeclarationId
  outputs number = option_map_or outputs_of (slice_get env.scopes number.0) []

  -- the block of the scope gives way, where these names are memoized
  abbrev pub gives_way : List DeclarationId → ReactiveScope → Bool
  gives_way set scope = is_none scope.early_return_value
      && (has_output (outputs_of scope) && not (list_any (is_among set) (outputs_of scope)))

  -- the same by the scope's number; a block whose scope is outside the table stays
  abbrev pub is_dissolved : List DeclarationId → ScopeId → Bool
  is_dissolved set number = option_map_or (gives_way set) (slice_get env.scopes number.0) false

  -- of these scopes, those whose blocks stay
  abbrev pub staying_scopes : List DeclarationId → List ScopeId → List ScopeId
  staying_scopes set scopes = filter (λ scope. not (is_dissolved set scope)) scopes

  -- the others, with their fate
  abbrev pub dissolved_fates : List DeclarationId → List ScopeId → List ScopeFate
  dissolved_fates set scopes = map not_escaping (filter (is_dissolved set) scopes)
