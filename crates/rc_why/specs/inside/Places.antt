-- Where each of some scopes is in their list.
use Rattle.std.specs.Prelude.{◌≡◌, ℕ, Contains, List, Option, None, Some, slice_get}
use Rattle.std.specs.Map.{lookup}
use Rattle.rc_names.specs.Numbers.{ScopeId, same_id}

-- a place of the scope in the list; where there is none, the scope isn't among the first ones of the list
abbrev pub IsPlaceOf : List ScopeId → List ScopeId → ScopeId → Option ℕ → Type 0
IsPlaceOf scopes first scope None = ¬ Contains first scope
IsPlaceOf scopes first scope (Some place) = slice_get scopes place ≡ Some scope

-- the map has a place in the list for each of its first scopes
abbrev pub HasPlaces : List ScopeId → List ScopeId → List (ScopeId × ℕ) → Type 0
HasPlaces scopes first places = (scope : ScopeId) → IsPlaceOf scopes first scope (lookup (same_id scope) places)

-- the map has a place for each of the scopes, and for no other
abbrev pub ArePlaces : List ScopeId → List (ScopeId × ℕ) → Type 0
ArePlaces scopes = HasPlaces scopes scopes
