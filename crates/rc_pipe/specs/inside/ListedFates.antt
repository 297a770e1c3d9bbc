-- The scopes that are listed, and what was decided of them.
use Rattle.std.specs.Prelude.{ℕ, List, Option, None, Some, map}
use Rattle.std.specs.Map.{lookup}
use Rattle.indexmap.specs.IndexMap.{insert_entry}
use Rattle.rc_names.specs.Numbers.{ScopeId, same_id, to_id}
use Rattle.rc_tree.specs.declared.fate.Fate.{Fate}
use Rattle.rc_tree.specs.declared.fate.ScopeFate.{ScopeFate}

-- the scopes of these numbers
abbrev pub scopes_of : List ℕ → List ScopeId
scopes_of numbers = map to_id numbers

-- the fate that was decided for a scope, or the given one if none was
abbrev pub decided_or : Option Fate → Fate → Fate
decided_or None other = other
decided_or (Some fate) other = fate

-- the first decision on each scope so far, and one more entry
abbrev pub noted_if : Option Fate → List (ScopeId × Fate) → ScopeFate → List (ScopeId × Fate)
noted_if None decided entry = insert_entry same_id decided entry.scope entry.fate
noted_if (Some fate) decided entry = decided

abbrev pub noted : List (ScopeId × Fate) → ScopeFate → List (ScopeId × Fate)
noted decided entry = noted_if (lookup (same_id entry.scope) decided) decided entry
