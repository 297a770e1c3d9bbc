-- Reading the fates of scopes.
use Rattle.std.specs.Prelude.{ℕ, List, [], ◌∷◌, Option, Some, option_map, codes}
use Rattle.serde_json.specs.Data.{Data}
use Rattle.rc_tree.specs.declared.fate.Fate.{Fate}
use Rattle.rc_tree.specs.declared.fate.Fate.TheVariants as fates
use Rattle.rc_tree.specs.declared.fate.ScopeFate.{ScopeFate}
use Rattle.rc_doc.specs.Numbers.{id_of}
use Rattle.rc_doc.specs.Reading.{◌>>=◌, content, field, named, only, or_tagged, tag_of, variant}

-- the fates without a scope, by their names
abbrev pub fate_named : List ℕ → Option Fate
fate_named = named (
    (codes "Kept", fates.Kept)
    ∷ (codes "NotEscaping", fates.NotEscaping)
    ∷ (codes "Unused", fates.Unused)
    ∷ (codes "AlwaysInvalidating", fates.AlwaysInvalidating)
    ∷ [])

-- a fate with the scope that it names
unfoldable pub fate_into_of : Data → Option Fate
fate_into_of d = do
  _ ← only (codes "k" ∷ codes "v" ∷ []) d
  name ← tag_of d
  variant (
      (codes "MergedInto", option_map fates.MergedInto (content id_of d))
      ∷ (codes "DissolvedInto", option_map fates.DissolvedInto (content id_of d))
      ∷ []) name

-- the fate of a scope
abbrev pub fate_of : Data → Option Fate
fate_of d = or_tagged fate_named fate_into_of d

-- a scope with its fate
unfoldable pub scope_fate_of : Data → Option ScopeFate
scope_fate_of d = do
  _ ← only (codes "fate" ∷ codes "scope" ∷ []) d
  scope ← field id_of (codes "scope") d
  fate ← field fate_of (codes "fate") d
  Some (record { scope = scope; fate = fate })
