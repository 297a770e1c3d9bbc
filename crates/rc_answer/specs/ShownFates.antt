-- The printing form of the fates of scopes.
use Rattle.std.specs.Prelude.{codes}
use Rattle.serde_json.specs.Data.{Data, no_members, object, string}
use Rattle.rc_tree.specs.declared.fate.Fate.{Fate}
use Rattle.rc_tree.specs.declared.fate.Fate.TheVariants as fates
use Rattle.rc_tree.specs.declared.fate.ScopeFate.{ScopeFate}
use Rattle.rc_show.specs.Showing.{◌▸◌, add, id_data, variant_data}
use Rattle.rc_flat.specs.ShownGraph.{add_id}

-- the fate of a scope; a merged or dissolved one has the number of the scope that it became part of
unfoldable pub fate_data : Fate → Data
fate_data fates.Kept = string (codes "Kept")
fate_data fates.NotEscaping = string (codes "NotEscaping")
fate_data fates.Unused = string (codes "Unused")
fate_data (fates.MergedInto scope) = variant_data (codes "MergedInto") (id_data scope)
fate_data (fates.DissolvedInto scope) = variant_data (codes "DissolvedInto") (id_data scope)
fate_data fates.AlwaysInvalidating = string (codes "AlwaysInvalidating")

-- a scope with its fate
unfoldable pub scope_fate_data : ScopeFate → Data
scope_fate_data x = object (no_members ▸ add (codes "fate") (fate_data x.fate) ▸ add_id (codes "scope") x.scope)
