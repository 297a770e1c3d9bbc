-- A function is sent as two tables.
use Rattle.std.specs.Prelude.{◌≡◌, Some, codes}
use Rattle.serde.specs.Event.{Log}
use Rattle.serde_json.specs.Data.{boolean, Members, no_members, string}
use Rattle.rc_tree.specs.Model.{ReactiveFunction}
use Rattle.rc_show.specs.Sending.{Sends}
use Rattle.rc_show.specs.Showing.{◌▸◌, add, add_some, list_data}
use Rattle.rc_show.specs.ShownKinds.{add_span}
use Rattle.rc_flat.specs.Model.{FlatFunction}
use Rattle.rc_flat.specs.ReadingFlat.{flat_function_of}
use Rattle.rc_flat.specs.ShownFlat.{flat_function_data}
use Rattle.rc_flat.specs.ShownGraph.{param_data}
use Rattle.rc_flat.specs.Tables.{IsFlat}

-- the fields between the two tables
abbrev pub header_fields : ReactiveFunction → Members
header_fields func =
    no_members ▸ add (codes "directives") (list_data string func.directives)
    ▸ add (codes "generator") (boolean func.generator) ▸ add_some string (codes "id") func.id
    ▸ add (codes "is_async") (boolean func.is_async) ▸ add_some string (codes "name_hint") func.name_hint
    ▸ add (codes "params") (list_data param_data func.params) ▸ add_span func.span

-- the function is sent as its tables, which read as these again
pub record IsFunctionSent (func : ReactiveFunction) (old new : Log) : Type 0 where
  pub flat : FlatFunction
  pub tables : IsFlat func flat
  pub sends : Sends (flat_function_data flat) old new
  pub again : flat_function_of (flat_function_data flat) ≡ Some flat
