-- A function is sent table by table, with its header between.
use Rattle.std.proofs.Common.{◌≡◌, ℕ, List, Option, None, Some, refl, subst}
use Rattle.std.specs.Prelude.{codes}
use Rattle.serde.specs.Event.{Log, Logs, field_key, map_begins, map_ends}
use Rattle.serde.specs.declared.name.Case.TheVariants.{AsIs}
use Rattle.serde_json.specs.Data.{Data, boolean, member, Members, no_members, string}
use Rattle.rc_doc.specs.Places.{param_of, span_of}
use Rattle.rc_doc.specs.Reading.{list_of, text_of}
use Rattle.rc_tree.specs.Model.{ReactiveFunction, ReactiveValue}
use Rattle.rc_show.specs.Sending.{Sends, SendsFields}
use Rattle.rc_show.specs.Showing.{◌▸◌, add, add_some, list_data, IsReadAgain}
use Rattle.rc_show.specs.ShownKinds.{add_span}
use Rattle.rc_show.specs.ShownParts.Places.{span_data}
use Rattle.rc_show.proofs.SendingLemmas.{field_sent, joined, object_sent, one_sent}
use Rattle.rc_flat.proofs.FlatReadsBack.{flat_function_again}
use Rattle.rc_flat.specs.Model.{FlatFunction}
use Rattle.rc_flat.specs.ShownFlat.{flat_function_data, statement_data}
use Rattle.rc_flat.specs.ShownGraph.{param_data}
use Rattle.rc_flat.specs.Tables.{IsFlat}
use Rattle.rc_flat.specs.Values.{ListsValues}
use Rattle.rc_names.specs.declared.span.Span.{Span}
use Rattle.rc_answer.specs.declared.numbering.Numbered.{Numbered}
use Rattle.rc_answer.specs.inside.FunctionSent.{header_fields, IsFunctionSent}
use Rattle.rc_answer.specs.inside.TablesSent.{AreBlocksSent, AreValuesSent}

-- a field before others
first_field_sent : (name : List ℕ) (d : Data) (fields : Members) (old named mid new : Log)
    → Logs old named (field_key name AsIs) → Sends d named mid → SendsFields fields mid new
    → SendsFields (member name d fields) old new
unfolding Sends SendsFields
first_field_sent name d fields old named mid new key sends rest =
    joined _ _ old named new (one_sent _ old named key) (joined _ _ named mid new sends rest)

-- the fields of the header after that of the blocks
module _ (blocks : Data) (func : ReactiveFunction) where
  header : (id name_hint : Option (List ℕ)) (span : Option Span)
      → member (codes "blocks") blocks (header_fields (record func { id = id; name_hint = name_hint; span = span }))
      ≡ (no_members ▸ add (codes "blocks") blocks ▸ add (codes "directives") (list_data string func.directives)
      ▸ add (codes "generator") (boolean func.generator) ▸ add_some string (codes "id") id
      ▸ add (codes "is_async") (boolean func.is_async) ▸ add_some string (codes "name_hint") name_hint
      ▸ add (codes "params") (list_data param_data func.params) ▸ add_span span)
  unfolding add add_some
  header None None None = refl
  header None None (Some s) = refl
  header None (Some n) None = refl
  header None (Some n) (Some s) = refl
  header (Some i) None None = refl
  header (Some i) None (Some s) = refl
  header (Some i) (Some n) None = refl
  header (Some i) (Some n) (Some s) = refl

module _ (func : ReactiveFunction) (values : Numbered ReactiveValue)
    (old begun named mid headed named_values last new : Log) (blocks : AreBlocksSent func.body values named mid) (entries : AreValuesSent values named_values last) where
  abbrev flat : FlatFunction
  flat = record {
    span = func.span;
    id = func.id;
    name_hint = func.name_hint;
    params = func.params;
    generator = func.generator;
    is_async = func.is_async;
    blocks = blocks.blocks;
    values = entries.entries;
    directives = func.directives;
  }

  tables : IsFlat func flat
  tables = record {
    roots = values.waiting;
    blocks = blocks.lists;
    values = subst (λ n. ListsValues n values.waiting entries.entries) blocks.next entries.lists;
    span = refl;
    id = refl;
    name_hint = refl;
    params = refl;
    generator = refl;
    is_async = refl;
    directives = refl;
  }

  pub function_sent : Logs old begun (map_begins None) → Logs begun named (field_key (codes "blocks") AsIs)
      → SendsFields (header_fields func) mid headed → Logs headed named_values (field_key (codes "values") AsIs)
      → Logs last new map_ends → list_of param_of (list_data param_data func.params) ≡ Some func.params
      → list_of text_of (list_data string func.directives) ≡ Some func.directives
      → IsReadAgain span_of span_data func.span → IsFunctionSent func old new
  unfolding flat_function_data
  function_sent begins key_blocks header_sent key_values ends params directives span = record {
    flat = flat;
    tables = tables;
    sends = object_sent _ old begun last new begins
        (field_sent _ _ _ begun headed named_values last
        (subst (λ fields. SendsFields fields begun headed)
        (header (list_data (list_data statement_data) blocks.blocks) func func.id func.name_hint func.span)
        (first_field_sent _ _ _ begun named mid headed key_blocks blocks.sends header_sent)) key_values entries.sends)
        ends;
    again = flat_function_again flat params blocks.again entries.again directives span;
  }
