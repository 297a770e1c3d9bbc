-- The printing form of rows, blocks, graphs and functions reads as those again, if that of their parts does.
use Rattle.std.proofs.Common.{◌≡◌, ℕ, Bool, true, false, List, Option, None, Some, refl, sym, ap}
use Rattle.std.specs.Prelude.{◌==◌}
use Rattle.serde_json.specs.Data.{string}
use Rattle.rc_names.proofs.NumbersLemmas.{same_id-eq}
use Rattle.rc_names.specs.declared.span.Span.{Span}
use Rattle.rc_names.specs.Numbers.{BlockId, EvaluationOrder}
use Rattle.rc_hir.specs.Model.{BasicBlock, Hir, HirFunction, InstructionValue, Place, SpreadPattern}
use Rattle.rc_hir.specs.declared.place.ParamPattern.TheVariants as params
use Rattle.rc_doc.specs.Graph.{are_distinct, block_of, blocks_of, function_of, hir_of, instruction_of, keyed_block_of}
use Rattle.rc_doc.specs.Kinds.{instruction_value_of}
use Rattle.rc_doc.specs.Numbers.{id_of}
use Rattle.rc_doc.specs.Places.{param_of, place_of, span_of, spread_of}
use Rattle.rc_doc.specs.Reading.{list_of, text_of}
use Rattle.rc_doc.specs.Terminals.{terminal_of}
use Rattle.rc_show.specs.Showing.{add, add_some, id_data, list_data, IsReadAgain}
use Rattle.rc_show.specs.ShownKinds.{value_data}
use Rattle.rc_show.specs.ShownParts.Places.{place_data, span_data, spread_data}
use Rattle.rc_flat.proofs.Again.{IsAgain}
use Rattle.rc_flat.specs.ShownGraph.{function_data, hir_data, instruction_data, keyed_block_data, param_data}
use Rattle.rc_flat.specs.ShownGraph.{terminal_data}

pub param_again-Place : (place : Place) → IsAgain place_of place_data place
    → IsAgain param_of param_data (params.Place place)
unfolding param_of param_data add add_some
param_again-Place place h = rw h refl

pub param_again-Spread : (spread : SpreadPattern) → IsAgain spread_of spread_data spread
    → IsAgain param_of param_data (params.Spread spread)
unfolding param_of param_data add add_some
param_again-Spread spread h = rw h refl

pub ruleset param_again = (param_again-Place, param_again-Spread)

pub instruction_again : (id : EvaluationOrder) (lvalue : Place) (value : InstructionValue) (span : Option Span)
    → IsAgain id_of id_data id → IsAgain place_of place_data lvalue → IsAgain instruction_value_of value_data value
    → IsReadAgain span_of span_data span
    → IsAgain instruction_of instruction_data (record { id = id; lvalue = lvalue; value = value; span = span })
unfolding instruction_of instruction_data add add_some
instruction_again id lvalue value None h g k m = rw (h, g, k) refl
instruction_again id lvalue value (Some span) h g k m = rw (h, g, k, m) refl

-- a block whose key is its id, and one whose key is another
block_again_by : (same : Bool) (key : BlockId) (x : BasicBlock) → (key.0 == x.id.0) ≡ same → IsAgain id_of id_data key
    → IsAgain id_of id_data x.id → IsAgain (list_of id_of) (list_data id_data) x.instructions
    → IsAgain terminal_of terminal_data x.terminal → ((key.0 == x.id.0) ≡ true → x.id ≡ key)
    → IsAgain keyed_block_of keyed_block_data (key, x)
unfolding keyed_block_of block_of keyed_block_data add add_some
block_again_by true key x e k h i t same = rw (e, h, i, t) (ap (λ z. Some (z, x)) (same e))
block_again_by false key x e k h i t same = rw (e, h, i, t, k) refl

same_key : (key id : BlockId) → (key.0 == id.0) ≡ true → id ≡ key
same_key key id e = sym (same_id-eq key id e)

pub block_again : (key : BlockId) (x : BasicBlock) → IsAgain id_of id_data key → IsAgain id_of id_data x.id
    → IsAgain (list_of id_of) (list_data id_data) x.instructions → IsAgain terminal_of terminal_data x.terminal
    → IsAgain keyed_block_of keyed_block_data (key, x)
block_again key x k h i t = block_again_by (key.0 == x.id.0) key x refl k h i t (same_key key x.id)

-- a graph, if its keys are distinct
pub hir_again : (x : Hir) → IsAgain id_of id_data x.entry
    → IsAgain (list_of keyed_block_of) (list_data keyed_block_data) x.blocks → are_distinct x.blocks ≡ true
    → IsAgain hir_of hir_data x
unfolding hir_of blocks_of hir_data add add_some
hir_again x h b d = rw (h, b, d) refl

-- a function
module _ (x : HirFunction) (params : IsAgain (list_of param_of) (list_data param_data) x.params)
    (context : IsAgain (list_of place_of) (list_data place_data) x.context) (body : IsAgain hir_of hir_data x.body)
    (rows : IsAgain (list_of instruction_of) (list_data instruction_data) x.instructions)
    (directives : IsAgain (list_of text_of) (list_data string) x.directives) where
  again_with : (span : Option Span) (id name_hint : Option (List ℕ)) → IsReadAgain span_of span_data span
      → IsAgain function_of function_data (record x { span = span; id = id; name_hint = name_hint })
  unfolding function_of function_data add add_some
  again_with None None None h = rw (params, context, body, rows, directives) refl
  again_with None None (Some n) h = rw (params, context, body, rows, directives) refl
  again_with None (Some i) None h = rw (params, context, body, rows, directives) refl
  again_with None (Some i) (Some n) h = rw (params, context, body, rows, directives) refl
  again_with (Some s) None None h = rw (h, params, context, body, rows, directives) refl
  again_with (Some s) None (Some n) h = rw (h, params, context, body, rows, directives) refl
  again_with (Some s) (Some i) None h = rw (h, params, context, body, rows, directives) refl
  again_with (Some s) (Some i) (Some n) h = rw (h, params, context, body, rows, directives) refl

  pub function_again : IsReadAgain span_of span_data x.span → IsAgain function_of function_data x
  function_again h = again_with x.span x.id x.name_hint h
