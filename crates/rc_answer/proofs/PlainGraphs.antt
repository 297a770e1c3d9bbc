-- The printing form of graphs has plain numbers, and keys in byte order.
use Rattle.std.proofs.Common.{◌≡◌, true, ℕ, List, Option, None, Some, refl}
use Rattle.std.specs.Prelude.{codes}
use Rattle.serde_json.specs.Data.{no_members, object, string}
use Rattle.rc_names.specs.declared.numbers.Id.{Id}
use Rattle.rc_names.specs.declared.span.Span.{Span}
use Rattle.rc_names.specs.Numbers.{BlockId}
use Rattle.rc_hir.specs.Model.{BasicBlock, Case, GotoVariant, Hir, HirFunction, Instruction, LogicalOperator}
use Rattle.rc_hir.specs.Model.{ParamPattern, Place, Terminal}
use Rattle.rc_hir.specs.declared.instruction.LogicalOperator.TheVariants as operators
use Rattle.rc_hir.specs.declared.place.ParamPattern.TheVariants as params
use Rattle.rc_hir.specs.declared.terminal.GotoVariant.TheVariants as variants
use Rattle.rc_hir.specs.declared.terminal.Terminal.TheVariants as terminals
use Rattle.rc_show.proofs.PlainForms.{plain_list, plain_place, plain_spread, plain_text, plain_value, IsPlain}
use Rattle.rc_show.specs.Showing.{◌▸◌, add, add_some, id_data, list_data}
use Rattle.rc_show.specs.ShownParts.Places.{place_data}
use Rattle.rc_show.specs.inside.Plain.{is_plain}
use Rattle.rc_flat.specs.ShownGraph.{add_id, case_data, function_data, goto_variant_data, hir_data, instruction_data}
use Rattle.rc_flat.specs.ShownGraph.{keyed_block_data, logical_operator_data, other_key, param_data, terminal_data}

pub plain_id : {K : Type 0} (x : Id K) → IsPlain id_data x
plain_id x = refl

pub plain_param : (x : ParamPattern) → IsPlain param_data x
unfolding param_data add add_some
plain_param (params.Place place) = rw (plain_place place) refl
plain_param (params.Spread spread) = rw (plain_spread spread) refl

pub plain_logical_operator : (x : LogicalOperator) → IsPlain logical_operator_data x
unfolding logical_operator_data add add_some
plain_logical_operator operators.And = refl
plain_logical_operator operators.Or = refl
plain_logical_operator operators.Coalesce = refl

plain_goto_variant : (x : GotoVariant) → IsPlain goto_variant_data x
unfolding goto_variant_data add add_some
plain_goto_variant variants.Break = refl
plain_goto_variant variants.Continue = refl
plain_goto_variant variants.Try = refl

case_with : (x : Case) (test : Option Place)
    → IsPlain case_data (record x { test = test })
unfolding case_data add add_some
case_with x None = refl
case_with x (Some test) = rw (plain_place test) refl

plain_case : (x : Case) → IsPlain case_data x
plain_case x = case_with x x.test

plain_terminal : (x : Terminal) → IsPlain terminal_data x
unfolding terminal_data add add_some
plain_terminal (terminals.If test consequent alternate fallthrough id None) = rw (plain_place test) refl
plain_terminal (terminals.If test consequent alternate fallthrough id (Some span)) = rw (plain_place test) refl
plain_terminal (terminals.Branch test consequent alternate id None) = rw (plain_place test) refl
plain_terminal (terminals.Branch test consequent alternate id (Some span)) = rw (plain_place test) refl
plain_terminal (terminals.Logical operator test fallthrough id None) = rw (plain_logical_operator operator) refl
plain_terminal (terminals.Logical operator test fallthrough id (Some span)) =
    rw (plain_logical_operator operator) refl
plain_terminal (terminals.Ternary test fallthrough id None) = refl
plain_terminal (terminals.Ternary test fallthrough id (Some span)) = refl
plain_terminal (terminals.Optional optional test fallthrough id None) = refl
plain_terminal (terminals.Optional optional test fallthrough id (Some span)) = refl
plain_terminal (terminals.Sequence block fallthrough id None) = refl
plain_terminal (terminals.Sequence block fallthrough id (Some span)) = refl
plain_terminal (terminals.Throw x id None) = rw (plain_place x) refl
plain_terminal (terminals.Throw x id (Some span)) = rw (plain_place x) refl
plain_terminal (terminals.Return x id None) = rw (plain_place x) refl
plain_terminal (terminals.Return x id (Some span)) = rw (plain_place x) refl
plain_terminal (terminals.Goto block variant id None) = rw (plain_goto_variant variant) refl
plain_terminal (terminals.Goto block variant id (Some span)) = rw (plain_goto_variant variant) refl
plain_terminal (terminals.Switch test cases fallthrough id None) =
    rw (plain_place test, plain_list case_data plain_case cases) refl
plain_terminal (terminals.Switch test cases fallthrough id (Some span)) =
    rw (plain_place test, plain_list case_data plain_case cases) refl
plain_terminal (terminals.DoWhile body test fallthrough id None) = refl
plain_terminal (terminals.DoWhile body test fallthrough id (Some span)) = refl
plain_terminal (terminals.While test body fallthrough id None) = refl
plain_terminal (terminals.While test body fallthrough id (Some span)) = refl
plain_terminal (terminals.For init test None body fallthrough id None) = refl
plain_terminal (terminals.For init test (Some update) body fallthrough id None) = refl
plain_terminal (terminals.For init test None body fallthrough id (Some span)) = refl
plain_terminal (terminals.For init test (Some update) body fallthrough id (Some span)) = refl
plain_terminal (terminals.ForOf init test body fallthrough id None) = refl
plain_terminal (terminals.ForOf init test body fallthrough id (Some span)) = refl
plain_terminal (terminals.ForIn init body fallthrough id None) = refl
plain_terminal (terminals.ForIn init body fallthrough id (Some span)) = refl
plain_terminal (terminals.Label block fallthrough id None) = refl
plain_terminal (terminals.Label block fallthrough id (Some span)) = refl
plain_terminal (terminals.Unreachable id None) = refl
plain_terminal (terminals.Unreachable id (Some span)) = refl
plain_terminal (terminals.MaybeThrow continuation None id None) = refl
plain_terminal (terminals.MaybeThrow continuation (Some handler) id None) = refl
plain_terminal (terminals.MaybeThrow continuation None id (Some span)) = refl
plain_terminal (terminals.MaybeThrow continuation (Some handler) id (Some span)) = refl
plain_terminal (terminals.Scope fallthrough block scope id None) = refl
plain_terminal (terminals.Scope fallthrough block scope id (Some span)) = refl
plain_terminal (terminals.PrunedScope fallthrough block scope id None) = refl
plain_terminal (terminals.PrunedScope fallthrough block scope id (Some span)) = refl
plain_terminal (terminals.Try block None handler fallthrough id None) = refl
plain_terminal (terminals.Try block (Some binding) handler fallthrough id None) = rw (plain_place binding) refl
plain_terminal (terminals.Try block None handler fallthrough id (Some span)) = refl
plain_terminal (terminals.Try block (Some binding) handler fallthrough id (Some span)) = rw (plain_place binding) refl

instruction_with : (x : Instruction) (span : Option Span)
    → IsPlain instruction_data (record x { span = span })
unfolding instruction_data add add_some
instruction_with x None = rw (plain_place x.lvalue, plain_value x.value) refl
instruction_with x (Some span) = rw (plain_place x.lvalue, plain_value x.value) refl

plain_instruction : (x : Instruction) → IsPlain instruction_data x
plain_instruction x = instruction_with x x.span

keyed_block_with : (key : Option BlockId) (x : BasicBlock) → is_plain (object (no_members ▸ add_id (codes "id") x.id
    ▸ add (codes "instructions") (list_data id_data x.instructions) ▸ add_some id_data (codes "key") key
    ▸ add (codes "terminal") (terminal_data x.terminal))) ≡ true
unfolding add add_some
keyed_block_with None x = rw (plain_list id_data plain_id x.instructions, plain_terminal x.terminal) refl
keyed_block_with (Some key) x = rw (plain_list id_data plain_id x.instructions, plain_terminal x.terminal) refl

plain_keyed_block : (entry : BlockId × BasicBlock) → IsPlain keyed_block_data entry
unfolding keyed_block_data
plain_keyed_block entry = keyed_block_with (other_key entry.0 entry.1.id) entry.1

plain_hir : (x : Hir) → IsPlain hir_data x
unfolding hir_data add add_some
plain_hir x = rw (plain_list keyed_block_data plain_keyed_block x.blocks) refl

function_with : (x : HirFunction) (span : Option Span) (id : Option (List ℕ)) (name_hint : Option (List ℕ))
    → IsPlain function_data (record x { span = span; id = id; name_hint = name_hint })
unfolding function_data add add_some
function_with x None None None =
    rw (
      plain_hir x.body,
      plain_list place_data plain_place x.context,
      plain_list string plain_text x.directives,
      plain_list instruction_data plain_instruction x.instructions,
      plain_list param_data plain_param x.params,
    ) refl
function_with x None None (Some name_hint) =
    rw (
      plain_hir x.body,
      plain_list place_data plain_place x.context,
      plain_list string plain_text x.directives,
      plain_list instruction_data plain_instruction x.instructions,
      plain_list param_data plain_param x.params,
    ) refl
function_with x None (Some id) None =
    rw (
      plain_hir x.body,
      plain_list place_data plain_place x.context,
      plain_list string plain_text x.directives,
      plain_list instruction_data plain_instruction x.instructions,
      plain_list param_data plain_param x.params,
    ) refl
function_with x None (Some id) (Some name_hint) =
    rw (
      plain_hir x.body,
      plain_list place_data plain_place x.context,
      plain_list string plain_text x.directives,
      plain_list instruction_data plain_instruction x.instructions,
      plain_list param_data plain_param x.params,
    ) refl
function_with x (Some span) None None =
    rw (
      plain_hir x.body,
      plain_list place_data plain_place x.context,
      plain_list string plain_text x.directives,
      plain_list instruction_data plain_instruction x.instructions,
      plain_list param_data plain_param x.params,
    ) refl
function_with x (Some span) None (Some name_hint) =
    rw (
      plain_hir x.body,
      plain_list place_data plain_place x.context,
      plain_list string plain_text x.directives,
      plain_list instruction_data plain_instruction x.instructions,
      plain_list param_data plain_param x.params,
    ) refl
function_with x (Some span) (Some id) None =
    rw (
      plain_hir x.body,
      plain_list place_data plain_place x.context,
      plain_list string plain_text x.directives,
      plain_list instruction_data plain_instruction x.instructions,
      plain_list param_data plain_param x.params,
    ) refl
function_with x (Some span) (Some id) (Some name_hint) =
    rw (
      plain_hir x.body,
      plain_list place_data plain_place x.context,
      plain_list string plain_text x.directives,
      plain_list instruction_data plain_instruction x.instructions,
      plain_list param_data plain_param x.params,
    ) refl

pub plain_function : (x : HirFunction) → IsPlain function_data x
plain_function x = function_with x x.span x.id x.name_hint
