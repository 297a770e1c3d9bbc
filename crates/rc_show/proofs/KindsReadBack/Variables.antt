-- The printing form of a value reads as that value again: kinds that read, declare and write variables. A kind does so
-- if its fields do.
use Rattle.std.proofs.Common.{◌≡◌, ℕ, List, Option, None, Some, refl}
use Rattle.rc_names.specs.declared.span.Span.{Span}
use Rattle.rc_hir.specs.Model.{NonLocalBinding, LValue, LValuePattern, Place}
use Rattle.rc_hir.specs.declared.instruction.InstructionValue.TheVariants as kinds
use Rattle.rc_doc.specs.Kinds.{instruction_value_of}
use Rattle.rc_doc.specs.Kinds.Variables.{declare_context_of, declare_local_of, destructure_of, load_context_of}
use Rattle.rc_doc.specs.Kinds.Variables.{load_global_of, load_local_of, postfix_update_of, prefix_update_of}
use Rattle.rc_doc.specs.Kinds.Variables.{store_context_of, store_global_of, store_local_of}
use Rattle.rc_doc.specs.Parts.{binding_of}
use Rattle.rc_doc.specs.Patterns.{lvalue_of, lvalue_pattern_of}
use Rattle.rc_doc.specs.Places.{place_of, span_of}
use Rattle.rc_show.specs.Showing.{add, add_some, IsReadAgain}
use Rattle.rc_show.specs.ShownKinds.{IsReadBack}
use Rattle.rc_show.specs.ShownParts.{binding_data}
use Rattle.rc_show.specs.ShownParts.Patterns.{lvalue_data, lvalue_pattern_data}
use Rattle.rc_show.specs.ShownParts.Places.{place_data, span_data}

pub load_local_again : (place : Place) (span : Option Span)
    → place_of (place_data place) ≡ Some place → IsReadAgain span_of span_data span
    → IsReadBack (kinds.LoadLocal place span)
unfolding instruction_value_of load_local_of add add_some
load_local_again place None h s = rw h refl
load_local_again place (Some span) h s = rw (h, s) refl

pub load_context_again : (place : Place) (span : Option Span)
    → place_of (place_data place) ≡ Some place → IsReadAgain span_of span_data span
    → IsReadBack (kinds.LoadContext place span)
unfolding instruction_value_of load_context_of add add_some
load_context_again place None h s = rw h refl
load_context_again place (Some span) h s = rw (h, s) refl

pub declare_local_again : (lvalue : LValue) (span : Option Span)
    → lvalue_of (lvalue_data lvalue) ≡ Some lvalue → IsReadAgain span_of span_data span
    → IsReadBack (kinds.DeclareLocal lvalue span)
unfolding instruction_value_of declare_local_of add add_some
declare_local_again lvalue None h s = rw h refl
declare_local_again lvalue (Some span) h s = rw (h, s) refl

pub declare_context_again : (lvalue : LValue) (span : Option Span)
    → lvalue_of (lvalue_data lvalue) ≡ Some lvalue → IsReadAgain span_of span_data span
    → IsReadBack (kinds.DeclareContext lvalue span)
unfolding instruction_value_of declare_context_of add add_some
declare_context_again lvalue None h s = rw h refl
declare_context_again lvalue (Some span) h s = rw (h, s) refl

pub store_local_again : (lvalue : LValue) (value : Place) (span : Option Span)
    → lvalue_of (lvalue_data lvalue) ≡ Some lvalue → place_of (place_data value) ≡ Some value
    → IsReadAgain span_of span_data span
    → IsReadBack (kinds.StoreLocal lvalue value span)
unfolding instruction_value_of store_local_of add add_some
store_local_again lvalue value None h j s = rw (h, j) refl
store_local_again lvalue value (Some span) h j s = rw (h, j, s) refl

pub store_context_again : (lvalue : LValue) (value : Place) (span : Option Span)
    → lvalue_of (lvalue_data lvalue) ≡ Some lvalue → place_of (place_data value) ≡ Some value
    → IsReadAgain span_of span_data span
    → IsReadBack (kinds.StoreContext lvalue value span)
unfolding instruction_value_of store_context_of add add_some
store_context_again lvalue value None h j s = rw (h, j) refl
store_context_again lvalue value (Some span) h j s = rw (h, j, s) refl

pub destructure_again : (lvalue : LValuePattern) (value : Place) (span : Option Span)
    → lvalue_pattern_of (lvalue_pattern_data lvalue) ≡ Some lvalue → place_of (place_data value) ≡ Some value
    → IsReadAgain span_of span_data span
    → IsReadBack (kinds.Destructure lvalue value span)
unfolding instruction_value_of destructure_of add add_some
destructure_again lvalue value None h j s = rw (h, j) refl
destructure_again lvalue value (Some span) h j s = rw (h, j, s) refl

pub load_global_again : (binding : NonLocalBinding) (span : Option Span)
    → binding_of (binding_data binding) ≡ Some binding → IsReadAgain span_of span_data span
    → IsReadBack (kinds.LoadGlobal binding span)
unfolding instruction_value_of load_global_of add add_some
load_global_again binding None h s = rw h refl
load_global_again binding (Some span) h s = rw (h, s) refl

pub store_global_again : (name : List ℕ) (value : Place) (span : Option Span)
    → place_of (place_data value) ≡ Some value → IsReadAgain span_of span_data span
    → IsReadBack (kinds.StoreGlobal name value span)
unfolding instruction_value_of store_global_of add add_some
store_global_again name value None h s = rw h refl
store_global_again name value (Some span) h s = rw (h, s) refl

pub prefix_update_again : (lvalue : Place) (operation : List ℕ) (value : Place) (span : Option Span)
    → place_of (place_data lvalue) ≡ Some lvalue → place_of (place_data value) ≡ Some value
    → IsReadAgain span_of span_data span
    → IsReadBack (kinds.PrefixUpdate lvalue operation value span)
unfolding instruction_value_of prefix_update_of add add_some
prefix_update_again lvalue operation value None h j s = rw (h, j) refl
prefix_update_again lvalue operation value (Some span) h j s = rw (h, j, s) refl

pub postfix_update_again : (lvalue : Place) (operation : List ℕ) (value : Place) (span : Option Span)
    → place_of (place_data lvalue) ≡ Some lvalue → place_of (place_data value) ≡ Some value
    → IsReadAgain span_of span_data span
    → IsReadBack (kinds.PostfixUpdate lvalue operation value span)
unfolding instruction_value_of postfix_update_of add add_some
postfix_update_again lvalue operation value None h j s = rw (h, j) refl
postfix_update_again lvalue operation value (Some span) h j s = rw (h, j, s) refl
