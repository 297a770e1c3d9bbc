-- Kinds that read, declare and write variables.
use Rattle.std.specs.Prelude.{ℕ, List, [], ◌∷◌, Option, Some, codes}
use Rattle.serde_json.specs.Data.{Data}
use Rattle.rc_hir.specs.Model.{InstructionValue}
use Rattle.rc_hir.specs.declared.instruction.InstructionValue.TheVariants as kinds
use Rattle.rc_doc.specs.Parts.{binding_of}
use Rattle.rc_doc.specs.Patterns.{lvalue_of, lvalue_pattern_of}
use Rattle.rc_doc.specs.Places.{place_of, span_of}
use Rattle.rc_doc.specs.Reading.{◌>>=◌, field, only, option_field, text_of}

-- the value of a local variable
unfoldable pub load_local_of : Data → Option InstructionValue
load_local_of d = do
  _ ← only (codes "k" ∷ codes "place" ∷ codes "span" ∷ []) d
  place ← field place_of (codes "place") d
  span ← option_field span_of (codes "span") d
  Some (kinds.LoadLocal place span)

-- the value of a variable that closures share
unfoldable pub load_context_of : Data → Option InstructionValue
load_context_of d = do
  _ ← only (codes "k" ∷ codes "place" ∷ codes "span" ∷ []) d
  place ← field place_of (codes "place") d
  span ← option_field span_of (codes "span") d
  Some (kinds.LoadContext place span)

-- a local variable without a value
unfoldable pub declare_local_of : Data → Option InstructionValue
declare_local_of d = do
  _ ← only (codes "k" ∷ codes "lvalue" ∷ codes "span" ∷ []) d
  lvalue ← field lvalue_of (codes "lvalue") d
  span ← option_field span_of (codes "span") d
  Some (kinds.DeclareLocal lvalue span)

-- a variable that closures share, without a value
unfoldable pub declare_context_of : Data → Option InstructionValue
declare_context_of d = do
  _ ← only (codes "k" ∷ codes "lvalue" ∷ codes "span" ∷ []) d
  lvalue ← field lvalue_of (codes "lvalue") d
  span ← option_field span_of (codes "span") d
  Some (kinds.DeclareContext lvalue span)

-- a value for a local variable
unfoldable pub store_local_of : Data → Option InstructionValue
store_local_of d = do
  _ ← only (codes "k" ∷ codes "lvalue" ∷ codes "span" ∷ codes "value" ∷ []) d
  lvalue ← field lvalue_of (codes "lvalue") d
  value ← field place_of (codes "value") d
  span ← option_field span_of (codes "span") d
  Some (kinds.StoreLocal lvalue value span)

-- a value for a variable that closures share
unfoldable pub store_context_of : Data → Option InstructionValue
store_context_of d = do
  _ ← only (codes "k" ∷ codes "lvalue" ∷ codes "span" ∷ codes "value" ∷ []) d
  lvalue ← field lvalue_of (codes "lvalue") d
  value ← field place_of (codes "value") d
  span ← option_field span_of (codes "span") d
  Some (kinds.StoreContext lvalue value span)

-- a value that a pattern takes apart
unfoldable pub destructure_of : Data → Option InstructionValue
destructure_of d = do
  _ ← only (codes "k" ∷ codes "lvalue" ∷ codes "span" ∷ codes "value" ∷ []) d
  lvalue ← field lvalue_pattern_of (codes "lvalue") d
  value ← field place_of (codes "value") d
  span ← option_field span_of (codes "span") d
  Some (kinds.Destructure lvalue value span)

-- the value of a name from outside the function
unfoldable pub load_global_of : Data → Option InstructionValue
load_global_of d = do
  _ ← only (codes "binding" ∷ codes "k" ∷ codes "span" ∷ []) d
  binding ← field binding_of (codes "binding") d
  span ← option_field span_of (codes "span") d
  Some (kinds.LoadGlobal binding span)

-- a value for a name from outside the function
unfoldable pub store_global_of : Data → Option InstructionValue
store_global_of d = do
  _ ← only (codes "k" ∷ codes "name" ∷ codes "span" ∷ codes "value" ∷ []) d
  name ← field text_of (codes "name") d
  value ← field place_of (codes "value") d
  span ← option_field span_of (codes "span") d
  Some (kinds.StoreGlobal name value span)

-- a variable changed by one, and its new value
unfoldable pub prefix_update_of : Data → Option InstructionValue
prefix_update_of d = do
  _ ← only (codes "k" ∷ codes "lvalue" ∷ codes "operation" ∷ codes "span" ∷ codes "value" ∷ []) d
  lvalue ← field place_of (codes "lvalue") d
  operation ← field text_of (codes "operation") d
  value ← field place_of (codes "value") d
  span ← option_field span_of (codes "span") d
  Some (kinds.PrefixUpdate lvalue operation value span)

-- a variable changed by one, and its old value
unfoldable pub postfix_update_of : Data → Option InstructionValue
postfix_update_of d = do
  _ ← only (codes "k" ∷ codes "lvalue" ∷ codes "operation" ∷ codes "span" ∷ codes "value" ∷ []) d
  lvalue ← field place_of (codes "lvalue") d
  operation ← field text_of (codes "operation") d
  value ← field place_of (codes "value") d
  span ← option_field span_of (codes "span") d
  Some (kinds.PostfixUpdate lvalue operation value span)

-- the kinds of this family, by their names
abbrev pub variable_kinds : Data → List (List ℕ × Option InstructionValue)
variable_kinds d =
    (codes "LoadLocal", load_local_of d)
    ∷ (codes "LoadGlobal", load_global_of d)
    ∷ (codes "StoreLocal", store_local_of d)
    ∷ (codes "LoadContext", load_context_of d)
    ∷ (codes "DeclareLocal", declare_local_of d)
    ∷ (codes "DeclareContext", declare_context_of d)
    ∷ (codes "StoreContext", store_context_of d)
    ∷ (codes "Destructure", destructure_of d)
    ∷ (codes "StoreGlobal", store_global_of d)
    ∷ (codes "PrefixUpdate", prefix_update_of d)
    ∷ (codes "PostfixUpdate", postfix_update_of d)
    ∷ []
