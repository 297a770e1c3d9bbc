-- Terminals that choose a way.
use Rattle.std.specs.Prelude.{List, [], ◌∷◌, ℕ, Option, Some, option_and_then, codes}
use Rattle.serde_json.specs.Data.{Data}
use Rattle.serde_json.specs.Find.{as_str}
use Rattle.rc_hir.specs.Model.{LogicalOperator, Case, Terminal}
use Rattle.rc_hir.specs.declared.instruction.LogicalOperator.TheVariants as operators
use Rattle.rc_hir.specs.declared.terminal.Terminal.TheVariants as terminals
use Rattle.rc_doc.specs.Numbers.{id_of}
use Rattle.rc_doc.specs.Places.{place_of, span_of}
use Rattle.rc_doc.specs.Reading.{◌>>=◌, field, flag_field, list_field, named, only, option_field}

-- the operators, by their names
abbrev pub operator_named : List ℕ → Option LogicalOperator
operator_named = named (
    (codes "And", operators.And)
    ∷ (codes "Or", operators.Or)
    ∷ (codes "Coalesce", operators.Coalesce)
    ∷ [])

-- an operator, given by its name
abbrev pub logical_operator_of : Data → Option LogicalOperator
logical_operator_of d = option_and_then operator_named (as_str d)

-- a case of a switch; the default has no test
unfoldable pub case_of : Data → Option Case
case_of d = do
  _ ← only (codes "block" ∷ codes "test" ∷ []) d
  test ← option_field place_of (codes "test") d
  block ← field id_of (codes "block") d
  Some (record { test = test; block = block })

-- a choice between two arms, by a test
unfoldable pub if_of : Data → Option Terminal
if_of d = do
  _ ← only (codes "alternate" ∷ codes "consequent" ∷ codes "fallthrough" ∷ codes "id" ∷ codes "k" ∷ codes "span" ∷ codes
      "test" ∷ []) d
  test ← field place_of (codes "test") d
  consequent ← field id_of (codes "consequent") d
  alternate ← field id_of (codes "alternate") d
  fallthrough ← field id_of (codes "fallthrough") d
  id ← field id_of (codes "id") d
  span ← option_field span_of (codes "span") d
  Some (terminals.If test consequent alternate fallthrough id span)

-- a choice between two arms that need not meet again
unfoldable pub branch_of : Data → Option Terminal
branch_of d = do
  _ ← only (codes "alternate" ∷ codes "consequent" ∷ codes "id" ∷ codes "k" ∷ codes "span" ∷ codes "test" ∷ []) d
  test ← field place_of (codes "test") d
  consequent ← field id_of (codes "consequent") d
  alternate ← field id_of (codes "alternate") d
  id ← field id_of (codes "id") d
  span ← option_field span_of (codes "span") d
  Some (terminals.Branch test consequent alternate id span)

-- a value of an operator that may skip its right side
unfoldable pub logical_of : Data → Option Terminal
logical_of d = do
  _ ← only (codes "fallthrough" ∷ codes "id" ∷ codes "k" ∷ codes "operator" ∷ codes "span" ∷ codes "test" ∷ []) d
  operator ← field logical_operator_of (codes "operator") d
  test ← field id_of (codes "test") d
  fallthrough ← field id_of (codes "fallthrough") d
  id ← field id_of (codes "id") d
  span ← option_field span_of (codes "span") d
  Some (terminals.Logical operator test fallthrough id span)

-- a value of a conditional
unfoldable pub ternary_of : Data → Option Terminal
ternary_of d = do
  _ ← only (codes "fallthrough" ∷ codes "id" ∷ codes "k" ∷ codes "span" ∷ codes "test" ∷ []) d
  test ← field id_of (codes "test") d
  fallthrough ← field id_of (codes "fallthrough") d
  id ← field id_of (codes "id") d
  span ← option_field span_of (codes "span") d
  Some (terminals.Ternary test fallthrough id span)

-- a value of an optional chain
unfoldable pub optional_of : Data → Option Terminal
optional_of d = do
  _ ← only (codes "fallthrough" ∷ codes "id" ∷ codes "k" ∷ codes "optional" ∷ codes "span" ∷ codes "test" ∷ []) d
  optional ← flag_field (codes "optional") d
  test ← field id_of (codes "test") d
  fallthrough ← field id_of (codes "fallthrough") d
  id ← field id_of (codes "id") d
  span ← option_field span_of (codes "span") d
  Some (terminals.Optional optional test fallthrough id span)

-- a choice of the first case that fits
unfoldable pub switch_of : Data → Option Terminal
switch_of d = do
  _ ← only (codes "cases" ∷ codes "fallthrough" ∷ codes "id" ∷ codes "k" ∷ codes "span" ∷ codes "test" ∷ []) d
  test ← field place_of (codes "test") d
  cases ← list_field case_of (codes "cases") d
  fallthrough ← field id_of (codes "fallthrough") d
  id ← field id_of (codes "id") d
  span ← option_field span_of (codes "span") d
  Some (terminals.Switch test cases fallthrough id span)

-- the terminals of this family, by their names
abbrev pub branch_terminals : Data → List (List ℕ × Option Terminal)
branch_terminals d =
    (codes "If", if_of d)
    ∷ (codes "Branch", branch_of d)
    ∷ (codes "Logical", logical_of d)
    ∷ (codes "Ternary", ternary_of d)
    ∷ (codes "Optional", optional_of d)
    ∷ (codes "Switch", switch_of d)
    ∷ []
