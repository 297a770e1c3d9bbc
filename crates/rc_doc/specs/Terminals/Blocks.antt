-- Terminals that go into one block and then on at their fallthrough.
use Rattle.std.specs.Prelude.{ℕ, List, [], ◌∷◌, Option, Some, codes}
use Rattle.serde_json.specs.Data.{Data}
use Rattle.rc_hir.specs.Model.{Terminal}
use Rattle.rc_hir.specs.declared.terminal.Terminal.TheVariants as terminals
use Rattle.rc_doc.specs.Numbers.{id_of}
use Rattle.rc_doc.specs.Places.{place_of, span_of}
use Rattle.rc_doc.specs.Reading.{◌>>=◌, field, only, option_field}

-- a value of a sequence
unfoldable pub sequence_of : Data → Option Terminal
sequence_of d = do
  _ ← only (codes "block" ∷ codes "fallthrough" ∷ codes "id" ∷ codes "k" ∷ codes "span" ∷ []) d
  block ← field id_of (codes "block") d
  fallthrough ← field id_of (codes "fallthrough") d
  id ← field id_of (codes "id") d
  span ← option_field span_of (codes "span") d
  Some (terminals.Sequence block fallthrough id span)

-- a block under a label
unfoldable pub label_of : Data → Option Terminal
label_of d = do
  _ ← only (codes "block" ∷ codes "fallthrough" ∷ codes "id" ∷ codes "k" ∷ codes "span" ∷ []) d
  block ← field id_of (codes "block") d
  fallthrough ← field id_of (codes "fallthrough") d
  id ← field id_of (codes "id") d
  span ← option_field span_of (codes "span") d
  Some (terminals.Label block fallthrough id span)

-- a reactive scope
unfoldable pub scope_of : Data → Option Terminal
scope_of d = do
  _ ← only (codes "block" ∷ codes "fallthrough" ∷ codes "id" ∷ codes "k" ∷ codes "scope" ∷ codes "span" ∷ []) d
  fallthrough ← field id_of (codes "fallthrough") d
  block ← field id_of (codes "block") d
  scope ← field id_of (codes "scope") d
  id ← field id_of (codes "id") d
  span ← option_field span_of (codes "span") d
  Some (terminals.Scope fallthrough block scope id span)

-- a reactive scope that was pruned, so that its values aren't kept
unfoldable pub pruned_scope_of : Data → Option Terminal
pruned_scope_of d = do
  _ ← only (codes "block" ∷ codes "fallthrough" ∷ codes "id" ∷ codes "k" ∷ codes "scope" ∷ codes "span" ∷ []) d
  fallthrough ← field id_of (codes "fallthrough") d
  block ← field id_of (codes "block") d
  scope ← field id_of (codes "scope") d
  id ← field id_of (codes "id") d
  span ← option_field span_of (codes "span") d
  Some (terminals.PrunedScope fallthrough block scope id span)

-- a block whose exceptions are handled
unfoldable pub try_of : Data → Option Terminal
try_of d = do
  _ ← only (codes "block" ∷ codes "fallthrough" ∷ codes "handler" ∷ codes "handler_binding" ∷ codes "id" ∷ codes "k" ∷
      codes "span" ∷ []) d
  block ← field id_of (codes "block") d
  handler_binding ← option_field place_of (codes "handler_binding") d
  handler ← field id_of (codes "handler") d
  fallthrough ← field id_of (codes "fallthrough") d
  id ← field id_of (codes "id") d
  span ← option_field span_of (codes "span") d
  Some (terminals.Try block handler_binding handler fallthrough id span)

-- the terminals of this family, by their names
abbrev pub block_terminals : Data → List (List ℕ × Option Terminal)
block_terminals d =
    (codes "Scope", scope_of d)
    ∷ (codes "PrunedScope", pruned_scope_of d)
    ∷ (codes "Label", label_of d)
    ∷ (codes "Sequence", sequence_of d)
    ∷ (codes "Try", try_of d)
    ∷ []
