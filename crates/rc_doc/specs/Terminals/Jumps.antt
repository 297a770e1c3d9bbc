-- Terminals that jump or end a run, and the one that may throw.
use Rattle.std.specs.Prelude.{List, [], ◌∷◌, ℕ, Option, Some, option_and_then, codes}
use Rattle.serde_json.specs.Data.{Data}
use Rattle.serde_json.specs.Find.{as_str}
use Rattle.rc_hir.specs.Model.{GotoVariant, Terminal}
use Rattle.rc_hir.specs.declared.terminal.GotoVariant.TheVariants as variants
use Rattle.rc_hir.specs.declared.terminal.Terminal.TheVariants as terminals
use Rattle.rc_doc.specs.Numbers.{id_of}
use Rattle.rc_doc.specs.Places.{place_of, span_of}
use Rattle.rc_doc.specs.Reading.{◌>>=◌, field, named, only, option_field}

-- the kinds of jumps, by their names
abbrev pub goto_named : List ℕ → Option GotoVariant
goto_named = named (
    (codes "Break", variants.Break)
    ∷ (codes "Continue", variants.Continue)
    ∷ (codes "Try", variants.Try)
    ∷ [])

-- a kind of jump, given by its name
abbrev pub goto_variant_of : Data → Option GotoVariant
goto_variant_of d = option_and_then goto_named (as_str d)

-- a value is thrown
unfoldable pub throw_of : Data → Option Terminal
throw_of d = do
  _ ← only (codes "id" ∷ codes "k" ∷ codes "span" ∷ codes "value" ∷ []) d
  value ← field place_of (codes "value") d
  id ← field id_of (codes "id") d
  span ← option_field span_of (codes "span") d
  Some (terminals.Throw value id span)

-- a value is returned
unfoldable pub return_of : Data → Option Terminal
return_of d = do
  _ ← only (codes "id" ∷ codes "k" ∷ codes "span" ∷ codes "value" ∷ []) d
  value ← field place_of (codes "value") d
  id ← field id_of (codes "id") d
  span ← option_field span_of (codes "span") d
  Some (terminals.Return value id span)

-- a jump
unfoldable pub goto_of : Data → Option Terminal
goto_of d = do
  _ ← only (codes "block" ∷ codes "id" ∷ codes "k" ∷ codes "span" ∷ codes "variant" ∷ []) d
  block ← field id_of (codes "block") d
  variant ← field goto_variant_of (codes "variant") d
  id ← field id_of (codes "id") d
  span ← option_field span_of (codes "span") d
  Some (terminals.Goto block variant id span)

-- the end of a block that is never left
unfoldable pub unreachable_of : Data → Option Terminal
unreachable_of d = do
  _ ← only (codes "id" ∷ codes "k" ∷ codes "span" ∷ []) d
  id ← field id_of (codes "id") d
  span ← option_field span_of (codes "span") d
  Some (terminals.Unreachable id span)

-- a step that may throw
unfoldable pub maybe_throw_of : Data → Option Terminal
maybe_throw_of d = do
  _ ← only (codes "continuation" ∷ codes "handler" ∷ codes "id" ∷ codes "k" ∷ codes "span" ∷ []) d
  continuation ← field id_of (codes "continuation") d
  handler ← option_field id_of (codes "handler") d
  id ← field id_of (codes "id") d
  span ← option_field span_of (codes "span") d
  Some (terminals.MaybeThrow continuation handler id span)

-- the terminals of this family, by their names
abbrev pub jump_terminals : Data → List (List ℕ × Option Terminal)
jump_terminals d =
    (codes "Goto", goto_of d)
    ∷ (codes "Return", return_of d)
    ∷ (codes "MaybeThrow", maybe_throw_of d)
    ∷ (codes "Throw", throw_of d)
    ∷ (codes "Unreachable", unreachable_of d)
    ∷ []
