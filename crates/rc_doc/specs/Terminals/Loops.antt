-- Terminals that loop.
use Rattle.std.specs.Prelude.{ℕ, List, [], ◌∷◌, Option, Some, codes}
use Rattle.serde_json.specs.Data.{Data}
use Rattle.rc_hir.specs.Model.{Terminal}
use Rattle.rc_hir.specs.declared.terminal.Terminal.TheVariants as terminals
use Rattle.rc_doc.specs.Numbers.{id_of}
use Rattle.rc_doc.specs.Places.{span_of}
use Rattle.rc_doc.specs.Reading.{◌>>=◌, field, only, option_field}

-- a loop that tests after its body
unfoldable pub do_while_of : Data → Option Terminal
do_while_of d = do
  _ ← only (codes "fallthrough" ∷ codes "id" ∷ codes "k" ∷ codes "loop_block" ∷ codes "span" ∷ codes "test" ∷ []) d
  loop_block ← field id_of (codes "loop_block") d
  test ← field id_of (codes "test") d
  fallthrough ← field id_of (codes "fallthrough") d
  id ← field id_of (codes "id") d
  span ← option_field span_of (codes "span") d
  Some (terminals.DoWhile loop_block test fallthrough id span)

-- a loop that tests before its body
unfoldable pub while_of : Data → Option Terminal
while_of d = do
  _ ← only (codes "fallthrough" ∷ codes "id" ∷ codes "k" ∷ codes "loop_block" ∷ codes "span" ∷ codes "test" ∷ []) d
  test ← field id_of (codes "test") d
  loop_block ← field id_of (codes "loop_block") d
  fallthrough ← field id_of (codes "fallthrough") d
  id ← field id_of (codes "id") d
  span ← option_field span_of (codes "span") d
  Some (terminals.While test loop_block fallthrough id span)

-- a loop with an init, a test and an update
unfoldable pub for_of : Data → Option Terminal
for_of d = do
  _ ← only (codes "fallthrough" ∷ codes "id" ∷ codes "init" ∷ codes "k" ∷ codes "loop_block" ∷ codes "span" ∷ codes
      "test" ∷ codes "update" ∷ []) d
  init ← field id_of (codes "init") d
  test ← field id_of (codes "test") d
  update ← option_field id_of (codes "update") d
  loop_block ← field id_of (codes "loop_block") d
  fallthrough ← field id_of (codes "fallthrough") d
  id ← field id_of (codes "id") d
  span ← option_field span_of (codes "span") d
  Some (terminals.For init test update loop_block fallthrough id span)

-- a loop over the values of a collection
unfoldable pub for_of_of : Data → Option Terminal
for_of_of d = do
  _ ← only (codes "fallthrough" ∷ codes "id" ∷ codes "init" ∷ codes "k" ∷ codes "loop_block" ∷ codes "span" ∷ codes
      "test" ∷ []) d
  init ← field id_of (codes "init") d
  test ← field id_of (codes "test") d
  loop_block ← field id_of (codes "loop_block") d
  fallthrough ← field id_of (codes "fallthrough") d
  id ← field id_of (codes "id") d
  span ← option_field span_of (codes "span") d
  Some (terminals.ForOf init test loop_block fallthrough id span)

-- a loop over the property names of an object
unfoldable pub for_in_of : Data → Option Terminal
for_in_of d = do
  _ ← only (codes "fallthrough" ∷ codes "id" ∷ codes "init" ∷ codes "k" ∷ codes "loop_block" ∷ codes "span" ∷ []) d
  init ← field id_of (codes "init") d
  loop_block ← field id_of (codes "loop_block") d
  fallthrough ← field id_of (codes "fallthrough") d
  id ← field id_of (codes "id") d
  span ← option_field span_of (codes "span") d
  Some (terminals.ForIn init loop_block fallthrough id span)

-- the terminals of this family, by their names
abbrev pub loop_terminals : Data → List (List ℕ × Option Terminal)
loop_terminals d =
    (codes "DoWhile", do_while_of d)
    ∷ (codes "While", while_of d)
    ∷ (codes "For", for_of d)
    ∷ (codes "ForOf", for_of_of d)
    ∷ (codes "ForIn", for_in_of d)
    ∷ []
