-- Reading terminals.
use Rattle.std.specs.Prelude.{ℕ, List, [], ◌∷◌, Option, Some, codes, option_and_then}
use Rattle.serde_json.specs.Data.{Data}
use Rattle.serde_json.specs.Find.{as_str}
use Rattle.rc_names.specs.Numbers.{BlockId, EvaluationOrder}
use Rattle.rc_hir.specs.Model.{Place}
use Rattle.rc_tree.specs.Model.{ReactiveTerminalTargetKind}
use Rattle.rc_tree.specs.declared.kind.ReactiveTerminalTargetKind.TheVariants as target
use Rattle.rc_doc.specs.Numbers.{id_of}
use Rattle.rc_doc.specs.Places.{place_of, span_of}
use Rattle.rc_doc.specs.Reading.{◌>>=◌, field, list_field, named, number_of, only, option_field, tag_of, variant}
use Rattle.rc_flat.specs.Model.{FlatSwitchCase, FlatTerminal}
use Rattle.rc_flat.specs.ReadingFlat.Values.{flat_value_of}
use Rattle.rc_flat.specs.declared.terminal.FlatTerminal.TheVariants as terminals

-- the ways in which a jump finds its target, by their names
abbrev pub target_kind_named : List ℕ → Option ReactiveTerminalTargetKind
target_kind_named = named (
    (codes "Implicit", target.Implicit)
    ∷ (codes "Labeled", target.Labeled)
    ∷ (codes "Unlabeled", target.Unlabeled)
    ∷ [])

-- the way in which a jump finds its target, given by its name
abbrev pub target_kind_of : Data → Option ReactiveTerminalTargetKind
target_kind_of d = option_and_then target_kind_named (as_str d)

-- a jump out of a statement, or on with a loop
abbrev pub jump_of : (BlockId → ReactiveTerminalTargetKind → EvaluationOrder → FlatTerminal) → Data
    → Option FlatTerminal
jump_of terminal d = do
  _ ← only (codes "id" ∷ codes "k" ∷ codes "target" ∷ codes "target_kind" ∷ []) d
  target ← field id_of (codes "target") d
  kind ← field target_kind_of (codes "target_kind") d
  id ← field id_of (codes "id") d
  Some (terminal target kind id)

-- a value is returned or thrown
abbrev pub leaving_of : (Place → EvaluationOrder → FlatTerminal) → Data → Option FlatTerminal
leaving_of terminal d = do
  _ ← only (codes "id" ∷ codes "k" ∷ codes "value" ∷ []) d
  value ← field place_of (codes "value") d
  id ← field id_of (codes "id") d
  Some (terminal value id)

-- a case of a switch; the default has no test
unfoldable pub flat_case_of : Data → Option FlatSwitchCase
flat_case_of d = do
  _ ← only (codes "block" ∷ codes "test" ∷ []) d
  test ← option_field place_of (codes "test") d
  block ← option_field number_of (codes "block") d
  Some (record { test = test; block = block })

-- a choice of the first case that fits
unfoldable pub switch_of : Data → Option FlatTerminal
switch_of d = do
  _ ← only (codes "cases" ∷ codes "id" ∷ codes "k" ∷ codes "test" ∷ []) d
  test ← field place_of (codes "test") d
  cases ← list_field flat_case_of (codes "cases") d
  id ← field id_of (codes "id") d
  Some (terminals.Switch test cases id)

-- a loop that tests after its body
unfoldable pub do_while_of : Data → Option FlatTerminal
do_while_of d = do
  _ ← only (codes "id" ∷ codes "k" ∷ codes "loop_block" ∷ codes "test" ∷ []) d
  loop_block ← field number_of (codes "loop_block") d
  test ← field flat_value_of (codes "test") d
  id ← field id_of (codes "id") d
  Some (terminals.DoWhile loop_block test id)

-- a loop that tests before its body
unfoldable pub while_of : Data → Option FlatTerminal
while_of d = do
  _ ← only (codes "id" ∷ codes "k" ∷ codes "loop_block" ∷ codes "test" ∷ []) d
  test ← field flat_value_of (codes "test") d
  loop_block ← field number_of (codes "loop_block") d
  id ← field id_of (codes "id") d
  Some (terminals.While test loop_block id)

-- a loop with an init, a test and an update
unfoldable pub for_of : Data → Option FlatTerminal
for_of d = do
  _ ← only (codes "id" ∷ codes "init" ∷ codes "k" ∷ codes "loop_block" ∷ codes "test" ∷ codes "update" ∷ []) d
  init ← field flat_value_of (codes "init") d
  test ← field flat_value_of (codes "test") d
  update ← option_field flat_value_of (codes "update") d
  loop_block ← field number_of (codes "loop_block") d
  id ← field id_of (codes "id") d
  Some (terminals.For init test update loop_block id)

-- a loop over the values of a collection
unfoldable pub for_of_of : Data → Option FlatTerminal
for_of_of d = do
  _ ← only (codes "id" ∷ codes "init" ∷ codes "k" ∷ codes "loop_block" ∷ codes "span" ∷ codes "test" ∷ []) d
  init ← field flat_value_of (codes "init") d
  test ← field flat_value_of (codes "test") d
  loop_block ← field number_of (codes "loop_block") d
  span ← option_field span_of (codes "span") d
  id ← field id_of (codes "id") d
  Some (terminals.ForOf init test loop_block span id)

-- a loop over the property names of an object
unfoldable pub for_in_of : Data → Option FlatTerminal
for_in_of d = do
  _ ← only (codes "id" ∷ codes "init" ∷ codes "k" ∷ codes "loop_block" ∷ codes "span" ∷ []) d
  init ← field flat_value_of (codes "init") d
  loop_block ← field number_of (codes "loop_block") d
  span ← option_field span_of (codes "span") d
  id ← field id_of (codes "id") d
  Some (terminals.ForIn init loop_block span id)

-- a choice between two arms, by a test
unfoldable pub if_of : Data → Option FlatTerminal
if_of d = do
  _ ← only (codes "alternate" ∷ codes "consequent" ∷ codes "id" ∷ codes "k" ∷ codes "test" ∷ []) d
  test ← field place_of (codes "test") d
  consequent ← field number_of (codes "consequent") d
  alternate ← option_field number_of (codes "alternate") d
  id ← field id_of (codes "id") d
  Some (terminals.If test consequent alternate id)

-- a block under a label
unfoldable pub labeled_of : Data → Option FlatTerminal
labeled_of d = do
  _ ← only (codes "block" ∷ codes "id" ∷ codes "k" ∷ []) d
  block ← field number_of (codes "block") d
  id ← field id_of (codes "id") d
  Some (terminals.Label block id)

-- a block whose exceptions are handled
unfoldable pub try_of : Data → Option FlatTerminal
try_of d = do
  _ ← only (codes "block" ∷ codes "handler" ∷ codes "handler_binding" ∷ codes "id" ∷ codes "k" ∷ []) d
  block ← field number_of (codes "block") d
  handler_binding ← option_field place_of (codes "handler_binding") d
  handler ← field number_of (codes "handler") d
  id ← field id_of (codes "id") d
  Some (terminals.Try block handler_binding handler id)

-- a terminal
unfoldable pub flat_terminal_of : Data → Option FlatTerminal
flat_terminal_of d = do
  name ← tag_of d
  variant (
      (codes "Break", jump_of terminals.Break d)
      ∷ (codes "Continue", jump_of terminals.Continue d)
      ∷ (codes "Return", leaving_of terminals.Return d)
      ∷ (codes "Throw", leaving_of terminals.Throw d)
      ∷ (codes "Switch", switch_of d)
      ∷ (codes "DoWhile", do_while_of d)
      ∷ (codes "While", while_of d)
      ∷ (codes "For", for_of d)
      ∷ (codes "ForOf", for_of_of d)
      ∷ (codes "ForIn", for_in_of d)
      ∷ (codes "If", if_of d)
      ∷ (codes "Label", labeled_of d)
      ∷ (codes "Try", try_of d)
      ∷ []) name
