-- The function of two tables, which are read from the last entry to the first, and each entry from its end to its
-- start. Each number is that of the part that waits longest, which it takes; the part of an entry then waits itself.
use Rattle.std.specs.Prelude.{ℕ, ◌+◌, ◌==◌, List, [], ◌∷◌, Option, Some, None, length}
use Rattle.std.specs.Prelude.{if◌then◌else◌}
use Rattle.serde_json.specs.Data.{Data}
use Rattle.rc_tree.specs.Model.{ReactiveBlock, ReactiveFunction, ReactiveInstruction, ReactiveStatement}
use Rattle.rc_tree.specs.Model.{ReactiveSwitchCase, ReactiveTerminal, ReactiveValue}
use Rattle.rc_tree.specs.declared.statement.ReactiveStatement.TheVariants as reactive
use Rattle.rc_tree.specs.declared.terminal.ReactiveSwitchCase.{roll-ReactiveSwitchCase}
use Rattle.rc_tree.specs.declared.terminal.ReactiveTerminal.TheVariants as tree
use Rattle.rc_tree.specs.declared.value.ReactiveValue.TheVariants as values
use Rattle.rc_doc.specs.Reading.{◌>>=◌}
use Rattle.rc_flat.specs.Model.{FlatFunction, FlatInstruction, FlatStatement, FlatSwitchCase, FlatTerminal}
use Rattle.rc_flat.specs.Model.{FlatValue, NestedValue}
use Rattle.rc_flat.specs.ReadingFlat.{flat_function_of}
use Rattle.rc_flat.specs.declared.found.Found.{Found as TheFound}
use Rattle.rc_flat.specs.declared.statement.FlatStatement.TheVariants as statements
use Rattle.rc_flat.specs.declared.terminal.FlatTerminal.TheVariants as terminals
use Rattle.rc_flat.specs.declared.value.FlatValue.TheVariants as flat
use Rattle.rc_flat.specs.declared.value.NestedValue.TheVariants as entry

-- the parts that wait, in the order of their numbers, and the number after that of the last of each kind
abbrev pub Found : Type 0
Found = TheFound

-- a reading of a part, with the parts that still wait
abbrev pub Taking : Type 0 → Type 0
Taking X = Found → Option (X × Found)

-- the last item, and those before it
abbrev pub take_last : {X : Type 0} → List X → Option (X × List X)
take_last [] = None
take_last (x ∷ []) = Some (x, [])
take_last (x ∷ y ∷ xs) = do
  last ← take_last (y ∷ xs)
  Some (last.0, x ∷ last.1)

abbrev pub take_block : ℕ → Taking ReactiveBlock
take_block n found = if n + 1 == found.next_block then (do
  last ← take_last found.blocks
  Some (last.0, record found { blocks = last.1; next_block = n })) else None

abbrev pub take_value : ℕ → Taking ReactiveValue
take_value n found = if n + 1 == found.next_value then (do
  last ← take_last found.values
  Some (last.0, record found { values = last.1; next_value = n })) else None

-- the items, of which the last is read first
abbrev pub from_last : {A X : Type 0} → (A → Taking X) → List A → Taking (List X)
from_last read [] found = Some ([], found)
from_last read (a ∷ later) found = do
  others ← from_last read later found
  first ← read a others.1
  Some (first.0 ∷ others.0, first.1)

-- a part that may be missing
abbrev pub if_there : {A X : Type 0} → (A → Taking X) → Option A → Taking (Option X)
if_there read None found = Some (None, found)
if_there read (Some a) found = do
  x ← read a found
  Some (Some x.0, x.1)

-- ---- values

abbrev pub value_from : FlatValue → Taking ReactiveValue
value_from (flat.Instruction x) found = Some (values.Instruction x, found)
value_from (flat.Nested n) found = take_value n found

abbrev pub row_from : FlatInstruction → Taking ReactiveInstruction
row_from row found = do
  x ← value_from row.value found
  Some (record { id = row.id; lvalue = row.lvalue; value = x.0; span = row.span }, x.1)

abbrev pub nested_from : NestedValue → Taking ReactiveValue
nested_from (entry.LogicalExpression operator left right) found = do
  b ← value_from right found
  a ← value_from left b.1
  Some (values.LogicalExpression operator a.0 b.0, a.1)
nested_from (entry.ConditionalExpression test consequent alternate) found = do
  a ← value_from test found
  b ← value_from consequent a.1
  c ← value_from alternate b.1
  Some (values.ConditionalExpression a.0 b.0 c.0, c.1)
nested_from (entry.SequenceExpression rows id x) found = do
  b ← value_from x found
  a ← from_last row_from rows b.1
  Some (values.SequenceExpression a.0 id b.0, a.1)
nested_from (entry.OptionalExpression x optional) found = do
  a ← value_from x found
  Some (values.OptionalExpression a.0 optional, a.1)

-- ---- statements

abbrev pub case_from : FlatSwitchCase → Taking ReactiveSwitchCase
case_from case found = do
  block ← if_there take_block case.block found
  Some (roll-ReactiveSwitchCase (record { test = case.test; block = block.0 }), block.1)

abbrev pub terminal_from : FlatTerminal → Taking ReactiveTerminal
terminal_from (terminals.Break target kind id) found = Some (tree.Break target kind id, found)
terminal_from (terminals.Continue target kind id) found = Some (tree.Continue target kind id, found)
terminal_from (terminals.Return place id) found = Some (tree.Return place id, found)
terminal_from (terminals.Throw place id) found = Some (tree.Throw place id, found)
terminal_from (terminals.Switch test cases id) found = do
  x ← from_last case_from cases found
  Some (tree.Switch test x.0 id, x.1)
terminal_from (terminals.DoWhile n test id) found = do
  x ← value_from test found
  body ← take_block n x.1
  Some (tree.DoWhile body.0 x.0 id, body.1)
terminal_from (terminals.While test n id) found = do
  x ← value_from test found
  body ← take_block n x.1
  Some (tree.While x.0 body.0 id, body.1)
terminal_from (terminals.For init test update n id) found = do
  c ← if_there value_from update found
  b ← value_from test c.1
  body ← take_block n b.1
  a ← value_from init body.1
  Some (tree.For a.0 b.0 c.0 body.0 id, a.1)
terminal_from (terminals.ForOf init test n span id) found = do
  b ← value_from test found
  body ← take_block n b.1
  a ← value_from init body.1
  Some (tree.ForOf a.0 b.0 body.0 span id, a.1)
terminal_from (terminals.ForIn init n span id) found = do
  body ← take_block n found
  a ← value_from init body.1
  Some (tree.ForIn a.0 body.0 span id, a.1)
terminal_from (terminals.If test n alternate id) found = do
  body ← take_block n found
  other ← if_there take_block alternate body.1
  Some (tree.If test body.0 other.0 id, other.1)
terminal_from (terminals.Label n id) found = do
  body ← take_block n found
  Some (tree.Label body.0 id, body.1)
terminal_from (terminals.Try n binding m id) found = do
  handler ← take_block m found
  body ← take_block n handler.1
  Some (tree.Try body.0 binding handler.0 id, body.1)

abbrev pub statement_from : FlatStatement → Taking ReactiveStatement
statement_from (statements.Instruction row) found = do
  x ← row_from row found
  Some (reactive.Instruction x.0, x.1)
statement_from (statements.Terminal x) found = do
  t ← terminal_from x.terminal found
  Some (reactive.Terminal (record { terminal = t.0; label = x.label }), t.1)
statement_from (statements.Scope x) found = do
  body ← take_block x.instructions found
  Some (reactive.Scope (record { scope = x.scope; instructions = body.0 }), body.1)
statement_from (statements.PrunedScope x) found = do
  body ← take_block x.instructions found
  Some (reactive.PrunedScope (record { scope = x.scope; instructions = body.0 }), body.1)

-- ---- tables

-- the parts that wait after the entries, of which the last is read first
abbrev pub through : {A : Type 0} → (A → Found → Option Found) → List A → Found → Option Found
through step [] found = Some found
through step (first ∷ others) found = do
  later ← through step others found
  step first later

-- a nested value waits, before all others
abbrev pub wait_value : NestedValue → Found → Option Found
wait_value first found = do
  x ← nested_from first found
  Some (record x.1 { values = x.0 ∷ x.1.values })

-- a block waits, before all others
abbrev pub wait_block : List FlatStatement → Found → Option Found
wait_block first found = do
  x ← from_last statement_from first found
  Some (record x.1 { blocks = record { statements = x.0 } ∷ x.1.blocks })

-- no part waits
abbrev pub at_end : List (List FlatStatement) → List NestedValue → Found
at_end blocks entries =
    record { blocks = []; values = []; next_block = length blocks; next_value = length entries }

-- the result, if nothing is there
abbrev pub if_none : {X Y : Type 0} → Option X → Option Y → Option Y
if_none None result = result
if_none (Some x) result = None

-- the one block that waits, if no value does
abbrev pub only_block : List ReactiveBlock → List ReactiveValue → Option ReactiveBlock
only_block blocks values = do
  last ← take_last blocks
  if_none (take_last last.1) (if_none (take_last values) (Some last.0))

-- the body of two tables
abbrev pub body_of : List (List FlatStatement) → List NestedValue → Option ReactiveBlock
body_of blocks entries = do
  found ← through wait_value entries (at_end blocks entries)
  left ← through wait_block blocks found
  only_block left.blocks left.values

-- the header with a body
abbrev pub with_body : FlatFunction → ReactiveBlock → ReactiveFunction
with_body func body = record {
  span = func.span;
  id = func.id;
  name_hint = func.name_hint;
  params = func.params;
  generator = func.generator;
  is_async = func.is_async;
  body = body;
  directives = func.directives;
}

-- the function of two tables
unfoldable pub assembled : FlatFunction → Option ReactiveFunction
assembled func = do
  body ← body_of func.blocks func.values
  Some (with_body func body)

-- the function whose two tables a JSON value gives
abbrev pub function_of : Data → Option ReactiveFunction
function_of d = do
  func ← flat_function_of d
  assembled func
