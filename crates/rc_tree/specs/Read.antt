-- The read walk of a part: the steps of its hooks, in the order of the table of parts.
--
-- A part's enter step comes first. At `Inside` the steps of the inside and then the leave step follow, and at `Skip`
-- neither. Each inside is one equation here. Operands are looked up in the table of functions, which no step changes.
pub mod Values
use Rattle.std.specs.Prelude.{List}
use Rattle.rc_hir.specs.Model.{HirFunction}
use Rattle.rc_tree.specs.Step.{Walk, next_to, each, perhaps, around}
use Rattle.rc_tree.specs.ReadSteps.{ReadSteps}
use Rattle.rc_tree.specs.Model.{PrunedReactiveScopeBlock, ReactiveScopeBlock, ReactiveBlock, ReactiveStatement}
use Rattle.rc_tree.specs.Model.{ReactiveSwitchCase, ReactiveTerminal, ReactiveTerminalStatement}
use Rattle.rc_tree.specs.declared.statement.ReactiveStatement.TheOpen as layer
use Rattle.rc_tree.specs.declared.statement.ReactiveStatement.TheOpen.{ReactiveStatement-F, ReactiveTerminal-F}
use Rattle.rc_tree.specs.declared.statement.ReactiveStatement.TheOpen.{PrunedReactiveScopeBlock-F}
use Rattle.rc_tree.specs.declared.statement.ReactiveStatement.TheOpen.{ReactiveScopeBlock-F, ReactiveBlock-F}
use Rattle.rc_tree.specs.declared.statement.ReactiveStatement.TheOpen.{ReactiveSwitchCase-F}
use Rattle.rc_tree.specs.declared.statement.ReactiveStatement.TheOpen.{ReactiveTerminalStatement-F}
use Rattle.rc_tree.specs.declared.statement.ReactiveStatement.TheFolds.{para-ReactiveStatement, para-ReactiveTerminal}
use Rattle.rc_tree.specs.declared.statement.ReactiveStatement.TheFolds.{para-PrunedReactiveScopeBlock}
use Rattle.rc_tree.specs.declared.statement.ReactiveStatement.TheFolds.{para-ReactiveScopeBlock, para-ReactiveBlock}
use Rattle.rc_tree.specs.declared.statement.ReactiveStatement.TheFolds.{para-ReactiveSwitchCase}
use Rattle.rc_tree.specs.declared.statement.ReactiveStatement.TheFolds.{para-ReactiveTerminalStatement}
use Rattle.rc_tree.specs.Read.Values.{WalkAt, read_value, read_instruction}

module _ {S : Type 0} (v : ReadSteps S) (functions : List HirFunction) where
  -- the walk of a terminal, a scope, a pruned scope and a block, from the walk of its inside
  abbrev pub around_terminal : ReactiveTerminalStatement × Walk S → Walk S
  around_terminal x = around (v.enter_terminal x.0) x.1 (v.leave_terminal x.0)

  abbrev pub around_scope : ReactiveScopeBlock × Walk S → Walk S
  around_scope x = around (v.enter_scope x.0) x.1 (v.leave_scope x.0)

  abbrev pub around_pruned_scope : PrunedReactiveScopeBlock × Walk S → Walk S
  around_pruned_scope x = around (v.enter_pruned_scope x.0) x.1 (v.leave_pruned_scope x.0)

  abbrev pub around_block : ReactiveBlock × Walk S → Walk S
  around_block x = around (v.enter_block x.0) x.1 (v.leave_block x.0)

  -- each part, with the walk of its inside; the test of a case is visited at the id of its switch
  abbrev pub OfStatement : Type 0
  OfStatement = ReactiveStatement × Walk S

  abbrev pub OfParts : Type 0
  OfParts = ReactiveTerminal × Walk S

  abbrev pub OfPruned : Type 0
  OfPruned = PrunedReactiveScopeBlock × Walk S

  abbrev pub OfScope : Type 0
  OfScope = ReactiveScopeBlock × Walk S

  abbrev pub OfBlock : Type 0
  OfBlock = ReactiveBlock × Walk S

  abbrev pub OfCase : Type 0
  OfCase = ReactiveSwitchCase × WalkAt S

  abbrev pub OfTerminal : Type 0
  OfTerminal = ReactiveTerminalStatement × Walk S

  -- the walk of a statement is the walk of its part
  abbrev pub statement_step : ReactiveStatement-F OfStatement OfParts OfPruned OfScope OfBlock OfCase OfTerminal
      → Walk S
  statement_step (layer.Instruction x) = read_instruction v functions x
  statement_step (layer.Terminal x) = around_terminal x
  statement_step (layer.Scope x) = around_scope x
  statement_step (layer.PrunedScope x) = around_pruned_scope x

  -- a terminal's id, and then its parts; the update of a `For` follows the loop block
  abbrev pub parts_step : ReactiveTerminal-F OfStatement OfParts OfPruned OfScope OfBlock OfCase OfTerminal → Walk S
  parts_step (layer.Break target kind id) = v.visit_id id
  parts_step (layer.Continue target kind id) = v.visit_id id
  parts_step (layer.Return place id) = next_to (v.visit_id id) (v.visit_place id place)
  parts_step (layer.Throw place id) = next_to (v.visit_id id) (v.visit_place id place)
  parts_step (layer.Switch test cases id) =
      next_to (v.visit_id id) (next_to (v.visit_place id test) (each (λ c. c.1 id) cases))
  parts_step (layer.DoWhile body test id) =
      next_to (v.visit_id id) (next_to (around_block body) (read_value v functions test id))
  parts_step (layer.While test body id) =
      next_to (v.visit_id id) (next_to (read_value v functions test id) (around_block body))
  parts_step (layer.For init test update body id) =
      next_to (v.visit_id id) (next_to (read_value v functions init id)
      (next_to (read_value v functions test id)
      (next_to (around_block body) (perhaps (λ x. read_value v functions x id) update))))
  parts_step (layer.ForOf init test body span id) =
      next_to (v.visit_id id) (next_to (read_value v functions init id)
      (next_to (read_value v functions test id) (around_block body)))
  parts_step (layer.ForIn init body span id) =
      next_to (v.visit_id id) (next_to (read_value v functions init id) (around_block body))
  parts_step (layer.If test consequent alternate id) =
      next_to (v.visit_id id) (next_to (v.visit_place id test)
      (next_to (around_block consequent) (perhaps around_block alternate)))
  parts_step (layer.Label body id) = next_to (v.visit_id id) (around_block body)
  parts_step (layer.Try body binding handler id) =
      next_to (v.visit_id id) (next_to (around_block body)
      (next_to (perhaps (v.visit_place id) binding) (around_block handler)))

  -- the inside of a pruned scope, and of a scope, is its block
  abbrev pub pruned_step : PrunedReactiveScopeBlock-F OfStatement OfParts OfPruned OfScope OfBlock OfCase OfTerminal
      → Walk S
  pruned_step x = around_block x.instructions

  abbrev pub scope_step : ReactiveScopeBlock-F OfStatement OfParts OfPruned OfScope OfBlock OfCase OfTerminal → Walk S
  scope_step x = around_block x.instructions

  -- the inside of a block is its statements
  abbrev pub block_step : ReactiveBlock-F OfStatement OfParts OfPruned OfScope OfBlock OfCase OfTerminal → Walk S
  block_step x = each (λ statement. statement.1) x.statements

  -- a case is its test and its block
  abbrev pub case_step : ReactiveSwitchCase-F OfStatement OfParts OfPruned OfScope OfBlock OfCase OfTerminal → WalkAt S
  case_step x id = next_to (perhaps (v.visit_place id) x.test) (perhaps around_block x.block)

  -- the inside of a terminal is its parts
  abbrev pub terminal_step : ReactiveTerminalStatement-F OfStatement OfParts OfPruned OfScope OfBlock OfCase OfTerminal
      → Walk S
  terminal_step x = x.terminal.1

  -- the walk of a statement
  unfoldable pub read_statement : ReactiveStatement → Walk S
  read_statement = para-ReactiveStatement (Walk S) (Walk S) (Walk S) (Walk S) (Walk S) (WalkAt S) (Walk S)
      statement_step parts_step pruned_step scope_step block_step case_step terminal_step

  -- the walk of a terminal's parts
  unfoldable pub read_parts : ReactiveTerminal → Walk S
  read_parts = para-ReactiveTerminal (Walk S) (Walk S) (Walk S) (Walk S) (Walk S) (WalkAt S) (Walk S) statement_step
      parts_step pruned_step scope_step block_step case_step terminal_step

  -- the walk of a pruned scope's inside
  unfoldable pub inside_pruned_scope : PrunedReactiveScopeBlock → Walk S
  inside_pruned_scope = para-PrunedReactiveScopeBlock (Walk S) (Walk S) (Walk S) (Walk S) (Walk S) (WalkAt S) (Walk S)
      statement_step parts_step pruned_step scope_step block_step case_step terminal_step

  -- the walk of a scope's inside
  unfoldable pub inside_scope : ReactiveScopeBlock → Walk S
  inside_scope = para-ReactiveScopeBlock (Walk S) (Walk S) (Walk S) (Walk S) (Walk S) (WalkAt S) (Walk S) statement_step
      parts_step pruned_step scope_step block_step case_step terminal_step

  -- the walk of a block's inside
  unfoldable pub inside_block : ReactiveBlock → Walk S
  inside_block = para-ReactiveBlock (Walk S) (Walk S) (Walk S) (Walk S) (Walk S) (WalkAt S) (Walk S) statement_step
      parts_step pruned_step scope_step block_step case_step terminal_step

  -- the walk of a case, at the id of its switch
  unfoldable pub read_case : ReactiveSwitchCase → WalkAt S
  read_case = para-ReactiveSwitchCase (Walk S) (Walk S) (Walk S) (Walk S) (Walk S) (WalkAt S) (Walk S) statement_step
      parts_step pruned_step scope_step block_step case_step terminal_step

  -- the walk of a terminal's inside
  unfoldable pub inside_terminal : ReactiveTerminalStatement → Walk S
  inside_terminal = para-ReactiveTerminalStatement (Walk S) (Walk S) (Walk S) (Walk S) (Walk S) (WalkAt S) (Walk S)
      statement_step parts_step pruned_step scope_step block_step case_step terminal_step

  -- the walk of a block, of a scope, of a pruned scope, of a terminal
  unfoldable pub read_block : ReactiveBlock → Walk S
  read_block x = around (v.enter_block x) (inside_block x) (v.leave_block x)

  unfoldable pub read_scope : ReactiveScopeBlock → Walk S
  read_scope x = around (v.enter_scope x) (inside_scope x) (v.leave_scope x)

  unfoldable pub read_pruned_scope : PrunedReactiveScopeBlock → Walk S
  read_pruned_scope x = around (v.enter_pruned_scope x) (inside_pruned_scope x) (v.leave_pruned_scope x)

  unfoldable pub read_terminal : ReactiveTerminalStatement → Walk S
  read_terminal x = around (v.enter_terminal x) (inside_terminal x) (v.leave_terminal x)
