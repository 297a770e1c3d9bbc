-- What the statements of a body add to the table of its positions.
use Rattle.std.specs.Prelude.{◌≡◌, ℕ, zero, suc, Bool, false, List, Option, None, Some, slice_get, option_map}
use Rattle.std.specs.Option.{option_map_or}
use Rattle.rc_names.specs.Numbers.{BlockId, EvaluationOrder}
use Rattle.rc_hir.specs.Model.{Environment, Place}
use Rattle.rc_tree.specs.Model.{ReactiveLabel, ReactiveBlock, ReactiveStatement, ReactiveTerminal, ReactiveValue}
use Rattle.rc_tree.specs.Model.{ReactiveTerminalTargetKind}
use Rattle.rc_tree.specs.declared.terminal.ReactiveTerminal.TheVariants as tree
use Rattle.rc_tree.specs.declared.terminal.ReactiveSwitchCase.{ReactiveSwitchCase}
use Rattle.rc_tree.specs.declared.statement.ReactiveStatement.{out-ReactiveStatement}
use Rattle.rc_runs.specs.BodyRun.{has_default}
use Rattle.rc_runs.specs.PlainTree.{Value, Statements, Statement, TerminalStatement, TreeTerminal, Alternate, Cases}
use Rattle.rc_runs.specs.Returning.{returning_after, returning_statement, returning_terminal, returning_alternate}
use Rattle.rc_runs.specs.Returning.{returning_cases}
use Rattle.rc_runs.specs.TreeOf.{value_of, statements_of, statement_of, terminal_of, alternate_of, cases_of}
use Rattle.rc_replay.specs.declared.layout.Turns.{Turns}
use Rattle.rc_replay.specs.declared.exits.Around.{Around}
use Rattle.rc_replay.specs.declared.exits.Exits.{Exits as LaidExits}
use Rattle.rc_replay.specs.declared.layout.Layout.{Layout}
use Rattle.rc_replay.specs.inside.EarlyReturn.{stored_in}
use Rattle.rc_replay.specs.inside.LaidExits.{exits_of, part_exits}
use Rattle.rc_replay.specs.inside.Layout.{Lays}
use Rattle.rc_replay.specs.inside.Lowered.{LowersList, LowersStatement, LowersAlternate, LowersCases, LowersLoop}
use Rattle.rc_replay.specs.inside.LoweredValue.{LowersValue}
use Rattle.rc_replay.specs.inside.Positions.{Choice, Table}

-- statements are laid out, the first of them after one that stores that place, if it stores one
pub record LaysList (env : Environment) (stored : Option Place) (exits : LaidExits) (statements : List ReactiveStatement)
    (old new : Layout) (start : ℕ) : Type 0 where
  pub plain : Statements
  pub same : statements_of plain ≡ statements
  pub lays : Lays old new (λ table.
      LowersList table env (exits_of exits old.labels) (returning_after env stored plain) start)

abbrev pub LaysBlock : Environment → LaidExits → ReactiveBlock → Layout → Layout → ℕ → Type 0
LaysBlock env exits block = LaysList env None exits block.statements

-- so is a block with one more label around it, and an optional one
pub record LaysPart (env : Environment) (exits : LaidExits) (around : Around) (block : ReactiveBlock)
    (old new : Layout) (start : ℕ) : Type 0 where
  pub plain : Statements
  pub same : statements_of plain ≡ block.statements
  pub lays : Lays old new (λ table.
      LowersList table env (part_exits exits around old.labels) (returning_after env None plain) start)

pub record LaysAlternate (env : Environment) (exits : LaidExits) (around : Around) (block : Option ReactiveBlock)
    (old new : Layout) (start : ℕ) : Type 0 where
  pub plain : Alternate
  pub same : alternate_of plain ≡ block
  pub lays : Lays old new (λ table.
      LowersAlternate table env (part_exits exits around old.labels) (returning_alternate env plain) start)

-- so is a statement, and a terminal with its label
pub record LaysStatement (env : Environment) (stored : Option Place) (exits : LaidExits) (statement : ReactiveStatement)
    (old new : Layout) (start : ℕ) : Type 0 where
  pub plain : Statement
  pub same : statement_of plain ≡ statement
  pub lays : Lays old new (λ table.
      LowersStatement table env (exits_of exits old.labels) (returning_statement env stored plain) start)

pub record LaysTerminal (env : Environment) (stored : Option Place) (exits : LaidExits) (label : Option ReactiveLabel)
    (terminal : ReactiveTerminal) (old new : Layout) (start : ℕ) : Type 0 where
  pub plain : TreeTerminal
  pub same : terminal_of plain ≡ terminal
  pub lays : Lays old new (λ table. LowersStatement table env (exits_of exits old.labels)
      (TerminalStatement (returning_terminal env stored plain) label) start)

-- so are the cases of a switch, with their choices
pub record LaysCases (env : Environment) (exits : LaidExits) (around : Around) (cases : List ReactiveSwitchCase)
    (old new : Layout) (start : ℕ) (choices : List Choice) (defaults : Bool) : Type 0 where
  pub plain : Cases
  pub same : cases_of plain ≡ cases
  pub default : has_default (returning_cases env plain) ≡ defaults
  pub lays : Lays old new (λ table.
      LowersCases table env (part_exits exits around old.labels) (returning_cases env plain) start choices)

-- the value before the test of a loop, or the test where there is none
abbrev pub BeginsBefore : Environment → Table → Option Value → ℕ → ℕ → Type 0
BeginsBefore env table None tested start = start ≡ tested
BeginsBefore env table (Some value) tested start = LowersValue table env false value tested tested start

-- the value before the test is laid out, if there is one
pub record LaysBefore (env : Environment) (before : Option ReactiveValue) (tested : ℕ) (old new : Layout) (start : ℕ) :
    Type 0 where
  pub plain : Option Value
  pub same : option_map value_of plain ≡ before
  pub lays : Lays old new (λ table. BeginsBefore env table plain tested start)

-- so is a loop
pub record LaysLoop (env : Environment) (exits : LaidExits) (label : Option ReactiveLabel) (before : Option ReactiveValue)
    (test : ReactiveValue) (body : ReactiveBlock) (old new : Layout) (turns : Turns) : Type 0 where
  pub plain_before : Option Value
  pub plain_test : Value
  pub plain_body : Statements
  pub same_before : option_map value_of plain_before ≡ before
  pub same_test : value_of plain_test ≡ test
  pub same_body : statements_of plain_body ≡ body.statements
  pub lays : Lays old new (λ table. LowersLoop table env (exits_of exits old.labels) label
      (record { before = plain_before; test = plain_test; body = returning_after env None plain_body }) turns.turn
      turns.test turns.body)

-- the place that the statement before that place in the list stores
abbrev pub stored_before : List ReactiveStatement → ℕ → Option Place
stored_before statements zero = None
stored_before statements (suc i) =
    option_map_or (λ statement. stored_in (out-ReactiveStatement statement)) (slice_get statements i) None

-- a break is laid out, and a switch
abbrev pub LaysBreak : Environment → Option Place → LaidExits → Option ReactiveLabel → BlockId
    → ReactiveTerminalTargetKind → Layout → Layout → ℕ → Type 0
LaysBreak env stored exits label target kind old new start =
    (id : EvaluationOrder) → LaysTerminal env stored exits label (tree.Break target kind id) old new start

abbrev pub LaysSwitch : Environment → LaidExits → Option ReactiveLabel → List ReactiveSwitchCase → Layout → Layout → ℕ
    → Type 0
LaysSwitch env exits label cases old new start = (stored : Option Place) (test : Place) (id : EvaluationOrder)
    → LaysTerminal env stored exits label (tree.Switch test cases id) old new start
