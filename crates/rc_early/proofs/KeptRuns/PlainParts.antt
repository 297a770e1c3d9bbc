-- What is asked of all parts of a plain tree, of its values and of the blocks that its jumps name, and that it holds
-- with early returns too.
use Rattle.std.proofs.Common.{Bool, true, false, Option, None, Some}
use Rattle.std.specs.Prelude.{if◌then◌else◌}
use Rattle.rc_names.specs.Numbers.{BlockId, EvaluationOrder}
use Rattle.rc_hir.specs.Model.{Environment, Place}
use Rattle.rc_tree.specs.Model.{ReactiveTerminalTargetKind}
use Rattle.rc_tree.specs.declared.kind.ReactiveTerminalTargetKind.TheVariants.{Labeled}
use Rattle.rc_runs.specs.PlainTree.{Value, Statements, Nil, Cons, Statement, RowStatement, TerminalStatement}
use Rattle.rc_runs.specs.PlainTree.{ScopeStatement, PrunedScopeStatement, TreeTerminal, Break, Continue, Return, Throw}
use Rattle.rc_runs.specs.PlainTree.{Switch, DoWhile, While, For, ForOf, ForIn, If, Label, Try, Alternate, Absent}
use Rattle.rc_runs.specs.PlainTree.{Present}
use Rattle.rc_runs.specs.PlainTree.{Cases, NoCases, Case}
use Rattle.rc_runs.specs.Returning.{is_early_label, returning_after, returning_alternate, returning_break}
use Rattle.rc_runs.specs.Returning.{returning_cases, returning_statement, returning_terminal, stored_by}
use Rattle.rc_early.proofs.KeptRuns.PlainShapes.{OneList}
use Rattle.rc_early.proofs.KeptRuns.PlainShapes as plain

-- what is asked of the parts of a plain tree: of a row, of a value of a terminal, and of the block that a jump names
pub record Asked : Type 1 where
  pub Row : Option Place → Value → Type 0
  pub OfValue : Value → Type 0
  pub Jump : BlockId → Type 0

module _ (asked : Asked) where
  -- a value that may be absent
  abbrev pub OfOption : Option Value → Type 0
  OfOption None = Unit {0}
  OfOption (Some value) = asked.OfValue value

  -- what is asked of a terminal with one list, besides the list
  abbrev pub HeldOne : OneList → Type 0
  HeldOne (plain.DoWhile test id) = asked.OfValue test
  HeldOne (plain.While test id) = asked.OfValue test
  HeldOne (plain.For init test update id) = asked.OfValue init × asked.OfValue test × OfOption update
  HeldOne (plain.ForOf init test span id) = asked.OfValue init × asked.OfValue test
  HeldOne (plain.ForIn init span id) = asked.OfValue init
  HeldOne (plain.IfAlone test id) = Unit {0}
  HeldOne (plain.Label id) = Unit {0}

  -- all parts have what is asked
  abbrev mutual
    pub HoldsAll : Statements → Type 0
    HoldsAll Nil = Unit {0}
    HoldsAll (Cons statement rest) = HoldsOf statement × HoldsAll rest

    pub HoldsOf : Statement → Type 0
    HoldsOf (RowStatement id target value span) = asked.Row target value
    HoldsOf (TerminalStatement terminal label) = HoldsAt terminal
    HoldsOf (ScopeStatement scope body) = HoldsAll body
    HoldsOf (PrunedScopeStatement scope body) = HoldsAll body

    pub HoldsAt : TreeTerminal → Type 0
    HoldsAt (Break target kind id) = asked.Jump target
    HoldsAt (Continue target kind id) = asked.Jump target
    HoldsAt (Return value id) = Unit {0}
    HoldsAt (Throw value id) = Unit {0}
    HoldsAt (Switch test cases id) = HoldsCases cases
    HoldsAt (DoWhile body test id) = HeldOne (plain.DoWhile test id) × HoldsAll body
    HoldsAt (While test body id) = HeldOne (plain.While test id) × HoldsAll body
    HoldsAt (For init test update body id) = HeldOne (plain.For init test update id) × HoldsAll body
    HoldsAt (ForOf init test body span id) = HeldOne (plain.ForOf init test span id) × HoldsAll body
    HoldsAt (ForIn init body span id) = HeldOne (plain.ForIn init span id) × HoldsAll body
    HoldsAt (If test consequent alternate id) = HoldsAll consequent × HoldsIf alternate
    HoldsAt (Label body id) = HoldsAll body
    HoldsAt (Try body binding handler id) = HoldsAll body × HoldsAll handler

    pub HoldsIf : Alternate → Type 0
    HoldsIf Absent = Unit {0}
    HoldsIf (Present body) = HoldsAll body

    pub HoldsCases : Cases → Type 0
    HoldsCases NoCases = Unit {0}
    HoldsCases (Case test body rest) = HoldsIf body × HoldsCases rest

  module _ (env : Environment) where
    break_holds : (stored : Option Place) (target : BlockId) (kind : ReactiveTerminalTargetKind) (id : EvaluationOrder)
        → asked.Jump target → HoldsAt (returning_break env stored target kind id)
    break_holds (Some place) target Labeled id is = by (is_early_label env target)
      where
        by : (early : Bool) → HoldsAt (if early then Return place id else Break target Labeled id)
        by true = tt
        by false = is
    break_holds stored target kind id is = is

    -- of a break that became a return nothing is asked
    mutual
      unfolding returning_after returning_statement returning_terminal returning_alternate returning_cases

      pub returning_holds : (stored : Option Place) (statements : Statements) → HoldsAll statements
          → HoldsAll (returning_after env stored statements)
      returning_holds stored Nil h = tt
      returning_holds stored (Cons statement rest) h =
          (statement_holds stored statement h.0, returning_holds (stored_by statement) rest h.1)

      statement_holds : (stored : Option Place) (statement : Statement) → HoldsOf statement
          → HoldsOf (returning_statement env stored statement)
      statement_holds stored (RowStatement id target value span) h = h
      statement_holds stored (TerminalStatement terminal label) h = terminal_holds stored terminal h
      statement_holds stored (ScopeStatement scope body) h = returning_holds None body h
      statement_holds stored (PrunedScopeStatement scope body) h = returning_holds None body h

      terminal_holds : (stored : Option Place) (terminal : TreeTerminal) → HoldsAt terminal
          → HoldsAt (returning_terminal env stored terminal)
      terminal_holds stored (Break target kind id) h = break_holds stored target kind id h
      terminal_holds stored (Continue target kind id) h = h
      terminal_holds stored (Return value id) h = h
      terminal_holds stored (Throw value id) h = h
      terminal_holds stored (Switch test cases id) h = cases_hold cases h
      terminal_holds stored (DoWhile body test id) h = (h.0, returning_holds None body h.1)
      terminal_holds stored (While test body id) h = (h.0, returning_holds None body h.1)
      terminal_holds stored (For init test update body id) h = (h.0, returning_holds None body h.1)
      terminal_holds stored (ForOf init test body span id) h = (h.0, returning_holds None body h.1)
      terminal_holds stored (ForIn init body span id) h = (h.0, returning_holds None body h.1)
      terminal_holds stored (If test consequent alternate id) h =
          (returning_holds None consequent h.0, alternate_holds alternate h.1)
      terminal_holds stored (Label body id) h = returning_holds None body h
      terminal_holds stored (Try body binding handler id) h =
          (returning_holds None body h.0, returning_holds None handler h.1)

      alternate_holds : (alternate : Alternate) → HoldsIf alternate → HoldsIf (returning_alternate env alternate)
      alternate_holds Absent h = tt
      alternate_holds (Present body) h = returning_holds None body h

      cases_hold : (cases : Cases) → HoldsCases cases → HoldsCases (returning_cases env cases)
      cases_hold NoCases h = tt
      cases_hold (Case test body rest) h = (alternate_holds body h.0, cases_hold rest h.1)
