-- Early returns in a body. A labeled break to the label of a scope's early return, directly after the row that stores
-- what is returned, ends the run as a return of what was stored. `returning` writes that return in the place of each
-- such break.
use Rattle.std.specs.Prelude.{Bool, false, Option, None, Some, if◌then◌else◌}
use Rattle.std.specs.List.{list_any}
use Rattle.std.specs.Option.{option_map_or}
use Rattle.rc_names.specs.Numbers.{BlockId, EvaluationOrder, same_id}
use Rattle.rc_hir.specs.Model.{Environment, InstructionKind, Place, ReactiveScope}
use Rattle.rc_hir.specs.declared.instruction.InstructionValue.TheVariants as kinds
use Rattle.rc_hir.specs.declared.pattern.InstructionKind.TheVariants.{Reassign}
use Rattle.rc_tree.specs.Model.{ReactiveTerminalTargetKind}
use Rattle.rc_tree.specs.declared.kind.ReactiveTerminalTargetKind.TheVariants.{Labeled}
use Rattle.rc_runs.specs.PlainTree.{Base, Statements, Nil, Cons, Statement, RowStatement, TerminalStatement}
use Rattle.rc_runs.specs.PlainTree.{ScopeStatement, PrunedScopeStatement, TreeTerminal, Break, Continue, Return, Throw}
use Rattle.rc_runs.specs.PlainTree.{Switch, DoWhile, While, For, ForOf, ForIn, If, Label, Try, Alternate, Absent, Present}
use Rattle.rc_runs.specs.PlainTree.{Cases, NoCases, Case}

-- the block is the label of the scope's early return
abbrev pub is_label_of : BlockId → ReactiveScope → Bool
is_label_of block scope = option_map_or (λ early. same_id early.label block) scope.early_return_value false

-- the block is the label of an early return
abbrev pub is_early_label : Environment → BlockId → Bool
is_early_label env block = list_any (is_label_of block) env.scopes

-- the place, if it is stored into a variable that exists already
abbrev pub if_reassigns : InstructionKind → Place → Option Place
if_reassigns Reassign value = Some value
if_reassigns kind value = None

-- the place that the statement stores, if it is a row that reassigns a variable
abbrev pub stored_by : Statement → Option Place
stored_by (RowStatement id target (Base (kinds.StoreLocal lvalue value span)) row_span) = if_reassigns lvalue.kind value
stored_by statement = None

module _ (env : Environment) where
  -- a break directly after a statement that stores that place, if it stores one
  abbrev pub returning_break : Option Place → BlockId → ReactiveTerminalTargetKind → EvaluationOrder → TreeTerminal
  returning_break (Some place) target Labeled id =
      if is_early_label env target then Return place id else Break target Labeled id
  returning_break stored target kind id = Break target kind id

  unfoldable mutual
    -- statements after one that stores that place, if it stores one
    pub returning_after : Option Place → Statements → Statements
    returning_after stored Nil = Nil
    returning_after stored (Cons statement rest) =
        Cons (returning_statement stored statement) (returning_after (stored_by statement) rest)

    -- a statement after one that stores that place, if it stores one
    pub returning_statement : Option Place → Statement → Statement
    returning_statement stored (RowStatement id target value span) = RowStatement id target value span
    returning_statement stored (TerminalStatement terminal label) =
        TerminalStatement (returning_terminal stored terminal) label
    returning_statement stored (ScopeStatement scope body) = ScopeStatement scope (returning_after None body)
    returning_statement stored (PrunedScopeStatement scope body) = PrunedScopeStatement scope (returning_after None body)

    -- a terminal after a statement that stores that place, if it stores one
    pub returning_terminal : Option Place → TreeTerminal → TreeTerminal
    returning_terminal stored (Break target kind id) = returning_break stored target kind id
    returning_terminal stored (Continue target kind id) = Continue target kind id
    returning_terminal stored (Return value id) = Return value id
    returning_terminal stored (Throw value id) = Throw value id
    returning_terminal stored (Switch test cases id) = Switch test (returning_cases cases) id
    returning_terminal stored (DoWhile body test id) = DoWhile (returning_after None body) test id
    returning_terminal stored (While test body id) = While test (returning_after None body) id
    returning_terminal stored (For init test update body id) = For init test update (returning_after None body) id
    returning_terminal stored (ForOf init test body span id) = ForOf init test (returning_after None body) span id
    returning_terminal stored (ForIn init body span id) = ForIn init (returning_after None body) span id
    returning_terminal stored (If test consequent alternate id) =
        If test (returning_after None consequent) (returning_alternate alternate) id
    returning_terminal stored (Label body id) = Label (returning_after None body) id
    returning_terminal stored (Try body binding handler id) =
        Try (returning_after None body) binding (returning_after None handler) id

    -- an optional block
    pub returning_alternate : Alternate → Alternate
    returning_alternate Absent = Absent
    returning_alternate (Present body) = Present (returning_after None body)

    -- the cases of a switch
    pub returning_cases : Cases → Cases
    returning_cases NoCases = NoCases
    returning_cases (Case test body rest) = Case test (returning_alternate body) (returning_cases rest)

  -- a whole body
  abbrev pub returning : Statements → Statements
  returning = returning_after None
