-- Runs of a body: the events of its statements, and the completion of each statement.
use Rattle.std.specs.Prelude.{◌≡◌, Bool, true, false, List, [], ◌∷◌, ◌++◌, Option, Some, None, is_none, ◌||◌}
use Rattle.rc_hir.specs.Model.{Place, Environment}
use Rattle.rc_tree.specs.declared.kind.ReactiveTerminalTargetKind.TheVariants.{Implicit, Labeled, Unlabeled}
use Rattle.rc_tree.specs.Model.{ReactiveLabel, ReactiveFunction}
use Rattle.rc_runs.specs.Event.{Event, Arm, Chose, Threw, End, Open, Returned, Thrown}
use Rattle.rc_runs.specs.PlainTree.{Statements, Nil, Cons, Statement, RowStatement, TerminalStatement}
use Rattle.rc_runs.specs.PlainTree.{ScopeStatement, PrunedScopeStatement, Break, Continue, Return, Throw, Switch}
use Rattle.rc_runs.specs.PlainTree.{DoWhile, While, For, ForOf, ForIn, If, Label, Try, Alternate, Absent, Present}
use Rattle.rc_runs.specs.PlainTree.{Cases, NoCases, Case}
use Rattle.rc_runs.specs.LoopParts.{LoopParts}
use Rattle.rc_runs.specs.ValueRun.{Inside, goes_past, RunsValue, RunsRow}
use Rattle.rc_runs.specs.Returning.{returning}
use Rattle.rc_runs.specs.TreeOf.{block_of}
use Rattle.rc_runs.specs.Completion.{Completion, Normal, BreakTo, BreakInnermost, ContinueTo, ContinueLoop, Ended, leaves}
use Rattle.rc_runs.specs.Completion.{caught, row_completion, turns_again, caught_unlabeled, is_thrown, reaches_handler}

-- one of the cases is a default
abbrev pub has_default : Cases → Bool
has_default NoCases = false
has_default (Case test body rest) = is_none test || has_default rest

-- a place in a loop: where a turn begins, its test, or its body
pub data Spot : Type 0 where
  AtTurn : Spot
  AtTest : Spot
  AtBody : Spot

module _ (env : Environment) where
  mutual
    -- a run of statements, one after the other: its events and its completion
    pub data RunsList : Statements → List Event → Completion → Type 0 where
      -- each prefix of a run is a run
      stopped : {statements : _} → RunsList statements [] (Ended Open)
      nothing : RunsList Nil [] Normal
      and_then : {statement rest first second events outcome last : _} → RunsStatement statement first outcome →
          RunsAfter outcome rest second last → events ≡ first ++ second → RunsList (Cons statement rest) events last

    -- a run of the statements after one that completes in that way
    pub data RunsAfter : Completion → Statements → List Event → Completion → Type 0 where
      goes_on : {rest events outcome : _} → RunsList rest events outcome → RunsAfter Normal rest events outcome
      leaves_list : {outcome rest : _} → leaves outcome ≡ true → RunsAfter outcome rest [] outcome

    -- a run of one statement
    pub data RunsStatement : Statement → List Event → Completion → Type 0 where
      row : {id target value span events progress outcome : _} → RunsRow env false id value events progress →
          outcome ≡ row_completion progress → RunsStatement (RowStatement id target value span) events outcome
      returned : {value id label : _} →
          RunsStatement (TerminalStatement (Return value id) label) [] (Ended (Returned value))
      thrown : {value id label : _} → RunsStatement (TerminalStatement (Throw value id) label) [] (Ended (Thrown value))
      break_implicit : {target id label : _} →
          RunsStatement (TerminalStatement (Break target Implicit id) label) [] Normal
      -- a statement's own label catches its break too
      break_labeled : {target id label outcome : _} → outcome ≡ caught label (BreakTo target) →
          RunsStatement (TerminalStatement (Break target Labeled id) label) [] outcome
      break_unlabeled : {target id label : _} →
          RunsStatement (TerminalStatement (Break target Unlabeled id) label) [] BreakInnermost
      continue_implicit : {target id label : _} →
          RunsStatement (TerminalStatement (Continue target Implicit id) label) [] Normal
      continue_labeled : {target id label : _} →
          RunsStatement (TerminalStatement (Continue target Labeled id) label) [] (ContinueTo target)
      continue_unlabeled : {target id label : _} →
          RunsStatement (TerminalStatement (Continue target Unlabeled id) label) [] ContinueLoop
      took_arm : {test consequent alternate id label events inner outer : _} → RunsList consequent events inner →
          outer ≡ caught label inner →
          RunsStatement (TerminalStatement (If test consequent alternate id) label) (Arm true ∷ events) outer
      took_other : {test consequent alternate id label events inner outer : _} → RunsAlternate alternate events inner →
          outer ≡ caught label inner →
          RunsStatement (TerminalStatement (If test consequent alternate id) label) (Arm false ∷ events) outer
      -- a switch runs from the chosen case on
      in_case : {test cases id label chosen events inner outer : _} → RunsChosen chosen cases events inner →
          outer ≡ caught_unlabeled label inner →
          RunsStatement (TerminalStatement (Switch test cases id) label) (Chose chosen ∷ events) outer
      past_cases : {test cases id label : _} → has_default cases ≡ false →
          RunsStatement (TerminalStatement (Switch test cases id) label) (Chose None ∷ []) Normal
      in_while : {test body id label events outcome : _} →
          RunsLoop label (record { before = None; test = test; body = body }) AtTest events outcome →
          RunsStatement (TerminalStatement (While test body id) label) events outcome
      in_do_while : {test body id label events outcome : _} →
          RunsLoop label (record { before = None; test = test; body = body }) AtBody events outcome →
          RunsStatement (TerminalStatement (DoWhile body test id) label) events outcome
      -- the init runs once; an update begins each turn but the first
      in_init : {init test update body id label events : _} → RunsValue env false init events Inside →
          RunsStatement (TerminalStatement (For init test update body id) label) events (Ended Open)
      past_init : {init test update body id label first second events progress outcome : _} →
          RunsValue env false init first progress → goes_past progress ≡ true →
          RunsLoop label (record { before = update; test = test; body = body }) AtTest second outcome →
          events ≡ first ++ second → RunsStatement (TerminalStatement (For init test update body id) label) events outcome
      -- the init begins each turn
      in_for_of : {init test body span id label events outcome : _} →
          RunsLoop label (record { before = Some init; test = test; body = body }) AtTurn events outcome →
          RunsStatement (TerminalStatement (ForOf init test body span id) label) events outcome
      -- the init is the test of each turn
      in_for_in : {init body span id label events outcome : _} →
          RunsLoop label (record { before = None; test = init; body = body }) AtTest events outcome →
          RunsStatement (TerminalStatement (ForIn init body span id) label) events outcome
      in_label : {body id label events inner outer : _} → RunsList body events inner → outer ≡ caught label inner →
          RunsStatement (TerminalStatement (Label body id) label) events outer
      -- a throw statement in a protected block doesn't end the run
      in_try : {body handler binding id label events inner outer : _} → RunsList body events inner →
          is_thrown inner ≡ false → outer ≡ caught label inner →
          RunsStatement (TerminalStatement (Try body binding handler id) label) events outer
      in_handler : {body handler binding id label first second events reached inner outer : _} →
          RunsList body first reached → reaches_handler reached ≡ true → RunsList handler second inner →
          outer ≡ caught label inner → events ≡ first ++ (Threw ∷ second) →
          RunsStatement (TerminalStatement (Try body binding handler id) label) events outer
      in_scope : {scope body events outcome : _} → RunsList body events outcome →
          RunsStatement (ScopeStatement scope body) events outcome
      in_pruned_scope : {scope body events outcome : _} → RunsList body events outcome →
          RunsStatement (PrunedScopeStatement scope body) events outcome

    -- a run from the chosen case on: a case with this test, the default if there is none, and those after it
    pub data RunsChosen : Option Place → Cases → List Event → Completion → Type 0 where
      chosen_here : {test body rest events outcome : _} → RunsCases (Case test body rest) events outcome →
          RunsChosen test (Case test body rest) events outcome
      chosen_later : {test other body rest events outcome : _} → RunsChosen test rest events outcome →
          RunsChosen test (Case other body rest) events outcome

    -- a run of these cases from the first one on: each falls into the next one
    pub data RunsCases : Cases → List Event → Completion → Type 0 where
      no_more_cases : RunsCases NoCases [] Normal
      falls_into : {test body rest first second events outcome : _} → RunsAlternate body first Normal →
          RunsCases rest second outcome → events ≡ first ++ second → RunsCases (Case test body rest) events outcome
      leaves_case : {test body rest events outcome : _} → RunsAlternate body events outcome → leaves outcome ≡ true →
          RunsCases (Case test body rest) events outcome

    -- a run of a loop with that label from a place in it on
    pub data RunsLoop : Option ReactiveLabel → LoopParts → Spot → List Event → Completion → Type 0 where
      nothing_before : {label : _} {loop : LoopParts} {events outcome : _} → loop.before ≡ None →
          RunsLoop label loop AtTest events outcome → RunsLoop label loop AtTurn events outcome
      in_before : {label : _} {loop : LoopParts} {value events : _} → loop.before ≡ Some value →
          RunsValue env false value events Inside → RunsLoop label loop AtTurn events (Ended Open)
      past_before : {label : _} {loop : LoopParts} {value first second events progress outcome : _} →
          loop.before ≡ Some value → RunsValue env false value first progress → goes_past progress ≡ true →
          RunsLoop label loop AtTest second outcome → events ≡ first ++ second → RunsLoop label loop AtTurn events outcome
      in_test : {label : _} {loop : LoopParts} {events : _} → RunsValue env false loop.test events Inside →
          RunsLoop label loop AtTest events (Ended Open)
      test_fails : {label : _} {loop : LoopParts} {first events progress : _} →
          RunsValue env false loop.test first progress → goes_past progress ≡ true → events ≡ first ++ Arm false ∷ [] →
          RunsLoop label loop AtTest events Normal
      test_holds : {label : _} {loop : LoopParts} {first second events progress outcome : _} →
          RunsValue env false loop.test first progress → goes_past progress ≡ true →
          RunsLoop label loop AtBody second outcome → events ≡ first ++ (Arm true ∷ second) →
          RunsLoop label loop AtTest events outcome
      next_turn : {label : _} {loop : LoopParts} {first second events inner outcome : _} →
          RunsList loop.body first inner → turns_again label inner ≡ true → RunsLoop label loop AtTurn second outcome →
          events ≡ first ++ second → RunsLoop label loop AtBody events outcome
      leaves_loop : {label : _} {loop : LoopParts} {events inner outer : _} → RunsList loop.body events inner →
          turns_again label inner ≡ false → outer ≡ caught_unlabeled label inner → RunsLoop label loop AtBody events outer

    -- a run of an optional block
    pub data RunsAlternate : Alternate → List Event → Completion → Type 0 where
      absent : RunsAlternate Absent [] Normal
      present : {body events outcome : _} → RunsList body events outcome → RunsAlternate (Present body) events outcome

-- a run of the function's body, whose early returns end it
pub record IsBodyRun (func : ReactiveFunction) (env : Environment) (events : List Event) (end : End) :
    Type 0 where
  pub statements : Statements
  pub body : func.body ≡ block_of statements
  pub run : RunsList env (returning env statements) events (Ended end)
