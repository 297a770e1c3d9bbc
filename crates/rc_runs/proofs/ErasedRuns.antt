-- A body has the same runs with its scopes and without them.
--
-- A scope block has the runs of its contents, by which it is replaced, and every other statement keeps its form around
-- parts that keep their runs.
use Rattle.std.proofs.Common.{◌≡◌, ◌↔◌, false, List, Option, None, Some, option_map, refl, sym, ap, ◌∙◌, subst}
use Rattle.rc_names.specs.Numbers.{EvaluationOrder}
use Rattle.rc_names.specs.declared.span.Span.{Span}
use Rattle.rc_hir.specs.Model.{Environment, Place}
use Rattle.rc_tree.specs.Model.{ReactiveFunction, ReactiveLabel}
use Rattle.rc_runs.specs.Event.{Event, End}
use Rattle.rc_runs.specs.PlainTree.{Value, Statements, Nil, Cons, Statement, RowStatement, TerminalStatement}
use Rattle.rc_runs.specs.PlainTree.{ScopeStatement, PrunedScopeStatement, TreeTerminal, Break, Continue, Return, Throw}
use Rattle.rc_runs.specs.PlainTree.{Switch, DoWhile, While, For, ForOf, ForIn, If, Label, Try, Alternate, Absent}
use Rattle.rc_runs.specs.PlainTree.{Present, Cases, NoCases, Case}
use Rattle.rc_runs.specs.Completion.{Ended}
use Rattle.rc_runs.specs.EarlyReturns.{NoEarlyReturnSet}
use Rattle.rc_runs.specs.BodyRun.{RunsList, row, IsBodyRun}
use Rattle.rc_runs.proofs.ReturningLemmas.{body_run, statements_run}
use Rattle.rc_runs.specs.Erase.{erased_block, erased}
use Rattle.rc_runs.proofs.PlainLists.{alone, labeled}
use Rattle.rc_runs.proofs.ErasedValueRuns.{value_there, value_back, row_there, row_back}
use Rattle.rc_runs.proofs.KeepsRunsLemmas.{StatementKeepsRuns, SameRuns, SameAlternateRuns, append-keeps_runs}
use Rattle.rc_runs.proofs.KeepsRunsLemmas.{same-keeps_runs, statement-keeps_runs, contents-keep_runs}
use Rattle.rc_runs.proofs.KeepsRunsLemmas.{keeps_runs-contents, pruned_contents-keep_runs, keeps_runs-pruned_contents}
use Rattle.rc_runs.proofs.KeepsRunsLemmas.{present-keeps_runs, absent-keeps_runs, if-keeps_runs, label-keeps_runs}
use Rattle.rc_runs.proofs.KeepsRunsLemmas.{try-keeps_runs}
use Rattle.rc_runs.proofs.LoopsKeepRuns.{ValueKeepsRuns, OptionKeepsRuns, while-keeps_runs, do_while-keeps_runs}
use Rattle.rc_runs.proofs.LoopsKeepRuns.{for-keeps_runs, for_of-keeps_runs, for_in-keeps_runs}
use Rattle.rc_runs.proofs.SwitchKeepsRuns.{SameCasesRuns, no_cases-keep_runs, case-keeps_runs, switch-keeps_runs}
use Rattle.rc_runs.proofs.ErasedTreeLemmas.{plain_value, erased_plain, plain_statement, plain_terminal, plain_alternate}
use Rattle.rc_runs.proofs.ErasedTreeLemmas.{plain_cases, block-erased}
use Rattle.rc_runs.proofs.TreeOfLemmas.{block_of-injective}
use Rattle.rc_runs.proofs.EveryBlockIsPlain.{every_block_is_plain}

module _ (env : Environment) where
  -- a row, with its flags and without them
  row-keeps_runs : (id : EvaluationOrder) (target : Option Place) (value : Value) (span : Option Span) →
      SameRuns env (alone (RowStatement id target value span)) (alone (RowStatement id target (plain_value value) span))
  row-keeps_runs id target value span = (statement-keeps_runs env _ _ there, statement-keeps_runs env _ _ back)
    where
      there : StatementKeepsRuns env (RowStatement id target value span)
          (RowStatement id target (plain_value value) span)
      there events outcome (row r e) = row (row_there r) e

      back : StatementKeepsRuns env (RowStatement id target (plain_value value) span)
          (RowStatement id target value span)
      back events outcome (row r e) = row (row_back env value r) e

  -- a value of a loop
  abbrev SameValueRuns : Value → Type 0
  SameValueRuns value = ValueKeepsRuns env value (plain_value value) × ValueKeepsRuns env (plain_value value) value

  value-keeps_runs : (value : Value) → SameValueRuns value
  value-keeps_runs value = (λ events progress r. value_there r, value_back env value false)

  option-keeps_runs : (value : Option Value) → OptionKeepsRuns env value (option_map plain_value value)
      × OptionKeepsRuns env (option_map plain_value value) value
  option-keeps_runs None = (tt, tt)
  option-keeps_runs (Some value) = value-keeps_runs value

  mutual
    -- plain statements have the same runs with their scopes and without them
    pub erased_plain-runs : (body : Statements) → SameRuns env body (erased_plain body)
    erased_plain-runs Nil = (same-keeps_runs env Nil, same-keeps_runs env Nil)
    erased_plain-runs (Cons statement rest) =
        let first = plain_statement-runs statement in
        let more = erased_plain-runs rest in (
          append-keeps_runs env (alone statement) rest _ _ first.0 more.0,
          append-keeps_runs env _ _ (alone statement) rest first.1 more.1,
        )

    plain_statement-runs : (statement : Statement) → SameRuns env (alone statement) (plain_statement statement)
    plain_statement-runs (RowStatement id target value span) = row-keeps_runs id target value span
    plain_statement-runs (TerminalStatement terminal label) = plain_terminal-runs terminal label
    plain_statement-runs (ScopeStatement scope body) =
        let inside = erased_plain-runs body in
        (contents-keep_runs env scope body _ inside.0, keeps_runs-contents env scope _ body inside.1)
    plain_statement-runs (PrunedScopeStatement scope body) =
        let inside = erased_plain-runs body in
        (pruned_contents-keep_runs env scope body _ inside.0, keeps_runs-pruned_contents env scope _ body inside.1)

    plain_terminal-runs : (terminal : TreeTerminal) (label : Option ReactiveLabel)
        → SameRuns env (labeled terminal label) (labeled (plain_terminal terminal) label)
    plain_terminal-runs (Break target kind id) label = (same-keeps_runs env _, same-keeps_runs env _)
    plain_terminal-runs (Continue target kind id) label = (same-keeps_runs env _, same-keeps_runs env _)
    plain_terminal-runs (Return value id) label = (same-keeps_runs env _, same-keeps_runs env _)
    plain_terminal-runs (Throw value id) label = (same-keeps_runs env _, same-keeps_runs env _)
    plain_terminal-runs (Switch test cases id) label =
        let inside = plain_cases-runs cases in (
          switch-keeps_runs env test id cases _ label label inside.0 refl,
          switch-keeps_runs env test id _ cases label label inside.1 refl,
        )
    plain_terminal-runs (DoWhile body test id) label =
        let inside = erased_plain-runs body in
        let tests = value-keeps_runs test in (
          do_while-keeps_runs env id body _ label label inside.0 refl test _ tests.0,
          do_while-keeps_runs env id _ body label label inside.1 refl _ test tests.1,
        )
    plain_terminal-runs (While test body id) label =
        let inside = erased_plain-runs body in
        let tests = value-keeps_runs test in (
          while-keeps_runs env id body _ label label inside.0 refl test _ tests.0,
          while-keeps_runs env id _ body label label inside.1 refl _ test tests.1,
        )
    plain_terminal-runs (For init test update body id) label =
        let inside = erased_plain-runs body in
        let inits = value-keeps_runs init in
        let tests = value-keeps_runs test in
        let updates = option-keeps_runs update in (
          for-keeps_runs env id body _ label label inside.0 refl init _ test _ update _ inits.0 tests.0 updates.0,
          for-keeps_runs env id _ body label label inside.1 refl _ init _ test _ update inits.1 tests.1 updates.1,
        )
    plain_terminal-runs (ForOf init test body span id) label =
        let inside = erased_plain-runs body in
        let inits = value-keeps_runs init in
        let tests = value-keeps_runs test in (
          for_of-keeps_runs env id body _ label label inside.0 refl init _ test _ span inits.0 tests.0,
          for_of-keeps_runs env id _ body label label inside.1 refl _ init _ test span inits.1 tests.1,
        )
    plain_terminal-runs (ForIn init body span id) label =
        let inside = erased_plain-runs body in
        let inits = value-keeps_runs init in (
          for_in-keeps_runs env id body _ label label inside.0 refl init _ span inits.0,
          for_in-keeps_runs env id _ body label label inside.1 refl _ init span inits.1,
        )
    plain_terminal-runs (If test consequent alternate id) label =
        let inside = erased_plain-runs consequent in
        let other = plain_alternate-runs alternate in (
          if-keeps_runs env test id consequent _ alternate _ label label inside.0 other.0 refl,
          if-keeps_runs env test id _ consequent _ alternate label label inside.1 other.1 refl,
        )
    plain_terminal-runs (Label body id) label =
        let inside = erased_plain-runs body in (
          label-keeps_runs env id body _ label label inside.0 refl,
          label-keeps_runs env id _ body label label inside.1 refl,
        )
    plain_terminal-runs (Try body binding handler id) label =
        let inside = erased_plain-runs body in
        let last = erased_plain-runs handler in (
          try-keeps_runs env binding id body _ handler _ label label inside.0 last.0 refl,
          try-keeps_runs env binding id _ body _ handler label label inside.1 last.1 refl,
        )

    plain_alternate-runs : (alternate : Alternate) → SameAlternateRuns env alternate (plain_alternate alternate)
    plain_alternate-runs Absent = (absent-keeps_runs env, absent-keeps_runs env)
    plain_alternate-runs (Present body) =
        let inside = erased_plain-runs body in
        (present-keeps_runs env body _ inside.0, present-keeps_runs env _ body inside.1)

    plain_cases-runs : (cases : Cases) → SameCasesRuns env cases (plain_cases cases)
    plain_cases-runs NoCases = (no_cases-keep_runs env, no_cases-keep_runs env)
    plain_cases-runs (Case test body rest) =
        let inside = plain_alternate-runs body in
        let later = plain_cases-runs rest in (
          case-keeps_runs env test body _ rest _ inside.0 later.0,
          case-keeps_runs env test _ body _ rest inside.1 later.1,
        )

module _ (env : Environment) (none : NoEarlyReturnSet env) (events : List Event) (end : End) where
  run_there : (func : ReactiveFunction) → IsBodyRun func env events end → IsBodyRun (erased func) env events end
  run_there func run = body_run env none (ap erased_block run.body ∙ sym (block-erased run.statements))
      ((erased_plain-runs env run.statements).0 events (Ended end) (statements_run env none run))

  run_back : (func : ReactiveFunction) → IsBodyRun (erased func) env events end → IsBodyRun func env events end
  run_back func run =
      let plain = every_block_is_plain func.body in
      let unique = block_of-injective (erased_plain plain.0) run.statements in
      let same = unique (block-erased plain.0 ∙ ap erased_block plain.1 ∙ run.body) in
      body_run env none (sym plain.1) ((erased_plain-runs env plain.0).1 events (Ended end)
      (subst (λ statements. RunsList env statements events (Ended end)) (sym same) (statements_run env none run)))

  -- bodies that are the same without their scopes have the same runs
  pub same_erased_same_runs : (func other : ReactiveFunction) → erased func ≡ erased other →
      IsBodyRun func env events end ↔ IsBodyRun other env events end
  same_erased_same_runs func other e = (
    λ run. run_back other (subst (λ left. IsBodyRun left env events end) e (run_there func run)),
    λ run. run_back func (subst (λ left. IsBodyRun left env events end) (sym e) (run_there other run)),
  )
