-- When each run of a loop is a run of another loop: their values and bodies keep their runs, and their labels name the
-- same block.
use Rattle.std.proofs.Common.{◌≡◌, false, List, Option, None, Some, refl, sym, ◌∙◌, subst}
use Rattle.rc_names.specs.Numbers.{EvaluationOrder}
use Rattle.rc_names.specs.declared.span.Span.{Span}
use Rattle.rc_hir.specs.Model.{Environment}
use Rattle.rc_tree.specs.Model.{ReactiveLabel}
use Rattle.rc_runs.specs.Event.{Event}
use Rattle.rc_runs.specs.PlainTree.{Value, Statements, DoWhile, While, For, ForOf, ForIn}
use Rattle.rc_runs.specs.LoopParts.{LoopParts}
use Rattle.rc_runs.specs.ValueRun.{Progress, RunsValue}
use Rattle.rc_runs.specs.Completion.{Completion}
use Rattle.rc_runs.specs.BodyRun.{Spot, RunsLoop, nothing_before, in_before, past_before, in_test, test_fails}
use Rattle.rc_runs.specs.BodyRun.{test_holds, next_turn, leaves_loop, in_while, in_do_while, in_init, past_init}
use Rattle.rc_runs.specs.BodyRun.{in_for_of, in_for_in}
use Rattle.rc_runs.proofs.LabelLemmas.{NameAlike, turns_again-alike, caught_unlabeled-alike}
use Rattle.rc_runs.proofs.PlainLists.{labeled}
use Rattle.rc_runs.proofs.KeepsRunsLemmas.{KeepsRuns, TerminalKeepsRuns, statement-keeps_runs}

module _ (env : Environment) where
  -- each run of the first value is a run of the second
  abbrev pub ValueKeepsRuns : Value → Value → Type 0
  ValueKeepsRuns from to = (events : List Event) (progress : Progress) → RunsValue env false from events progress →
      RunsValue env false to events progress

  pub same_value : (value : Value) → ValueKeepsRuns value value
  same_value value events progress r = r

  -- the same of values that a loop may lack
  abbrev pub OptionKeepsRuns : Option Value → Option Value → Type 0
  OptionKeepsRuns None None = Unit {0}
  OptionKeepsRuns (Some from) (Some to) = ValueKeepsRuns from to
  OptionKeepsRuns _ _ = ⊥

  pub same_option : (value : Option Value) → OptionKeepsRuns value value
  same_option None = tt
  same_option (Some value) = same_value value

  none_kept : (from to : Option Value) → OptionKeepsRuns from to → from ≡ None → to ≡ None
  none_kept None None keeps e = refl
  none_kept None (Some to) keeps e = absurd keeps
  none_kept (Some from) to keeps e = absurd (let bad : ⊥ = cc in bad)

  some_kept : (from to : Option Value) (value : Value) → OptionKeepsRuns from to → from ≡ Some value →
      (kept : Value) × (to ≡ Some kept) × ValueKeepsRuns value kept
  some_kept None to value keeps e = absurd (let bad : ⊥ = cc in bad)
  some_kept (Some from) None value keeps e = absurd keeps
  some_kept (Some from) (Some to) value keeps e =
      (to, refl, subst (λ v. ValueKeepsRuns v to) (let same : from ≡ value = cc in same) keeps)

  -- the same of all that a loop runs in each turn
  pub record PartsKeepRuns (from to : LoopParts) : Type 0 where
    pub before : OptionKeepsRuns from.before to.before
    pub test : ValueKeepsRuns from.test to.test
    pub body : KeepsRuns env from.body to.body

  -- a loop from a place in it on
  loop-keeps_runs : {from to : LoopParts} {label label' : Option ReactiveLabel} {spot : Spot} {events : List Event}
      {outcome : Completion} → PartsKeepRuns from to → NameAlike label label' →
      RunsLoop env label from spot events outcome → RunsLoop env label' to spot events outcome
  loop-keeps_runs {from} {to} keeps alike (nothing_before none r) =
      nothing_before (none_kept from.before to.before keeps.before none) (loop-keeps_runs keeps alike r)
  loop-keeps_runs {from} {to} keeps alike (in_before {value = value} some r) =
      let kept = some_kept from.before to.before value keeps.before some in in_before kept.1 (kept.2 _ _ r)
  loop-keeps_runs {from} {to} keeps alike (past_before {value = value} some r past later e) =
      let kept = some_kept from.before to.before value keeps.before some in
      past_before kept.1 (kept.2 _ _ r) past (loop-keeps_runs keeps alike later) e
  loop-keeps_runs keeps alike (in_test r) = in_test (keeps.test _ _ r)
  loop-keeps_runs keeps alike (test_fails r past e) = test_fails (keeps.test _ _ r) past e
  loop-keeps_runs keeps alike (test_holds r past later e) =
      test_holds (keeps.test _ _ r) past (loop-keeps_runs keeps alike later) e
  loop-keeps_runs {label = label} {label' = label'} keeps alike (next_turn {inner = inner} r again later e) =
      next_turn (keeps.body _ _ r) (sym (turns_again-alike label label' alike inner) ∙ again)
      (loop-keeps_runs keeps alike later) e
  loop-keeps_runs {label = label} {label' = label'} keeps alike (leaves_loop {inner = inner} r ends e) =
      leaves_loop (keeps.body _ _ r) (sym (turns_again-alike label label' alike inner) ∙ ends)
      (e ∙ caught_unlabeled-alike label label' alike inner)

  module _ (id : EvaluationOrder) (from to : Statements) (label label' : Option ReactiveLabel)
      (keeps : KeepsRuns env from to) (alike : NameAlike label label') where
    -- the parts of a loop without a value before its test, and with one
    parts : {test test' : Value} (before before' : Option Value) → OptionKeepsRuns before before' →
        ValueKeepsRuns test test' → PartsKeepRuns (record { before = before; test = test; body = from })
        (record { before = before'; test = test'; body = to })
    parts before before' first tests = record { before = first; test = tests; body = keeps }

    pub while-keeps_runs : (test test' : Value) → ValueKeepsRuns test test' →
        KeepsRuns env (labeled (While test from id) label) (labeled (While test' to id) label')
    while-keeps_runs test test' tests = statement-keeps_runs env _ _ inside
      where
        inside : TerminalKeepsRuns env (While test from id) label (While test' to id) label'
        inside events outcome (in_while r) = in_while (loop-keeps_runs (parts None None tt tests) alike r)

    pub do_while-keeps_runs : (test test' : Value) → ValueKeepsRuns test test' →
        KeepsRuns env (labeled (DoWhile from test id) label) (labeled (DoWhile to test' id) label')
    do_while-keeps_runs test test' tests = statement-keeps_runs env _ _ inside
      where
        inside : TerminalKeepsRuns env (DoWhile from test id) label (DoWhile to test' id) label'
        inside events outcome (in_do_while r) = in_do_while (loop-keeps_runs (parts None None tt tests) alike r)

    pub for-keeps_runs : (init init' test test' : Value) (update update' : Option Value) →
        ValueKeepsRuns init init' → ValueKeepsRuns test test' → OptionKeepsRuns update update' →
        KeepsRuns env (labeled (For init test update from id) label) (labeled (For init' test' update' to id) label')
    for-keeps_runs init init' test test' update update' inits tests updates = statement-keeps_runs env _ _ inside
      where
        inside : TerminalKeepsRuns env (For init test update from id) label (For init' test' update' to id) label'
        inside events outcome (in_init r) = in_init (inits _ _ r)
        inside events outcome (past_init r past later e) =
            past_init (inits _ _ r) past (loop-keeps_runs (parts update update' updates tests) alike later) e

    pub for_of-keeps_runs : (init init' test test' : Value) (span : Option Span) → ValueKeepsRuns init init' →
        ValueKeepsRuns test test' →
        KeepsRuns env (labeled (ForOf init test from span id) label) (labeled (ForOf init' test' to span id) label')
    for_of-keeps_runs init init' test test' span inits tests = statement-keeps_runs env _ _ inside
      where
        inside : TerminalKeepsRuns env (ForOf init test from span id) label (ForOf init' test' to span id) label'
        inside events outcome (in_for_of r) =
            in_for_of (loop-keeps_runs (parts (Some init) (Some init') inits tests) alike r)

    pub for_in-keeps_runs : (init init' : Value) (span : Option Span) → ValueKeepsRuns init init' →
        KeepsRuns env (labeled (ForIn init from span id) label) (labeled (ForIn init' to span id) label')
    for_in-keeps_runs init init' span inits = statement-keeps_runs env _ _ inside
      where
        inside : TerminalKeepsRuns env (ForIn init from span id) label (ForIn init' to span id) label'
        inside events outcome (in_for_in r) = in_for_in (loop-keeps_runs (parts None None tt inits) alike r)
