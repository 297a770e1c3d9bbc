-- A break out of a loop or switch names one of the targets after it, where each one out of its body and cases does.
use Rattle.std.proofs.Common.{◌≡◌, ◌⊎◌, inl, inr, List, Option, sym, ◌∙◌}
use Rattle.rc_names.specs.Numbers.{BlockId, EvaluationOrder}
use Rattle.rc_names.specs.declared.span.Span.{Span}
use Rattle.rc_hir.specs.Model.{Environment, Place}
use Rattle.rc_tree.specs.Model.{ReactiveLabel}
use Rattle.rc_runs.specs.Event.{Event}
use Rattle.rc_runs.specs.LoopParts.{LoopParts}
use Rattle.rc_runs.specs.PlainTree.{Value, Statements, TerminalStatement, Switch, DoWhile, While, For, ForOf, ForIn}
use Rattle.rc_runs.specs.PlainTree.{Alternate, Cases, NoCases, Case}
use Rattle.rc_runs.specs.Completion.{Completion, Normal, BreakTo, BreakInnermost, ContinueTo, ContinueLoop, Ended, caught_unlabeled}
use Rattle.rc_runs.specs.BodyRun.{RunsList, RunsStatement, RunsAlternate, RunsChosen, chosen_here, chosen_later}
use Rattle.rc_runs.specs.BodyRun.{RunsCases, no_more_cases, falls_into, leaves_case, in_case, past_cases, Spot}
use Rattle.rc_runs.specs.BodyRun.{RunsLoop, nothing_before, in_before, past_before, in_test, test_fails, test_holds}
use Rattle.rc_runs.specs.BodyRun.{next_turn, leaves_loop, in_while, in_do_while, in_init, past_init, in_for_of}
use Rattle.rc_runs.specs.BodyRun.{in_for_in}
use Rattle.rc_checks.specs.Labels.{Targets}
use Rattle.rc_checks.proofs.LabelPruning.TargetsLemmas.{AllNamed, AllStay, inner_break}

-- a break that a loop or a switch doesn't catch is one of its body or its cases
left_break : (label : Option ReactiveLabel) (inner : Completion) (target : BlockId) →
    caught_unlabeled label inner ≡ BreakTo target → inner ≡ BreakTo target
left_break label BreakInnermost target e = absurd (let bad : ⊥ = cc in bad)
left_break label Normal target e = inner_break label Normal target e
left_break label (BreakTo other) target e = inner_break label (BreakTo other) target e
left_break label (ContinueTo other) target e = inner_break label (ContinueTo other) target e
left_break label ContinueLoop target e = inner_break label ContinueLoop target e
left_break label (Ended end) target e = inner_break label (Ended end) target e

module _ (env : Environment) (targets : Targets) where
  loop_named : {label : Option ReactiveLabel} {loop : LoopParts} {spot : Spot}
      → AllNamed (RunsList env loop.body) targets → AllNamed (RunsLoop env label loop spot) targets
  loop_named inside events outcome (nothing_before none r) block e = loop_named inside events outcome r block e
  loop_named inside events outcome (in_before some r) block e = absurd (let bad : ⊥ = cc in bad)
  loop_named inside events outcome (past_before some r past later w) block e =
      loop_named inside _ outcome later block e
  loop_named inside events outcome (in_test r) block e = absurd (let bad : ⊥ = cc in bad)
  loop_named inside events outcome (test_fails r past w) block e = absurd (let bad : ⊥ = cc in bad)
  loop_named inside events outcome (test_holds r past later w) block e = loop_named inside _ outcome later block e
  loop_named inside events outcome (next_turn r again later w) block e = loop_named inside _ outcome later block e
  loop_named inside events outcome (leaves_loop {label = label} {inner = inner} r ends q) block e =
      inside events inner r block (left_break label inner block (sym q ∙ e))

  module _ {id : EvaluationOrder} {label : Option ReactiveLabel} {body : Statements}
      (inside : AllNamed (RunsList env body) targets) where
    pub while_named : {test : Value}
        → AllNamed (RunsStatement env (TerminalStatement (While test body id) label)) targets
    while_named events outcome (in_while r) = loop_named inside events outcome r

    pub do_while_named : {test : Value}
        → AllNamed (RunsStatement env (TerminalStatement (DoWhile body test id) label)) targets
    do_while_named events outcome (in_do_while r) = loop_named inside events outcome r

    pub for_named : {init test : Value} {update : Option Value}
        → AllNamed (RunsStatement env (TerminalStatement (For init test update body id) label)) targets
    for_named events outcome (in_init r) block e = absurd (let bad : ⊥ = cc in bad)
    for_named events outcome (past_init r past later w) block e = loop_named inside _ outcome later block e

    pub for_of_named : {init test : Value} {span : Option Span}
        → AllNamed (RunsStatement env (TerminalStatement (ForOf init test body span id) label)) targets
    for_of_named events outcome (in_for_of r) = loop_named inside events outcome r

    pub for_in_named : {init : Value} {span : Option Span}
        → AllNamed (RunsStatement env (TerminalStatement (ForIn init body span id) label)) targets
    for_in_named events outcome (in_for_in r) = loop_named inside events outcome r

module _ (env : Environment) where
  -- a run of cases, from a chosen one on or from the first one on
  abbrev pub RunsSomeCases : Cases → List Event → Completion → Type 0
  RunsSomeCases cases events outcome =
      ((chosen : Option Place) × RunsChosen env chosen cases events outcome) ⊎ RunsCases env cases events outcome

  pub no_cases_named : (targets : Targets) → AllNamed (RunsSomeCases NoCases) targets
  no_cases_named targets events outcome (inl chosen) block e = elim chosen.1 [ ]
  no_cases_named targets events outcome (inr no_more_cases) block e = absurd (let bad : ⊥ = cc in bad)

  -- a case and those after it, at the end of which the targets of the first are still targets
  pub case_named : (targets targets' : Targets) → AllStay targets targets' → {test : Option Place} {body : Alternate}
      {rest : Cases} → AllNamed (RunsAlternate env body) targets → AllNamed (RunsSomeCases rest) targets'
      → AllNamed (RunsSomeCases (Case test body rest)) targets'
  case_named targets targets' stay {test = test} {body = body} {rest = rest} first later = named
    where
      from_first : AllNamed (RunsCases env (Case test body rest)) targets'
      from_first events outcome (falls_into r more w) block e = later _ outcome (inr more) block e
      from_first events outcome (leaves_case r leaves) block e = stay block (first events outcome r block e)

      from_chosen : (chosen : Option Place) → AllNamed (RunsChosen env chosen (Case test body rest)) targets'
      from_chosen chosen events outcome (chosen_here r) block e = from_first events outcome r block e
      from_chosen chosen events outcome (chosen_later r) block e = later events outcome (inl (chosen, r)) block e

      named : AllNamed (RunsSomeCases (Case test body rest)) targets'
      named events outcome (inl run) block e = from_chosen run.0 events outcome run.1 block e
      named events outcome (inr run) block e = from_first events outcome run block e

  pub switch_named : (targets : Targets) {test : Place} {cases : Cases} {id : EvaluationOrder}
      {label : Option ReactiveLabel} → AllNamed (RunsSomeCases cases) targets
      → AllNamed (RunsStatement env (TerminalStatement (Switch test cases id) label)) targets
  switch_named targets inside events outcome (in_case {label = label} {chosen = chosen} {inner = inner} r q) block e =
      inside _ inner (inl (chosen, r)) block (left_break label inner block (sym q ∙ e))
  switch_named targets inside events outcome (past_cases none) block e = absurd (let bad : ⊥ = cc in bad)
