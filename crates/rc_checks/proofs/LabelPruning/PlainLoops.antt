-- A switch and a loop whose cases or body are pruned stay, with their label marked.
use Rattle.std.proofs.Common.{Option, option_map, refl, sym}
use Rattle.rc_names.specs.Numbers.{EvaluationOrder}
use Rattle.rc_names.specs.declared.span.Span.{Span}
use Rattle.rc_hir.specs.Model.{Environment, Place}
use Rattle.rc_tree.specs.Model.{ReactiveLabel}
use Rattle.rc_tree.specs.declared.terminal.ReactiveTerminal.TheVariants as tree
use Rattle.rc_tree.proofs.RebuiltLemmas.{rebuilt-Switch, rebuilt-DoWhile, rebuilt-While, rebuilt-For, rebuilt-ForOf}
use Rattle.rc_tree.proofs.RebuiltLemmas.{rebuilt-ForIn}
use Rattle.rc_runs.specs.PlainTree.{Value, Statements, TerminalStatement, Switch, DoWhile, While, For, ForOf, ForIn}
use Rattle.rc_runs.specs.PlainTree.{Cases}
use Rattle.rc_runs.specs.TreeOf.{value_of, cases_of, block_of}
use Rattle.rc_runs.proofs.LoopsKeepRuns.{same_value, same_option, while-keeps_runs, do_while-keeps_runs}
use Rattle.rc_runs.proofs.LoopsKeepRuns.{for-keeps_runs, for_of-keeps_runs, for_in-keeps_runs}
use Rattle.rc_runs.proofs.LabelLemmas.{NameAlike}
use Rattle.rc_runs.proofs.SwitchKeepsRuns.{switch-keeps_runs}
use Rattle.rc_checks.specs.Labels.{Targets, label_after, label_rules}
use Rattle.rc_checks.proofs.LabelPruning.TargetsLemmas.{label_after-alike}
use Rattle.rc_checks.proofs.LabelPruning.LoopsNamed.{while_named, do_while_named, for_named, for_of_named}
use Rattle.rc_checks.proofs.LabelPruning.LoopsNamed.{for_in_named, switch_named}
use Rattle.rc_checks.proofs.LabelPruning.PlainPruned.{PrunedList, PrunedStatement, PrunedCases, stays_in_place}

pub pruned_switch : (env : Environment) (test : Place) (cases : Cases) (id : EvaluationOrder)
    (label : Option ReactiveLabel) (targets : Targets) → PrunedCases env cases targets
    → PrunedStatement env (TerminalStatement (Switch test cases id) label) targets
pruned_switch env test cases id label targets inside =
    let alike = label_after-alike inside.behind label in
    stays_in_place env (Switch test cases id) (Switch test inside.after id) label targets inside.behind
    (rw (rebuilt-Switch label_rules test (cases_of cases) id targets, inside.rebuilt) refl)
    inside.behind (rw (tree.outs-Switch test (cases_of inside.after) id) refl) inside.stay (
      switch-keeps_runs env test id cases inside.after label _ inside.alike.0 alike,
      switch-keeps_runs env test id inside.after cases _ label inside.alike.1 (sym alike),
    ) (switch_named env inside.behind inside.named)

module _ (env : Environment) (body : Statements) (id : EvaluationOrder) (label : Option ReactiveLabel)
    (targets : Targets) (inside : PrunedList env body targets) where
  alike : NameAlike label (label_after inside.behind label)
  alike = label_after-alike inside.behind label

  pub pruned_do_while : (test : Value) → PrunedStatement env (TerminalStatement (DoWhile body test id) label) targets
  pruned_do_while test =
      stays_in_place env (DoWhile body test id) (DoWhile inside.after test id) label targets inside.behind
      (rw (rebuilt-DoWhile label_rules (block_of body) (value_of test) id targets, inside.rebuilt) refl)
      inside.behind (rw (tree.outs-DoWhile (block_of inside.after) (value_of test) id) refl) inside.stay (
        do_while-keeps_runs env id body inside.after label _ inside.alike.0 alike test test (same_value env test),
        do_while-keeps_runs env id inside.after body _ label inside.alike.1 (sym alike) test test
            (same_value env test),
      ) (do_while_named env inside.behind inside.named)

  pub pruned_while : (test : Value) → PrunedStatement env (TerminalStatement (While test body id) label) targets
  pruned_while test =
      stays_in_place env (While test body id) (While test inside.after id) label targets inside.behind
      (rw (rebuilt-While label_rules (value_of test) (block_of body) id targets, inside.rebuilt) refl)
      inside.behind (rw (tree.outs-While (value_of test) (block_of inside.after) id) refl) inside.stay (
        while-keeps_runs env id body inside.after label _ inside.alike.0 alike test test (same_value env test),
        while-keeps_runs env id inside.after body _ label inside.alike.1 (sym alike) test test (same_value env test),
      ) (while_named env inside.behind inside.named)

  pub pruned_for : (init test : Value) (update : Option Value)
      → PrunedStatement env (TerminalStatement (For init test update body id) label) targets
  pruned_for init test update =
      stays_in_place env (For init test update body id) (For init test update inside.after id) label targets
      inside.behind
      (rw (
        rebuilt-For label_rules (value_of init) (value_of test) (option_map value_of update) (block_of body) id
            targets,
        inside.rebuilt,
      ) refl)
      inside.behind
      (rw (tree.outs-For (value_of init) (value_of test) (option_map value_of update) (block_of inside.after) id)
      refl) inside.stay (
        for-keeps_runs env id body inside.after label _ inside.alike.0 alike init init test test update update
            (same_value env init) (same_value env test) (same_option env update),
        for-keeps_runs env id inside.after body _ label inside.alike.1 (sym alike) init init test test update update
            (same_value env init) (same_value env test) (same_option env update),
      ) (for_named env inside.behind inside.named)

  pub pruned_for_of : (init test : Value) (span : Option Span)
      → PrunedStatement env (TerminalStatement (ForOf init test body span id) label) targets
  pruned_for_of init test span =
      stays_in_place env (ForOf init test body span id) (ForOf init test inside.after span id) label targets
      inside.behind
      (rw (
        rebuilt-ForOf label_rules (value_of init) (value_of test) (block_of body) span id targets,
        inside.rebuilt,
      ) refl)
      inside.behind
      (rw (tree.outs-ForOf (value_of init) (value_of test) (block_of inside.after) span id) refl) inside.stay (
        for_of-keeps_runs env id body inside.after label _ inside.alike.0 alike init init test test span
            (same_value env init) (same_value env test),
        for_of-keeps_runs env id inside.after body _ label inside.alike.1 (sym alike) init init test test span
            (same_value env init) (same_value env test),
      ) (for_of_named env inside.behind inside.named)

  pub pruned_for_in : (init : Value) (span : Option Span)
      → PrunedStatement env (TerminalStatement (ForIn init body span id) label) targets
  pruned_for_in init span =
      stays_in_place env (ForIn init body span id) (ForIn init inside.after span id) label targets inside.behind
      (rw (rebuilt-ForIn label_rules (value_of init) (block_of body) span id targets, inside.rebuilt) refl)
      inside.behind (rw (tree.outs-ForIn (value_of init) (block_of inside.after) span id) refl) inside.stay (
        for_in-keeps_runs env id body inside.after label _ inside.alike.0 alike init init span (same_value env init),
        for_in-keeps_runs env id inside.after body _ label inside.alike.1 (sym alike) init init span
            (same_value env init),
      ) (for_in_named env inside.behind inside.named)
