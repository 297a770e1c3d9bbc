-- Label pruning of the tree of plain statements leaves the tree of plain statements with the same runs: by recursion on
-- the statements, with the targets after them.
use Rattle.std.proofs.Common.{Option, refl, sym}
use Rattle.rc_hir.specs.Model.{Environment}
use Rattle.rc_tree.specs.Unrolled.{UnrolledCase}
use Rattle.rc_tree.specs.Model.{PrunedReactiveScopeBlock, ReactiveScopeBlock, ReactiveLabel}
use Rattle.rc_tree.specs.declared.terminal.ReactiveSwitchCase.{out-roll-ReactiveSwitchCase, roll-ReactiveSwitchCase}
use Rattle.rc_tree.specs.declared.terminal.ReactiveTerminal.TheVariants as tree
use Rattle.rc_tree.proofs.RebuiltLemmas.{rebuilt-block, rebuilt-scope, rebuilt-pruned_scope, rebuilt-case}
use Rattle.rc_tree.proofs.RebuiltLemmas.{rebuilt-Instruction, rebuilt-Scope, rebuilt-PrunedScope, rebuilt-Break}
use Rattle.rc_tree.proofs.RebuiltLemmas.{rebuilt-Continue, rebuilt-Return, rebuilt-Throw, rebuilt-If, rebuilt-Try}
use Rattle.rc_runs.specs.PlainTree.{Statements, Nil, Cons, Statement, RowStatement, TerminalStatement, ScopeStatement}
use Rattle.rc_runs.specs.PlainTree.{PrunedScopeStatement, TreeTerminal, Break, Continue, Return, Throw, Switch, DoWhile}
use Rattle.rc_runs.specs.PlainTree.{While, For, ForOf, ForIn, If, Label, Try, Alternate, Absent, Present, Cases}
use Rattle.rc_runs.specs.PlainTree.{NoCases, Case}
use Rattle.rc_runs.specs.TreeOf.{value_of, statements_of, statement_of, alternate_of, block_of}
use Rattle.rc_runs.proofs.PlainLists.{alone, append, statements_of-append}
use Rattle.rc_runs.proofs.KeepsRunsLemmas.{append-keeps_runs, same-keeps_runs, scope-keeps_runs}
use Rattle.rc_runs.proofs.KeepsRunsLemmas.{pruned_scope-keeps_runs, break-keeps_runs, continue-keeps_runs}
use Rattle.rc_runs.proofs.KeepsRunsLemmas.{return-keeps_runs, throw-keeps_runs, present-keeps_runs}
use Rattle.rc_runs.proofs.KeepsRunsLemmas.{absent-keeps_runs, if-keeps_runs, try-keeps_runs}
use Rattle.rc_runs.proofs.SwitchKeepsRuns.{no_cases-keep_runs, case-keeps_runs}
use Rattle.rc_checks.specs.Labels.{Targets, is_named, label_rules, with_jump}
use Rattle.rc_checks.proofs.LabelPruning.TargetsLemmas.{break_named, continue_named, cons_named, if_named}
use Rattle.rc_checks.proofs.LabelPruning.TargetsLemmas.{is_target-with_jump, label_after-alike, nil_named}
use Rattle.rc_checks.proofs.LabelPruning.TargetsLemmas.{return_named, throw_named, try_named, row_named}
use Rattle.rc_checks.proofs.LabelPruning.TargetsLemmas.{scope_named, pruned_scope_named, present_named, absent_named}
use Rattle.rc_checks.proofs.LabelPruning.LoopsNamed.{no_cases_named, case_named}
use Rattle.rc_checks.proofs.LabelPruning.PlainPruned.{PrunedList, PrunedStatement, PrunedAlternate, PrunedCases}
use Rattle.rc_checks.proofs.LabelPruning.PlainPruned.{cons_rebuilt, stays_in_place, pruned_label}
use Rattle.rc_checks.proofs.LabelPruning.PlainLoops.{pruned_switch, pruned_do_while, pruned_while, pruned_for}
use Rattle.rc_checks.proofs.LabelPruning.PlainLoops.{pruned_for_of, pruned_for_in}

module _ (env : Environment) where
  mutual
    pub pruned_list : (before : Statements) (targets : Targets) → PrunedList env before targets
    pruned_list Nil targets = record {
      after = Nil;
      behind = targets;
      rebuilt = rebuilt-block label_rules (block_of Nil) targets;
      stay = λ block e. e;
      alike = (same-keeps_runs env Nil, same-keeps_runs env Nil);
      named = nil_named env targets;
    }
    pruned_list (Cons statement rest) targets =
        let first = pruned_statement statement targets in
        let more = pruned_list rest first.behind in
        record {
          after = append first.after more.after;
          behind = more.behind;
          rebuilt = rw (statements_of-append first.after more.after) (cons_rebuilt (statement_of statement)
              (statements_of rest) targets first.behind more.behind (statements_of first.after)
              (statements_of more.after) first.rebuilt more.rebuilt);
          stay = λ block e. more.stay block (first.stay block e);
          alike = (
            append-keeps_runs env (alone statement) rest first.after more.after first.alike.0 more.alike.0,
            append-keeps_runs env first.after more.after (alone statement) rest first.alike.1 more.alike.1,
          );
          named = cons_named env first.behind more.behind more.stay first.named more.named;
        }

    pruned_statement : (before : Statement) (targets : Targets) → PrunedStatement env before targets
    pruned_statement (RowStatement id target value span) targets = record {
      after = alone (RowStatement id target value span);
      behind = targets;
      rebuilt = rebuilt-Instruction label_rules
          (record { id = id; lvalue = target; value = value_of value; span = span }) targets;
      stay = λ block e. e;
      alike = (same-keeps_runs env _, same-keeps_runs env _);
      named = row_named env targets;
    }
    pruned_statement (TerminalStatement terminal label) targets = pruned_terminal terminal label targets
    pruned_statement (ScopeStatement scope body) targets =
        let inside = pruned_list body targets in
        let x : ReactiveScopeBlock = record { scope = scope; instructions = block_of body } in
        record {
          after = alone (ScopeStatement scope inside.after);
          behind = inside.behind;
          rebuilt = rw (rebuilt-Scope label_rules x targets, rebuilt-scope label_rules x targets, inside.rebuilt) refl;
          stay = inside.stay;
          alike = (
            scope-keeps_runs env scope body inside.after inside.alike.0,
            scope-keeps_runs env scope inside.after body inside.alike.1,
          );
          named = scope_named env inside.behind inside.named;
        }
    pruned_statement (PrunedScopeStatement scope body) targets =
        let inside = pruned_list body targets in
        let x : PrunedReactiveScopeBlock = record { scope = scope; instructions = block_of body } in
        record {
          after = alone (PrunedScopeStatement scope inside.after);
          behind = inside.behind;
          rebuilt = rw (
            rebuilt-PrunedScope label_rules x targets,
            rebuilt-pruned_scope label_rules x targets,
            inside.rebuilt,
          ) refl;
          stay = inside.stay;
          alike = (
            pruned_scope-keeps_runs env scope body inside.after inside.alike.0,
            pruned_scope-keeps_runs env scope inside.after body inside.alike.1,
          );
          named = pruned_scope_named env inside.behind inside.named;
        }

    pruned_terminal : (before : TreeTerminal) (label : Option ReactiveLabel) (targets : Targets)
        → PrunedStatement env (TerminalStatement before label) targets
    pruned_terminal (Break target kind id) label targets =
        let behind : Targets = with_jump kind target targets in
        stays_in_place env (Break target kind id) (Break target kind id) label targets targets
        (rebuilt-Break label_rules target kind id targets) behind (rw (tree.outs-Break target kind id) refl)
        (is_target-with_jump kind target targets) (
          break-keeps_runs env target kind id label _ (label_after-alike behind label),
          break-keeps_runs env target kind id _ label (sym (label_after-alike behind label)),
        ) (break_named env targets)
    pruned_terminal (Continue target kind id) label targets =
        let behind : Targets = with_jump kind target targets in
        stays_in_place env (Continue target kind id) (Continue target kind id) label targets targets
        (rebuilt-Continue label_rules target kind id targets) behind (rw (tree.outs-Continue target kind id) refl)
        (is_target-with_jump kind target targets)
        (continue-keeps_runs env target kind id label _, continue-keeps_runs env target kind id _ label)
        (continue_named env behind)
    pruned_terminal (Return value id) label targets =
        stays_in_place env (Return value id) (Return value id) label targets targets
        (rebuilt-Return label_rules value id targets) targets (rw (tree.outs-Return value id) refl) (λ block e. e)
        (return-keeps_runs env value id label _, return-keeps_runs env value id _ label) (return_named env targets)
    pruned_terminal (Throw value id) label targets =
        stays_in_place env (Throw value id) (Throw value id) label targets targets
        (rebuilt-Throw label_rules value id targets) targets (rw (tree.outs-Throw value id) refl) (λ block e. e)
        (throw-keeps_runs env value id label _, throw-keeps_runs env value id _ label) (throw_named env targets)
    pruned_terminal (Switch test cases id) label targets =
        pruned_switch env test cases id label targets (pruned_cases cases targets)
    pruned_terminal (DoWhile body test id) label targets =
        pruned_do_while env body id label targets (pruned_list body targets) test
    pruned_terminal (While test body id) label targets =
        pruned_while env body id label targets (pruned_list body targets) test
    pruned_terminal (For init test update body id) label targets =
        pruned_for env body id label targets (pruned_list body targets) init test update
    pruned_terminal (ForOf init test body span id) label targets =
        pruned_for_of env body id label targets (pruned_list body targets) init test span
    pruned_terminal (ForIn init body span id) label targets =
        pruned_for_in env body id label targets (pruned_list body targets) init span
    pruned_terminal (If test consequent alternate id) label targets =
        let inside = pruned_list consequent targets in
        let other = pruned_alternate alternate inside.behind in
        stays_in_place env (If test consequent alternate id) (If test inside.after other.after id) label targets
        other.behind
        (rw (
          rebuilt-If label_rules test (block_of consequent) (alternate_of alternate) id targets,
          inside.rebuilt,
          other.rebuilt,
        ) refl)
        other.behind (rw (tree.outs-If test (block_of inside.after) (alternate_of other.after) id) refl)
        (λ block e. other.stay block (inside.stay block e)) (
          if-keeps_runs env test id consequent inside.after alternate other.after label _ inside.alike.0 other.alike.0
              (label_after-alike other.behind label),
          if-keeps_runs env test id inside.after consequent other.after alternate _ label inside.alike.1 other.alike.1
              (sym (label_after-alike other.behind label)),
        ) (if_named env inside.behind other.behind other.stay inside.named other.named)
    pruned_terminal (Label body id) label targets =
        let inside = pruned_list body targets in
        pruned_label env body id label targets inside (is_named inside.behind label) refl
    pruned_terminal (Try body binding handler id) label targets =
        let inside = pruned_list body targets in
        let last = pruned_list handler inside.behind in
        stays_in_place env (Try body binding handler id) (Try inside.after binding last.after id) label targets
        last.behind
        (rw (
          rebuilt-Try label_rules (block_of body) binding (block_of handler) id targets,
          inside.rebuilt,
          last.rebuilt,
        )
        refl)
        last.behind (rw (tree.outs-Try (block_of inside.after) binding (block_of last.after) id) refl)
        (λ block e. last.stay block (inside.stay block e)) (
          try-keeps_runs env binding id body inside.after handler last.after label _ inside.alike.0 last.alike.0
              (label_after-alike last.behind label),
          try-keeps_runs env binding id inside.after body last.after handler _ label inside.alike.1 last.alike.1
              (sym (label_after-alike last.behind label)),
        ) (try_named env inside.behind last.behind last.stay inside.named last.named)

    pruned_alternate : (before : Alternate) (targets : Targets) → PrunedAlternate env before targets
    pruned_alternate Absent targets = record {
      after = Absent;
      behind = targets;
      rebuilt = refl;
      stay = λ block e. e;
      alike = (absent-keeps_runs env, absent-keeps_runs env);
      named = absent_named env targets;
    }
    pruned_alternate (Present body) targets =
        let inside = pruned_list body targets in
        record {
          after = Present inside.after;
          behind = inside.behind;
          rebuilt = rw inside.rebuilt refl;
          stay = inside.stay;
          alike = (
            present-keeps_runs env body inside.after inside.alike.0,
            present-keeps_runs env inside.after body inside.alike.1,
          );
          named = present_named env inside.behind inside.named;
        }

    pruned_cases : (before : Cases) (targets : Targets) → PrunedCases env before targets
    pruned_cases NoCases targets = record {
      after = NoCases;
      behind = targets;
      rebuilt = refl;
      stay = λ block e. e;
      alike = (no_cases-keep_runs env, no_cases-keep_runs env);
      named = no_cases_named env targets;
    }
    pruned_cases (Case test body rest) targets =
        let inside = pruned_alternate body targets in
        let more = pruned_cases rest inside.behind in
        let layer : UnrolledCase = record { test = test; block = alternate_of body } in
        record {
          after = Case test inside.after more.after;
          behind = more.behind;
          rebuilt = rw (
            rebuilt-case label_rules (roll-ReactiveSwitchCase layer) targets,
            out-roll-ReactiveSwitchCase layer,
            inside.rebuilt,
            more.rebuilt,
          ) refl;
          stay = λ block e. more.stay block (inside.stay block e);
          alike = (
            case-keeps_runs env test body inside.after rest more.after inside.alike.0 more.alike.0,
            case-keeps_runs env test inside.after body more.after rest inside.alike.1 more.alike.1,
          );
          named = case_named env inside.behind more.behind more.stay inside.named more.named;
        }
