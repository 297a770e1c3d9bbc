-- A switch whose cases keep their runs with early returns keeps its own.
use Rattle.std.proofs.Common.{◌≡◌, ◌∙◌, List, [], ◌∷◌, Option, None, Some, Ok, map, refl, sym, ap}
use Rattle.rc_names.specs.Numbers.{EvaluationOrder}
use Rattle.rc_hir.specs.Model.{Environment, Place}
use Rattle.rc_tree.specs.Model.{ReactiveBlock, ReactiveLabel, ReactiveSwitchCase, ReactiveTerminal}
use Rattle.rc_tree.specs.Rebuilt.{in_order, rebuilt_block, rebuilt_case, rebuilt_terminal}
use Rattle.rc_tree.specs.declared.terminal.ReactiveSwitchCase.{roll-ReactiveSwitchCase}
use Rattle.rc_tree.specs.declared.terminal.ReactiveTerminal.TheVariants as tree
use Rattle.rc_tree.proofs.RebuiltLemmas.{if_some, opened_case, rebuilt-Switch}
use Rattle.rc_tree.proofs.TerminalShapes.{has_inside}
use Rattle.rc_runs.specs.PlainTree.{Alternate, Absent, Present, Cases, NoCases, Case, Statements, Switch}
use Rattle.rc_runs.specs.PlainTree.{TerminalStatement}
use Rattle.rc_runs.specs.Returning.{returning_alternate, returning_cases, returning_terminal}
use Rattle.rc_runs.specs.TreeOf.{alternate_of, block_of, cases_of, terminal_of}
use Rattle.rc_runs.proofs.KeepsRunsLemmas.{absent-keeps_runs, present-keeps_runs}
use Rattle.rc_runs.proofs.SwitchKeepsRuns.{case-keeps_runs, no_cases-keep_runs, switch-keeps_runs}
use Rattle.rc_early.specs.EarlyReturned.{Progress, early_return_rules as rules}
use Rattle.rc_early.proofs.KeptRuns.KeptParts.{AlternateAlike, AreResult, BodyAlike, CasesAlike, KeptAlternate}
use Rattle.rc_early.proofs.KeptRuns.KeptParts.{KeptBody, KeptFrom}
use Rattle.rc_early.proofs.KeptRuns.KeptParts.{KeptCases, KeptFrom, KeptStatement, from_bind, kept_at}
use Rattle.rc_early.proofs.KeptRuns.KeptTerminals.{TerminalAlike, inside_kept, made_inside, terminal_alike}

module _ (old new : Environment) where
  -- an optional block
  absent_alike : AlternateAlike old new Absent Absent
  unfolding returning_alternate
  absent_alike = (absent-keeps_runs new, absent-keeps_runs new)

  present_alike : (before after : Statements) → BodyAlike old new before after
      → AlternateAlike old new (Present before) (Present after)
  unfolding returning_alternate
  present_alike before after same = (present-keeps_runs new _ _ same.0, present-keeps_runs new _ _ same.1)

  pub absent_kept : KeptAlternate old new Absent
  absent_kept s r e = kept_at old new alternate_of (AlternateAlike old new Absent) s s None r e
      (λ suits. record { suits = suits; after = Absent; tree = refl; alike = absent_alike })

  pub present_kept : (body : Statements) → KeptBody old new body → KeptAlternate old new (Present body)
  present_kept body inside s r e =
      let parts = from_bind (rebuilt_block (rules old) (block_of body) s) _ r e in
      kept_at old new alternate_of (AlternateAlike old new (Present body)) s parts.0.0 (Some parts.0.1) r parts.2
      (λ suits.
      let kept = inside s parts.0 parts.1 suits in
      record {
        suits = kept.suits;
        after = Present kept.after;
        tree = ap Some kept.tree;
        alike = present_alike body kept.after kept.alike;
      })

  -- cases
  no_cases_alike : CasesAlike old new NoCases NoCases
  unfolding returning_cases
  no_cases_alike = (no_cases-keep_runs new, no_cases-keep_runs new)

  case_alike : (test : Option Place) (body body' : Alternate) (rest rest' : Cases) → AlternateAlike old new body body'
      → CasesAlike old new rest rest' → CasesAlike old new (Case test body rest) (Case test body' rest')
  unfolding returning_cases
  case_alike test body body' rest rest' same later =
      (case-keeps_runs new test _ _ _ _ same.0 later.0, case-keeps_runs new test _ _ _ _ same.1 later.1)

  pub no_cases_kept : KeptCases old new NoCases
  no_cases_kept s r e = kept_at old new cases_of (CasesAlike old new NoCases) s s [] r e
      (λ suits. record { suits = suits; after = NoCases; tree = refl; alike = no_cases_alike })

  -- the tree of a case
  abbrev case_of : Option Place → Option ReactiveBlock → ReactiveSwitchCase
  case_of test block = roll-ReactiveSwitchCase (record { test = test; block = block })

  one_case_kept : (test : Option Place) (body : Alternate) → KeptAlternate old new body
      → KeptFrom old new (rebuilt_case (rules old) (case_of test (alternate_of body)))
      (λ after. case_of test (alternate_of after)) (AlternateAlike old new body)
  one_case_kept test body inside s r e =
      let parts = from_bind (if_some (rebuilt_block (rules old)) (alternate_of body) s) _ r
      (sym (opened_case (rules old) (record { test = test; block = alternate_of body }) s) ∙ e) in
      kept_at old new (λ after. case_of test (alternate_of after)) (AlternateAlike old new body) s parts.0.0
      (case_of test parts.0.1) r parts.2 (λ suits.
      let here = inside s parts.0 parts.1 suits in
      record { suits = here.suits; after = here.after; tree = ap (case_of test) here.tree; alike = here.alike })

  pub case_kept : (test : Option Place) (body : Alternate) (rest : Cases) → KeptAlternate old new body
      → KeptCases old new rest → KeptCases old new (Case test body rest)
  case_kept test body rest inside later s r e =
      let one = from_bind (rebuilt_case (rules old) (case_of test (alternate_of body)) s) _ r e in
      let two = from_bind (in_order (map (rebuilt_case (rules old)) (cases_of rest)) one.0.0) _ r one.2 in
      kept_at old new cases_of (CasesAlike old new (Case test body rest)) s two.0.0 (one.0.1 ∷ two.0.1) r two.2
      (λ suits.
      let more = later one.0.0 two.0 two.1 suits in
      let here = one_case_kept test body inside s one.0 one.1 more.suits in
      record {
        suits = here.suits;
        after = Case test here.after more.after;
        tree = λ i. here.tree i ∷ more.tree i;
        alike = case_alike test body here.after rest more.after here.alike more.alike;
      })

  -- early returns in the cases alone
  returning_switch : (env : Environment) (stored : Option Place) (test : Place) (cases : Cases) (id : EvaluationOrder)
      → returning_terminal env stored (Switch test cases id) ≡ Switch test (returning_cases env cases) id
  unfolding returning_terminal
  returning_switch env stored test cases id = refl

  switch_parts : (test : Place) (cases : Cases) (id : EvaluationOrder) (s : Progress)
      (c : Progress × ReactiveTerminal)
      → rebuilt_terminal (rules old) (terminal_of (Switch test cases id)) s ≡ Ok c
      → (b : Progress × List ReactiveSwitchCase)
      × (in_order (map (rebuilt_case (rules old)) (cases_of cases)) s ≡ Ok b)
      × AreResult b.0 (tree.Switch test b.1 id) c
  switch_parts test cases id s c e =
      from_bind (in_order (map (rebuilt_case (rules old)) (cases_of cases)) s) _ c
      (sym (rebuilt-Switch (rules old) test (cases_of cases) id s) ∙ e)

  pub switch_kept : (test : Place) (cases : Cases) (id : EvaluationOrder) (label : Option ReactiveLabel)
      → KeptCases old new cases → KeptStatement old new (TerminalStatement (Switch test cases id) label)
  switch_kept test cases id label inside = inside_kept old new (Switch test cases id) label
      (λ s c e. let parts = switch_parts test cases id s c e in
      made_inside old new parts.0.0 _ c parts.2 (ap has_inside (tree.outs-Switch test parts.0.1 id)))
      (λ s c e. let parts = switch_parts test cases id s c e in
      kept_at old new terminal_of (TerminalAlike old new (Switch test cases id) label) s parts.0.0
      (tree.Switch test parts.0.1 id) c parts.2 (λ suits.
      let kept = inside s parts.0 parts.1 suits in
      record {
        suits = kept.suits;
        after = Switch test kept.after id;
        tree = ap (λ xs. tree.Switch test xs id) kept.tree;
        alike = terminal_alike old new (Switch test cases id) (Switch test kept.after id)
            (Switch test (returning_cases old cases) id) (Switch test (returning_cases new kept.after) id) label
            (λ stored. returning_switch old stored test cases id)
            (λ stored. returning_switch new stored test kept.after id) (
              switch-keeps_runs new test id _ _ label label kept.alike.0 refl,
              switch-keeps_runs new test id _ _ label label kept.alike.1 refl,
            );
      }))
