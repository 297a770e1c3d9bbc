-- A part of a plain tree without its unused labels is a part of a plain tree again, with the same runs.
--
-- A `Label` that gives way caught nothing, since a jump out of its statements names one of the targets after them.
use Rattle.std.proofs.Common.{◌≡◌, List, Bool, true, false, Option, Result, Ok, map, refl, sym, ap, ◌++◌, ◌∷◌, Err}
use Rattle.rc_hir.specs.Model.{Environment, Fault}
use Rattle.rc_names.specs.Numbers.{EvaluationOrder}
use Rattle.rc_tree.specs.Rebuilt.{Rebuilds, in_order, joined, rebuilt_block, rebuilt_case, rebuilt_statement}
use Rattle.rc_tree.specs.Rebuilt.{rebuilt_terminal}
use Rattle.rc_tree.specs.Model.{ReactiveStatement, ReactiveLabel, ReactiveTerminalStatement, ReactiveBlock}
use Rattle.rc_tree.specs.declared.terminal.ReactiveTerminal.TheVariants as tree
use Rattle.rc_tree.proofs.RebuiltLemmas.{if_some, rebuilt-block, rebuilt-labeled, rebuilt-Terminal, rebuilt-Label}
use Rattle.rc_runs.specs.Event.{Event}
use Rattle.rc_runs.specs.PlainTree.{Statements, Statement, TerminalStatement, TreeTerminal, Label, Alternate, Cases}
use Rattle.rc_runs.specs.TreeOf.{statements_of, statement_of, terminal_of, alternate_of, cases_of, block_of}
use Rattle.rc_runs.specs.Completion.{Completion}
use Rattle.rc_runs.specs.BodyRun.{RunsList, RunsStatement, RunsAlternate}
use Rattle.rc_runs.proofs.PlainLists.{alone, labeled}
use Rattle.rc_runs.proofs.KeepsRunsLemmas.{CatchesNothing, SameRuns, SameAlternateRuns, label-keeps_runs}
use Rattle.rc_runs.proofs.KeepsRunsLemmas.{flat-keeps_runs, keeps_runs-flat}
use Rattle.rc_runs.proofs.SwitchKeepsRuns.{SameCasesRuns}
use Rattle.rc_checks.specs.Labels.{Targets, is_named, label_after, label_rules}
use Rattle.rc_checks.proofs.LabelPruning.TargetsLemmas.{AllNamed, AllStay, caught-unnamed, label_after-alike}
use Rattle.rc_checks.proofs.LabelPruning.TargetsLemmas.{label_named}
use Rattle.rc_checks.proofs.LabelPruning.LoopsNamed.{RunsSomeCases}
use Rattle.rc_tree.proofs.StepLemmas.{Ok-injective}
use Rattle.rc_tree.specs.Step.{bind}

-- a block of statements
abbrev as_block : Targets × List ReactiveStatement → Result (Targets × ReactiveBlock) Fault
as_block a = Ok (a.0, record { statements = a.1 })

-- the replacement of a statement, and then those of the statements after it, each as a block
pub cons_rebuilt : (x : ReactiveStatement) (xs : List ReactiveStatement) (s s1 s2 : Targets)
    (here later : List ReactiveStatement) → rebuilt_statement label_rules x s ≡ Ok (s1, here)
    → rebuilt_block label_rules (record { statements = xs }) s1 ≡ Ok (s2, record { statements = later })
    → rebuilt_block label_rules (record { statements = x ∷ xs }) s ≡ Ok (s2, record { statements = here ++ later })
cons_rebuilt x xs s s1 s2 here later first rest =
    rw (rebuilt-block label_rules (record { statements = x ∷ xs }) s, first)
    (joins (joined (map (rebuilt_statement label_rules) xs) s1)
    (rw (rebuilt-block label_rules (record { statements = xs }) s1) at rest))
  where
    joins : (r : Result (Targets × List ReactiveStatement) Fault)
        → bind r as_block ≡ Ok (s2, record { statements = later })
        → bind (bind r (λ b. Ok (b.0, here ++ b.1))) as_block ≡ Ok (s2, record { statements = here ++ later })
    joins (Ok a) e =
        ap (λ (b : Targets × ReactiveBlock). Ok (b.0, record { statements = here ++ b.1.statements }))
        (Ok-injective (a.0, record { statements = a.1 }) (s2, record { statements = later }) e)
    joins (Err fault) e = let bad : ⊥ = cc in absurd bad

module _ (env : Environment) where
  -- label pruning leaves a plain part that is like the part before, with the targets after it. Each target stays one,
  -- and each jump out of the part names one
  pub record Pruned {P X : Type 0} (part : Rebuilds Targets X) (tree_of : P → X) (IsAlike : P → Type 0)
      (Runs : List Event → Completion → Type 0) (targets : Targets) : Type 0 where
    pub after : P
    pub behind : Targets
    pub rebuilt : part targets ≡ Ok (behind, tree_of after)
    pub stay : AllStay targets behind
    pub alike : IsAlike after
    pub named : AllNamed Runs behind

  -- statements, one statement, a block that may be left out, and the cases of a switch
  abbrev pub PrunedList : Statements → Targets → Type 0
  PrunedList before =
      Pruned (rebuilt_block label_rules (block_of before)) block_of (SameRuns env before) (RunsList env before)

  abbrev pub PrunedStatement : Statement → Targets → Type 0
  PrunedStatement before = Pruned (rebuilt_statement label_rules (statement_of before)) statements_of
      (SameRuns env (alone before)) (RunsStatement env before)

  abbrev pub PrunedAlternate : Alternate → Targets → Type 0
  PrunedAlternate before = Pruned (if_some (rebuilt_block label_rules) (alternate_of before)) alternate_of
      (SameAlternateRuns env before) (RunsAlternate env before)

  abbrev pub PrunedCases : Cases → Targets → Type 0
  PrunedCases before = Pruned (in_order (map (rebuilt_case label_rules) (cases_of before))) cases_of
      (SameCasesRuns env before) (RunsSomeCases env before)

  -- a terminal whose inside is rebuilt, by the rule for it
  module _ (before after : TreeTerminal) (label : Option ReactiveLabel) (targets inside : Targets)
      (rebuilt : rebuilt_terminal label_rules (terminal_of before) targets ≡ Ok (inside, terminal_of after)) where
    -- the rule gives these statements
    abbrev Gives : Targets → Statements → Type 0
    Gives behind statements =
        label_rules.terminal (record { terminal = terminal_of after; label = label }) inside
        ≡ Ok (behind, statements_of statements)

    placed : (behind : Targets) (statements : Statements) → Gives behind statements
        → rebuilt_statement label_rules (statement_of (TerminalStatement before label)) targets
        ≡ Ok (behind, statements_of statements)
    placed behind statements rule =
        let x : ReactiveTerminalStatement = record { terminal = terminal_of before; label = label } in
        rw (rebuilt-Terminal label_rules x targets, rebuilt-labeled label_rules x targets, rebuilt) rule

    -- the terminal stays, with its label marked
    module _ (behind : Targets) (rule : Gives behind (labeled after (label_after behind label)))
        (stay : AllStay targets behind) where
      pub stays_in_place : SameRuns env (labeled before label) (labeled after (label_after behind label))
          → AllNamed (RunsStatement env (TerminalStatement before label)) behind
          → PrunedStatement (TerminalStatement before label) targets
      stays_in_place alike named = record {
        after = labeled after (label_after behind label);
        behind = behind;
        rebuilt = placed behind (labeled after (label_after behind label)) rule;
        stay = stay;
        alike = alike;
        named = named;
      }

  -- a `Label` whose inside is pruned, which gives way where nothing names it
  module _ (body : Statements) (id : EvaluationOrder) (label : Option ReactiveLabel) (targets : Targets)
      (inside : PrunedList body targets) where
    label_rebuilt : rebuilt_terminal label_rules (terminal_of (Label body id)) targets
        ≡ Ok (inside.behind, terminal_of (Label inside.after id))
    label_rebuilt = rw (rebuilt-Label label_rules (block_of body) id targets, inside.rebuilt) refl

    catches : is_named inside.behind label ≡ false → CatchesNothing env label body
    catches unnamed events outcome r =
        caught-unnamed label outcome inside.behind unnamed (λ block. inside.named events outcome r block)

    pub pruned_label : (named : Bool) → is_named inside.behind label ≡ named
        → PrunedStatement (TerminalStatement (Label body id) label) targets
    pruned_label true e =
        stays_in_place (Label body id) (Label inside.after id) label targets inside.behind label_rebuilt inside.behind
        (rw (tree.outs-Label (block_of inside.after) id, e) refl) inside.stay (
          label-keeps_runs env id body inside.after label _ inside.alike.0 (label_after-alike inside.behind label),
          label-keeps_runs env id inside.after body _ label inside.alike.1
              (sym (label_after-alike inside.behind label)),
        ) (label_named env inside.behind inside.named)
    pruned_label false e = record {
      after = inside.after;
      behind = inside.behind;
      rebuilt = placed (Label body id) (Label inside.after id) label targets inside.behind label_rebuilt inside.behind
          inside.after (rw (tree.outs-Label (block_of inside.after) id, e) refl);
      stay = inside.stay;
      alike = (
        flat-keeps_runs env id label body inside.after inside.alike.0 (catches e),
        keeps_runs-flat env id label inside.after body inside.alike.1 (catches e),
      );
      named = label_named env inside.behind inside.named;
    }
