-- The rewriting walk with the steps of label pruning gives the tree without its unused labels.
use Rattle.std.proofs.Common.{◌≡◌, ◌∙◌, ◌↔◌, List, [], Option, None, Some, Result, Ok, Err, refl, sym, ap}
use Rattle.std.specs.FinSet.{empty}
use Rattle.rc_checks.specs.Labels.Steps.{IsAfterLabelWalk, terminal_answer, targets_after, label_steps, left_of}
use Rattle.rc_checks.specs.Labels.Steps.{statements_taken}
use Rattle.rc_checks.specs.Labels.{IsWithoutUnusedLabels, Targets, in_place_of, label_rules}
use Rattle.rc_hir.specs.Model.{Fault, HirFunction}
use Rattle.rc_tree.proofs.RefinesLemmas.{follows_block}
use Rattle.rc_tree.proofs.RefinesLemmas.Agreement.{told}
use Rattle.rc_tree.proofs.StepLemmas.{Ok-injective}
use Rattle.rc_tree.proofs.StatementsRefineLemmas.{over_statements_follow}
use Rattle.rc_tree.specs.Step.{bind}
use Rattle.rc_tree.specs.Rebuilt.{rebuilt_block}
use Rattle.rc_tree.specs.Rewrite.{in_place, rewrite_block}
use Rattle.rc_tree.specs.RewriteSteps.{RewriteSteps}
use Rattle.rc_tree.specs.StatementSteps.{StatementSteps, over_statements}
use Rattle.rc_tree.specs.inside.StatementsRefine.{StatementsRefine}
use Rattle.rc_tree.proofs.StatementsNoDeeper.{over_statements_no_deeper}
use Rattle.rc_tree.specs.Model.{ReactiveBlock, ReactiveStatement, ReactiveTerminalStatement}
use Rattle.rc_tree.specs.declared.statement.ReactiveStatement.TheVariants as reactive

-- the replacement of a terminal is that of the rule
in_place-answer_for : (targets : Targets) (x : ReactiveTerminalStatement) (statements : Option (List ReactiveStatement))
    → in_place (terminal_answer statements) (reactive.Terminal (left_of targets statements x))
    ≡ in_place_of targets x statements
in_place-answer_for targets x None = refl
in_place-answer_for targets x (Some statements) = refl

-- the state of the walk is that of the rules, and nothing is kept for the scope blocks around
abbrev same_targets : Unit {0} → Targets → Targets
same_targets around targets = targets

abbrev same_nothing : Unit {0} → Targets → Unit {0}
same_nothing around targets = around

-- the steps follow the rules
labels_follow : StatementsRefine label_rules label_steps same_targets same_nothing
labels_follow = record {
  row = λ targets row. refl;
  pruned_scope = λ targets block. refl;
  enter_scope = λ around targets block. refl;
  terminal = λ around targets x. (
    refl,
    in_place-answer_for (targets_after x targets) x (statements_taken (targets_after x targets) x),
  );
  scope = λ around met targets block. (refl, refl);
  block = λ around targets block. (refl, refl);
}

-- whatever the transform and its table of functions are
module _ {T : Type 0} (functions : T → List HirFunction) (t : T) where
  abbrev steps_of : T → StatementSteps Targets
  steps_of transform = label_steps

  abbrev steps : RewriteSteps (T × Targets)
  steps = over_statements steps_of

  abbrev world : Unit {0} → Targets → T × Targets
  world around targets = (t, targets)

  told_as_bound : (rebuilt : Result (Targets × ReactiveBlock) Fault)
      → told world tt rebuilt ≡ bind rebuilt (λ a. Ok (tt, ((t, a.0), a.1)))
  told_as_bound (Ok a) = refl
  told_as_bound (Err fault) = refl

  -- the walk of a block gives the block rebuilt by the rules
  pub walked_is_rebuilt : (targets : Targets) (block : ReactiveBlock)
      → rewrite_block steps functions (t, targets) block
      ≡ bind (rebuilt_block label_rules block targets) (λ a. Ok (tt, ((t, a.0), a.1)))
  walked_is_rebuilt targets block =
      follows_block label_rules steps functions world same_nothing
      (over_statements_follow label_rules steps_of same_targets same_nothing t labels_follow)
      (over_statements_no_deeper steps_of) tt targets block
      ∙ told_as_bound (rebuilt_block label_rules block targets)

-- the result of the walk, by that of the rules
abbrev by_walk : Result (Targets × ReactiveBlock) Fault
    → Result (Unit {0} × ((Unit {0} × Targets) × ReactiveBlock)) Fault
by_walk rebuilt = bind rebuilt (λ a. Ok (tt, ((tt, a.0), a.1)))

rebuilt_by_walk : (rebuilt : Result (Targets × ReactiveBlock) Fault) (targets : Targets) (after : ReactiveBlock)
    → by_walk rebuilt ≡ Ok (tt, ((tt, targets), after)) → rebuilt ≡ Ok (targets, after)
rebuilt_by_walk (Ok a) targets after e =
    ap (λ b. Ok (b.1.0.1, b.1.1)) (Ok-injective (tt, ((tt, a.0), a.1)) (tt, ((tt, targets), after)) e)
rebuilt_by_walk (Err fault) targets after e = let bad : ⊥ = cc in absurd bad

-- the block without its unused labels is the one that the walk makes, and no other
pub without_labels_is_walked : (before after : ReactiveBlock)
    → IsWithoutUnusedLabels before after ↔ IsAfterLabelWalk before after
without_labels_is_walked before after = (
  λ is. record { targets = is.targets; walked = walk ∙ ap by_walk is.rebuilt },
  λ is. record {
    targets = is.targets;
    rebuilt = rebuilt_by_walk (rebuilt_block label_rules before empty) is.targets after (sym walk ∙ is.walked);
  },
)
  where
    walk : rewrite_block {T = Unit {0}} (over_statements (λ transform. label_steps)) (λ transform. []) (tt, empty) before
        ≡ by_walk (rebuilt_block label_rules before empty)
    walk = walked_is_rebuilt (λ transform. []) tt empty before
