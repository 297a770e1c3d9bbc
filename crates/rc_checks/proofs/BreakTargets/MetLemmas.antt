-- The terminals that are met in a block and at each form of statement, and the steps of the check over them.
use Rattle.std.proofs.Common.{◌≡◌, List, [], ◌∷◌, ◌++◌, flat_map, Result, Ok, Err, refl, sym, ap, ◌∙◌}
use Rattle.std.proofs.lemmas.List.Folds.{flat_map-map}
use Rattle.rc_hir.specs.Model.{Fault}
use Rattle.rc_tree.specs.Step.{Walk, bind, each}
use Rattle.rc_tree.proofs.StepLemmas.{gives_next, gives_fault, same_rest}
use Rattle.rc_tree.specs.TreeFold.{over_terminal, parts_of_terminal}
use Rattle.rc_tree.specs.Unrolled.{UnrolledTerminal}
use Rattle.rc_tree.specs.Model.{PrunedReactiveScopeBlock, ReactiveScopeBlock, ReactiveBlock, ReactiveTerminalStatement}
use Rattle.rc_tree.specs.Model.{ReactiveInstruction}
use Rattle.rc_tree.specs.declared.statement.ReactiveStatement.TheOpen as layer
use Rattle.rc_tree.specs.declared.statement.ReactiveStatement.TheVariants as reactive
use Rattle.rc_tree.specs.declared.terminal.ReactiveTerminal.{ReactiveTerminal, out-ReactiveTerminal}
use Rattle.rc_tree.specs.declared.terminal.ReactiveTerminal.{roll-out-ReactiveTerminal}
use Rattle.rc_tree.proofs.TreeFoldLemmas.{over_block-parts, over_labeled-parts, over_pruned_scope-parts}
use Rattle.rc_tree.proofs.TreeFoldLemmas.{over_scope-parts, over_statement-roll, over_terminal-roll}
use Rattle.rc_checks.specs.BreakTargets.{target_of, meeting, met_in}
use Rattle.rc_checks.specs.inside.MetStatements.{met_at}
use Rattle.rc_checks.specs.inside.TargetSteps.{MetLabels, met_terminal, terminal_step}

-- the terminals that are met in a block, and at each form of statement

pub met_in-statements : (x : ReactiveBlock) → met_in x ≡ flat_map met_at x.statements
unfolding met_in met_at
met_in-statements x = over_block-parts meeting x ∙ flat_map-map (λ terminals. terminals) met_at x.statements

pub met_at-Instruction : (x : ReactiveInstruction) → met_at (reactive.Instruction x) ≡ []
unfolding met_at
met_at-Instruction x =
    ap met_at (sym (reactive.rolls-Instruction x)) ∙ over_statement-roll meeting (layer.Instruction x)

-- a terminal is a jump whatever its blocks give
same_target : (x : UnrolledTerminal) → target_of (parts_of_terminal meeting x) ≡ target_of x
same_target (layer.Break target kind id) = refl
same_target (layer.Continue target kind id) = refl
same_target _ = refl

target_met : (x : ReactiveTerminal) → over_terminal meeting x ≡ target_of (out-ReactiveTerminal x)
target_met x =
    ap (over_terminal meeting) (sym (roll-out-ReactiveTerminal x))
    ∙ over_terminal-roll meeting (out-ReactiveTerminal x) ∙ same_target (out-ReactiveTerminal x)

pub met_at-Terminal : (x : ReactiveTerminalStatement) → met_at (reactive.Terminal x) ≡ met_terminal x ∷ []
unfolding met_at
met_at-Terminal x =
    ap met_at (sym (reactive.rolls-Terminal x)) ∙ over_statement-roll meeting (layer.Terminal x)
    ∙ over_labeled-parts meeting x ∙ (λ i. record { label = x.label; target = target_met x.terminal i } ∷ [])

pub met_at-Scope : (x : ReactiveScopeBlock) → met_at (reactive.Scope x) ≡ met_in x.instructions
unfolding met_in met_at
met_at-Scope x =
    ap met_at (sym (reactive.rolls-Scope x)) ∙ over_statement-roll meeting (layer.Scope x)
    ∙ over_scope-parts meeting x

pub met_at-PrunedScope : (x : PrunedReactiveScopeBlock) → met_at (reactive.PrunedScope x) ≡ met_in x.instructions
unfolding met_in met_at
met_at-PrunedScope x =
    ap met_at (sym (reactive.rolls-PrunedScope x)) ∙ over_statement-roll meeting (layer.PrunedScope x)
    ∙ over_pruned_scope-parts meeting x

-- the steps over these terminals, in a block and at each form of statement

module _ {S X : Type 0} (step : X → Walk S) where
  alone : (r : Result (Unit {0} × S) Fault) → bind r (λ a. Ok (tt, a.1)) ≡ r
  alone (Ok a) = refl
  alone (Err fault) = refl

  each-append : (xs ys : List X) (s : S) → each step (xs ++ ys) s ≡ bind (each step xs s) (λ r. each step ys r.1)
  each-append [] ys s = refl
  each-append (x ∷ xs) ys s = behind (step x s) (each-append xs ys)
    where
      behind : (r : Result (Unit {0} × S) Fault) → ((t : S)
          → each step (xs ++ ys) t ≡ bind (each step xs t) (λ a. each step ys a.1)) →
          bind r (λ a. each step (xs ++ ys) a.1) ≡ bind (bind r (λ a. each step xs a.1)) (λ a. each step ys a.1)
      behind (Ok a) later = later a.1
      behind (Err fault) later = refl

  each-flat_map : {Y : Type 0} (f : Y → List X) (ys : List Y) (s : S)
      → each step (flat_map f ys) s ≡ each (λ y. each step (f y)) ys s
  each-flat_map f [] s = refl
  each-flat_map f (y ∷ ys) s =
      each-append (f y) (flat_map f ys) s ∙ same_rest (each step (f y) s) _ _ (λ r. each-flat_map f ys r.1)

pub steps-block : (x : ReactiveBlock) (s : MetLabels) → each terminal_step (met_in x) s
    ≡ each (λ y. each terminal_step (met_at y)) x.statements s
steps-block x s = ap (λ l. each terminal_step l s) (met_in-statements x)
    ∙ each-flat_map terminal_step met_at x.statements s

pub steps-Instruction : (x : ReactiveInstruction) (s : MetLabels)
    → each terminal_step (met_at (reactive.Instruction x)) s ≡ Ok (tt, s)
steps-Instruction x s = ap (λ l. each terminal_step l s) (met_at-Instruction x)

pub steps-Terminal : (x : ReactiveTerminalStatement) (s : MetLabels)
    → each terminal_step (met_at (reactive.Terminal x)) s ≡ terminal_step (met_terminal x) s
steps-Terminal x s =
    ap (λ l. each terminal_step l s) (met_at-Terminal x) ∙ alone terminal_step (terminal_step (met_terminal x) s)

pub steps-Scope : (x : ReactiveScopeBlock) (s : MetLabels)
    → each terminal_step (met_at (reactive.Scope x)) s ≡ each terminal_step (met_in x.instructions) s
steps-Scope x s = ap (λ l. each terminal_step l s) (met_at-Scope x)

pub steps-PrunedScope : (x : PrunedReactiveScopeBlock) (s : MetLabels)
    → each terminal_step (met_at (reactive.PrunedScope x)) s ≡ each terminal_step (met_in x.instructions) s
steps-PrunedScope x s = ap (λ l. each terminal_step l s) (met_at-PrunedScope x)

-- with these `search` follows the check through its calls
pub ruleset checking =
    (gives_next, gives_fault, steps-block, steps-Instruction, steps-Terminal, steps-Scope, steps-PrunedScope)
