-- The enter steps of a pass over statements don't make their parts deeper.
use Rattle.std.proofs.Common.{◌≡◌, Result, Ok, Err, ◌≤◌}
use Rattle.rc_hir.specs.Model.{Fault}
use Rattle.rc_tree.proofs.NoDeeper.{goes_inside_no_deeper, skips_no_deeper}
use Rattle.rc_tree.specs.Step.{bind}
use Rattle.rc_tree.specs.RewriteSteps.{EntersNoDeeper, NoDeeper}
use Rattle.rc_tree.specs.StatementSteps.{StatementSteps, enters_scope, over_statements}
use Rattle.rc_tree.specs.declared.scope.ReactiveScopeBlock.{ReactiveScopeBlock, size-ReactiveScopeBlock}
use Rattle.rc_tree.specs.Model.{Enter}
use Rattle.rc_tree.specs.declared.hooks.Enter.TheVariants.{Inside}

module _ {T S : Type 0} (steps : T → StatementSteps S) where
  enters_scope_no_deeper : NoDeeper size-ReactiveScopeBlock (enters_scope steps)
  enters_scope_no_deeper w w1 x x1 answer e = by ((steps w.0).enter_scope x w.1) e
    where
      by : (r : Result (Unit {0} × S) Fault)
          → ◌≡◌ {A = Result (Enter × ((T × S) × ReactiveScopeBlock)) Fault} (bind r (λ r. Ok (Inside, ((w.0, r.1), x))))
          (Ok (answer, (w1, x1)))
          → size-ReactiveScopeBlock x1 ≤ size-ReactiveScopeBlock x
      by (Ok a) h = goes_inside_no_deeper size-ReactiveScopeBlock (w.0, a.1) w1 x x1 answer h
      by (Err fault) h = let bad : ⊥ = cc in absurd bad

  pub over_statements_no_deeper : EntersNoDeeper (over_statements steps)
  over_statements_no_deeper = record {
    instruction = skips_no_deeper _;
    value = λ id. skips_no_deeper _;
    terminal = goes_inside_no_deeper _;
    scope = enters_scope_no_deeper;
    pruned_scope = goes_inside_no_deeper _;
    block = goes_inside_no_deeper _;
  }
