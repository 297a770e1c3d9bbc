-- A rewriting walk whose steps refine the rules of a pass gives the tree that the rules rebuild.
pub mod Agreement
pub mod Terminals
use Rattle.std.proofs.Common.{◌≡◌, ◌∙◌, ℕ, zero, suc, List, [], map, Result, Ok, Err, refl, sym, ap, subst, arith}
use Rattle.rc_hir.specs.Model.{Fault, HirFunction}
use Rattle.rc_tree.proofs.RebuiltLemmas.{rebuilt-block, rebuilt-scope, rebuilt-pruned_scope, rebuilt-Instruction}
use Rattle.rc_tree.proofs.RebuiltLemmas.{rebuilt-Terminal, rebuilt-Scope, rebuilt-PrunedScope}
use Rattle.rc_tree.proofs.EnoughFuelForStatements.{known_block_to, known_statement}
use Rattle.rc_tree.specs.inside.Refines.{BlockAgrees, StepAgrees, Refines, RebuildsTo}
use Rattle.rc_tree.specs.Unrolled.{UnrolledStatement}
use Rattle.rc_tree.specs.Step.{IsStep}
use Rattle.rc_tree.specs.Step as outcome
use Rattle.rc_tree.specs.Rebuilt.{Rebuilds, Rules, joined, rebuilt_block, rebuilt_statement, rebuilt_labeled, rebuilt_scope}
use Rattle.rc_tree.specs.Rebuilt.{rebuilt_pruned_scope}
use Rattle.rc_tree.specs.Fuel.{Done, last, after, as_step, FueledWalk, by_answer}
use Rattle.rc_tree.specs.Rewrite.{scope_inside, scope_at, pruned_scope_inside, pruned_scope_at, statement_layer}
use Rattle.rc_tree.specs.Rewrite.{statement_at, into_at, statements_at, block_inside, block_to, rewrite_block}
use Rattle.rc_tree.specs.Rewrite.{rewrite_statement}
use Rattle.rc_tree.specs.Rewrite.Terminals.{terminal_at}
use Rattle.rc_tree.specs.Rewrite.Values.{instruction_at, rewrite_instruction}
use Rattle.rc_tree.specs.RewriteSteps.{RewriteSteps, EntersNoDeeper, does_nothing}
use Rattle.rc_tree.specs.Model.{PrunedReactiveScopeBlock, ReactiveScopeBlock}
use Rattle.rc_tree.specs.declared.statement.ReactiveBlock.{ReactiveBlock, size-ReactiveBlock}
use Rattle.rc_tree.specs.declared.statement.ReactiveStatement.{ReactiveStatement, out-ReactiveStatement}
use Rattle.rc_tree.specs.declared.statement.ReactiveStatement.{roll-ReactiveStatement, roll-out-ReactiveStatement}
use Rattle.rc_tree.specs.declared.statement.ReactiveStatement.{size-ReactiveStatement}
use Rattle.rc_tree.specs.declared.statement.ReactiveStatement.TheOpen as layer
use Rattle.rc_tree.specs.declared.statement.ReactiveStatement.TheVariants as reactive
use Rattle.rc_tree.proofs.RefinesLemmas.Agreement.{Agrees, Places, made, part, as_left, part_placed, placed, put, ahead}
use Rattle.rc_tree.proofs.RefinesLemmas.Agreement.{ahead_none, turn_agrees, told, settled_agrees}
use Rattle.rc_tree.proofs.RefinesLemmas.Agreement.{gives_leaves}
use Rattle.rc_tree.proofs.RefinesLemmas.Terminals.{plain as plain_steps, are_plain, labeled_agrees}

-- the walk with steps that refine the rules
module _ {S R T St : Type 0} (rules : Rules S) (v : RewriteSteps (T × St)) (functions : T → List HirFunction)
    (world : R → S → T × St) (inner : R → S → R) (follows : Refines rules v world inner) where
  -- the same steps, where visits and the steps for rows and values compute
  abbrev plain : RewriteSteps (T × St)
  plain = plain_steps rules v functions world inner follows

  -- a block whose statements have their replacements, and then the block's own rule
  abbrev replaced_block : ReactiveBlock → Rebuilds S ReactiveBlock
  replaced_block x s =
      outcome.bind (joined (map (rebuilt_statement rules) x.statements) s) (λ a. Ok (a.0, record { statements = a.1 }))

  abbrev block_rule : S × ReactiveBlock → Result (S × ReactiveBlock) Fault
  block_rule a =
      outcome.bind (rules.block a.1.statements a.0) (λ b. Ok (b.0, record { statements = b.1 }))

  block_at_end : (e : Result (S × List ReactiveStatement) Fault)
      → outcome.bind (outcome.bind e (λ a. Ok (a.0, record { statements = a.1 }))) block_rule
      ≡ outcome.bind e (λ a. outcome.bind (rules.block a.1 a.0) (λ b. Ok (b.0, record { statements = b.1 })))
  block_at_end (Ok a) = refl
  block_at_end (Err fault) = refl

  left_agrees : (r : R) (rule : Result (S × List ReactiveStatement) Fault)
      (step : Result (Unit {0} × ((T × St) × ReactiveBlock)) Fault)
      → BlockAgrees (world r) rule step
      → Agrees world r (last step) (outcome.bind rule (λ b. Ok (b.0, record { statements = b.1 })))
  unfolding Agrees
  left_agrees r (Ok rule) (Ok step) h = (rule.0, ap (λ y. Ok (rule.0, y)) (sym h.1), h.0)
  left_agrees r (Err fault) (Err given) h = ap Err (sym h)
  left_agrees r (Ok rule) (Err given) h = absurd h
  left_agrees r (Err fault) (Ok step) h = absurd h

  module _ (walk : FueledWalk (T × St) ReactiveBlock) (known : (r : R) (s : S) (x : ReactiveBlock)
      → Agrees world r (walk (world r s) x) (rebuilt_block rules x s)) where
    pruned_scope_agrees : (r : R) (s : S) (x : PrunedReactiveScopeBlock)
        → Agrees world r (pruned_scope_at plain functions walk (world r s) x) (rebuilt_pruned_scope rules x s)
    unfolding pruned_scope_at
    pruned_scope_agrees r s x =
        as_left world r (pruned_scope_inside plain functions walk (world r s) x) (rebuilt_pruned_scope rules x s)
        (subst (λ e. Agrees world r (pruned_scope_inside plain functions walk (world r s) x) e)
        (sym (rebuilt-pruned_scope rules x s))
        (made world r (walk (world r s) x.instructions) (rebuilt_block rules x.instructions s)
        (λ y. record { scope = x.scope; instructions = y }) (known r s x.instructions)))

    scope_agrees : (r : R) (s : S) (x : ReactiveScopeBlock)
        → Agrees world (inner r s) (scope_at plain functions walk (world r s) x)
        (rebuilt_scope rules x s)
    unfolding scope_at
    scope_agrees r s x =
        subst (λ f. Agrees world (inner r s) (after f (λ r. by_answer (scope_inside plain functions walk) does_nothing
        r.0 r.1)) (rebuilt_scope rules x s)) (sym (follows.enter_scope r s x))
        (as_left world (inner r s) (scope_inside plain functions walk (world (inner r s) (rules.into_scope x.scope s)) x)
        (rebuilt_scope rules x s)
        (subst (λ e. Agrees world (inner r s) (scope_inside plain functions walk
        (world (inner r s) (rules.into_scope x.scope s)) x) e) (sym (rebuilt-scope rules x s))
        (made world (inner r s) (walk (world (inner r s) (rules.into_scope x.scope s)) x.instructions)
        (rebuilt_block rules x.instructions (rules.into_scope x.scope s))
        (λ y. record { scope = x.scope; instructions = y })
        (known (inner r s) (rules.into_scope x.scope s) x.instructions))))

    -- each statement, by its equation
    abbrev StatementPlaced : R → S → UnrolledStatement → Result (S × List ReactiveStatement) Fault → Type 0
    StatementPlaced r s l e = Places world r (statement_layer plain functions walk (world r s) l) e

    layer_placed : (r : R) (s : S) (l : UnrolledStatement) → Places world r
        (statement_layer plain functions walk (world r s) l) (rebuilt_statement rules (roll-ReactiveStatement l) s)
    unfolding rewrite_instruction instruction_at as_step
    layer_placed r s (layer.Instruction x) =
        subst (λ e. StatementPlaced r s (layer.Instruction x) e)
        (sym (rebuilt-Instruction rules x s) ∙ ap (λ y. rebuilt_statement rules y s)
        (sym (reactive.rolls-Instruction x)))
        (placed world r reactive.Instruction (rules.row x s) (v.transform_instruction (world r s) x)
        (follows.row r s x))
    layer_placed r s (layer.Terminal x) =
        subst (λ e. StatementPlaced r s (layer.Terminal x) e)
        (sym (rebuilt-Terminal rules x s) ∙ ap (λ y. rebuilt_statement rules y s) (sym (reactive.rolls-Terminal x)))
        (part_placed world r r (terminal_at plain functions walk (world r s) x)
        (λ a. after (v.transform_terminal a.1.0 a.1.1) (λ b. Done (b.0, (b.1.0, reactive.Terminal b.1.1))))
        (rebuilt_labeled rules x s) (λ a. rules.terminal a.1 a.0)
        (labeled_agrees rules v functions world inner follows walk known r s x)
        (λ s1 y. placed world r reactive.Terminal (rules.terminal y s1) (v.transform_terminal (world r s1) y)
        (follows.terminal r s1 y)))
    layer_placed r s (layer.PrunedScope x) =
        subst (λ e. StatementPlaced r s (layer.PrunedScope x) e)
        (sym (rebuilt-PrunedScope rules x s) ∙ ap (λ y. rebuilt_statement rules y s)
        (sym (reactive.rolls-PrunedScope x)))
        (part_placed world r r (pruned_scope_at plain functions walk (world r s) x)
        (λ a. after (v.transform_pruned_scope a.1.0 a.1.1) (λ b. Done (b.0, (b.1.0, reactive.PrunedScope b.1.1))))
        (rebuilt_pruned_scope rules x s) (λ a. rules.pruned_scope a.1 a.0) (pruned_scope_agrees r s x)
        (λ s1 y. placed world r reactive.PrunedScope (rules.pruned_scope y s1) (v.transform_pruned_scope (world r s1) y)
        (follows.pruned_scope r s1 y)))
    layer_placed r s (layer.Scope x) =
        subst (λ e. StatementPlaced r s (layer.Scope x) e) (sym (rebuilt-Scope rules x s)
        ∙ ap (λ y. rebuilt_statement rules y s) (sym (reactive.rolls-Scope x)))
        (part_placed world r (inner r s) (scope_at plain functions walk (world r s) x)
        (λ a. after (v.transform_scope a.1.0 a.1.1) (λ b. Done (b.0, (b.1.0, reactive.Scope b.1.1))))
        (rebuilt_scope rules x s) (λ a. rules.scope s a.1 a.0) (scope_agrees r s x)
        (λ s1 y. placed world r reactive.Scope (rules.scope s y s1) (v.transform_scope (world (inner r s) s1) y)
        (follows.scope r s s1 y)))

    statement_placed : (r : R) (s : S) (x : ReactiveStatement)
        → Places world r (statement_at plain functions walk (world r s) x) (rebuilt_statement rules x s)
    statement_placed r s x =
        subst (λ y. Places world r (statement_at plain functions walk (world r s) x) (rebuilt_statement rules y s))
        (roll-out-ReactiveStatement x) (layer_placed r s (out-ReactiveStatement x))

    into_agrees : (r : R) (s : S) (before : List ReactiveStatement) (x : ReactiveStatement)
        → Agrees world r (into_at plain functions walk (world r s) before x)
        (ahead world before (rebuilt_statement rules x s))
    unfolding into_at
    into_agrees r s before x = put world r before (statement_at plain functions walk (world r s) x)
        (rebuilt_statement rules x s) (statement_placed r s x)

    -- the statements of a block, before the block's own rule
    inside_agrees : (r : R) (s : S) (x : ReactiveBlock) → Agrees world r
        (block_inside plain functions walk (world r s) x) (replaced_block x s)
    unfolding statements_at
    inside_agrees r s x =
        made world r (statements_at plain functions walk (world r s) x.statements)
        (joined (map (rebuilt_statement rules) x.statements) s) (λ y. record { statements = y })
        (subst (λ e. Agrees world r (statements_at plain functions walk (world r s) x.statements) e)
        (ahead_none world (joined (map (rebuilt_statement rules) x.statements) s))
        (turn_agrees world r (rebuilt_statement rules) (into_at plain functions walk) (into_agrees r) s []
        x.statements))

  -- with any fuel
  block_agrees : (n : ℕ) (r : R) (s : S) (x : ReactiveBlock)
      → Agrees world r (block_to plain functions n (world r s) x) (rebuilt_block rules x s)
  unfolding block_to Agrees
  block_agrees zero r s x = tt
  block_agrees (suc n) r s x =
      subst (λ e. Agrees world r (block_to plain functions (suc n) (world r s) x) e)
      (block_at_end (joined (map (rebuilt_statement rules) x.statements) s) ∙ sym (rebuilt-block rules x s))
      (part world r r (block_inside plain functions (block_to plain functions n) (world r s) x)
      (λ d. last (v.leave_block d.1.0 d.1.1)) (replaced_block x s) block_rule
      (inside_agrees (block_to plain functions n) (block_agrees n) r s x)
      (λ s1 y. left_agrees r (rules.block y.statements s1) (v.leave_block (world r s1) y) (follows.block r s1 y)))

  -- the walk of a block gives the rebuilt block, or the fault of a rule
  pub follows_block : EntersNoDeeper v → (r : R) (s : S) (x : ReactiveBlock)
      → rewrite_block v functions (world r s) x ≡ told world r (rebuilt_block rules x s)
  unfolding rewrite_block
  follows_block enters r s x =
      settled_agrees world r (block_to v functions (suc (size-ReactiveBlock x)) (world r s) x) (rebuilt_block rules x s)
      (known_block_to v functions enters (suc (size-ReactiveBlock x)) (world r s) x (omega arith))
      (subst (λ u. Agrees world r (block_to u functions (suc (size-ReactiveBlock x)) (world r s) x)
      (rebuilt_block rules x s)) (sym (are_plain rules v functions world inner follows))
      (block_agrees (suc (size-ReactiveBlock x)) r s x))

  -- a call with the result of the walk of a block leaves the rebuilt block, or returns the rules' fault, or runs out
  -- of memory
  pub follows_body : EntersNoDeeper v → (r : R) (s : S) (x y : ReactiveBlock) (w : T × St)
      (result : Result (Unit {0}) Fault)
      → IsStep (rewrite_block v functions (world r s) x) result (w, y) → RebuildsTo rules (world r) x s y w result
  follows_body enters r s x y w result h = gives_leaves world r (rebuilt_block rules x s) result w y
      (subst (λ f. IsStep f result (w, y)) (follows_block enters r s x) h)
