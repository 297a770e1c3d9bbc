-- The steps of a transform refine the rules of a pass.
--
-- The pass has a state, `S`, and the walk a world of its own. Inside a scope block the walk may keep data for the
-- enclosing scope blocks, as a stack does; `R` is the type of these data.
use Rattle.std.specs.Prelude.{◌≡◌, ◌⊎◌, List, Result, Ok, Err, OnOk, IfErr}
use Rattle.rc_hir.specs.Model.{Fault}
use Rattle.rc_hir.specs.declared.fault.Fault.TheVariants.{NoMemory}
use Rattle.rc_tree.specs.Rebuilt.{Rules, rebuilt_block}
use Rattle.rc_tree.specs.Rewrite.{in_place}
use Rattle.rc_tree.specs.RewriteSteps.{RewriteSteps, goes_inside, skips, does_nothing}
use Rattle.rc_tree.specs.Model.{PrunedReactiveScopeBlock, ReactiveScopeBlock, ReactiveBlock, ReactiveStatement}
use Rattle.rc_tree.specs.Model.{ReactiveTerminalStatement, Transformed, ReactiveInstruction}
use Rattle.rc_tree.specs.declared.statement.ReactiveStatement.TheVariants as reactive
use Rattle.rc_tree.specs.declared.hooks.Enter.TheVariants.{Inside}

-- a `transform_` step agrees with the rule: it gives the same replacement and the world that represents the state
-- after it, or the same fault
abbrev pub StepAgrees : {S W X : Type 0} → (S → W) → (X → ReactiveStatement) → Result (S × List ReactiveStatement) Fault
    → Result (Transformed ReactiveStatement × (W × X)) Fault → Type 0
StepAgrees world made (Ok rule) (Ok step) = (step.1.0 ≡ world rule.0) × (in_place step.0 (made step.1.1) ≡ rule.1)
StepAgrees world made (Err fault) (Err given) = given ≡ fault
StepAgrees world made (Ok rule) (Err given) = ⊥
StepAgrees world made (Err fault) (Ok step) = ⊥

-- a block's last step agrees with the rule for its statements
abbrev pub BlockAgrees : {S W : Type 0} → (S → W) → Result (S × List ReactiveStatement) Fault
    → Result (Unit {0} × (W × ReactiveBlock)) Fault → Type 0
BlockAgrees world (Ok rule) (Ok step) = (step.1.0 ≡ world rule.0) × (step.1.1 ≡ record { statements = rule.1 })
BlockAgrees world (Err fault) (Err given) = given ≡ fault
BlockAgrees world (Ok rule) (Err given) = ⊥
BlockAgrees world (Err fault) (Ok step) = ⊥

-- `world r s` is the world that represents the state `s` below the stack `r`; `inner r s` is the stack inside a scope
-- block that is entered there
pub record Refines {S R T St : Type 0} (rules : Rules S) (v : RewriteSteps (T × St)) (world : R → S → T × St)
    (inner : R → S → R) : Type 0 where
  -- visits change nothing, and neither rows nor values are entered
  pub visit_id : v.visit_id ≡ (λ id w. Ok (tt, w))
  pub visit_place : v.visit_place ≡ (λ id place w. Ok (tt, w))
  pub enter_instruction : v.enter_instruction ≡ skips
  pub enter_value : v.enter_value ≡ (λ id. skips)
  -- the other parts are entered and not changed
  pub enter_terminal : v.enter_terminal ≡ goes_inside
  pub leave_terminal : v.leave_terminal ≡ does_nothing
  pub enter_pruned_scope : v.enter_pruned_scope ≡ goes_inside
  pub leave_pruned_scope : v.leave_pruned_scope ≡ does_nothing
  pub enter_block : v.enter_block ≡ goes_inside
  -- a scope block is entered with the state at the start of its inside
  pub enter_scope : (r : R) (s : S) (x : ReactiveScopeBlock)
      → v.enter_scope (world r s) x ≡ Ok (Inside, (world (inner r s) (rules.into_scope x.scope s), x))
  pub leave_scope : v.leave_scope ≡ does_nothing
  -- the last step of each statement agrees with its rule
  pub row : (r : R) (s : S) (x : ReactiveInstruction)
      → StepAgrees (world r) reactive.Instruction (rules.row x s) (v.transform_instruction (world r s) x)
  pub terminal : (r : R) (s : S) (x : ReactiveTerminalStatement)
      → StepAgrees (world r) reactive.Terminal (rules.terminal x s) (v.transform_terminal (world r s) x)
  pub pruned_scope : (r : R) (s : S) (x : PrunedReactiveScopeBlock)
      → StepAgrees (world r) reactive.PrunedScope (rules.pruned_scope x s) (v.transform_pruned_scope (world r s) x)
  -- a scope block that is entered in the state `met` and whose inside ends in the state `s`
  pub scope : (r : R) (met s : S) (x : ReactiveScopeBlock)
      → StepAgrees (world r) reactive.Scope (rules.scope met x s) (v.transform_scope (world (inner r met) s) x)
  -- a block whose statements have their replacements
  pub block : (r : R) (s : S) (x : ReactiveBlock)
      → BlockAgrees (world r) (rules.block x.statements s) (v.leave_block (world r s) x)

-- a call rebuilds a block by the rules from the state `start`, and leaves the world that represents the last state; or
-- it returns a rule's fault, or runs out of memory
abbrev pub RebuildsTo : {S W : Type 0} → Rules S → (S → W) → ReactiveBlock → S → ReactiveBlock → W
    → Result (Unit {0}) Fault → Type 0
RebuildsTo {S = S} rules world before start after left result =
    OnOk result ((s : S) × (rebuilt_block rules before start ≡ Ok (s, after)) × (left ≡ world s))
    × IfErr result (λ fault. (fault ≡ NoMemory) ⊎ (rebuilt_block rules before start ≡ Err fault))
