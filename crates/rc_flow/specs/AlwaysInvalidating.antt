-- A tree whose scope blocks with an unmemoized dependency became pruned ones; the scopes for which that was decided;
-- and those that keep a block.
--
-- Blocks are rebuilt by one answer for each scope block, in the order in which they end.
use Rattle.std.specs.Prelude.{◌≡◌, ◌⊎◌, ℕ, Bool, false, List, [], ◌∷◌, Some, Ok, Contains, drop, map}
use Rattle.std.specs.Prelude.{slice_get, if◌then◌else◌}
use Rattle.rc_hir.specs.Model.{Environment}
use Rattle.rc_names.specs.Numbers.{ScopeId}
use Rattle.rc_tree.specs.Decided.{FateRule}
use Rattle.rc_tree.specs.Pruned.{as_pruned}
use Rattle.rc_tree.specs.Rebuilt.{Rules, keeps_statements, rebuilt_block}
use Rattle.rc_tree.specs.ScopesIn.{scopes_in}
use Rattle.rc_tree.specs.Model.{ReactiveScopeBlock, ReactiveBlock, ReactiveStatement}
use Rattle.rc_tree.specs.declared.fate.Fate.TheVariants.{AlwaysInvalidating}
use Rattle.rc_tree.specs.declared.fate.ScopeFate.{ScopeFate}
use Rattle.rc_tree.specs.declared.statement.ReactiveStatement.TheVariants as reactive
use Rattle.rc_flow.specs.Unmemoized.{AreAnswers, HasUnmemoized}
use Rattle.rc_flow.specs.ValueSteps.{value_steps_in}
use Rattle.rc_flow.specs.declared.value_step.ValueStep.TheVariants.{Ends}

-- the replacement of a scope block
abbrev pub pruned_if : Bool → ReactiveScopeBlock → ReactiveStatement
pruned_if dropped block = if dropped then reactive.PrunedScope (as_pruned block) else reactive.Scope block

-- the next answer; false where there is none
abbrev pub first_answer : List Bool → Bool
first_answer [] = false
first_answer (answer ∷ answers) = answer

-- the rule for each statement; the state is what is left of the answers
abbrev pub dropping_rules : Rules (List Bool)
dropping_rules = record {
  row = λ row answers. Ok (answers, reactive.Instruction row ∷ []);
  terminal = λ statement answers. Ok (answers, reactive.Terminal statement ∷ []);
  pruned_scope = λ block answers. Ok (answers, reactive.PrunedScope block ∷ []);
  into_scope = λ scope answers. answers;
  scope = λ around block answers. Ok (drop 1 answers, pruned_if (first_answer answers) block ∷ []);
  block = keeps_statements;
}

-- the second block is the first one where scope blocks became pruned ones by these answers
pub record IsRebuiltBy (answers : List Bool) (before after : ReactiveBlock) : Type 0 where
  pub left : List Bool
  pub rebuilt : rebuilt_block dropping_rules before answers ≡ Ok (left, after)

-- the second block is the first one, where each scope block with an unmemoized dependency at its end became a pruned
-- one
pub record IsWithoutInvalidating (env : Environment) (before after : ReactiveBlock) : Type 0 where
  pub answers : List Bool
  pub right : AreAnswers env (value_steps_in before) 0 (value_steps_in before) answers
  pub rebuilt : IsRebuiltBy answers before after

-- of the scopes of blocks that end in this order, those whose block became a pruned one by the answers
abbrev pub dropped_scopes : List ScopeId → List Bool → List ScopeId
dropped_scopes [] answers = []
dropped_scopes (scope ∷ scopes) answers =
    let later = dropped_scopes scopes (drop 1 answers) in
    if first_answer answers then scope ∷ later else later

-- what was decided of these scopes
abbrev pub always_invalidating : List ScopeId → List ScopeFate
always_invalidating = map (λ scope. record { scope = scope; fate = AlwaysInvalidating })

-- the same, and the log has the scope of each block that became a pruned one, in the order in which they end
pub record PrunesInvalidating (env : Environment) (before after : ReactiveBlock) (log : List ScopeFate) : Type 0 where
  pub without : IsWithoutInvalidating env before after
  pub told : log ≡ always_invalidating (dropped_scopes (scopes_in before) without.answers)

-- the scope has a scope block, and depends on an unmemoized value wherever one ends
pub record IsInvalidating (env : Environment) (body : ReactiveBlock) (scope : ScopeId) : Type 0 where
  pub has_block : Contains (scopes_in body) scope
  pub unmemoized : (place : ℕ) → slice_get (value_steps_in body) place ≡ Some (Ends scope)
      → HasUnmemoized env (value_steps_in body) place scope

-- the rule of the pass, judged on the body that it received: the scope's fate is this one if it always invalidates
abbrev pub invalidating_rule : Environment → ReactiveBlock → FateRule
invalidating_rule env before scope fate = (fate ≡ AlwaysInvalidating) × IsInvalidating env before scope

-- each scope of a scope block of the first tree either has one in the second tree, or always invalidates
pub record LeavesOthers (env : Environment) (before after : ReactiveBlock) : Type 0 where
  pub each : (scope : ScopeId) → Contains (scopes_in before) scope
      → Contains (scopes_in after) scope ⊎ IsInvalidating env before scope
  pub left : (scope : ScopeId) → Contains (scopes_in after) scope
      → Contains (scopes_in before) scope × ¬ IsInvalidating env before scope
