-- Each pass after the escape pass leaves a tree without scope blocks as it is, with its environment, and decides
-- nothing.
use Rattle.std.proofs.Common.{◌≡◌, ◌∙◌, ◌||◌, ◌+◌, ℕ, false, List, [], ◌∷◌, None, Ok, refl, sym, ap, subst}
use Rattle.std.specs.List.{IsDistinct, list_any}
use Rattle.rc_hir.specs.Model.{Environment}
use Rattle.rc_checks.proofs.MembershipCheck.WithoutBlocks.{inside_without_blocks}
use Rattle.rc_checks.specs.UnusedScopes as unused
use Rattle.rc_checks.specs.UnusedScopes.{LosesUnusedScopes, unused_scope_rules}
use Rattle.rc_early.specs.EarlyReturned.{HasEarlyReturns, Progress, early_return_rules, nothing_met, terminal_at}
use Rattle.rc_flow.proofs.AlwaysInvalidating.EndedScopes.{ended, same_ends}
use Rattle.rc_flow.specs.AlwaysInvalidating.{PrunesInvalidating, always_invalidating, dropped_scopes, dropping_rules}
use Rattle.rc_flow.specs.Unmemoized.{AreAnswers}
use Rattle.rc_flow.specs.ValueSteps.{value_steps_in}
use Rattle.rc_flow.specs.declared.value_step.ValueStep.{ValueStep}
use Rattle.rc_flow.specs.declared.value_step.ValueStep.TheVariants.{Makes, Copies, Ends}
use Rattle.rc_merge.proofs.UnmergedLists.{unmerged}
use Rattle.rc_merge.proofs.WentLemmas.{merges_by_went}
use Rattle.rc_merge.specs.LastUses.{last_uses_in}
use Rattle.rc_merge.specs.Merged.{Merges}
use Rattle.rc_merge.specs.inside.ListSteps.{is_scope}
use Rattle.rc_merge.specs.inside.WentRules.{Met, met_after, none_met, went_rules}
use Rattle.rc_names.specs.Numbers.{same_id}
use Rattle.rc_escape.proofs.ScopelessTrees.{left_none, not_none, right_none}
use Rattle.rc_pipe.proofs.NoScopes.{no_dependencies}
use Rattle.rc_pipe.proofs.ScopelessRules.{LeavesRules, leaves_all}
use Rattle.rc_pipe.specs.Passes.{HasOthersPruned, PassState}
use Rattle.rc_tree.proofs.CollectedLemmas.{collected-Scope}
use Rattle.rc_tree.specs.Collected.{collected_list, collected_statement}
use Rattle.rc_tree.specs.Model.{ReactiveBlock, ReactiveStatement}
use Rattle.rc_tree.specs.ScopesIn.{HasScopesOnce, scope_parts, scopes_in}
use Rattle.rc_tree.specs.TreeNames.{TreeInTables}
use Rattle.rc_tree.specs.Unrolled.{UnrolledStatement}
use Rattle.rc_tree.specs.declared.statement.ReactiveStatement.{out-ReactiveStatement, roll-ReactiveStatement}
use Rattle.rc_tree.specs.declared.statement.ReactiveStatement.{roll-out-ReactiveStatement}
use Rattle.rc_tree.specs.declared.statement.ReactiveStatement.TheOpen as layer
use Rattle.rc_tree.specs.declared.statement.ReactiveStatement.TheVariants as reactive
use Rattle.rc_tree.specs.declared.terminal.ReactiveTerminal.{out-ReactiveTerminal}

-- a list without scope blocks has none of its own
no_scope_here : (u : UnrolledStatement) → collected_statement scope_parts (roll-ReactiveStatement u) ≡ []
    → is_scope u ≡ false
no_scope_here (layer.Scope block) none = absurd (not_none (scopes_in block.instructions) block.scope
    (sym (collected-Scope scope_parts block) ∙ ap (collected_statement scope_parts) (sym (reactive.rolls-Scope block))
    ∙ none))
no_scope_here _ none = refl

no_scope : (xs : List ReactiveStatement) → collected_list scope_parts xs ≡ []
    → list_any (λ x. is_scope (out-ReactiveStatement x)) xs ≡ false
no_scope [] none = refl
no_scope (x ∷ xs) none =
    let here = no_scope_here (out-ReactiveStatement x)
    (ap (collected_statement scope_parts) (roll-out-ReactiveStatement x) ∙ left_none _ _ none) in
    λ i. here i || no_scope xs (right_none (collected_statement scope_parts x) _ none) i

once : (body : ReactiveBlock) → scopes_in body ≡ [] → HasScopesOnce body
unfolding IsDistinct
once body none = subst (IsDistinct same_id) (sym none) tt

module _ (env : Environment) (body : ReactiveBlock) (none : scopes_in body ≡ []) where
  -- no scope is unused
  pub no_unused : LosesUnusedScopes env body body []
  no_unused =
      let left = leaves_all _ _ rules body none unused.nothing_met refl in
      record {
        returns = left.0.returns;
        rebuilt = left.1 ∙ ap (λ log. Ok (record { returns = left.0.returns; log = log }, body)) left.2;
      }
    where
      rules : LeavesRules (λ (met : unused.Progress). met.log ≡ []) (unused_scope_rules env)
      rules = record {
        row = λ x met is. (met, refl, is);
        terminal = λ x met is. (_, refl, is);
        pruned_scope = λ x met is. (met, refl, is);
        block = λ xs met is empty. (met, refl, is);
      }

  -- no scope merges
  pub none_merged : Merges body env body env []
  none_merged =
      let left = leaves_all _ _ rules body none (none_met env.scopes None) refl in
      merges_by_went body body env env None (none_met env.scopes None) (once body none)
      (left.1 ∙ ap (λ (met : Met). Ok (met, body)) left.2) refl
    where
      rules : LeavesRules (λ met. met ≡ none_met env.scopes None) (went_rules env (last_uses_in env body))
      rules = record {
        row = λ x met is. (met, refl, is);
        terminal = λ x met is. (met, refl, is);
        pruned_scope = λ x met is. (met, refl, is);
        block = λ xs met is empty.
            let same = unmerged env (last_uses_in env body) met.scopes met.copies met.log xs (no_scope xs empty) in
            (met, (λ i. Ok (met_after met.around (sym same i), (sym same i).done)), is);
      }

  -- no scope always invalidates
  no_answers : (place : ℕ) (steps : List ValueStep) → ended steps ≡ []
      → AreAnswers env (value_steps_in body) place steps []
  no_answers place [] e = refl
  no_answers place (Makes name in_scope ∷ steps) e = no_answers (place + 1) steps e
  no_answers place (Copies from to ∷ steps) e = no_answers (place + 1) steps e
  no_answers place (Ends scope ∷ steps) e = absurd (let bad : ⊥ = cc in bad)

  pub none_invalidating : PrunesInvalidating env body body []
  none_invalidating =
      let left = leaves_all _ _ rules body none [] refl in
      record {
        without = record {
          answers = [];
          right = no_answers 0 (value_steps_in body) (same_ends body ∙ none);
          rebuilt = record { left = left.0; rebuilt = left.1 };
        };
        told = ap (λ scopes. always_invalidating (dropped_scopes scopes [])) (sym none);
      }
    where
      rules : LeavesRules (λ answers. answers ≡ []) dropping_rules
      rules = record {
        row = λ x answers is. (answers, refl, is);
        terminal = λ x answers is. (answers, refl, is);
        pruned_scope = λ x answers is. (answers, refl, is);
        block = λ xs answers is empty. (answers, refl, is);
      }

  -- no return is in a scope block
  pub none_returned : HasEarlyReturns body env body env
  none_returned =
      let left = leaves_all _ _ rules body none nothing_met refl in
      record {
        made = nothing_met.made;
        makes = record {
          at = nothing_met.at;
          met = nothing_met.met;
          rebuilt = left.1 ∙ ap (λ (met : Progress). Ok (met, body)) left.2;
        };
        entries = refl;
      }
    where
      rules : LeavesRules (λ (met : Progress). met ≡ nothing_met) (early_return_rules env)
      rules = record {
        row = λ x met is. (met, refl, is);
        terminal = λ x met is.
            let terminal = out-ReactiveTerminal x.terminal in
            (met, ap (λ (known : Progress). terminal_at env known.at terminal x met) is, is);
        pruned_scope = λ x met is. (met, refl, is);
        block = λ xs met is empty. (met, refl, is);
      }

-- so nothing is left to do after the escape pass, where the numbers of the tree are in their tables
pub others_pruned : (before : PassState) → TreeInTables before.func before.env → scopes_in before.func.body ≡ []
    → HasOthersPruned before before []
others_pruned before known none =
    let env = before.env in
    let body = before.func.body in
    let dependencies = no_dependencies env body none (inside_without_blocks env before.func known none) in
    record {
      reactive = before;
      dependencies = record { scopes = dependencies; kept_function = refl };
      used = before;
      unused = [];
      scopes = record { scopes = no_unused env body none; header = refl; kept_environment = refl };
      merged = before;
      joined = [];
      merges = record { scopes = none_merged env body none; header = refl };
      always_invalidating = [];
      invalidating = record { scopes = none_invalidating env body none; header = refl; kept_environment = refl };
      told = refl;
    }
