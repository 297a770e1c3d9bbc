-- A scope block whose statements keep their runs with early returns keeps its own, also with the sentinel's statements
-- around them, since no jump in it names the new label. So does a pruned one.
use Rattle.std.proofs.Common.{◌≡◌, ◌∙◌, false, ◌++◌, ◌∷◌, [], List, Option, None, Some, Ok, refl, sym, ap, arith}
use Rattle.std.proofs.Common.{slice_get}
use Rattle.std.proofs.Common.{subst}
use Rattle.std.specs.Prelude.{IfSome}
use Rattle.std.proofs.lemmas.List.Elements.{All-head}
use Rattle.rc_names.specs.Numbers.{ScopeId}
use Rattle.rc_hir.specs.Model.{Environment, ReactiveScope, ReactiveScopeEarlyReturn}
use Rattle.rc_tree.specs.Model.{PrunedReactiveScopeBlock, ReactiveBlock, ReactiveScopeBlock, ReactiveStatement}
use Rattle.rc_tree.specs.Rebuilt.{rebuilt_block, rebuilt_pruned_scope, rebuilt_scope}
use Rattle.rc_tree.specs.declared.statement.ReactiveStatement.TheVariants as reactive
use Rattle.rc_tree.proofs.RebuiltLemmas.{rebuilt-PrunedScope, rebuilt-pruned_scope, rebuilt-Scope, rebuilt-scope}
use Rattle.rc_tree.proofs.StepLemmas.{Ok-injective}
use Rattle.rc_runs.specs.PlainTree.{PrunedScopeStatement, ScopeStatement, Statements}
use Rattle.rc_runs.specs.Returning.{returning, returning_after, returning_statement}
use Rattle.rc_runs.specs.TreeOf.{block_of, statements_of}
use Rattle.rc_runs.proofs.AllLemmas.{All-left, All-right}
use Rattle.rc_runs.proofs.KeepsRunsLemmas.{SameRuns, pruned_scope-keeps_runs, scope-keeps_runs}
use Rattle.rc_runs.proofs.PlainLists.{alone}
use Rattle.rc_early.specs.EarlyReturned.{Progress, early_return_rules as rules, ended, scope_at, with_sentinel}
use Rattle.rc_early.specs.declared.early_return.EarlyReturn.{EarlyReturn}
use Rattle.rc_early.specs.declared.early_return.Where.{Where}
use Rattle.rc_early.specs.declared.early_return.Where.TheVariants.{Outside, Within, PassedOver}
use Rattle.rc_early.proofs.KeptRuns.AddedRows.{after_sentinel, returning-after_sentinel, sentinel_runs}
use Rattle.rc_early.proofs.KeptRuns.BreaksNamed.{unnamed_catches_nothing}
use Rattle.rc_early.proofs.KeptRuns.KeptLeaves.{old_blocks}
use Rattle.rc_early.proofs.KeptRuns.KeptParts.{AreResult, BodyAlike, Fits, Kept, KeptBody, KeptStatement}
use Rattle.rc_early.proofs.KeptRuns.KeptParts.{StatementAlike}
use Rattle.rc_early.proofs.KeptRuns.KeptParts.{Suits, from_bind, kept_at}
use Rattle.rc_early.proofs.KeptRuns.PlainParts.{HoldsAll, returning_holds}

module _ (old new : Environment) where
  -- a pruned scope block
  pruned_scope_alike : (scope : ScopeId) (before after : Statements) → BodyAlike old new before after
      → StatementAlike old new (PrunedScopeStatement scope before) (alone (PrunedScopeStatement scope after))
  unfolding returning_after returning_statement
  pruned_scope_alike scope before after same stored =
      ((pruned_scope-keeps_runs new scope _ _ same.0, pruned_scope-keeps_runs new scope _ _ same.1), refl)

  pub pruned_scope_kept : (scope : ScopeId) (body : Statements) → KeptBody old new body
      → KeptStatement old new (PrunedScopeStatement scope body)
  pruned_scope_kept scope body inside s r e =
      let x : PrunedReactiveScopeBlock = record { scope = scope; instructions = block_of body } in
      let whole = from_bind (rebuilt_pruned_scope (rules old) x s) _ r
      (sym (rebuilt-PrunedScope (rules old) x s) ∙ e) in
      let parts = from_bind (rebuilt_block (rules old) (block_of body) s) _ whole.0
      (sym (rebuilt-pruned_scope (rules old) x s) ∙ whole.1) in
      kept_at old new statements_of (StatementAlike old new (PrunedScopeStatement scope body)) s parts.0.0
      (reactive.PrunedScope (record { scope = scope; instructions = parts.0.1 }) ∷ []) r
      (ap (λ (c : Progress × PrunedReactiveScopeBlock). Ok (c.0, reactive.PrunedScope c.1 ∷ []))
      (Ok-injective (parts.0.0, record { scope = scope; instructions = parts.0.1 }) whole.0 parts.2) ∙ whole.2)
      (λ suits.
      let here = inside s parts.0 parts.1 suits in
      record {
        suits = here.suits;
        after = alone (PrunedScopeStatement scope here.after);
        tree = ap (λ b. reactive.PrunedScope (record { scope = scope; instructions = b }) ∷ []) here.tree;
        alike = pruned_scope_alike scope body here.after here.alike;
      })

  -- a scope block
  scope_alike : (scope : ScopeId) (before after : Statements) → BodyAlike old new before after
      → StatementAlike old new (ScopeStatement scope before) (alone (ScopeStatement scope after))
  unfolding returning_after returning_statement
  scope_alike scope before after same stored =
      ((scope-keeps_runs new scope _ _ same.0, scope-keeps_runs new scope _ _ same.1), refl)

  -- its statements after the sentinel's
  sentinel_alike : (entry : ReactiveScopeEarlyReturn) (before after : Statements) → HoldsAll (old_blocks old) before
      → Fits old new entry → BodyAlike old new before after → BodyAlike old new before (after_sentinel entry after)
  sentinel_alike entry before after h fits same =
      subst (SameRuns new (returning old before)) (sym (returning-after_sentinel entry new None after))
      (sentinel_runs new entry (returning old before) (returning new after) same
      (unnamed_catches_nothing new (old_blocks old) (record { id = entry.label; implicit = false })
      (returning old before) (returning_holds (old_blocks old) old None before h) (λ below. omega arith)))

  -- the end of the scope block: its statements have become these
  module _ (scope : ScopeId) (body : Statements) (h : HoldsAll (old_blocks old) body) (s t : Progress)
      (inside : ReactiveBlock) (kept : Suits old new t → Kept old new block_of (BodyAlike old new body) s inside)
      (r : Progress × List ReactiveStatement) where
    abbrev block : ReactiveScopeBlock
    block = record { scope = scope; instructions = inside }

    abbrev Ends : Type 0
    Ends = Suits old new r.0
        → Kept old new statements_of (StatementAlike old new (ScopeStatement scope body)) s r.1

    stays : (at : Where) → AreResult (record t { at = at }) (reactive.Scope block ∷ []) r → Ends
    stays at e = kept_at old new statements_of (StatementAlike old new (ScopeStatement scope body)) s
        (record t { at = at }) (reactive.Scope block ∷ []) r e (λ suits.
        let here = kept suits in
        record {
          suits = here.suits;
          after = alone (ScopeStatement scope here.after);
          tree = ap (λ b. reactive.Scope (record { scope = scope; instructions = b }) ∷ []) here.tree;
          alike = scope_alike scope body here.after here.alike;
        })

    -- the early returns that are made by then
    abbrev More : ReactiveScopeEarlyReturn → List EarlyReturn
    More entry = t.made ++ record { scope = scope; entry = entry } ∷ []

    ends : (entry : ReactiveScopeEarlyReturn) → t.met ≡ Some entry → (found : Option ReactiveScope)
        → ended found entry block t ≡ Ok r → Ends
    ends entry is None e = absurd (let bad : ⊥ = cc in bad)
    ends entry is (Some found) e = kept_at old new statements_of (StatementAlike old new (ScopeStatement scope body)) s
        (record { at = Outside; met = None; made = More entry }) (reactive.Scope (with_sentinel entry block) ∷ []) r e
        (λ suits.
        let fits : Fits old new entry = All-head Suit _ [] (All-right Suit t.made _ suits.1) in
        let here = kept (subst (λ met. IfSome met (Fits old new)) (sym is) fits, All-left Suit t.made _ suits.1) in
        record {
          suits = here.suits;
          after = alone (ScopeStatement scope (after_sentinel entry here.after));
          tree = ap (λ b. reactive.Scope (with_sentinel entry (record { scope = scope; instructions = b })) ∷ [])
              here.tree;
          alike = scope_alike scope body (after_sentinel entry here.after)
              (sentinel_alike entry body here.after h fits here.alike);
        })
      where
        Suit : EarlyReturn → Type 0
        Suit early = Fits old new early.entry

    by_place : (at : Where) (met : Option ReactiveScopeEarlyReturn) → t.met ≡ met → scope_at old at met block t ≡ Ok r
        → Ends
    by_place Outside (Some entry) is e = ends entry is (slice_get old.scopes scope.0) e
    by_place Outside None is e = stays Outside e
    by_place Within met is e = stays Within e
    by_place PassedOver met is e = stays PassedOver e

  same_rule : (at : Where) (t : Progress) (x : ReactiveScopeBlock) (c : Progress × ReactiveScopeBlock)
      (r : Progress × List ReactiveStatement) → AreResult t x c → scope_at old at c.0.met c.1 c.0 ≡ Ok r
      → scope_at old at t.met x t ≡ Ok r
  same_rule at t x c r e rule =
      ap (λ (d : Progress × ReactiveScopeBlock). scope_at old at d.0.met d.1 d.0) (Ok-injective (t, x) c e) ∙ rule

  pub scope_kept : (scope : ScopeId) (body : Statements) → HoldsAll (old_blocks old) body → KeptBody old new body
      → KeptStatement old new (ScopeStatement scope body)
  scope_kept scope body h inside s r e =
      let x : ReactiveScopeBlock = record { scope = scope; instructions = block_of body } in
      let whole = from_bind (rebuilt_scope (rules old) x s) _ r
      (sym (rebuilt-Scope (rules old) x s) ∙ e) in
      let into = (rules old).into_scope scope s in
      let parts = from_bind (rebuilt_block (rules old) (block_of body) into) _ whole.0
      (sym (rebuilt-scope (rules old) x s) ∙ whole.1) in
      by_place scope body h s parts.0.0 parts.0.1 (λ suits.
      let here = inside into parts.0 parts.1 suits in
      record { suits = here.suits; after = here.after; tree = here.tree; alike = here.alike })
      r s.at parts.0.0.met refl
      (same_rule s.at parts.0.0 (record { scope = scope; instructions = parts.0.1 }) whole.0 r parts.2 whole.2)
