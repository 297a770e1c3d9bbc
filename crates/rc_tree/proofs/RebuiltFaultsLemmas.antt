-- The faults of a rebuilt tree are those of the rules.
use Rattle.std.proofs.Common.{List, [], ◌∷◌, ◌++◌, Result, Ok, Err, IfErr, ◌≡◌, ◌⊎◌, inl, inr, subst}
use Rattle.std.specs.Prelude.{IfOk}
use Rattle.rc_hir.specs.Model.{Fault}
use Rattle.rc_hir.specs.declared.fault.Fault.TheVariants.{NoMemory}
use Rattle.rc_names.specs.Numbers.{ScopeId}
use Rattle.rc_tree.proofs.RebuiltHolds.{HoldsOfRules, and_then, having, rebuilt_holds}
use Rattle.rc_tree.proofs.JoiningLemmas.{lists_monoid}
use Rattle.rc_tree.proofs.TerminalShapes.{leaf, of_leaf}
use Rattle.rc_tree.specs.Collected.{collected_list, collected_terminal}
use Rattle.rc_tree.specs.ScopesIn.{scope_parts, scopes_in}
use Rattle.rc_tree.specs.inside.Refines.{RebuildsTo}
use Rattle.rc_tree.specs.Rebuilt.{Rebuilds, Rules, rebuilt_block}
use Rattle.rc_tree.specs.inside.RuleFaults.{FaultsOnly}
use Rattle.rc_tree.specs.Step.{bind}
use Rattle.rc_tree.specs.Model.{ReactiveBlock, ReactiveStatement, ReactiveTerminalStatement}

module _ (IsSuch : Fault → Type 0) {S : Type 0} (rules : Rules S) (only : FaultsOnly rules IsSuch) where
  -- a fault, if there is one, is one of these, whatever the parts have
  unfoldable Only : List ScopeId → S → Result (S × List ScopeId) Fault → Type 0
  Only x s r = IfErr r IsSuch

  nothing_only : (x : List ScopeId) (s : S) → Only x s (Ok (s, x))
  unfolding Only
  nothing_only x s = tt

  both_only : (x y : List ScopeId) (s : S) (first : Result (S × List ScopeId) Fault)
      (next : Rebuilds S (List ScopeId)) → Only x s first → IfOk first (λ c. Only y c.0 (next c.0))
      → Only (x ++ y) s (and_then (λ a b. a ++ b) first next)
  unfolding Only
  both_only x y s (Err fault) next h k = h
  both_only x y s (Ok c) next h k = by (next c.0) k
    where
      by : (e : Result (S × List ScopeId) Fault) → IfErr e IsSuch → IfErr (having (λ b. c.1 ++ b) e) IsSuch
      by (Ok d) j = tt
      by (Err fault) j = j

  -- a rule for a part that has only such faults
  ruled_only : {X : Type 0} (has : X → List ScopeId) (x y : List ScopeId) (s t : S) (inside : Result (S × X) Fault)
      (rule : X → Rebuilds S (List ReactiveStatement)) → Only x t (having has inside)
      → ((x : X) (s : S) → IfErr (rule x s) IsSuch)
      → Only y s (having (collected_list scope_parts) (bind inside (λ c. rule c.1 c.0)))
  unfolding Only
  ruled_only has x y s t (Err fault) rule h k = h
  ruled_only has x y s t (Ok c) rule h k = by (rule c.1 c.0) (k c.1 c.0)
    where
      by : (e : Result (S × List ReactiveStatement) Fault) → IfErr e IsSuch
          → IfErr (having (collected_list scope_parts) e) IsSuch
      by (Ok d) j = tt
      by (Err fault) j = j

  all_only : HoldsOfRules rules Only scope_parts scope_parts
  all_only = record {
    nothing = nothing_only [];
    both = both_only;
    value = λ id x. nothing_only [];
    place = λ id x. nothing_only [];
    row = λ x s. ruled_only (λ y. []) [] [] s s (Ok (s, x)) rules.row (nothing_only [] s) only.row;
    leaf = λ shape label s.
        let x : ReactiveTerminalStatement = record { terminal = leaf shape; label = label } in
        ruled_only (λ y. []) [] (of_leaf scope_parts shape) s s (Ok (s, x)) rules.terminal (nothing_only [] s)
        only.terminal;
    terminal = λ x label s inside deep h. ruled_only (collected_terminal scope_parts) x x s s inside
        (λ t. rules.terminal (record { terminal = t; label = label })) h
        (λ t. only.terminal (record { terminal = t; label = label }));
    scope = λ x of s inside h. ruled_only scopes_in x (x ++ of ∷ []) s (rules.into_scope of s) inside
        (λ y. rules.scope s (record { scope = of; instructions = y })) h
        (λ y. only.scope s (record { scope = of; instructions = y }));
    pruned_scope = λ x of s inside h. ruled_only scopes_in x x s s inside
        (λ y. rules.pruned_scope (record { scope = of; instructions = y })) h
        (λ y. only.pruned_scope (record { scope = of; instructions = y }));
    block = λ x s inside h. ruled_only (collected_list scope_parts) x x s s inside rules.block h only.block;
  }

  -- the faults of a rebuilt block are faults of the rules
  pub rebuilt_faults : (x : ReactiveBlock) (s : S) → IfErr (rebuilt_block rules x s) IsSuch
  unfolding Only
  rebuilt_faults x s =
      by (rebuilt_block rules x s) (rebuilt_holds rules Only scope_parts scope_parts lists_monoid all_only x s)
    where
      by : (e : Result (S × ReactiveBlock) Fault) → IfErr (having scopes_in e) IsSuch → IfErr e IsSuch
      by (Ok c) h = tt
      by (Err fault) h = h

  -- and so are those of a call that rebuilds it
  pub leaves_faults : {W : Type 0} (world : S → W) (x y : ReactiveBlock) (s : S) (left : W)
      (result : Result (Unit {0}) Fault) → RebuildsTo rules world x s y left result
      → IfErr result (λ fault. (fault ≡ NoMemory) ⊎ IsSuch fault)
  leaves_faults world x y s left (Ok done) h = tt
  leaves_faults world x y s left (Err fault) (h, inl e) = inl e
  leaves_faults world x y s left (Err fault) (h, inr e) = inr (subst (λ r. IfErr r IsSuch) e (rebuilt_faults x s))
