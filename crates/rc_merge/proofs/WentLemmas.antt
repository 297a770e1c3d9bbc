-- With one open group in each list a tree is merged, where no scope has two scope blocks.
use Rattle.std.proofs.Common.{◌≡◌, ◌≤◌, ◌+◌, ◌∙◌, Bool, true, false, List, [], ◌∷◌, ◌++◌, Option, None, Some, Result}
use Rattle.std.proofs.Common.{Ok, Err}
use Rattle.std.proofs.Common.{arith, map, refl, sym, ap, subst}
use Rattle.std.specs.Prelude.{IfOk}
use Rattle.rc_hir.specs.Model.{Environment, Fault}
use Rattle.rc_names.specs.Numbers.{ScopeId, times}
use Rattle.rc_merge.proofs.Elements.{In, here, there, contains_in}
use Rattle.rc_merge.proofs.ListLemmas.{AreOnce, blocks_in, went_merges}
use Rattle.rc_merge.proofs.MergingTells.{merged_tells}
use Rattle.rc_merge.proofs.RestLemmas.{rolled_back}
use Rattle.rc_merge.proofs.RulesAgree.{Agrees, AtMost, Once, RulesAgree, rebuilt_agree}
use Rattle.rc_merge.specs.LastUses.{LastUses, last_uses_in}
use Rattle.rc_merge.specs.Merged.{Merges, Progress, dissolved_if, gives_way, merging_rules, met_scope}
use Rattle.rc_merge.specs.declared.facts.MergedFacts.{MergedFacts}
use Rattle.rc_merge.specs.inside.WentRules.{Met, gone_if, left_scope, none_met, progress_of}
use Rattle.rc_merge.specs.inside.WentRules.{went_rules}
use Rattle.rc_tree.proofs.AloneLemmas.{alone-Instruction, alone-PrunedScope, alone-Scope, alone-Terminal}
use Rattle.rc_tree.proofs.CollectedLemmas.{collected-block, collected-Scope}
use Rattle.rc_tree.proofs.DistinctLemmas.{at_least_once, at_most_once, times-append}
use Rattle.rc_tree.proofs.JoiningLemmas.{lists_monoid}
use Rattle.rc_tree.proofs.RebuiltHolds.{HoldsOfRules, and_then, having, rebuilt_holds}
use Rattle.rc_tree.specs.Collected.{collected_list, collected_statement, collected_terminal}
use Rattle.rc_tree.specs.Rebuilt.{Rebuilds, rebuilt_block}
use Rattle.rc_tree.specs.ScopesIn.{HasScopesOnce, scope_parts, scopes_in}
use Rattle.rc_tree.specs.Step.{bind}
use Rattle.rc_tree.specs.Unrolled.{UnrolledStatement}
use Rattle.rc_tree.specs.Model.{ReactiveBlock, ReactiveLabel, ReactiveScopeBlock, ReactiveStatement, ReactiveTerminal}
use Rattle.rc_tree.specs.declared.statement.ReactiveStatement.{out-ReactiveStatement, roll-ReactiveStatement}
use Rattle.rc_tree.specs.declared.statement.ReactiveStatement.TheOpen as layer
use Rattle.rc_tree.specs.declared.statement.ReactiveStatement.TheVariants as reactive

abbrev pub list_scopes : List ReactiveStatement → List ScopeId
list_scopes = collected_list scope_parts

-- the scope blocks that a list itself has are among those at every depth of it

block_counted : (scope : ScopeId) (block : ReactiveScopeBlock)
    → times scope (collected_statement scope_parts (roll-ReactiveStatement (layer.Scope block)))
    ≡ times scope (scopes_in block.instructions ++ block.scope ∷ [])
block_counted scope block = ap (times scope)
    (ap (collected_statement scope_parts) (reactive.rolls-Scope block) ∙ collected-Scope scope_parts block)

one_counted : (scope : ScopeId) → 1 ≤ times scope (scope ∷ [])
one_counted scope = at_least_once scope (scope ∷ []) (contains_in (scope ∷ []) scope here)

blocks_there : (us : List UnrolledStatement) (scope : ScopeId) → In scope (blocks_in us)
    → 1 ≤ times scope (list_scopes (map roll-ReactiveStatement us))
blocks_there [] scope m = elim m [ ]
blocks_there (layer.Instruction row ∷ us) scope m =
    let a = blocks_there us scope m in
    let b = times-append scope (collected_statement scope_parts (roll-ReactiveStatement (layer.Instruction row)))
    (list_scopes (map roll-ReactiveStatement us)) in
    omega (arith, a, b)
blocks_there (layer.Terminal x ∷ us) scope m =
    let a = blocks_there us scope m in
    let b = times-append scope (collected_statement scope_parts (roll-ReactiveStatement (layer.Terminal x)))
    (list_scopes (map roll-ReactiveStatement us)) in
    omega (arith, a, b)
blocks_there (layer.PrunedScope x ∷ us) scope m =
    let a = blocks_there us scope m in
    let b = times-append scope (collected_statement scope_parts (roll-ReactiveStatement (layer.PrunedScope x)))
    (list_scopes (map roll-ReactiveStatement us)) in
    omega (arith, a, b)
blocks_there (layer.Scope block ∷ us) scope m =
    by (blocks_there us) scope m (times-append scope (collected_statement scope_parts (roll-ReactiveStatement (layer.Scope block)))
    (list_scopes (map roll-ReactiveStatement us)))
  where
    by : ((scope : ScopeId) → In scope (blocks_in us) → 1 ≤ times scope (list_scopes (map roll-ReactiveStatement us)))
        → (scope : ScopeId) → In scope (block.scope ∷ blocks_in us)
        → times scope (list_scopes (roll-ReactiveStatement (layer.Scope block) ∷ map roll-ReactiveStatement us))
        ≡ times scope (collected_statement scope_parts (roll-ReactiveStatement (layer.Scope block)))
        + times scope (list_scopes (map roll-ReactiveStatement us))
        → 1 ≤ times scope (list_scopes (roll-ReactiveStatement (layer.Scope block) ∷ map roll-ReactiveStatement us))
    by later _ here sum =
        let a = block_counted block.scope block in
        let b = times-append block.scope (scopes_in block.instructions) (block.scope ∷ []) in
        let c = one_counted block.scope in
        omega (arith, sum, a, b, c)
    by later scope (there n) sum = let a = later scope n in omega (arith, sum, a)

once_rest : (x : ReactiveStatement) (xs : List ReactiveStatement) → Once (list_scopes (x ∷ xs))
    → Once (list_scopes xs)
once_rest x xs once scope =
    let a = times-append scope (collected_statement scope_parts x) (list_scopes xs) in
    let b = once scope in
    omega (arith, a, b)

pub blocks_once : (us : List UnrolledStatement) → Once (list_scopes (map roll-ReactiveStatement us))
    → AreOnce (blocks_in us)
blocks_once [] once = tt
blocks_once (layer.Instruction row ∷ us) once =
    blocks_once us (once_rest (roll-ReactiveStatement (layer.Instruction row)) (map roll-ReactiveStatement us) once)
blocks_once (layer.Terminal x ∷ us) once =
    blocks_once us (once_rest (roll-ReactiveStatement (layer.Terminal x)) (map roll-ReactiveStatement us) once)
blocks_once (layer.PrunedScope x ∷ us) once =
    blocks_once us (once_rest (roll-ReactiveStatement (layer.PrunedScope x)) (map roll-ReactiveStatement us) once)
blocks_once (layer.Scope block ∷ us) once = (
  λ m.
      let a = blocks_there us block.scope m in
      let b = times-append block.scope (collected_statement scope_parts (roll-ReactiveStatement (layer.Scope block)))
      (list_scopes (map roll-ReactiveStatement us)) in
      let c = block_counted block.scope block in
      let d = times-append block.scope (scopes_in block.instructions) (block.scope ∷ []) in
      let e = one_counted block.scope in
      let f = once block.scope in
      omega (arith, a, b, c, d, e, f),
  blocks_once us (once_rest (roll-ReactiveStatement (layer.Scope block)) (map roll-ReactiveStatement us) once),
)

module _ (env : Environment) (uses : LastUses) where
  -- the definition's state is what the state stands for
  abbrev pub AreAlike : Met → Progress → Type 0
  AreAlike met progress = progress ≡ progress_of met

  abbrev BothAgree : List ScopeId → Met × List ReactiveStatement → Progress × List ReactiveStatement → Type 0
  BothAgree before a b = AreAlike a.0 b.0 × (b.1 ≡ a.1) × AtMost (list_scopes a.1) before

  -- a statement that stays
  kept : (before : List ScopeId) (x : ReactiveStatement) (met : Met) (progress : Progress) → AreAlike met progress
      → list_scopes (x ∷ []) ≡ before → BothAgree before (met, x ∷ []) (progress, x ∷ [])
  kept before x met progress alike same =
      (alike, refl, λ scope. let a = ap (times scope) same in omega (arith, a))

  gone_agrees : (gives : Bool) (parent : ScopeId) (block : ReactiveScopeBlock) (met : Met)
      → BothAgree (scopes_in block.instructions ++ block.scope ∷ []) (gone_if gives parent block met)
      (dissolved_if env uses gives parent block (progress_of met))
  gone_agrees true parent block met = (
    refl,
    refl,
    λ scope.
        let a = ap (times scope) (collected-block scope_parts block.instructions) in
        let b = times-append scope (scopes_in block.instructions) (block.scope ∷ []) in
        omega (arith, a, b),
  )
  gone_agrees false parent block met =
      kept (scopes_in block.instructions ++ block.scope ∷ []) (reactive.Scope block)
      (record met { around = Some parent }) (progress_of (record met { around = Some parent })) refl
      (alone-Scope scope_parts lists_monoid block)

  scope_agrees : (around : Option ScopeId) (block : ReactiveScopeBlock) (met : Met)
      → BothAgree (scopes_in block.instructions ++ block.scope ∷ []) (left_scope env uses around block met)
      (met_scope env uses around block (progress_of met))
  scope_agrees None block met =
      kept (scopes_in block.instructions ++ block.scope ∷ []) (reactive.Scope block)
      (record met { around = None }) (progress_of (record met { around = None })) refl
      (alone-Scope scope_parts lists_monoid block)
  scope_agrees (Some parent) block met = gone_agrees (gives_way env uses met.scopes parent block.scope) parent block met

  list_agrees : (xs : List ReactiveStatement) (met : Met) → Once (list_scopes xs)
      → Agrees (went_rules env uses) (merging_rules env uses) AreAlike list_scopes (list_scopes xs)
      ((went_rules env uses).block xs met) ((merging_rules env uses).block xs (progress_of met))
  list_agrees xs met once =
      let us = map out-ReactiveStatement xs in
      let went = went_merges env uses met.scopes met.copies met.log us
      (blocks_once us (subst (λ ys. Once (list_scopes ys)) (sym (rolled_back xs)) once)) in (
        λ i. record {
          around = met.around;
          scopes = sym went.table i;
          copies = sym went.copies i;
          log = (sym went.told i).fates;
        },
        sym went.list,
        λ scope.
            let a = merged_tells env uses (progress_of met).copies met.scopes scope xs in
            let b = ap (λ ys. times scope (list_scopes ys)) went.list in
            omega (arith, a, b),
      )

  pub agree : RulesAgree (went_rules env uses) (merging_rules env uses) AreAlike
  agree = record {
    row = λ x met progress alike. kept [] (reactive.Instruction x) met progress alike
        (alone-Instruction scope_parts lists_monoid x);
    terminal = λ x met progress alike. kept _ (reactive.Terminal x) met progress alike
        (alone-Terminal scope_parts lists_monoid x);
    pruned_scope = λ x met progress alike. kept _ (reactive.PrunedScope x) met progress alike
        (alone-PrunedScope scope_parts lists_monoid x);
    into_scope = λ of met progress alike. ap (λ (p : Progress). record p { around = Some of }) alike;
    scope = λ x before met before1 progress alike alike1.
        subst (λ (p : Progress). BothAgree (scopes_in x.instructions ++ x.scope ∷ [])
        (left_scope env uses before.around x met) (met_scope env uses p.around x progress)) (sym alike)
        (subst (λ (p : Progress). BothAgree (scopes_in x.instructions ++ x.scope ∷ [])
        (left_scope env uses before.around x met) (met_scope env uses before.around x p)) (sym alike1)
        (scope_agrees before.around x met));
    block = λ xs met progress alike once.
        subst (λ (p : Progress). Agrees (went_rules env uses) (merging_rules env uses) AreAlike list_scopes
        (list_scopes xs) ((went_rules env uses).block xs met) ((merging_rules env uses).block xs p)) (sym alike)
        (list_agrees xs met once);
  }

  pub went_agrees : (before after : ReactiveBlock) (start ended : Met) → HasScopesOnce before
      → rebuilt_block (went_rules env uses) before start ≡ Ok (ended, after)
      → rebuilt_block (merging_rules env uses) before (progress_of start) ≡ Ok (progress_of ended, after)
  went_agrees before after start ended once is =
      by (rebuilt_block (merging_rules env uses) before (progress_of start))
      (subst (λ e. Agrees (went_rules env uses) (merging_rules env uses) AreAlike scopes_in (scopes_in before) e
      (rebuilt_block (merging_rules env uses) before (progress_of start))) is
      (rebuilt_agree (went_rules env uses) (merging_rules env uses) AreAlike agree before start (progress_of start) refl
      (at_most_once (scopes_in before) once)))
    where
      by : (e : Result (Progress × ReactiveBlock) Fault)
          → Agrees (went_rules env uses) (merging_rules env uses) AreAlike scopes_in (scopes_in before)
          (Ok (ended, after)) e → e ≡ Ok (progress_of ended, after)
      by (Ok b) h = λ i. Ok (h.0 i, h.1 i)
      by (Err fault) h = absurd h

  -- the nearest scope block around a part is the same after it
  unfoldable Returns : List ScopeId → Met → Result (Met × List ScopeId) Fault → Type 0
  Returns x met e = IfOk e (λ r. r.0.around ≡ met.around)

  left_returns : (around : Option ScopeId) (block : ReactiveScopeBlock) (met : Met)
      → (left_scope env uses around block met).0.around ≡ around
  left_returns None block met = refl
  left_returns (Some parent) block met = by (gives_way env uses met.scopes parent block.scope)
    where
      by : (gives : Bool) → (gone_if gives parent block met).0.around ≡ Some parent
      by true = refl
      by false = refl

  all_return : HoldsOfRules (went_rules env uses) Returns scope_parts scope_parts
  unfolding Returns
  all_return = record {
    nothing = λ s. refl;
    both = both_return;
    value = λ id x s. refl;
    place = λ id x s. refl;
    row = λ x s. refl;
    leaf = λ shape label s. refl;
    terminal = λ x label s inside deep. terminal_returns x label s inside;
    scope = scope_returns;
    pruned_scope = pruned_scope_returns;
    block = block_returns;
  }
    where
      both_return : (x y : List ScopeId) (s : Met) (first : Result (Met × List ScopeId) Fault)
          (next : Rebuilds Met (List ScopeId)) → Returns x s first → IfOk first (λ c. Returns y c.0 (next c.0))
          → Returns (x ++ y) s (and_then (λ a b. a ++ b) first next)
      both_return x y s (Err fault) next h k = tt
      both_return x y s (Ok c) next h k = by (next c.0) k
        where
          by : (e : Result (Met × List ScopeId) Fault) → Returns y c.0 e
              → Returns (x ++ y) s (having (λ b. c.1 ++ b) e)
          by (Err fault) j = tt
          by (Ok d) j = j ∙ h

      terminal_returns : (x : List ScopeId) (label : Option ReactiveLabel) (s : Met)
          (inside : Result (Met × ReactiveTerminal) Fault) → Returns x s (having (collected_terminal scope_parts) inside)
          → Returns ([] ++ x) s (having list_scopes
          (bind inside (λ c. (went_rules env uses).terminal (record { terminal = c.1; label = label }) c.0)))
      terminal_returns x label s (Err fault) h = tt
      terminal_returns x label s (Ok c) h = h

      scope_returns : (x : List ScopeId) (of : ScopeId) (s : Met) (inside : Result (Met × ReactiveBlock) Fault)
          → Returns x ((went_rules env uses).into_scope of s) (having scopes_in inside)
          → Returns (x ++ of ∷ []) s (having list_scopes
          (bind inside (λ c. (went_rules env uses).scope s (record { scope = of; instructions = c.1 }) c.0)))
      scope_returns x of s (Err fault) h = tt
      scope_returns x of s (Ok c) h = left_returns s.around (record { scope = of; instructions = c.1 }) c.0

      pruned_scope_returns : (x : List ScopeId) (of : ScopeId) (s : Met) (inside : Result (Met × ReactiveBlock) Fault)
          → Returns x s (having scopes_in inside)
          → Returns x s (having list_scopes
          (bind inside (λ c. (went_rules env uses).pruned_scope (record { scope = of; instructions = c.1 }) c.0)))
      pruned_scope_returns x of s (Err fault) h = tt
      pruned_scope_returns x of s (Ok c) h = h

      block_returns : (x : List ScopeId) (s : Met) (inside : Result (Met × List ReactiveStatement) Fault)
          → Returns x s (having list_scopes inside)
          → Returns x s (having list_scopes (bind inside (λ c. (went_rules env uses).block c.1 c.0)))
      block_returns x s (Err fault) h = tt
      block_returns x s (Ok c) h = h

  pub around_stays : (before after : ReactiveBlock) (start ended : Met)
      → rebuilt_block (went_rules env uses) before start ≡ Ok (ended, after) → ended.around ≡ start.around
  unfolding Returns
  around_stays before after start ended is =
      subst (λ e. IfOk (having scopes_in e) (λ (r : Met × List ScopeId). r.0.around ≡ start.around)) is
      (rebuilt_holds (went_rules env uses) Returns scope_parts scope_parts lists_monoid all_return before start)

-- where the tree was rebuilt so, it was merged
pub merges_by_went : (before after : ReactiveBlock) (old new : Environment) (merged : Option (List MergedFacts))
    (ended : Met) → HasScopesOnce before
    → rebuilt_block (went_rules old (last_uses_in old before)) before (none_met old.scopes merged) ≡ Ok (ended, after)
    → new ≡ record old { scopes = ended.scopes } → Merges before old after new ended.log.fates
merges_by_went before after old new merged ended once is environment =
    let uses = last_uses_in old before in
    let same : ended.scopes ≡ new.scopes = sym (ap (λ (env : Environment). env.scopes) environment) in
    let around = around_stays old uses before after (none_met old.scopes merged) ended is in
    record {
      copies = (progress_of ended).copies;
      rebuilt = went_agrees old uses before after (none_met old.scopes merged) ended once is
          ∙ (λ i. Ok (
            record {
              around = around i;
              scopes = same i;
              copies = (progress_of ended).copies;
              log = ended.log.fates;
            },
            after,
          ));
      environment = environment ∙ ap (λ scopes. record old { scopes = scopes }) same;
    }
