-- The scope blocks after a pass are those before it without the decided ones, and what was decided gives each scope its
-- fate.
use Rattle.std.proofs.Common.{◌≡◌, ◌∙◌, ◌+◌, List, [], ◌∷◌}
use Rattle.std.proofs.Common.{◌++◌, Option, Result, Ok, Err, arith, refl, ap, subst}
use Rattle.std.specs.Prelude.{IfOk}
use Rattle.rc_hir.specs.Model.{Fault}
use Rattle.rc_names.specs.Numbers.{ScopeId, times}
use Rattle.rc_tree.proofs.CollectedLemmas.{collected-Terminal}
use Rattle.rc_tree.proofs.DistinctLemmas.{at_most_once, differ, times-append}
use Rattle.rc_tree.proofs.JoiningLemmas.{lists_monoid}
use Rattle.rc_tree.proofs.RebuiltHolds.{HoldsOfRules, and_then, having, rebuilt_holds}
use Rattle.rc_tree.proofs.TerminalShapes.{leaf, of_leaf, collected-leaf}
use Rattle.rc_tree.specs.Collected.{collected_list, collected_terminal}
use Rattle.rc_tree.specs.Decided.{decided, AreSameScopes, LosesDecided}
use Rattle.rc_tree.specs.inside.DecisionLogs.{DecidesOf, TellsDecisions}
use Rattle.rc_tree.specs.Rebuilt.{Rebuilds, Rules, rebuilt_block}
use Rattle.rc_tree.specs.ScopesIn.{HasScopesOnce, scope_parts, scopes_in}
use Rattle.rc_tree.specs.Step.{bind}
use Rattle.rc_tree.specs.Model.{ReactiveBlock, ReactiveLabel, ReactiveStatement, ReactiveTerminalStatement}
use Rattle.rc_tree.specs.declared.fate.ScopeFate.{ScopeFate}
use Rattle.rc_tree.specs.declared.terminal.ReactiveTerminal.{ReactiveTerminal}

module _ {S : Type 0} (rules : Rules S) (told : S → List ScopeFate) (tells : TellsDecisions rules told) where
  -- from a part with these scopes to what replaces it: no scope is lost but those that `told` lists
  unfoldable Loses : List ScopeId → S → Result (S × List ScopeId) Fault → Type 0
  Loses scopes s (Ok r) = AreSameScopes (scopes ++ decided (told s)) (r.1 ++ decided (told r.0))
  Loses scopes s (Err fault) = Unit {0}

  loses_nothing : (s : S) → Loses [] s (Ok (s, []))
  unfolding Loses
  loses_nothing s scope = refl

  both_lose : (x y : List ScopeId) (s : S) (first : Result (S × List ScopeId) Fault) (next : Rebuilds S (List ScopeId))
      → Loses x s first → IfOk first (λ c. Loses y c.0 (next c.0))
      → Loses (x ++ y) s (and_then (λ a b. a ++ b) first next)
  unfolding Loses
  both_lose x y s (Err fault) next h k = tt
  both_lose x y s (Ok c) next h k = by (next c.0) k
    where
      by : (e : Result (S × List ScopeId) Fault) → Loses y c.0 e → Loses (x ++ y) s (having (λ b. c.1 ++ b) e)
      by (Err fault) j = tt
      by (Ok d) j = λ scope.
          let one = h scope in
          let other = j scope in
          let a = times-append scope x (decided (told s)) in
          let b = times-append scope c.1 (decided (told c.0)) in
          let e = times-append scope y (decided (told c.0)) in
          let f = times-append scope d.1 (decided (told d.0)) in
          let g = times-append scope (x ++ y) (decided (told s)) in
          let l = times-append scope x y in
          let m = times-append scope (c.1 ++ d.1) (decided (told d.0)) in
          let n = times-append scope c.1 d.1 in
          omega (arith, one, other, a, b, e, f, g, l, m, n)

  -- what a rule does to a part whose inside lost no scope; `own` is what the part has beside its inside
  then_rule_with : (own x : List ScopeId) (s t : S) (inner whole held : List ScopeId)
      (e : Result (S × List ReactiveStatement) Fault)
      → AreSameScopes whole (own ++ x) → AreSameScopes held (own ++ inner)
      → AreSameScopes (x ++ decided (told s)) (inner ++ decided (told t)) → DecidesOf told held t e
      → Loses whole s (having (collected_list scope_parts) e)
  unfolding Loses
  then_rule_with own x s t inner whole held (Err fault) v w h k = tt
  then_rule_with own x s t inner whole held (Ok r) v w h k = λ scope.
      let outside = v scope in
      let inside = w scope in
      let one = h scope in
      let other = k scope in
      let a = times-append scope x (decided (told s)) in
      let b = times-append scope inner (decided (told t)) in
      let c = times-append scope held (decided (told t)) in
      let d = times-append scope own inner in
      let e = times-append scope whole (decided (told s)) in
      let f = times-append scope own x in
      omega (arith, outside, inside, one, other, a, b, c, d, e, f)

  -- the same of a part that has nothing beside its inside
  then_rule : (x : List ScopeId) (s t : S) (inner : List ScopeId) (e : Result (S × List ReactiveStatement) Fault)
      → AreSameScopes (x ++ decided (told s)) (inner ++ decided (told t)) → DecidesOf told inner t e
      → Loses x s (having (collected_list scope_parts) e)
  then_rule x s t inner e = then_rule_with [] x s t inner x inner e (λ scope. refl) (λ scope. refl)

  moved_last : (x : List ScopeId) (of : ScopeId) → AreSameScopes (x ++ of ∷ []) (of ∷ x)
  moved_last x of scope =
      let a = times-append scope x (of ∷ []) in
      let b = times-append scope (of ∷ []) x in
      omega (arith, a, b)

  all_lose : HoldsOfRules rules Loses scope_parts scope_parts
  unfolding Loses
  all_lose = record {
    nothing = loses_nothing;
    both = both_lose;
    value = λ id x. loses_nothing;
    place = λ id x. loses_nothing;
    row = λ x s. then_rule [] s s [] (rules.row x s) (λ scope. refl) (tells.row x s);
    leaf = λ shape label s.
        let x : ReactiveTerminalStatement = record { terminal = leaf shape; label = label } in
        then_rule (of_leaf scope_parts shape) s s (of_leaf scope_parts shape) (rules.terminal x s) (λ scope. refl)
        (subst (λ scopes. DecidesOf told scopes s (rules.terminal x s))
        (collected-Terminal scope_parts x ∙ collected-leaf scope_parts shape) (tells.terminal x s));
    terminal = λ x label s inside deep. terminal_loses x label s inside;
    scope = scope_loses;
    pruned_scope = pruned_scope_loses;
    block = block_loses;
  }
    where
      terminal_loses : (x : List ScopeId) (label : Option ReactiveLabel) (s : S)
          (inside : Result (S × ReactiveTerminal) Fault)
          → Loses x s (having (collected_terminal scope_parts) inside)
          → Loses x s (having (collected_list scope_parts)
          (bind inside (λ c. rules.terminal (record { terminal = c.1; label = label }) c.0)))
      terminal_loses x label s (Err fault) h = tt
      terminal_loses x label s (Ok c) h =
          let t : ReactiveTerminalStatement = record { terminal = c.1; label = label } in
          then_rule x s c.0 (collected_terminal scope_parts c.1) (rules.terminal t c.0) h
          (subst (λ scopes. DecidesOf told scopes c.0 (rules.terminal t c.0)) (collected-Terminal scope_parts t)
          (tells.terminal t c.0))

      scope_loses : (x : List ScopeId) (of : ScopeId) (s : S) (inside : Result (S × ReactiveBlock) Fault)
          → Loses x (rules.into_scope of s) (having scopes_in inside)
          → Loses (x ++ of ∷ []) s (having (collected_list scope_parts)
          (bind inside (λ c. rules.scope s (record { scope = of; instructions = c.1 }) c.0)))
      scope_loses x of s (Err fault) h = tt
      scope_loses x of s (Ok c) h =
          then_rule_with (of ∷ []) x s c.0 (scopes_in c.1) (x ++ of ∷ []) (scopes_in c.1 ++ of ∷ [])
          (rules.scope s (record { scope = of; instructions = c.1 }) c.0) (moved_last x of) (moved_last (scopes_in c.1) of)
          (subst (λ log. AreSameScopes (x ++ decided log) (scopes_in c.1 ++ decided (told c.0))) (tells.into_scope of s) h)
          (tells.scope s (record { scope = of; instructions = c.1 }) c.0)

      pruned_scope_loses : (x : List ScopeId) (of : ScopeId) (s : S) (inside : Result (S × ReactiveBlock) Fault)
          → Loses x s (having scopes_in inside)
          → Loses x s (having (collected_list scope_parts)
          (bind inside (λ c. rules.pruned_scope (record { scope = of; instructions = c.1 }) c.0)))
      pruned_scope_loses x of s (Err fault) h = tt
      pruned_scope_loses x of s (Ok c) h =
          then_rule x s c.0 (scopes_in c.1) (rules.pruned_scope (record { scope = of; instructions = c.1 }) c.0) h
          (tells.pruned_scope (record { scope = of; instructions = c.1 }) c.0)

      block_loses : (x : List ScopeId) (s : S) (inside : Result (S × List ReactiveStatement) Fault)
          → Loses x s (having (collected_list scope_parts) inside)
          → Loses x s (having (collected_list scope_parts) (bind inside (λ c. rules.block c.1 c.0)))
      block_loses x s (Err fault) h = tt
      block_loses x s (Ok c) h =
          then_rule x s c.0 (collected_list scope_parts c.1) (rules.block c.1 c.0) h (tells.block c.1 c.0)

  -- a pass that begins with nothing told: the scope blocks after it are those before it without the decided ones
  pub loses_decided : (before after : ReactiveBlock) (s t : S) → told s ≡ []
      → rebuilt_block rules before s ≡ Ok (t, after) → LosesDecided before after (told t)
  unfolding Loses
  loses_decided before after s t none e scope =
      let known = subst (λ r. Loses (scopes_in before) s (having scopes_in r)) e
      (rebuilt_holds rules Loses scope_parts scope_parts lists_monoid all_lose before s) in
      let here = known scope in
      let a = times-append scope (scopes_in before) (decided (told s)) in
      let empty : times scope (decided (told s)) ≡ 0 = ap (λ log. times scope (decided log)) none in
      omega (arith, here, a, empty)

-- scopes that have one scope block before have one at most after
pub left_once : (before after : ReactiveBlock) (log : List ScopeFate) → LosesDecided before after log
    → HasScopesOnce before → HasScopesOnce after
left_once before after log lost once = differ (scopes_in after)
    (λ scope.
    let here = lost scope in
    let parts = times-append scope (scopes_in after) (decided log) in
    let one = at_most_once (scopes_in before) once scope in
    omega (arith, here, parts, one))
