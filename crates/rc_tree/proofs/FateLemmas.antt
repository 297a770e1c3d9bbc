-- What passes decided gives each scope its fate: that of the first rule that holds.
use Rattle.std.proofs.Common.{◌≡◌, ◌∙◌, ◌⊎◌, inl, inr, ℕ, ◌+◌, ◌≤◌, zero, suc, Bool, true, false, All, List, [], ◌∷◌}
use Rattle.std.proofs.Common.{◌++◌, arith, if◌then◌else◌, refl, sym, ap, subst}
use Rattle.std.proofs.lemmas.List.Elements.{All-head, All-tail}
use Rattle.rc_names.specs.Numbers.{ScopeId, same_id, times}
use Rattle.rc_names.proofs.NumbersLemmas.{same_id-eq}
use Rattle.rc_tree.proofs.DistinctLemmas.{times-append}
use Rattle.rc_tree.specs.Decided.{decided, FateRules, NoMore, Then, IsFateBy}
use Rattle.rc_tree.specs.inside.DecisionLogs.{fate_by}
use Rattle.rc_tree.specs.inside.DecisionLogs.{AreDecidedBy}
use Rattle.rc_tree.specs.ScopesIn.{scopes_in}
use Rattle.rc_tree.specs.Model.{ReactiveBlock}
use Rattle.rc_tree.specs.declared.fate.Fate.{Fate}
use Rattle.rc_tree.specs.declared.fate.Fate.TheVariants.{Kept}
use Rattle.rc_tree.specs.declared.fate.ScopeFate.{ScopeFate}

module _ (scope : ScopeId) where
  -- where nothing is decided of the scope, what was decided later counts
  passed_by : (log later : List ScopeFate) → times scope (decided log) ≡ 0
      → fate_by (log ++ later) scope ≡ fate_by later scope
  passed_by [] later none = refl
  passed_by (entry ∷ log) later none = by (passed_by log later) (same_id scope entry.scope) none
    where
      by : (times scope (decided log) ≡ 0 → fate_by (log ++ later) scope ≡ fate_by later scope) → (same : Bool)
          → (if same then 1 else 0) + times scope (decided log) ≡ 0
          → (if same then entry.fate else fate_by (log ++ later) scope) ≡ fate_by later scope
      by rest true some = absurd (omega (arith, some))
      by rest false none = rest (omega (arith, none))

  -- and where something is, that counts
  found : (P : ScopeId → Fate → Type 0) (log later : List ScopeFate) → 1 ≤ times scope (decided log)
      → All (λ entry. P entry.scope entry.fate) log → P scope (fate_by (log ++ later) scope)
  found P [] later some all = absurd (omega (arith, some))
  found P (entry ∷ log) later some all =
      by (λ enough. found P log later enough (All-tail (λ entry. P entry.scope entry.fate) entry log all))
      (same_id scope entry.scope) refl some
    where
      by : (1 ≤ times scope (decided log) → P scope (fate_by (log ++ later) scope)) → (same : Bool)
          → same_id scope entry.scope ≡ same → 1 ≤ (if same then 1 else 0) + times scope (decided log)
          → P scope (if same then entry.fate else fate_by (log ++ later) scope)
      by rest true is enough = subst (λ id. P id entry.fate) (sym (same_id-eq scope entry.scope is))
          (All-head (λ entry. P entry.scope entry.fate) entry log all)
      by rest false is enough = rest (omega (arith, enough))

  -- the scope has a scope block at the end exactly if its fate is `Kept`
  abbrev IsKeptExactly : Fate → ReactiveBlock → Type 0
  IsKeptExactly fate after = ((fate ≡ Kept) × (times scope (scopes_in after) ≡ 1))
      ⊎ (¬ (fate ≡ Kept) × (times scope (scopes_in after) ≡ 0))

  none_left : (rules : FateRules) (before after : ReactiveBlock) (log : List ScopeFate)
      → AreDecidedBy rules before after log → times scope (scopes_in before) ≡ 0 → times scope (scopes_in after) ≡ 0
  none_left NoMore before after log are none = ap (times scope) (sym are.0) ∙ none
  none_left (Then rule rest) before after log are none =
      let between = are.0 in
      let here = are.4.lost scope in
      let parts = times-append scope (scopes_in between) (decided are.1) in
      none_left rest between after are.2 are.5 (omega (arith, here, parts, none))

  -- a scope with one scope block has its fate by the first rule that gives it one
  pub fate_told : (rules : FateRules) (before after : ReactiveBlock) (log : List ScopeFate)
      → AreDecidedBy rules before after log → times scope (scopes_in before) ≡ 1
      → IsFateBy rules scope (fate_by log scope) × IsKeptExactly (fate_by log scope) after
  fate_told NoMore before after log are once =
      let kept : fate_by log scope ≡ Kept = ap (λ l. fate_by l scope) are.1 in
      (kept, inl (kept, ap (times scope) (sym are.0) ∙ once))
  fate_told (Then rule rest) before after log are once =
      subst (λ l. IsFateBy (Then rule rest) scope (fate_by l scope) × IsKeptExactly (fate_by l scope) after) (sym are.3)
      (by (fate_told rest are.0 after are.2 are.5) (times scope (decided are.1)) refl)
    where
      by : (times scope (scopes_in are.0) ≡ 1
          → IsFateBy rest scope (fate_by are.2 scope) × IsKeptExactly (fate_by are.2 scope) after) → (n : ℕ)
          → times scope (decided are.1) ≡ n
          → IsFateBy (Then rule rest) scope (fate_by (are.1 ++ are.2) scope)
          × IsKeptExactly (fate_by (are.1 ++ are.2) scope) after
      by told zero none =
          let here = are.4.lost scope in
          let parts = times-append scope (scopes_in are.0) (decided are.1) in
          let later = told (omega (arith, here, parts, none, once)) in
          let same = passed_by are.1 are.2 none in (
            inr (
              are.4.all scope (omega (arith, once)) none,
              subst (IsFateBy rest scope) (sym same) later.0,
            ),
            subst (λ fate. IsKeptExactly fate after) (sym same) later.1,
          )
      by told (suc n) some =
          let here = are.4.lost scope in
          let parts = times-append scope (scopes_in are.0) (decided are.1) in
          let gone = none_left rest are.0 after are.2 are.5 (omega (arith, here, parts, some, once)) in (
            inl (found rule are.1 are.2 (omega (arith, some)) are.4.right),
            inr (
              found (λ id fate. ¬ (fate ≡ Kept)) are.1 are.2 (omega (arith, some)) are.4.never_kept,
              gone,
            ),
          )
