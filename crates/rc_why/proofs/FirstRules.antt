-- A fate that one pass gives comes by the rule of that pass.
use Rattle.std.proofs.Common.{◌≡◌, inl, inr, subst}
use Rattle.rc_checks.specs.UnusedScopes.{IsUnused}
use Rattle.rc_flow.specs.AlwaysInvalidating.{IsInvalidating}
use Rattle.rc_merge.proofs.DecidedByRule.{gives_own}
use Rattle.rc_names.specs.Numbers.{ScopeId}
use Rattle.rc_pipe.specs.Passes.{IsPruned, PassState, fate_rules}
use Rattle.rc_tree.specs.Decided.{IsFateBy}
use Rattle.rc_tree.specs.declared.fate.Fate.TheVariants.{AlwaysInvalidating, Unused}

module _ {spelled pruned : PassState} (passes : IsPruned spelled pruned) where
  pub unused_first : (scope : ScopeId) → IsFateBy (fate_rules passes) scope Unused
      → IsUnused passes.others.reactive.env passes.others.reactive.func.body scope
  unused_first scope (inl rule) = absurd (let no : ⊥ = cc in no)
  unused_first scope (inr (escapes, inl rule)) = rule.1
  unused_first scope (inr (escapes, inr (used, inl rule))) =
      absurd (gives_own passes.others.used.env passes.others.used.func.body scope Unused rule)
  unused_first scope (inr (escapes, inr (used, inr (apart, inl rule)))) = absurd (let no : ⊥ = cc in no)
  unused_first scope (inr (escapes, inr (used, inr (apart, inr (stays, kept))))) = absurd (let no : ⊥ = cc in no)

  pub invalidating_first : (scope : ScopeId) → IsFateBy (fate_rules passes) scope AlwaysInvalidating
      → IsInvalidating passes.others.merged.env passes.others.merged.func.body scope
  invalidating_first scope (inl rule) = absurd (let no : ⊥ = cc in no)
  invalidating_first scope (inr (escapes, inl rule)) = absurd (let no : ⊥ = cc in no)
  invalidating_first scope (inr (escapes, inr (used, inl rule))) =
      absurd (gives_own passes.others.used.env passes.others.used.func.body scope AlwaysInvalidating rule)
  invalidating_first scope (inr (escapes, inr (used, inr (apart, inl rule)))) = rule.1
  invalidating_first scope (inr (escapes, inr (used, inr (apart, inr (stays, kept))))) =
      absurd (let no : ⊥ = cc in no)
