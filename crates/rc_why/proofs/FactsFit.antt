-- The facts of each reason fit its fate.
pub mod SamePairs
pub mod NotEscaping
pub mod Unused
pub mod Dissolved
pub mod Merged
use Rattle.std.proofs.Common.{refl}
use Rattle.rc_names.specs.Numbers.{ScopeId}
use Rattle.rc_tree.specs.Decided.{IsFateBy}
use Rattle.rc_tree.specs.ScopesIn.{HasScopesOnce}
use Rattle.rc_tree.specs.declared.fate.Fate.{Fate}
use Rattle.rc_tree.specs.declared.fate.Fate.TheVariants as fates
use Rattle.rc_merge.specs.LastUses.{last_uses_in}
use Rattle.rc_pipe.proofs.PassesLemmas.{merging_first, not_escaping_first}
use Rattle.rc_pipe.specs.Passes.{IsPruned, PassState, fate_rules}
use Rattle.rc_why.proofs.FactsFit.Dissolved.{dissolved_fits}
use Rattle.rc_why.proofs.FactsFit.Merged.{condition_holds, uses_fit}
use Rattle.rc_why.proofs.FactsFit.NotEscaping.{not_escaping_fits}
use Rattle.rc_why.proofs.FactsFit.Unused.{unused_fits}
use Rattle.rc_why.proofs.FirstRules.{unused_first}
use Rattle.rc_why.specs.Fits.{FactsFit, Fits}
use Rattle.rc_why.specs.ReasonOf.{FactsOf, ReasonOf, memo_set}
use Rattle.rc_why.specs.declared.reason.Facts.{Facts}
use Rattle.rc_why.specs.declared.reason.Facts.TheVariants as facts
use Rattle.rc_why.specs.declared.reason.Reason.{Reason}

module _ {spelled pruned : PassState} (passes : IsPruned spelled pruned)
    (once : HasScopesOnce passes.others.reactive.func.body) where
  -- by the fate and the facts, which are of one kind
  fit : (scope : ScopeId) (fate : Fate) (facts : Facts) → IsFateBy (fate_rules passes) scope fate
      → FactsOf passes scope fate facts → FactsFit scope fate facts
  fit scope fates.Kept (facts.Kept output) by are = refl
  fit scope fates.NotEscaping (facts.NotEscaping outputs memoized) by are = (
    refl,
    not_escaping_fits passes.labeled.env (memo_set passes) scope outputs memoized (not_escaping_first passes scope by)
        are.0 are.1,
  )
  fit scope fates.Unused (facts.Unused declared_by reassignments returns) by are = (
    refl,
    unused_fits passes.others.reactive.env passes.others.reactive.func.body once scope declared_by reassignments returns
        (unused_first passes scope by) are,
  )
  fit scope (fates.DissolvedInto parent) (facts.Dissolved own around) by are = (
    (parent, refl),
    dissolved_fits passes.others.used.env passes.others.used.func.body scope parent own around
        (merging_first passes scope (fates.DissolvedInto parent) tt by) are.0 are.1,
  )
  fit scope (fates.MergedInto head) (facts.Merged condition own declared next sources uses end) by (is, joined, are) =
      let last = last_uses_in passes.others.used.env passes.others.used.func.body in (
        (head, refl),
        condition_holds passes.others.used.env last is _ are joined.joins,
        uses_fit passes.others.used.env last is _ are joined.joins,
      )
  fit scope fates.AlwaysInvalidating (facts.AlwaysInvalidating dependency) by are = refl
  fit scope fate other by are = absurd are

  -- the facts of a reason fit its fate
  pub facts_fit : (reason : Reason) → ReasonOf passes reason → Fits reason
  facts_fit reason is = fit reason.scope reason.fate reason.facts is.fate is.facts
