-- The reasons that are made of what the passes told are those of the graph's answer, and their facts fit their fates.
use Rattle.std.proofs.Common.{◌≡◌, ◌⊎◌, ◌<◌, ℕ, inl, inr, List, [], All, Contains, ap, arith, get_or, length, map, subst, sym}
use Rattle.std.proofs.lemmas.List.{length-map}
use Rattle.std.proofs.lemmas.List.Elements.{All-contains, All-same, Contains-get_or}
use Rattle.rc_checks.proofs.ScopeBlocks.SpelledOnce.{spelled_once}
use Rattle.rc_hir.specs.Model.{Environment, HirFunction}
use Rattle.rc_names.specs.Numbers.{ScopeId}
use Rattle.rc_pipe.specs.Explained.{AreTold, IsExplained}
use Rattle.rc_pipe.specs.Headline.{IsAnswer}
use Rattle.rc_pipe.specs.Passes.{fate_rules}
use Rattle.rc_pipe.specs.declared.explaining.Told.{Told}
use Rattle.rc_pipe.specs.declared.pipeline.Explained.{Explained}
use Rattle.rc_pipe.specs.declared.pipeline.Pruned.{Pruned}
use Rattle.rc_runs.proofs.SpelledInTables.{spelled_in_tables}
use Rattle.rc_tree.proofs.ListedOnce.{into_map}
use Rattle.rc_tree.specs.Decided.{IsFateBy}
use Rattle.rc_tree.specs.ScopesIn.{HasScopesOnce, scopes_in}
use Rattle.rc_tree.specs.declared.fate.ScopeFate.{ScopeFate}
use Rattle.rc_why.proofs.FactsFit.{facts_fit}
use Rattle.rc_why.proofs.FactsHold.{facts_hold, is_there}
use Rattle.rc_why.proofs.KnownScopes.{scope_known}
use Rattle.rc_why.proofs.OnceLemmas.{joined_once, reactive_once}
use Rattle.rc_why.specs.Fits.{Fits}
use Rattle.rc_why.specs.ReasonOf.{AreReasons, ReasonOf, fate_of}
use Rattle.rc_why.specs.declared.reason.Reason.{Reason}
use Rattle.rc_why.specs.inside.ToldFacts.{AreThere, HasFactsBy, IsThere}

module _ (hir : HirFunction) (env answered : Environment) (pruned : Pruned) (answer : IsAnswer hir env answered pruned) where
  once : HasScopesOnce answer.spelled.body
  once = spelled_once hir env answer.spelled answer.spells

  abbrev IsFate : ScopeFate → Type 0
  IsFate entry = IsFateBy (fate_rules answer.passes) entry.scope entry.fate

  -- a listed fate is by the rules, and its scope is in the table
  by_rules : (entry : ScopeFate) → Contains pruned.fates entry → IsFate entry
  by_rules entry there = All-contains IsFate pruned.fates entry answer.fates.told there

  known : (entry : ScopeFate) → Contains pruned.fates entry → entry.scope.0 < length env.scopes
  known entry there = scope_known (spelled_in_tables hir env answer.spelled answer.accepted.names answer.spells) entry.scope
      ((answer.fates.listed entry.scope).0
      (into_map (λ (fate : ScopeFate). fate.scope) pruned.fates entry there))

  module _ (told : Told) (is : AreTold answer.passes told) where
    reason_holds : (reason : Reason) → Contains pruned.fates (fate_of reason) → HasFactsBy env told reason
        → ReasonOf answer.passes reason
    reason_holds reason there by = record {
      fate = by_rules (fate_of reason) there;
      facts = facts_hold answer.passes told is (joined_once answer.passes once) reason.scope
          (known (fate_of reason) there) reason.fate (by_rules (fate_of reason) there) reason.facts by;
    }

    each_there : AreThere told pruned.fates
    each_there place other below =
        let entry = get_or pruned.fates place other in
        is_there answer.passes told is entry.scope entry.fate
        (by_rules entry (Contains-get_or pruned.fates place other below))

  module _ (reasons : List Reason) (same : map fate_of reasons ≡ pruned.fates) where
    fate_there : (reason : Reason) → Contains reasons reason → Contains pruned.fates (fate_of reason)
    fate_there reason there =
        subst (λ fates. Contains fates (fate_of reason)) same (into_map fate_of reasons reason there)

    no_reason : pruned.fates ≡ [] → (place : ℕ) → place < length reasons → ⊥
    no_reason none place below =
        let lengths = length-map reasons fate_of in
        let empty = ap length same in
        let nothing = ap length none in
        omega (arith, below, lengths, empty, nothing)

    each_holds : (told : Told) → (pruned.fates ≡ []) ⊎ AreTold answer.passes told → All (HasFactsBy env told) reasons
        → All (ReasonOf answer.passes) reasons
    each_holds told (inl none) by place other below = absurd (no_reason none place below)
    each_holds told (inr is) by place other below =
        let reason = get_or reasons place other in
        reason_holds told is reason (fate_there reason (Contains-get_or reasons place other below)) (by place other below)

    each_fits : All (ReasonOf answer.passes) reasons → All Fits reasons
    each_fits hold place other below = facts_fit answer.passes (reactive_once answer.passes once)
        (get_or reasons place other) (hold place other below)

module _ (hir : HirFunction) (env answered : Environment) (it : Explained) (is : IsExplained hir env answered it) where
  -- each decided scope of which a pass was to tell is there
  pub all_there : AreThere it.told it.pruned.fates
  all_there = elim is.told [
    | inl none ↦ λ place other below. absurd (omega (arith, below, ap length none))
    | inr told ↦ each_there hir env answered it.pruned is.answer it.told told
  ]

  module _ (reasons : List Reason) (same : map fate_of reasons ≡ it.pruned.fates)
      (by : All (HasFactsBy env it.told) reasons) where
    pub reasons_hold : AreReasons hir env reasons
    reasons_hold = record {
      answered = answered;
      pruned = it.pruned;
      answer = is.answer;
      fates = same;
      each = each_holds hir env answered it.pruned is.answer reasons same it.told is.told by;
    }

    pub reasons_fit : All Fits reasons
    unfolding reasons_hold
    reasons_fit = each_fits hir env answered it.pruned is.answer reasons same reasons_hold.each
