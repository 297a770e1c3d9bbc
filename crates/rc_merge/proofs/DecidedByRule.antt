-- Merging decides by its rule.
use Rattle.std.proofs.Common.{Contains, List, [], ◌∷◌, map, arith, get_or}
use Rattle.std.proofs.Common.{subst}
use Rattle.std.specs.Prelude.{⊤}
use Rattle.std.proofs.lemmas.List.Elements.{Contains-get_or}
use Rattle.rc_hir.specs.Model.{Environment}
use Rattle.rc_names.specs.Numbers.{ScopeId}
use Rattle.rc_merge.proofs.DissolvesFresh.{any_parts}
use Rattle.rc_merge.proofs.Elements.{in_contains}
use Rattle.rc_merge.proofs.LogLemmas.{EachEntry, each_both, each_none, each_one, joined_each}
use Rattle.rc_merge.proofs.MergingFacts.{IsOfStates, merging_facts}
use Rattle.rc_merge.proofs.MergingTells.{merging_loses}
use Rattle.rc_merge.proofs.OneMerging.{one_log}
use Rattle.rc_merge.specs.LastUses.{LastUses, last_uses_in}
use Rattle.rc_merge.specs.Merged.{Merges, merging_rule}
use Rattle.rc_merge.specs.MergedList.{joined_at}
use Rattle.rc_merge.specs.Places.{items_of}
use Rattle.rc_tree.proofs.DistinctLemmas.{at_least_once}
use Rattle.rc_tree.proofs.JoiningLemmas.{lists_monoid}
use Rattle.rc_tree.proofs.ListedOnce.{into_map}
use Rattle.rc_tree.specs.Decided.{IsDecidedBy, decided}
use Rattle.rc_tree.specs.ScopesIn.{scope_parts}
use Rattle.rc_tree.specs.Model.{ReactiveBlock}
use Rattle.rc_tree.specs.declared.fate.Fate.{Fate}
use Rattle.rc_tree.specs.declared.fate.Fate.TheVariants.{DissolvedInto, MergedInto}
use Rattle.rc_tree.specs.declared.fate.ScopeFate.{ScopeFate}
use Rattle.rc_tree.specs.declared.statement.ReactiveStatement.{out-ReactiveStatement}

-- the fates that merging gives
abbrev pub IsOfMerging : Fate → Type 0
IsOfMerging (MergedInto head) = ⊤
IsOfMerging (DissolvedInto parent) = ⊤
IsOfMerging _ = ⊥

abbrev IsGone : ScopeFate → Type 0
IsGone entry = IsOfMerging entry.fate

module _ (env : Environment) (uses : LastUses) where
  states : IsOfStates env uses (λ met. EachEntry IsGone met.log) (λ scopes. Unit {0}) scope_parts
  states = record {
    around = λ met scope stays. stays;
    dissolved = λ met parent scope stays gives.
        let entry : ScopeFate = record { scope = scope; fate = DissolvedInto parent } in
        each_both IsGone met.log (entry ∷ []) stays (each_one IsGone entry tt);
    list = λ met xs stays known.
        let items = items_of env met.scopes (map out-ReactiveStatement xs) in
        each_both IsGone met.log (joined_at env uses met.copies met.scopes items) stays
        (joined_each IsGone env uses met.copies met.scopes (λ before. Unit {0}) (λ it before k. tt)
        (λ before scope k is. tt) items tt);
  }

module _ (before : ReactiveBlock) (old : Environment) (after : ReactiveBlock) (new : Environment)
    (log : List ScopeFate) (merges : Merges before old after new log) where
  all_gone : EachEntry IsGone log
  all_gone = (merging_facts (λ scopes. Unit {0}) scope_parts lists_monoid any_parts (λ met. EachEntry IsGone met.log)
      before old after new log (states old (last_uses_in old before)) merges tt (each_none IsGone)).0

  -- merging decides by its rule
  pub merging_decided : IsDecidedBy (merging_rule old before) before after log
  merging_decided = record {
    right = λ k d below. (after, new, log, merges, Contains-get_or log k d below);
    never_kept = λ k d below is. subst IsOfMerging is (all_gone (get_or log k d)
        (in_contains log (get_or log k d) (Contains-get_or log k d below)));
    all = λ scope some none fate rule.
        let entry : ScopeFate = record { scope = scope; fate = fate } in
        let there = subst (λ entries. Contains entries entry)
        (one_log before old rule.0 after rule.1 new rule.2 log rule.3 merges) rule.4 in
        let told = at_least_once scope (decided log) (into_map (λ (e : ScopeFate). e.scope) log entry there) in
        omega (arith, told, none);
    lost = merging_loses before old after new log merges;
  }

-- and its rule gives these fates alone
pub gives_own : (old : Environment) (before : ReactiveBlock) (scope : ScopeId) (fate : Fate)
    → merging_rule old before scope fate → IsOfMerging fate
gives_own old before scope fate rule =
    all_gone before old rule.0 rule.1 rule.2 rule.3 (record { scope = scope; fate = fate })
    (in_contains rule.2 (record { scope = scope; fate = fate }) rule.4)
