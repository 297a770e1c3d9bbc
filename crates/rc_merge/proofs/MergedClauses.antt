-- What merging leaves: a body that was rebuilt by the rules of the pass, with the last uses in it, was merged.
use Rattle.std.proofs.Common.{◌≡◌, List, [], Option, Some, Ok, arith, subst, unwrap_or}
use Rattle.rc_hir.specs.KeptNumbers.{KeepsNumbers}
use Rattle.rc_hir.specs.Model.{Environment, HirFunction}
use Rattle.rc_hir.specs.Names.{NamesInTables}
use Rattle.rc_runs.specs.Erase.{erased}
use Rattle.rc_tree.specs.Rebuilt.{rebuilt_block}
use Rattle.rc_tree.specs.ScopesIn.{HasScopesOnce}
use Rattle.rc_tree.specs.TreeNames.{TreeInTables}
use Rattle.rc_tree.specs.Model.{ReactiveFunction}
use Rattle.rc_merge.proofs.ExplainedByWent.{explained_by_went}
use Rattle.rc_merge.proofs.WentKeeps.{erased_by_went}
use Rattle.rc_merge.proofs.WentKnown.{known_by_went, long_by_went, names_by_went}
use Rattle.rc_merge.proofs.WentLemmas.{merges_by_went}
use Rattle.rc_merge.specs.Explained.{AreExplained}
use Rattle.rc_merge.specs.LastUses.{LastUses, last_uses_in}
use Rattle.rc_merge.specs.Merged.{Merges}
use Rattle.rc_merge.specs.declared.facts.MergedFacts.{MergedFacts}
use Rattle.rc_merge.specs.declared.tables.Tables.{Tables}
use Rattle.rc_merge.specs.inside.MergeSteps.{HasMerged}
use Rattle.rc_merge.specs.inside.WentRules.{Met, none_met, went_rules}

module _ (merged : Option (List MergedFacts)) (old new : ReactiveFunction) (before after : Environment)
    (tables : Tables) (is : HasMerged merged old new before tables)
    (environment : after ≡ record before { scopes = tables.scopes }) where
  abbrev uses : LastUses
  uses = last_uses_in before old.body

  -- the state at the end
  abbrev ended : Met
  ended = record { around = is.are.around; scopes = tables.scopes; copies = tables.copies; log = tables.log }

  pub is_merged : HasScopesOnce old.body → Merges old.body before new.body after tables.log.fates
  is_merged once = merges_by_went old.body new.body before after merged ended once is.are.rebuilt environment

  pub is_explained : merged ≡ Some [] → HasScopesOnce old.body
      → AreExplained before old.body tables.log.fates (unwrap_or tables.log.merged [])
  is_explained from once = explained_by_went before old.body new.body ended once
      (subst (λ merged. rebuilt_block (went_rules before uses) old.body (none_met before.scopes merged)
      ≡ Ok (ended, new.body)) from is.are.rebuilt)

  pub keeps_erased : erased new ≡ erased old
  keeps_erased = erased_by_went before uses old new (none_met before.scopes merged) ended is.header is.are.rebuilt

  pub keeps_known : TreeInTables old before → TreeInTables new after
  keeps_known = known_by_went old new before after uses merged ended is.header is.are.rebuilt environment

  pub keeps_names : TreeInTables old before → (graph : HirFunction) → NamesInTables graph before
      → NamesInTables graph after
  keeps_names = names_by_went old new before after uses merged ended is.are.rebuilt environment

  pub keeps_numbers : KeepsNumbers before after
  keeps_numbers =
      let long = long_by_went before uses merged old.body new.body ended is.are.rebuilt in
      rw environment (record {
        identifiers = omega arith;
        types = omega arith;
        scopes = omega (arith, long);
        functions = omega arith;
        shapes = omega arith;
        next_block = omega arith;
      })
