-- The fates of merging are fresh: such a fate comes by the rule of merging alone, so it is one of what merging decided.
use Rattle.std.proofs.Common.{List, All, Contains}
use Rattle.std.proofs.lemmas.List.Elements.{All-contains}
use Rattle.rc_merge.proofs.DissolvesFresh.{dissolves_fresh}
use Rattle.rc_merge.proofs.JoinsFresh.{joins_fresh, parts_of_joins}
use Rattle.rc_merge.specs.Freshness.{DissolvesFresh, JoinsFresh, PartsFresh}
use Rattle.rc_names.specs.Numbers.{ScopeId}
use Rattle.rc_tree.specs.Decided.{IsFateBy}
use Rattle.rc_tree.specs.declared.fate.Fate.TheVariants.{DissolvedInto, MergedInto}
use Rattle.rc_tree.specs.declared.fate.ScopeFate.{ScopeFate}
use Rattle.rc_pipe.proofs.PassesLemmas.{merging_first}
use Rattle.rc_pipe.specs.Passes.{IsPruned, PassState, fate_rules}

module _ {spelled pruned : PassState} (passes : IsPruned spelled pruned) where
  module _ (fates : List ScopeFate)
      (told : All (λ entry. IsFateBy (fate_rules passes) entry.scope entry.fate) fates) where
    fate_at : (entry : ScopeFate) → Contains fates entry → IsFateBy (fate_rules passes) entry.scope entry.fate
    fate_at entry there =
        All-contains (λ entry. IsFateBy (fate_rules passes) entry.scope entry.fate) fates entry told there

    pub fates_join_fresh : JoinsFresh passes.others.used.env passes.others.used.func.body fates
    fates_join_fresh once render legal scope head gone =
        let rule = merging_first passes scope (MergedInto head) tt (fate_at _ gone) in
        joins_fresh passes.others.used.func.body passes.others.used.env rule.0 rule.1 rule.2 rule.3 once render legal scope head
        rule.4

    pub fates_parts_fresh : PartsFresh passes.others.used.env passes.others.used.func.body fates
    fates_parts_fresh = parts_of_joins passes.others.used.env passes.others.used.func.body fates fates_join_fresh

    pub fates_dissolve_fresh : DissolvesFresh passes.others.used.env fates
    fates_dissolve_fresh render scope parent gone =
        let rule = merging_first passes scope (DissolvedInto parent) tt (fate_at _ gone) in
        dissolves_fresh passes.others.used.func.body passes.others.used.env rule.0 rule.1 rule.2 rule.3 render scope parent rule.4
