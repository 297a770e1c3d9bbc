use Rattle.std.proofs.Common.{◌≡◌, ◌∙◌, ap, leb, rules, slice_get, subst, sym}
use Rattle.std.proofs.lemmas.List.Sorted.{IsPartitionPoint-from_clause, IsPartitionedBy-leb}
use Rattle.std.specs.List.Sorted.{IsNonDecreasingBy}
use Rattle.rc_slots.proofs.OwnerLemmas.{begun_at, firsts_rise}
use Rattle.rc_slots.proofs.plan.SlotPlan.begun.Goals as goal

pub returns-clause-begun : goal.returns-clause-begun
returns-clause-begun c =
    let plan = c.args.self.now in
    let slot = c.args.slot in
    let scopes = c.as_slice.result.now in
    let same : scopes ≡ plan.scopes = c.as_slice.ensures in
    let rise = subst (IsNonDecreasingBy (λ entry. entry.first)) (sym same) (firsts_rise plan c.requires) in
    let point = IsPartitionPoint-from_clause (λ entry. leb entry.first slot) scopes c.partition_point.result
    c.partition_point.ensures.partitioned (IsPartitionedBy-leb (λ entry. entry.first) scopes slot rise)
    (λ a r q k. search rules) in
    λ i entry here. begun_at scopes c.partition_point.result slot point i entry
    (ap (λ xs. slice_get xs i) same ∙ here)
