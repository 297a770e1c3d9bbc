use Rattle.std.proofs.Common.{◌≡◌, ◌≤◌, suc, arith, length, refl, rules, true≢false}
use Rattle.rc_slots.proofs.OwnerLemmas.{after_all, below_total, entry_at, none_begun, owns}
use Rattle.rc_slots.proofs.plan.SlotPlan.owner.Goals as goal

pub returns-in_err-last-clause-none : goal.returns-in_err-last-clause-none
returns-in_err-last-clause-none c =
    let empty : c.begun.result ≡ 0 = omega arith in (
      λ none. none_begun c.args.self.now c.requires c.begun.result c.args.slot c.begun.ensures.begun empty,
      λ past. search rules,
    )

pub part_at-requires : goal.part_at-requires
part_at-requires c =
    let plan = c.args.self.now in
    let i = c.in_ok-last.last in
    let last : suc i ≡ c.begun.result = omega arith in
    let bound : c.begun.result ≤ length plan.scopes = c.begun.ensures.bound in
    let here = entry_at plan c.as_slice.result.now c.as_slice.ensures i _ (omega arith) in
    (c.begun.ensures.begun i _ here).0 (omega arith)

pub returns-in_err-part-clause-none : goal.returns-in_err-part-clause-none
returns-in_err-part-clause-none c =
    let plan = c.args.self.now in
    let i = c.in_ok-last.last in
    let last : suc i ≡ c.begun.result = omega arith in
    let bound : c.begun.result ≤ length plan.scopes = c.begun.ensures.bound in
    let here = entry_at plan c.as_slice.result.now c.as_slice.ensures i _ (omega arith) in (
      λ none. after_all plan c.requires c.begun.result c.args.slot c.begun.ensures.begun i _ here last
          (c.in_err-part.ensures.none.0 refl),
      λ past. search rules,
    )

pub returns-clause-none : goal.returns-clause-none
returns-clause-none c =
    let plan = c.args.self.now in
    let i = c.in_ok-last.last in
    let last : suc i ≡ c.begun.result = omega arith in
    let bound : c.begun.result ≤ length plan.scopes = c.begun.ensures.bound in
    let here = entry_at plan c.as_slice.result.now c.as_slice.ensures i _ (omega arith) in
    let below = below_total plan c.requires c.begun.result c.args.slot c.begun.ensures.begun i _ here last
    c.in_ok-part.part c.in_ok-part.ensures.part in
    (λ none. absurd (true≢false none), λ past. absurd (omega arith))

pub returns-clause-owner : goal.returns-clause-owner
returns-clause-owner c =
    let plan = c.args.self.now in
    let i = c.in_ok-last.last in
    let last : suc i ≡ c.begun.result = omega arith in
    let bound : c.begun.result ≤ length plan.scopes = c.begun.ensures.bound in
    let here = entry_at plan c.as_slice.result.now c.as_slice.ensures i _ (omega arith) in
    owns plan c.requires c.begun.result c.args.slot c.begun.ensures.begun i _ here last c.in_ok-part.part
    c.in_ok-part.ensures.part
