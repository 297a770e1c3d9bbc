-- Numbering entry by entry gives the plan; and what is numbered is a plan.
use Rattle.std.proofs.Common.{◌≡◌, ◌∙◌, ◌+◌, ◌<◌, ◌≤◌, ◌^◌, ℕ, List, [], ◌∷◌, ◌++◌, drop, length, refl}
use Rattle.std.proofs.Common.{sym, ap, arith}
use Rattle.std.proofs.lemmas.List.{append-nil, drop_all}
use Rattle.rc_slots.specs.Slots.{BeginAt, IsPlan, entries_from, numbered, size, sizes, slots_from}
use Rattle.rc_slots.specs.declared.numbering.ScopeLengths.{ScopeLengths}
use Rattle.rc_slots.specs.declared.plan.ScopeSlots.{ScopeSlots}
use Rattle.rc_slots.specs.declared.plan.SlotPlan.{SlotPlan}

begin_there : (first : ℕ) (all : List ScopeLengths) → BeginAt first (entries_from first all)
begin_there first [] = tt
begin_there first (lengths ∷ more) = (refl, begin_there (first + size (slots_from first lengths)) more)

-- what is numbered is a plan
pub numbered_plan : (all : List ScopeLengths) → IsPlan (numbered all)
numbered_plan all = record { firsts = begin_there 0 all; total = refl }

-- with the slots of the rest, a plan is this whole one
pub record IsBegun (whole : List ScopeSlots) (plan : SlotPlan) (rest : List ScopeLengths) : Type 0 where
  pub scopes : plan.scopes ++ entries_from plan.total rest ≡ whole
  pub total : plan.total + sizes (entries_from plan.total rest) ≡ sizes whole
  pub fits : plan.total < 2 ^ 32

-- without a rest it is all of that
pub ended : (all : List ScopeLengths) (plan : SlotPlan) (i : ℕ) → length all ≤ i
    → IsBegun (entries_from 0 all) plan (drop i all) → plan ≡ numbered all
ended all plan i past begun =
    let none : drop i all ≡ [] = drop_all i all past in
    let same : plan.scopes ≡ entries_from 0 all = sym (append-nil plan.scopes)
    ∙ sym (ap (λ rest. plan.scopes ++ entries_from plan.total rest) none) ∙ begun.scopes in
    let size_none : sizes (entries_from plan.total (drop i all)) ≡ 0 =
    ap (λ rest. sizes (entries_from plan.total rest)) none in
    let whole = begun.total in
    let total : plan.total ≡ sizes (entries_from 0 all) = omega arith in
    λ j. record { scopes = same j; total = total j }
