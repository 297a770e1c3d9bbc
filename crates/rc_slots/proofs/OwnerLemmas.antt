-- The last scope block that begins at a slot or before it has the slot, if there is one.
use Rattle.std.proofs.Common.{◌≡◌, ◌∙◌, ◌+◌, ◌≤◌, ◌<◌, ◌↔◌, ℕ, zero, suc, Bool, true, false, List, [], ◌∷◌}
use Rattle.std.proofs.Common.{Some, length, slice_get, get_or, take, unwrap_or, leb, ltb, leb-true, refl, sym, ap, subst, arith}
use Rattle.std.proofs.Common.{◌⊎◌, inl, inr}
use Rattle.std.proofs.Math.Nat.{eq-or-lt_of_le}
use Rattle.std.proofs.lemmas.Bool.{leb-false, ltb-true, ltb-false}
use Rattle.std.proofs.lemmas.List.{take_all}
use Rattle.std.proofs.lemmas.Option.{get_or_from_slice_get, none-some, slice_get-get_or, slice_get_within}
use Rattle.std.specs.List.Sorted.{IsNonDecreasingBy, IsPartitionPoint}
use Rattle.rc_slots.specs.Owner.{BelongsTo, HasSlot, IsOwner}
use Rattle.rc_slots.specs.Slots.{BeginAt, IsPlan, size, sizes}
use Rattle.rc_slots.specs.declared.owner.SlotPart.{SlotPart}
use Rattle.rc_slots.specs.declared.owner.SlotPart.TheVariants.{Dependency, Declaration, Reassignment}
use Rattle.rc_slots.specs.declared.plan.ScopeSlots.{ScopeSlots}
use Rattle.rc_slots.specs.declared.plan.SlotPlan.{SlotPlan}

held : (x y : ScopeSlots) → Some x ≡ Some y → x ≡ y
held x y e = ap (λ found. unwrap_or found x) e

-- an entry begins after the slots of those before it
first_at : (first : ℕ) (xs : List ScopeSlots) → BeginAt first xs → (i : ℕ) (x : ScopeSlots) → slice_get xs i ≡ Some x
    → x.first ≡ first + sizes (take i xs)
first_at first [] begin i x here = absurd (none-some x here)
first_at first (y ∷ xs) begin zero x here =
    let same : y.first ≡ x.first = ap (λ z. z.first) (held y x here) in
    let begins : y.first ≡ first = begin.0 in
    omega arith
first_at first (y ∷ xs) begin (suc i) x here =
    let rest : x.first ≡ first + size y + sizes (take i xs) = first_at (first + size y) xs begin.1 i x here in
    omega arith

-- and its own slots come next
sizes_next : (xs : List ScopeSlots) (i : ℕ) (x : ScopeSlots) → slice_get xs i ≡ Some x
    → sizes (take (suc i) xs) ≡ sizes (take i xs) + size x
sizes_next [] i x here = absurd (none-some x here)
sizes_next (y ∷ xs) zero x here =
    let same : size y ≡ size x = ap size (held y x here) in
    omega arith
sizes_next (y ∷ xs) (suc i) x here =
    let rest : sizes (take (suc i) xs) ≡ sizes (take i xs) + size x = sizes_next xs i x here in
    omega arith

sizes_rise : (xs : List ScopeSlots) (i j : ℕ) → i ≤ j → sizes (take i xs) ≤ sizes (take j xs)
sizes_rise xs zero j below = omega arith
sizes_rise xs (suc i) zero below = absurd (omega arith)
sizes_rise [] (suc i) (suc j) below = omega arith
sizes_rise (x ∷ xs) (suc i) (suc j) below =
    let rest : sizes (take i xs) ≤ sizes (take j xs) = sizes_rise xs i j (omega arith) in
    omega arith

-- the first slots of a plan don't fall
pub firsts_rise : (plan : SlotPlan) → IsPlan plan → IsNonDecreasingBy (λ entry. entry.first) plan.scopes
firsts_rise plan is i j default below within =
    let xs = plan.scopes in
    let before = first_at 0 xs is.firsts i _ (slice_get-get_or xs i default (omega arith)) in
    let after = first_at 0 xs is.firsts j _ (slice_get-get_or xs j default within) in
    let rise = sizes_rise xs i j below in
    omega arith

-- which entries a search by their first slots finds to begin at a slot or before it
pub begun_at : (xs : List ScopeSlots) (n slot : ℕ)
    → IsPartitionPoint (λ x. leb x.first slot ≡ true) (λ x. leb x.first slot ≡ false) xs n
    → (i : ℕ) (x : ScopeSlots) → slice_get xs i ≡ Some x → (i < n) ↔ (x.first ≤ slot)
begun_at xs n slot point i x here =
    let is : get_or xs i x ≡ x = get_or_from_slice_get xs i x x here in (
      λ below. leb-true _ _ (subst (λ y. leb y.first slot ≡ true) is (point.0 i x (omega arith) below)),
      λ reached. by is reached (ltb i n) refl,
    )
  where
    by : get_or xs i x ≡ x → x.first ≤ slot → (b : Bool) → ltb i n ≡ b → i < n
    by is reached true e = ltb-true _ _ e
    by is reached false e =
        let later : slot < x.first = leb-false _ _ (subst (λ y. leb y.first slot ≡ false) is
        (point.1 i x (ltb-false _ _ e) (slice_get_within xs i x here))) in
        absurd (omega arith)

-- the entry at a position
pub entry_at : (plan : SlotPlan) (xs : List ScopeSlots) → xs ≡ plan.scopes → (i : ℕ) (default : ScopeSlots)
    → i < length plan.scopes → slice_get plan.scopes i ≡ Some (get_or xs i default)
entry_at plan xs same i default within =
    slice_get-get_or plan.scopes i default within ∙ sym (ap (λ ys. Some (get_or ys i default)) same)

-- a slot is that of one entry of the lists
same_part : (entry : ScopeSlots) (slot : ℕ) (part other : SlotPart) → HasSlot entry part slot → HasSlot entry other slot
    → part ≡ other
same_part entry slot (Dependency a) (Dependency b) h k = ap Dependency (omega arith)
same_part entry slot (Dependency a) (Declaration b) h k = absurd (omega arith)
same_part entry slot (Dependency a) (Reassignment b) h k = absurd (omega arith)
same_part entry slot (Declaration a) (Dependency b) h k = absurd (omega arith)
same_part entry slot (Declaration a) (Declaration b) h k = ap Declaration (omega arith)
same_part entry slot (Declaration a) (Reassignment b) h k = absurd (omega arith)
same_part entry slot (Reassignment a) (Dependency b) h k = absurd (omega arith)
same_part entry slot (Reassignment a) (Declaration b) h k = absurd (omega arith)
same_part entry slot (Reassignment a) (Reassignment b) h k = ap Reassignment (omega arith)

-- such a slot is one of the scope block's
within : (entry : ScopeSlots) (slot : ℕ) (part : SlotPart) → HasSlot entry part slot
    → (entry.first ≤ slot) × (slot < entry.first + size entry)
within entry slot (Dependency place) h = (omega arith, omega arith)
within entry slot (Declaration place) h = (omega arith, omega arith)
within entry slot (Reassignment place) h = (omega arith, omega arith)

module _ (plan : SlotPlan) (is : IsPlan plan) (n slot : ℕ)
    (begun : (i : ℕ) (x : ScopeSlots) → slice_get plan.scopes i ≡ Some x → (i < n) ↔ (x.first ≤ slot)) where
  -- no slot is before the first entry
  pub none_begun : n ≡ 0 → plan.total ≤ slot
  none_begun empty = by plan.scopes refl
    where
      by : (xs : List ScopeSlots) → plan.scopes ≡ xs → plan.total ≤ slot
      by [] e = let total = is.total ∙ ap sizes e in omega arith
      by (x ∷ xs) e =
          let here : slice_get plan.scopes 0 ≡ Some x = ap (λ ys. slice_get ys 0) e in
          let first = first_at 0 plan.scopes is.firsts 0 x here in
          let below : 0 < n = (begun 0 x here).1 (omega arith) in
          absurd (omega arith)

  module _ (i : ℕ) (x : ScopeSlots) (here : slice_get plan.scopes i ≡ Some x) (last : suc i ≡ n) where
    begins : x.first ≡ sizes (take i plan.scopes)
    begins = let first = first_at 0 plan.scopes is.firsts i x here in omega arith

    ends : sizes (take (suc i) plan.scopes) ≡ sizes (take i plan.scopes) + size x
    ends = sizes_next plan.scopes i x here

    -- a slot after those of the last entry that is begun is after all
    pub after_all : x.first + size x ≤ slot → plan.total ≤ slot
    after_all past = by (ltb (suc i) (length plan.scopes)) refl
      where
        by : (b : Bool) → ltb (suc i) (length plan.scopes) ≡ b → plan.total ≤ slot
        by true e =
            let found = slice_get-get_or plan.scopes (suc i) x (ltb-true _ _ e) in
            let first = first_at 0 plan.scopes is.firsts (suc i) _ found in
            let b0 = begins in
            let e0 = ends in
            let below : suc i < n = (begun (suc i) _ found).1 (omega arith) in
            absurd (omega arith)
        by false e =
            let whole = ap sizes (take_all (suc i) plan.scopes (ltb-false _ _ e)) in
            let b0 = begins in
            let e0 = ends in
            let total = is.total in
            omega arith

    -- a slot of its own is below the total
    pub below_total : (part : SlotPart) → HasSlot x part slot → slot < plan.total
    below_total part has =
        let inside = within x slot part has in
        let rise = sizes_rise plan.scopes (suc i) (length plan.scopes) (slice_get_within plan.scopes i x here) in
        let whole = ap sizes (take_all (length plan.scopes) plan.scopes (omega arith)) in
        let b0 = begins in
        let e0 = ends in
        let total = is.total in
        omega arith

    by_order : (j : ℕ) → j ≤ i → (j < i → ⊥) → j ≡ i
    by_order j below not_before = by (eq-or-lt_of_le below)
      where
        by : (j ≡ i) ⊎ (j < i) → j ≡ i
        by (inl e) = e
        by (inr earlier) = absurd (not_before earlier)

    -- no other entry has the slot
    alone : (part : SlotPart) → HasSlot x part slot → (j : ℕ) (other : SlotPart) → BelongsTo plan slot j other
        → (j ≡ i) × (other ≡ part)
    alone part has j other b =
        let inside = within b.entry slot other b.has in
        let first = first_at 0 plan.scopes is.firsts j b.entry b.here in
        let next = sizes_next plan.scopes j b.entry b.here in
        let below : j < n = (begun j b.entry b.here).1 inside.0 in
        let mine = within x slot part has in
        let not_before : j < i → ⊥ = λ earlier.
        let rise = sizes_rise plan.scopes (suc j) i (omega arith) in
        let b0 = begins in
        omega arith in
        let at : j ≡ i = by_order j (omega arith) not_before in
        let same : b.entry ≡ x =
        held b.entry x (sym b.here ∙ ap (slice_get plan.scopes) at ∙ here) in
        (at, same_part x slot other part (subst (λ entry. HasSlot entry other slot) same b.has) has)

    -- the owner of the slot
    pub owns : (part : SlotPart) → HasSlot x part slot → IsOwner plan slot (record { scope = x.scope; part = part })
    owns part has = record {
      position = i;
      belongs = record { entry = x; here = here; has = has };
      scope = refl;
      alone = alone part has;
    }
