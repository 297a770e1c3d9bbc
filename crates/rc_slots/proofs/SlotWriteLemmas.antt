-- Writing the slots of one entry after another.
use Rattle.std.proofs.Common.{◌≡◌, ◌∙◌, ◌+◌, ◌≤◌, ◌<◌, ◌++◌, ℕ, List, [], ◌∷◌, Option, length}
use Rattle.std.proofs.Common.{take, drop, get_or, refl, sym, ap, arith, append_assoc, length-append}
use Rattle.std.specs.Prelude.{min}
use Rattle.std.proofs.lemmas.List.{length-drop, length-take-le, drop-drop, drop_more}
use Rattle.std.proofs.lemmas.Slice.{take-put_mid, drop-put_mid}
use borrow.Rule.Slice.PartMut.{put_mid}
use Rattle.rc_slots.specs.declared.plan.ScopeSlots.{ScopeSlots}
use Rattle.rc_slots.specs.declared.cache.ScopeValues.{ScopeValues}
use Rattle.rc_slots.specs.declared.cache.ScopeAnswer.{ScopeAnswer}
use Rattle.rc_slots.specs.Slots.{sizes}
use Rattle.rc_slots.specs.CacheRun.{AllFit}
use Rattle.rc_slots.specs.inside.CachedSlots.{kept_slots, slot_count, slot_counts, slots_after}
use Rattle.rc_slots.proofs.ItemLemmas.{kept-length}

-- the values of a render take as many slots as the plan has
pub same_counts : (entries : List ScopeSlots) (values : List ScopeValues) → AllFit entries values → sizes entries ≡ slot_counts values
same_counts [] [] fit = refl
same_counts [] (given ∷ values) fit = absurd fit
same_counts (entry ∷ entries) [] fit = absurd fit
same_counts (entry ∷ entries) (given ∷ values) fit =
    omega (arith, same_counts entries values fit.1, fit.0.dependencies, fit.0.outputs)

-- one entry's slots are written, after those before it
pub one_kept : (all slots kept : List (Option ℕ)) (first count end : ℕ) (given : ScopeValues) (values : List ScopeValues)
    (answer : ScopeAnswer) (answers : List ScopeAnswer) → end ≡ first + count → count ≡ slot_count given
    → first + slot_counts (given ∷ values) ≡ length slots
    → take first slots ++ slots_after (given ∷ values) (answer ∷ answers) (drop first slots) ≡ all
    → kept ≡ kept_slots given answer.recomputed (take count (drop first slots))
    → (end + slot_counts values ≡ length (put_mid first count slots kept))
    × (take end (put_mid first count slots kept) ++ slots_after values answers (drop end (put_mid first count slots kept)) ≡ all)
one_kept all slots kept first count end given values answer answers ends counts room whole is =
    let mine = take count (drop first slots) in
    let later = slots_after values answers (drop end slots) in
    let mine_long : length mine ≡ slot_count given = length-take-le count (drop first slots) (omega (arith, length-drop first slots, room, counts)) ∙ counts in
    let long : length kept ≡ count = ap length is ∙ kept-length given answer.recomputed mine mine_long ∙ sym counts in
    let below : first ≤ length slots = omega (arith, room) in
    let rest : drop end slots ≡ drop (slot_count given) (drop first slots) =
    ap (λ n. drop n slots) (ends ∙ ap (λ n. first + n) counts) ∙ sym (drop-drop (slot_count given) first slots) in (
      omega (
        arith,
        room,
        ends,
        counts,
        long,
        length-append (take first slots) (kept ++ drop count (drop first slots)),
        length-append kept (drop count (drop first slots)),
        length-take-le first slots below,
        length-drop count (drop first slots),
        length-drop first slots,
      ),
      ap (λ front. front ++ slots_after values answers (drop end (put_mid first count slots kept)))
          (take-put_mid first count slots kept end (omega (arith, ends, long)) below)
          ∙ ap (λ back. (take first slots ++ kept) ++ slots_after values answers back)
          (drop-put_mid first count slots kept end (omega (arith, ends)) below long)
          ∙ append_assoc (take first slots) kept later
          ∙ ap (λ part. take first slots ++ (part ++ later)) (is ∙ ap (λ n. kept_slots given answer.recomputed (take n (drop first slots))) counts)
          ∙ ap (λ back. take first slots ++ (kept_slots given answer.recomputed (take (slot_count given) (drop first slots)) ++ slots_after values answers back)) rest
          ∙ whole,
    )

-- where no entry is left, the slots stay
pub none_kept : (values : List ScopeValues) (answers : List ScopeAnswer) (slots : List (Option ℕ))
    → min (length values) (length answers) ≡ 0 → slots_after values answers slots ≡ slots
none_kept [] answers slots none = refl
none_kept (given ∷ values) [] slots none = refl
none_kept (given ∷ values) (answer ∷ answers) slots none = absurd (omega (arith, none))

-- what is left of a list before a turn of a loop over it, by what is left after the turn
pub left_after : {X : Type 0} (xs : List X) (turn next : ℕ) (x : X) → turn < length xs → next ≡ turn + 1
    → ((d : X) → x ≡ get_or xs turn d) → drop turn xs ≡ x ∷ drop next xs
left_after xs turn next x within more at =
    drop_more xs turn x within ∙ ap (λ y. y ∷ drop (turn + 1) xs) (sym (at x)) ∙ ap (λ n. x ∷ drop n xs) (sym more)
