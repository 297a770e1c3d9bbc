use Rattle.std.proofs.Common.{◌∙◌, ◌+◌, ◌-◌, ◌++◌, [], ◌∷◌, length, take, drop, sym, ap, arith, Bor}
use Rattle.std.proofs.lemmas.List.{take-append-drop, length-drop, length_push}
use Rattle.std.proofs.lemmas.Slice.Zip.{zip_turn, zip_end}
use Rattle.rc_slots.proofs.SlotWriteLemmas.{left_after, none_kept, one_kept}
use Rattle.rc_slots.specs.declared.cache.ScopeValues.{ScopeValues}
use Rattle.rc_slots.specs.declared.cache.ScopeAnswer.{ScopeAnswer}
use Rattle.rc_slots.specs.inside.CachedSlots.{slot_counts, slots_after}
use Rattle.rc_slots.proofs.cache.keep.Goals as goal

pub loop-values-preserved : goal.loop-values-preserved
loop-values-preserved c =
    let given = c.args.given.now in
    let answers = c.args.answers.now in
    let first = c.loop-values.first in
    let slots = c.loop-values.slots in
    let turn = length c.loop-values.yielded in
    let pair : Bor ScopeValues × Bor ScopeAnswer = (c.in-Some.values, c.in-Some.answer) in
    let next = length (c.loop-values.yielded ++ pair ∷ []) in
    let at = zip_turn given answers c.loop-values.yielded c.into_iter-values-iterator.result c.loop-values.values-iterator
    c.next.new.self c.next.result (cc) (cc) c.loop-values.yielded_by pair c.in-Some.is c.next.ensures.steps in
    let values_left = left_after given turn next c.in-Some.values.now at.0 (length_push c.loop-values.yielded pair) at.2 in
    let answers_left = left_after answers turn next c.in-Some.answer.now at.1 (length_push c.loop-values.yielded pair) at.3 in
    one_kept (slots_after given answers c.args.slots.now) slots c.keep_values.new.slots first
    (first + c.len.result + c.len-in-loop-values.result - first) (first + c.len.result + c.len-in-loop-values.result)
    c.in-Some.values.now (drop next given) c.in-Some.answer.now (drop next answers)
    (omega arith) (omega (arith, c.len.ensures, c.len-in-loop-values.ensures))
    (ap (λ values. first + slot_counts values) (sym values_left) ∙ c.loop-values.invariant.0)
    (ap (λ values. take first slots ++ slots_after values (c.in-Some.answer.now ∷ drop next answers) (drop first slots)) (sym values_left)
    ∙ ap (λ rest. take first slots ++ slots_after (drop turn given) rest (drop first slots)) (sym answers_left)
    ∙ c.loop-values.invariant.1)
    c.keep_values.ensures

pub returns : goal.returns
returns c =
    let given = c.args.given.now in
    let answers = c.args.answers.now in
    let first = c.loop-values.first in
    let slots = c.loop-values.slots in
    let turns = length c.loop-values.yielded in
    let ended = zip_end given answers c.loop-values.yielded c.into_iter-values-iterator.result c.loop-values.values-iterator
    c.next.new.self c.next.result (cc) (cc) c.loop-values.yielded_by c.in-None.is c.next.ensures.steps in
    let left = none_kept (drop turns given) (drop turns answers) (drop first slots)
    (omega (arith, ended, length-drop turns given, length-drop turns answers)) in
    sym (take-append-drop first slots) ∙ sym (ap (λ rest. take first slots ++ rest) left) ∙ c.loop-values.invariant.1
