use Rattle.std.proofs.Common.{◌≡◌, ◌∙◌, ◌<◌, ◌+◌, ◌-◌, ◌++◌, [], ◌∷◌, None, Some, ap, arith, drop, get_or, length, slice_get, subst, sym}
use Rattle.std.proofs.lemmas.List.{drop_all, drop_more}
use Rattle.std.specs.Option.{option_copied}
use Rattle.rc_names.specs.Numbers.{InstructionId, to_id}
use Rattle.rc_replay.specs.inside.GraphTable.{AreLaid}
use Rattle.rc_replay.proofs.GraphTableLemmas.{laid_nowhere, laid_row, laid_terminal, next_place}
use Rattle.rc_replay.proofs.graph.add_block.Goals as goal

pub loop-i-init : goal.loop-i-init
loop-i-init c =
    let hir = c.args.hir.now in
    let env = c.args.env.now in
    let terminal = c.args.block.now.terminal in
    let old = c.args.rows.now in
    let added = c.in_ok-terminal_position.field-0 in
    let numbers = c.args.block.now.instructions in
    let count = length c.as_slice-numbers.result.now in
    let next = length c.values.result.now + 1 + length c.as_slice.result.now in
    let place = next_place hir.body.blocks c.values.result.now old c.as_slice.result.now c.values.ensures c.as_slice.ensures in
    let none : drop count numbers ≡ [] = drop_all count numbers (omega (arith, ap length c.as_slice-numbers.ensures)) in
    subst (λ l. AreLaid hir env terminal old l (drop count numbers) next) (sym c.in_ok-push.ensures.ok)
    (subst (λ l. AreLaid hir env terminal old (old ++ added ∷ []) l next) (sym none)
    (laid_terminal hir env terminal old added next place c.in_ok-terminal_position.ensures))

pub returns-in_default-clause-entry : goal.returns-in_default-clause-entry
returns-in_default-clause-entry c =
    let hir = c.args.hir.now in
    let numbers = c.args.block.now.instructions in
    let at = c.loop-i.i - 1 in
    let number : InstructionId = get_or numbers at (to_id 0) in
    let positive : 0 < c.loop-i.i = c.loop-i-test.true in
    let inside : at < length numbers = omega (arith, positive, c.loop-i.auto.i, ap length c.as_slice-numbers.ensures) in
    let index : c.index.result ≡ number.0 =
    c.index.ensures.value ∙ ap (λ l. (get_or l at (to_id 0)).0) c.as_slice-numbers.ensures in
    let none : slice_get hir.instructions number.0 ≡ None = ap (slice_get hir.instructions) (sym index)
    ∙ sym c.get.ensures ∙ ap option_copied c.in_default.is in
    laid_nowhere hir c.args.env.now c.args.block.now c.loop-i.rows number (drop (at + 1) numbers) at
    (drop_more numbers at (to_id 0) inside) none

pub loop-i-preserved : goal.loop-i-preserved
loop-i-preserved c =
    let hir = c.args.hir.now in
    let env = c.args.env.now in
    let terminal = c.args.block.now.terminal in
    let old = c.args.rows.now in
    let mid = c.loop-i.rows in
    let added = c.row_position.result in
    let numbers = c.args.block.now.instructions in
    let at = c.loop-i.i - 1 in
    let number : InstructionId = get_or numbers at (to_id 0) in
    let positive : 0 < c.loop-i.i = c.loop-i-test.true in
    let inside : at < length numbers = omega (arith, positive, c.loop-i.auto.i, ap length c.as_slice-numbers.ensures) in
    let further : c.loop-i.i ≡ at + 1 = omega (arith, positive) in
    let index : c.index.result ≡ number.0 =
    c.index.ensures.value ∙ ap (λ l. (get_or l at (to_id 0)).0) c.as_slice-numbers.ensures in
    let found : slice_get hir.instructions number.0 ≡ Some c.in-Some.row.now = ap (slice_get hir.instructions) (sym index)
    ∙ sym c.get.ensures ∙ ap option_copied c.in-Some.is in
    let here = length c.values.result.now + 1 + length c.as_slice-in-loop-i.result.now in
    let place = next_place hir.body.blocks c.values.result.now mid c.as_slice-in-loop-i.result.now c.values.ensures
    c.as_slice-in-loop-i.ensures in
    let laid : AreLaid hir env terminal old mid (drop (at + 1) numbers) c.loop-i.next =
    subst (λ n. AreLaid hir env terminal old mid (drop n numbers) c.loop-i.next) further c.loop-i.invariant in
    subst (λ l. AreLaid hir env terminal old l (drop at numbers) here) (sym c.in_ok-push-2.ensures.ok)
    (subst (λ l. AreLaid hir env terminal old (mid ++ added ∷ []) l here) (sym (drop_more numbers at (to_id 0) inside))
    (laid_row hir env terminal old mid added number (drop (at + 1) numbers) c.in-Some.row.now c.loop-i.next here laid found
    place c.row_position.ensures))
