use Rattle.std.proofs.Common.{◌≡◌, ℕ, ◌+◌, ◌-◌, ◌<◌, ◌∙◌, List, [], ◌∷◌, length, refl, sym, ap, subst, drop, arith}
use Rattle.std.proofs.lemmas.List.{drop_all, drop_more}
use Rattle.std.specs.Option.{option_map}
use Rattle.std.proofs.lemmas.Result.{IfOk-weaker}
use Rattle.rc_runs.proofs.EveryBlockIsPlain.{every_value_is_plain}
use Rattle.rc_replay.specs.declared.body_values.Chain.{Chain}
use Rattle.rc_replay.proofs.ValueLays.{lays_logical, lays_conditional, lays_sequence, lays_optional, lays_chain}
use Rattle.rc_replay.proofs.ValueLays.{lays_other, lays_unset, lays_set, equal_value}
use Rattle.rc_replay.specs.inside.Layout.{LaysRows}
use Rattle.rc_replay.specs.inside.RowOfTest.{ends_test}
use Rattle.rc_replay.proofs.RowsLays.{rows_begin, rows_step}
use Rattle.rc_replay.proofs.layout.Layout.+lay_value.Goals as goal

pub optional-returns-in_ok-branch-in-Some : goal.optional-returns-in_ok-branch-in-Some
optional-returns-in_ok-branch-in-Some t c =
    let is = c.chain_of.ensures ∙ ap (option_map (λ (x : Chain). (x.row.now, x.id, x.rest.now))) c.in-Some.is in
    IfOk-weaker c.row.result _ _
    (λ start l. lays_chain c.args.value.now is c.at.ensures refl c.in_ok-holds-in-Some.ensures
    c.in_ok-branch-in-Some.ensures l) c.row.ensures

pub optional-returns-in-None : goal.optional-returns-in-None
optional-returns-in-None t c =
    let none = c.chain_of.ensures ∙ ap (option_map (λ (x : Chain). (x.row.now, x.id, x.rest.now))) c.in-None.is in
    IfOk-weaker c.value-in-None.result _ _
    (λ start l. lays_other c.args.value.now none c.at-in-None.ensures l) c.value-in-None.ensures

pub row-returns-then-is_unset : goal.row-returns-then-is_unset
row-returns-then-is_unset t c =
    let plain = every_value_is_plain c.args.row.now.value in
    lays_unset plain.0 plain.1 (sym c.is_unset.ensures ∙ c.if-is_unset.true)

pub row-returns : goal.row-returns
row-returns t c =
    IfOk-weaker c.value.result _ _ (λ start l. lays_set (sym c.is_unset.ensures ∙ c.if-is_unset.false) l)
    c.value.ensures

pub value-returns-in_ok-branch-in-LogicalExpression : goal.value-returns-in_ok-branch-in-LogicalExpression
value-returns-in_ok-branch-in-LogicalExpression t c =
    let form = c.in-LogicalExpression in
    IfOk-weaker c.value-in-LogicalExpression.result _ _
    (λ start l. lays_logical form.operator form.is c.get.ensures c.get-in-LogicalExpression.ensures c.at.ensures
    c.at-in-LogicalExpression.ensures c.in_ok-fails-in-LogicalExpression.ensures
    c.in_ok-branch-in-LogicalExpression.ensures l) c.value-in-LogicalExpression.ensures

pub value-returns-in_ok-branch-in-ConditionalExpression : goal.value-returns-in_ok-branch-in-ConditionalExpression
value-returns-in_ok-branch-in-ConditionalExpression t c =
    let form = c.in-ConditionalExpression in
    IfOk-weaker c.value-in-ConditionalExpression-3.result _ _
    (λ start l. lays_conditional form.is c.get-in-ConditionalExpression.ensures
    c.get-in-ConditionalExpression-2.ensures c.get-in-ConditionalExpression-3.ensures
    c.at-in-ConditionalExpression.ensures c.at-in-ConditionalExpression-2.ensures
    c.at-in-ConditionalExpression-3.ensures c.in_ok-holds-in-ConditionalExpression.ensures
    c.in_ok-fails-in-ConditionalExpression.ensures c.in_ok-branch-in-ConditionalExpression.ensures l)
    c.value-in-ConditionalExpression-3.ensures

pub value-returns-in_ok-next-in-SequenceExpression : goal.value-returns-in_ok-next-in-SequenceExpression
value-returns-in_ok-next-in-SequenceExpression t c =
    let form = c.in-SequenceExpression in
    let last = c.get-in-SequenceExpression.ensures ∙ sym c.get-in-SequenceExpression-2.ensures in
    IfOk-weaker c.rows.result _ _
    (λ start l. lays_sequence form.id form.is c.as_slice.ensures c.get-in-SequenceExpression-2.ensures l)
    (c.rows.ensures c.args.self.now (equal_value last c.in_ok-next-in-SequenceExpression.ensures))

pub rows-loop-i-init : goal.rows-loop-i-init
rows-loop-i-init t c =
    let none : drop (length c.args.rows.now) c.args.rows.now ≡ [] =
    drop_all (length c.args.rows.now) c.args.rows.now (omega arith) in
    rw none (refl, λ first l. rows_begin l)

pub rows-loop-i-preserved : goal.rows-loop-i-preserved
rows-loop-i-preserved t c =
    let rows = c.args.rows.now in
    let i = c.loop-i.i in
    let row = c.index-rows-i.result in
    let next : i - 1 + 1 ≡ i = omega (arith) in
    let at : drop (i - 1) rows ≡ row ∷ drop i rows =
    drop_more rows (i - 1) row (omega (arith)) ∙ (λ j. sym c.index-rows-i.is j ∷ drop (next j) rows) in
    rw at (
      refl,
      λ first l. rows_step c.ends_test-of_test.result (c.ends_test-of_test.ensures
          ∙ ap (λ last. ends_test c.args.env.now c.args.is_test last row c.args.value.now) c.loop-i.invariant.0) c.row.ensures
          (c.loop-i.invariant.1 first l) c.in_ok-start.ensures,
    )

pub rows-returns : goal.rows-returns
rows-returns t c = λ first l.
    let none : c.loop-i.i ≡ 0 = omega (arith) in
    subst (λ i. LaysRows c.args.env.now c.args.is_test (drop i c.args.rows.now) c.args.value.now c.args.after first
    c.loop-i.self c.loop-i.start) none (c.loop-i.invariant.1 first l)
