-- What the rows of a sequence add to the table, from the last one to the first.
use Rattle.std.proofs.Common.{◌≡◌, ℕ, Bool, true, false, ◌&&◌, List, [], ◌∷◌, Option, Some, None, refl, sym, ap, ◌∙◌, subst}
use Rattle.std.specs.Prelude.{if◌then◌else◌}
use Rattle.rc_hir.specs.Model.{Environment, Place}
use Rattle.rc_tree.specs.Model.{ReactiveInstruction, ReactiveValue}
use Rattle.rc_tree.specs.declared.value.ReactiveValue.{out-ReactiveValue}
use Rattle.rc_tree.specs.declared.value.ReactiveValue.TheVariants as values
use Rattle.rc_runs.specs.AnsweredTest.{answers_test}
use Rattle.rc_names.specs.declared.span.Span.{Span}
use Rattle.rc_names.specs.Numbers.{EvaluationOrder}
use Rattle.rc_runs.specs.PlainTree.{Value, Base, Logical, Conditional, Sequence, Optional, Rows, NoRows, Row}
use Rattle.rc_runs.specs.TreeOf.{value_of, instructions_of}
use Rattle.rc_runs.specs.ValueRun.{is_row_of_test}
use Rattle.rc_replay.specs.declared.layout.After.{After}
use Rattle.rc_replay.specs.declared.layout.Layout.{Layout}
use Rattle.rc_replay.specs.inside.Layout.{LaysValue, LaysRows, LaysRow, after_row}
use Rattle.rc_replay.specs.inside.LoweredValue.{LowersRow, no_rows, one_row}
use Rattle.rc_replay.specs.inside.RowOfTest.{answers, answers_target, is_last, is_optional, ends_test}
use Rattle.rc_replay.proofs.LayoutLemmas.{lays_more, lays_both}

answers-plain : (env : Environment) (place : Place) (value : Value)
    → answers_test env place value ≡ answers env place (out-ReactiveValue (value_of value))
answers-plain env place (Base value) = sym (ap (answers env place) (values.outs-Instruction value))
answers-plain env place (Logical operator left right) =
    sym (ap (answers env place) (values.outs-LogicalExpression operator (value_of left) (value_of right)))
answers-plain env place (Conditional test consequent alternate) = sym (ap (answers env place)
    (values.outs-ConditionalExpression (value_of test) (value_of consequent) (value_of alternate)))
answers-plain env place (Sequence rows id value) =
    sym (ap (answers env place) (values.outs-SequenceExpression (instructions_of rows) id (value_of value)))
answers-plain env place (Optional value optional) =
    sym (ap (answers env place) (values.outs-OptionalExpression (value_of value) optional))

and_false : (a b : Bool) → (a && (b && false)) ≡ false
and_false true true = refl
and_false true false = refl
and_false false b = refl

-- a row before others doesn't end the test
before_others : (env : Environment) (place : Place) (own : Value) (id : EvaluationOrder) (target : Option Place)
    (next : Value) (span : Option Span) (rest : Rows) (value : Value)
    → is_row_of_test env true (Some place) own (Row id target next span rest) value ≡ false
before_others env place (Base x) id target next span rest value = refl
before_others env place (Logical operator left right) id target next span rest value = refl
before_others env place (Conditional test consequent alternate) id target next span rest value = refl
before_others env place (Sequence rows last inner) id target next span rest value = refl
before_others env place (Optional inner optional) id target next span rest value = refl

-- which row ends an optional's test, by the program's own rows and values
row_of_test : (env : Environment) (is_test : Bool) (target : Option Place) (own : Value) (rest : Rows) (value : Value)
    → is_row_of_test env is_test target own rest value ≡ (is_test && (is_last (instructions_of rest)
    && (is_optional (out-ReactiveValue (value_of own)) && answers_target env target (out-ReactiveValue (value_of value)))))
row_of_test env false target own rest value = refl
row_of_test env true None own rest value =
    sym (and_false (is_last (instructions_of rest)) (is_optional (out-ReactiveValue (value_of own))))
row_of_test env true (Some place) own (Row id target next span rest) value =
    before_others env place own id target next span rest value
row_of_test env true (Some place) (Optional inner optional) NoRows value =
    answers-plain env place value ∙ sym (ap (λ o. is_optional o && answers env place (out-ReactiveValue (value_of value)))
    (values.outs-OptionalExpression (value_of inner) optional))
row_of_test env true (Some place) (Base x) NoRows value =
    sym (ap (λ o. is_optional o && answers env place (out-ReactiveValue (value_of value))) (values.outs-Instruction x))
row_of_test env true (Some place) (Logical operator left right) NoRows value =
    sym (ap (λ o. is_optional o && answers env place (out-ReactiveValue (value_of value)))
    (values.outs-LogicalExpression operator (value_of left) (value_of right)))
row_of_test env true (Some place) (Conditional test consequent alternate) NoRows value =
    sym (ap (λ o. is_optional o && answers env place (out-ReactiveValue (value_of value)))
    (values.outs-ConditionalExpression (value_of test) (value_of consequent) (value_of alternate)))
row_of_test env true (Some place) (Sequence rows id inner) NoRows value =
    sym (ap (λ o. is_optional o && answers env place (out-ReactiveValue (value_of value)))
    (values.outs-SequenceExpression (instructions_of rows) id (value_of inner)))

module _ {env : Environment} {is_test : Bool} {value : ReactiveValue} {after : After} where
  pub rows_begin : {start : ℕ} {a b : Layout} → LaysValue env is_test value after a b start
      → LaysRows env is_test [] value after a b start
  rows_begin l = record {
    rows_plain = NoRows;
    plain = l.plain;
    same_rows = refl;
    same = l.same;
    lays = lays_more (λ table h. no_rows h) l.lays;
  }

  -- one row more
  pub rows_step : {row : ReactiveInstruction} {rest : List ReactiveInstruction} {x : After} {next start : ℕ}
      {a b c : Layout} (of_test : Bool) → of_test ≡ ends_test env is_test (is_last rest) row value
      → x ≡ after_row after next of_test → LaysRows env is_test rest value after a b next
      → LaysRow env false row x b c start → LaysRows env is_test (row ∷ rest) value after a c start
  rows_step {row} {rest} {next = next} {start} {b = b} {c} of_test is p following one =
      let own : LaysRow env false row (after_row after next of_test) b c start =
      subst (λ x. LaysRow env false row x b c start) p one in
      let same : ends_test env is_test (is_last (instructions_of following.rows_plain))
      (record { id = row.id; lvalue = row.lvalue; value = value_of own.plain; span = row.span })
      (value_of following.plain) ≡ ends_test env is_test (is_last rest) row value =
      λ i. ends_test env is_test (is_last (following.same_rows i))
      (record { id = row.id; lvalue = row.lvalue; value = own.same i; span = row.span }) (following.same i) in
      let decided : of_test ≡ is_row_of_test env is_test row.lvalue own.plain following.rows_plain following.plain =
      is ∙ sym same ∙ sym (row_of_test env is_test row.lvalue own.plain following.rows_plain following.plain) in
      record {
        rows_plain = Row row.id row.lvalue own.plain row.span following.rows_plain;
        plain = following.plain;
        same_rows = λ i. record { id = row.id; lvalue = row.lvalue; value = own.same i; span = row.span }
            ∷ following.same_rows i;
        same = following.same;
        lays = lays_more (λ table h. one_row h.0 (subst (λ t. LowersRow table env false row.id own.plain next
            (if t then after.short else next) start) decided h.1)) (lays_both following.lays own.lays);
      }
