use Rattle.std.proofs.Common.{◌≡◌, Some, sym, ap, ◌∙◌, subst}
use Rattle.rc_tree.specs.declared.value.ReactiveValue.TheVariants as reactive
use Rattle.rc_runs.specs.PlainTree.{NoRows, Row, Sequence}
use Rattle.rc_runs.specs.TreeOf.{value_of}
use Rattle.rc_build.specs.declared.values.BuiltValue.{BuiltValue}
use Rattle.rc_build.specs.declared.values.Condition.{Condition}
use Rattle.rc_build.specs.inside.Values.{IsBuilt}
use Rattle.rc_build.proofs.NestedLemmas.{made_alike, short_alike}
use Rattle.rc_build.proofs.value_terminals.optional_value.Goals as goal

pub returns : goal.returns
returns c = λ hir test value test_end end is_test is_value.
    let same = c.into_inner-tested.ensures in
    let opened = subst (λ (z : Condition). IsBuilt hir test test_end z.tested) (sym same) is_test in
    let inner = subst (λ (z : Condition). c.in_ok-tested_then.field-0
    ≡ value_of (Sequence (Row test_end.id (Some test_end.answer) test z.arms.span NoRows) end.id value)) same
    (c.in_ok-tested_then.ensures hir test value test_end end opened is_value) in
    made_alike c.boxed_nested.result c.boxed_nested.ensures (ap (λ z. reactive.OptionalExpression z c.args.optional) inner)
    (ap (λ (z : BuiltValue). z.answer) c.get.ensures)
    (short_alike (ap (λ (z : Condition). z.arms.alternate) same)
    (ap (λ (z : BuiltValue). z.block) c.get-2.ensures ∙ ap (λ (z : Condition). z.tested.block) same))
