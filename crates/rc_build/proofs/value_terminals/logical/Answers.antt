use Rattle.std.proofs.Common.{Some, refl, sym, ap, ◌∙◌, subst}
use Rattle.rc_tree.specs.declared.value.ReactiveValue.TheVariants as reactive
use Rattle.rc_runs.specs.PlainTree.{NoRows, Row, Sequence}
use Rattle.rc_runs.specs.TreeOf.{value_of}
use Rattle.rc_build.specs.declared.values.BuiltValue.{BuiltValue}
use Rattle.rc_build.specs.declared.values.Condition.{Condition}
use Rattle.rc_build.specs.inside.Values.{IsBuilt}
use Rattle.rc_build.proofs.NestedLemmas.{made_alike}
use Rattle.rc_build.proofs.value_terminals.logical.Goals as goal

pub returns : goal.returns
returns c = λ hir test value test_end end is_test is_value.
    let opened = subst (λ (z : Condition). IsBuilt hir test test_end z.tested) (sym c.into_inner-tested.ensures) is_test in
    let left = c.in_ok-tested_then.ensures hir test value test_end end opened is_value in
    made_alike c.boxed_nested.result c.boxed_nested.ensures
    (ap (λ z. reactive.LogicalExpression c.args.operator z c.value_in.result) left
    ∙ ap (λ z. reactive.LogicalExpression c.args.operator
    (value_of (Sequence (Row test_end.id (Some test_end.answer) test c.args.span NoRows) end.id value)) z)
    c.value_in.ensures) (ap (λ (z : BuiltValue). z.answer) c.get.ensures) refl
