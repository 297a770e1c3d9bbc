use Rattle.std.proofs.Common.{refl, sym, ap, ◌∙◌, subst, arith, length, true, false, Err, ◌≡◌}
use Rattle.rc_hir.specs.declared.fault.Rule.TheVariants as rules
use Rattle.rc_runs.specs.ValueEnd.{GoesTo}
use Rattle.rc_runs.specs.ValueGrammar.{SpellsNested}
use Rattle.rc_build.specs.declared.value_terminals.ValueKind.TheVariants as kinds
use Rattle.rc_build.specs.declared.values.BuiltValue.{BuiltValue}
use Rattle.rc_build.specs.declared.values.Condition.{Condition}
use Rattle.rc_build.specs.inside.Setting.{Setting}
use Rattle.rc_build.specs.inside.ShortArms.{other_arm_of}
use Rattle.rc_build.specs.inside.SilentArms.{CanCheckSilent}
use Rattle.rc_build.specs.inside.Task.{progress_of}
use Rattle.rc_build.specs.inside.TestParts.{logical_tests, optional_tests, ternary_tests}
use Rattle.rc_build.specs.inside.ValueKinds.{terminal_of}
use Rattle.rc_build.specs.inside.ValueLoops.{RowsSoFar}
use Rattle.rc_build.specs.inside.ValueSteps.{value_at}
use Rattle.rc_build.specs.inside.ValueTerminals.{CanBuildNested, NestedBuilt}
use Rattle.rc_build.specs.inside.Values.{CanBuildValue, goes_to}
use Rattle.rc_build.proofs.BuildsLemmas.{any_site, boxed_built, breaks_rule, builds_at, fails_at, is_built, passes_on}
use Rattle.rc_build.proofs.BuildsLemmas.{refused_in, same_graph}
use Rattle.rc_build.proofs.ListLemmas.{as_few_left, fewer_left, same_blocks, used_longer}
use Rattle.rc_build.proofs.NestedLemmas.{logical_built, nested_around, nested_of, optional_built, sequence_built}
use Rattle.rc_build.proofs.NestedLemmas.{sequence_refused, ternary_built}
use Rattle.rc_build.proofs.RowBuiltLemmas.{row_built, row_nested_can, row_refused}
use Rattle.rc_build.proofs.ShortArmLemmas.{other_none, other_some, short_fact}
use Rattle.rc_build.proofs.SilentValueLemmas.{arm_silent}
use Rattle.rc_build.proofs.StepLemmas.{row_can, row_step, throwing_can, throwing_step}
use Rattle.rc_build.proofs.TestPartLemmas.{arm_at, logical_parts, shares_same, tested_parts}
use Rattle.rc_build.proofs.TestedLemmas.{arm_there, first_arm_can, first_fails, first_seen, first_silent, same_behind}
use Rattle.rc_build.proofs.TestedLemmas.{second_arm_can, second_fails, second_seen, silent_arm_can, silent_since}
use Rattle.rc_build.proofs.TestedLemmas.{test_fails}
use Rattle.rc_build.proofs.ValueEndLemmas.{end_elsewhere, ends_as, ends_not, goes_as, goes_not}
use Rattle.rc_build.proofs.ValueKindLemmas.{nested_can}
use Rattle.rc_build.proofs.ValueLoopLemmas.{any_stack, further_can}
use Rattle.rc_build.proofs.ValueLoopLemmas.{rows_further, rows_refused, rows_start}
use Rattle.rc_build.proofs.ValueRowLemmas.{step_starts}
use Rattle.rc_build.proofs.builder.Builder.+values.Goals as goal

-- an arm

pub build_arm-build_value-requires : goal.build_arm-build_value-requires
build_arm-build_value-requires t c = (omega arith, c.requires)

pub build_arm-returns-in_err-built : goal.build_arm-returns-in_err-built
build_arm-returns-in_err-built t c = λ site.
    passes_on c.from_residual.ensures.1 refl (c.in_err-built.ensures site)
    (λ none value end blocks d asked sound. none value end blocks d tt sound)

pub build_arm-returns-then-not-leads_to : goal.build_arm-returns-then-not-leads_to
build_arm-returns-then-not-leads_to t c = λ site.
    let built = c.in_ok-built.ensures site in
    let not = subst (λ (z : BuiltValue). goes_to z.last.now c.args.next ≡ false) c.get.ensures
    (sym c.leads_to.ensures ∙ c.if-not-leads_to.true) in
    breaks_rule _ rules.ValueEnd c.refuse.ensures
    (ends_not built.ok (GoesTo c.args.next) c.args.self.now.marks.used (goes_not built.ok not)) (end_elsewhere built.ok)

pub build_arm-returns : goal.build_arm-returns
build_arm-returns t c = λ site.
    let built = c.in_ok-built.ensures site in
    let goes = subst (λ (z : BuiltValue). goes_to z.last.now c.args.next ≡ true) c.get.ensures
    (sym c.leads_to.ensures ∙ c.if-not-leads_to.false) in
    is_built _ (ends_as built.ok (goes_as built.ok goes)) built.frames

-- a condition

pub build_condition-build_value-requires : goal.build_condition-build_value-requires
build_condition-build_value-requires t c = (omega arith, c.requires)

pub build_condition-returns-in_err-tested : goal.build_condition-returns-in_err-tested
build_condition-returns-in_err-tested t c = λ site.
    passes_on c.from_residual.ensures.1 refl (c.in_err-tested.ensures site)
    (λ none value end blocks d asked sound. none value end blocks d tt sound)

pub build_condition-returns : goal.build_condition-returns
build_condition-returns t c = λ site.
    let built = c.in_ok-tested.ensures site in
    c.choosing.ensures c.args.self.now site c.args.key (value_at c.args.around c.args.is_test)
    (record { ok = built.ok; frames = built.frames })

-- a value: forward

pub build_rows-rows-init : goal.build_rows-rows-init
build_rows-rows-init t c = rows_start c.requires.1 c.requires.0

pub build_rows-build_step-requires : goal.build_rows-build_step-requires
build_rows-build_step-requires t c =
    let s = c.rows.invariant in
    let site = any_site c.args.key in (
      omega (arith, same_blocks c.args.self.now c.rows.self site (s.setting site), used_longer s.marking),
      further_can s c.requires.0 site c.in-Some.step (sym c.step_at.ensures ∙ c.in-Some.is),
    )

pub build_rows-returns-in_err-row : goal.build_rows-returns-in_err-row
build_rows-returns-in_err-row t c = λ site is_test.
    let s = c.rows.invariant in
    passes_on c.from_residual.ensures.1 (same_graph (s.setting site)) (c.in_err-row.ensures site is_test)
    (rows_refused site s)

pub build_rows-rows-preserved : goal.build_rows-rows-preserved
build_rows-rows-preserved t c =
    let site = any_site c.args.key in
    let row = c.in_ok-row.ensures in
    any_stack _ (subst (λ z. RowsSoFar c.args.self.now c.build_step.new.self c.args.key c.args.around
    c.put_waiting.new.pending z) (sym c.in_ok-at.ensures.next)
    (subst (λ z. RowsSoFar c.args.self.now c.build_step.new.self c.args.key c.args.around z c.in_ok-row.row.next)
    (sym c.in_ok-at.ensures.put)
    (rows_further site (λ site. (row site false).frames) c.rows.invariant (row site false).ok)))

pub build_rows-rows-smaller : goal.build_rows-rows-smaller
build_rows-rows-smaller t c =
    let site = any_site c.args.key in
    let row = c.in_ok-row.ensures site false in
    let used = ap length (step_starts row.ok.is).1 in
    omega (arith, fewer_left row row.ok.marking.marked (omega (arith, used_longer row.ok.marking, used)))

pub build_rows-returns : goal.build_rows-returns
build_rows-returns t c = λ site is_test.
    let s = c.rows.invariant in
    is_built _ (record { so_far = s; can = c.requires.0; ends = sym c.step_at.ensures ∙ c.in_default.is }) (s.setting site)

-- and back

pub build_value-build_rows-requires : goal.build_value-build_rows-requires
build_value-build_rows-requires t c = (omega arith, (c.requires, c.new-pending.ensures))

pub build_value-returns-in-Err : goal.build_value-returns-in-Err
build_value-returns-in-Err t c = λ site. passes_on refl refl (c.in-Err.ensures site c.args.is_test) (λ none. none)

pub build_value-build_back-requires : goal.build_value-build_back-requires
build_value-build_back-requires t c =
    let end = (c.in-Ok.ensures (any_site c.args.key) c.args.is_test).ok in
    (c.args.self.now, c.args.key, record { so_far = any_stack _ end.so_far; can = end.can; ends = end.ends })

pub build_value-returns-in-Ok : goal.build_value-returns-in-Ok
build_value-returns-in-Ok t c =
    let end = (c.in-Ok.ensures (any_site c.args.key) c.args.is_test).ok in
    c.build_back.ensures c.args.self.now c.args.key
    (record { so_far = any_stack _ end.so_far; can = end.can; ends = end.ends })

-- a step

pub build_step-build_row-requires : goal.build_step-build_row-requires
build_step-build_row-requires t c = (omega arith, row_can c.in-Nested.terminal c.in-Nested.is c.requires)

pub build_step-returns-in-Nested : goal.build_step-returns-in-Nested
build_step-returns-in-Nested t c = λ site is_test. builds_at site.block (λ row b. row_step b)
    (λ none. none) (c.build_row.ensures site is_test)

pub build_step-build_throwing-requires : goal.build_step-build_throwing-requires
build_step-build_throwing-requires t c = throwing_can c.in-Throws.throw c.in-Throws.is c.requires

pub build_step-returns-in-Throws : goal.build_step-returns-in-Throws
build_step-returns-in-Throws t c = λ site is_test. builds_at site.block (λ row b. throwing_step b)
    (λ none. none) (c.build_throwing.ensures site (value_at c.args.around is_test) refl)

-- a row

pub build_row-returns-in_err-rows : goal.build_row-returns-in_err-rows
build_row-returns-in_err-rows t c = λ site is_test.
    passes_on c.from_residual-in_err-rows.ensures.1 refl (c.in_err-rows.ensures site c.args.around is_test) (λ none. none)

pub build_row-build_nested-requires : goal.build_row-build_nested-requires
build_row-build_nested-requires t c =
    let mid = c.begin_row.new.self in
    let begun = c.in_ok-rows.ensures (any_site c.args.key) c.args.around false in
    let b = begun.ok in (
      omega (arith, fewer_left begun b.marked.marking.marked (omega (arith, used_longer b.marked.marking))),
      subst (λ (z : Setting). CanBuildNested z.hir mid.marks c.args.terminal) (sym begun.frames)
          (row_nested_can c.args.key c.args.terminal b.block b.found c.requires refl b.marked),
    )

pub build_row-returns-in-Err : goal.build_row-returns-in-Err
build_row-returns-in-Err t c = λ site is_test.
    let old = c.args.self.now in
    let mid = c.begin_row.new.self in
    let begun = c.in_ok-rows.ensures site c.args.around is_test in
    let b = begun.ok in
    passes_on refl (same_graph begun.frames) (c.in-Err.ensures site)
    (λ none. row_refused c.args.key c.args.terminal b.block b.found c.requires refl b.marked old.env.now c.args.around
    is_test (refused_in (λ z. SpellsNested z.hir z.env c.args.around.handler (terminal_of c.args.terminal))
    mid.marks.used begun.frames none))

pub build_row-returns-in_ok-end_row-in-Ok : goal.build_row-returns-in_ok-end_row-in-Ok
build_row-returns-in_ok-end_row-in-Ok t c = λ site is_test.
    let begun = c.in_ok-rows.ensures site c.args.around is_test in
    let b = begun.ok in
    let nested = c.in-Ok.ensures site in
    boxed_built c.in_ok-end_row-in-Ok.ensures
    (row_built c.args.key c.args.terminal b.block b.found c.requires refl b.marked b.own b.rows b.set
    (subst (λ (z : Setting). NestedBuilt z.hir z.env c.args.around.handler c.args.terminal c.in-Ok.nested
    (progress_of c.begin_row.new.self) (progress_of c.build_nested.new.self)) begun.frames nested.ok))
    (nested.frames ∙ begun.frames)

-- the value of a value terminal

pub build_nested-returns-in-Sequence : goal.build_nested-returns-in-Sequence
build_nested-returns-in-Sequence t c = λ site.
    nested_of c.args.terminal c.in-Sequence.is (c.build_sequence.ensures site)

pub build_nested-returns-in-Ternary : goal.build_nested-returns-in-Ternary
build_nested-returns-in-Ternary t c = λ site. nested_of c.args.terminal c.in-Ternary.is (c.build_ternary.ensures site)

pub build_nested-returns-in-Logical : goal.build_nested-returns-in-Logical
build_nested-returns-in-Logical t c = λ site. nested_of c.args.terminal c.in-Logical.is (c.build_logical.ensures site)

pub build_nested-returns-in-Optional : goal.build_nested-returns-in-Optional
build_nested-returns-in-Optional t c = λ site.
    nested_of c.args.terminal c.in-Optional.is (c.build_optional.ensures site)

-- a sequence

pub build_sequence-build_arm-requires : goal.build_sequence-build_arm-requires
build_sequence-build_arm-requires t c = (omega arith, nested_can c.requires)

pub build_sequence-returns-in_err-built : goal.build_sequence-returns-in_err-built
build_sequence-returns-in_err-built t c = λ site.
    nested_around c.args.terminal c.args.handler (kinds.Sequence c.args.block) c.around-around.ensures
    (passes_on c.from_residual.ensures.1 refl (c.in_err-built.ensures site)
    (sequence_refused c.args.self.now.marks.used))

pub build_sequence-returns : goal.build_sequence-returns
build_sequence-returns t c = λ site.
    let built = c.in_ok-built.ensures site in
    nested_around c.args.terminal c.args.handler (kinds.Sequence c.args.block) c.around-around.ensures
    (boxed_built c.in_ok-in_sequence.ensures (sequence_built built.ok) built.frames)

-- a ternary

pub build_ternary-build_condition-requires : goal.build_ternary-build_condition-requires
build_ternary-build_condition-requires t c = (omega arith, nested_can c.requires)

pub build_ternary-returns-in_err-condition : goal.build_ternary-returns-in_err-condition
build_ternary-returns-in_err-condition t c = λ site.
    test_fails ternary_tests c.args.terminal c.around-around.ensures c.from_residual.ensures.1
    (c.in_err-condition.ensures site)

pub build_ternary-build_arm-requires : goal.build_ternary-build_arm-requires
build_ternary-build_arm-requires t c =
    let tested = c.in_ok-condition.ensures (any_site c.args.test) in (
      omega (arith, as_few_left tested tested.ok.marking),
      first_arm_can tested c.args.terminal.fallthrough c.get.ensures c.requires.referenced,
    )

pub build_ternary-returns-in-Err : goal.build_ternary-returns-in-Err
build_ternary-returns-in-Err t c = λ site.
    first_fails ternary_tests c.args.terminal c.around-around.ensures refl
    (c.in_ok-condition.ensures site) (first_seen c.get.ensures (c.in-Err.ensures site))

pub build_ternary-build_arm-requires-2 : goal.build_ternary-build_arm-requires-2
build_ternary-build_arm-requires-2 t c =
    let tested = c.in_ok-condition.ensures (any_site c.args.test) in
    let first = first_seen c.get.ensures (c.in-Ok.ensures (any_site c.args.test)) in (
      omega (arith, as_few_left tested tested.ok.marking, as_few_left first first.ok.marking),
      second_arm_can tested first c.get.ensures c.requires.referenced,
    )

pub build_ternary-returns-in-Err-build_arm : goal.build_ternary-returns-in-Err-build_arm
build_ternary-returns-in-Err-build_arm t c = λ site.
    second_fails ternary_tests c.args.terminal c.around-around.ensures refl (c.in_ok-condition.ensures site) refl
    (first_seen c.get.ensures (c.in-Ok.ensures site)) (second_seen c.get.ensures (c.in-Err-build_arm.ensures site))

pub build_ternary-returns-in_ok-conditional-in-Ok-build_arm : goal.build_ternary-returns-in_ok-conditional-in-Ok-build_arm
build_ternary-returns-in_ok-conditional-in-Ok-build_arm t c = λ site.
    let tested = c.in_ok-condition.ensures site in
    let first = first_seen c.get.ensures (c.in-Ok.ensures site) in
    let second = second_seen c.get.ensures (c.in-Ok-build_arm.ensures site) in
    let same = same_behind tested first in
    nested_around c.args.terminal c.args.handler (kinds.Ternary c.args.test) c.around-around.ensures
    (boxed_built c.in_ok-conditional-in-Ok-build_arm.ensures
    (ternary_built tested.ok (arm_there tested first) (arm_at same second.ok)) (second.frames ∙ same))

-- a logical

pub build_logical-build_condition-requires : goal.build_logical-build_condition-requires
build_logical-build_condition-requires t c = (omega arith, nested_can c.requires)

pub build_logical-returns-in_err-condition : goal.build_logical-returns-in_err-condition
build_logical-returns-in_err-condition t c = λ site.
    test_fails logical_tests c.args.terminal c.around-around.ensures c.from_residual.ensures.1
    (c.in_err-condition.ensures site)

pub build_logical-build_arm-requires : goal.build_logical-build_arm-requires
build_logical-build_arm-requires t c =
    let tested = c.in_ok-condition.ensures (any_site c.args.test) in (
      omega (arith, as_few_left tested tested.ok.marking),
      first_arm_can tested c.args.terminal.fallthrough c.get.ensures c.requires.referenced,
    )

pub build_logical-returns-in-Err : goal.build_logical-returns-in-Err
build_logical-returns-in-Err t c = λ site.
    first_fails logical_tests c.args.terminal c.around-around.ensures refl
    (c.in_ok-condition.ensures site) (first_seen c.get.ensures (c.in-Err.ensures site))

pub build_logical-check_silent_since-requires : goal.build_logical-check_silent_since-requires
build_logical-check_silent_since-requires t c =
    let site = any_site c.args.test in
    silent_arm_can (c.in_ok-condition.ensures site) (first_seen c.get.ensures (c.in-Ok.ensures site)) c.get.ensures
    c.requires.referenced

pub build_logical-returns-in-Err-check_silent_since : goal.build_logical-returns-in-Err-check_silent_since
build_logical-returns-in-Err-check_silent_since t c = λ site.
    let checked = c.in-Err-check_silent_since.ensures in
    let tested = c.in_ok-condition.ensures site in
    let first = first_seen c.get.ensures (c.in-Ok.ensures site) in
    nested_around c.args.terminal c.args.handler (kinds.Logical c.args.operator c.args.test) c.around-around.ensures
    (fails_at c.build_arm.new.self.hir.now refl (same_graph (same_behind tested first)) checked.facts
    (λ named rule e nested blocks d sound. let p = logical_parts d in checked.refused named rule (ap Err e)
    (silent_since tested first c.len-before.ensures p.0 (arm_silent p.1))))

pub build_logical-build_arm-requires-2 : goal.build_logical-build_arm-requires-2
build_logical-build_arm-requires-2 t c =
    let tested = c.in_ok-condition.ensures (any_site c.args.test) in
    let first = first_seen c.get.ensures (c.in-Ok.ensures (any_site c.args.test)) in (
      omega (arith, as_few_left tested tested.ok.marking, as_few_left first first.ok.marking),
      second_arm_can tested first c.get.ensures c.requires.referenced,
    )

pub build_logical-returns-in-Err-build_arm : goal.build_logical-returns-in-Err-build_arm
build_logical-returns-in-Err-build_arm t c = λ site.
    second_fails logical_tests c.args.terminal c.around-around.ensures refl (c.in_ok-condition.ensures site) refl
    (first_seen c.get.ensures (c.in-Ok.ensures site)) (second_seen c.get.ensures (c.in-Err-build_arm.ensures site))

pub build_logical-returns-in_ok-logical-in-Ok-build_arm : goal.build_logical-returns-in_ok-logical-in-Ok-build_arm
build_logical-returns-in_ok-logical-in-Ok-build_arm t c = λ site.
    let tested = c.in_ok-condition.ensures site in
    let first = first_seen c.get.ensures (c.in-Ok.ensures site) in
    let second = second_seen c.get.ensures (c.in-Ok-build_arm.ensures site) in
    let arm = arm_there tested first in
    let same = same_behind tested first in
    nested_around c.args.terminal c.args.handler (kinds.Logical c.args.operator c.args.test) c.around-around.ensures
    (boxed_built (c.in_ok-logical-in-Ok-build_arm.ensures c.args.self.now.hir.now _ _ _ _ tested.ok.is arm.is)
    (logical_built tested.ok arm (arm_at same second.ok)
    (first_silent tested first c.len-before.ensures c.in_default.ensures.ok)) (second.frames ∙ same))

-- an optional

pub build_optional-build_condition-requires : goal.build_optional-build_condition-requires
build_optional-build_condition-requires t c = (omega arith, nested_can c.requires)

pub build_optional-returns-in_err-condition : goal.build_optional-returns-in_err-condition
build_optional-returns-in_err-condition t c = λ site.
    test_fails optional_tests c.args.terminal c.around-around.ensures c.from_residual.ensures.1
    (c.in_err-condition.ensures site)

pub build_optional-returns-in-Some : goal.build_optional-returns-in-Some
build_optional-returns-in-Some t c = λ site.
    let tested = c.in_ok-condition.ensures site in
    let condition = c.in_ok-condition.condition in
    let other = ap (λ (z : Condition). other_arm_of z.tested.left_open z.arms.alternate) (sym c.get.ensures)
    ∙ sym c.other_arm.ensures ∙ c.in-Some.is in
    nested_around c.args.terminal c.args.handler (kinds.Optional c.args.optional c.args.test) c.around-around.ensures
    (breaks_rule c.in-Some.branch rules.ShortArm c.malformed.ensures (λ nested blocks d sound.
    let yes = shares_same tested.ok (tested_parts c.args.terminal.id optional_tests d) refl in
    let no = other_some condition.tested.left_open condition.arms.alternate c.in-Some.branch other in
    let bad : ⊥ = cc in bad)
    (short_fact c.args.self.now.hir.now condition.tested.left_open condition.arms.alternate c.in-Some.branch
    tested.ok.is.short other))

pub build_optional-build_arm-requires : goal.build_optional-build_arm-requires
build_optional-build_arm-requires t c =
    let tested = c.in_ok-condition.ensures (any_site c.args.test) in (
      omega (arith, as_few_left tested tested.ok.marking),
      first_arm_can tested c.args.terminal.fallthrough c.get-2.ensures c.requires.referenced,
    )

pub build_optional-returns-in-Err : goal.build_optional-returns-in-Err
build_optional-returns-in-Err t c = λ site.
    first_fails optional_tests c.args.terminal c.around-around.ensures refl
    (c.in_ok-condition.ensures site) (first_seen c.get-2.ensures (c.in-Err.ensures site))

pub build_optional-returns-in_ok-optional_value-in-Ok : goal.build_optional-returns-in_ok-optional_value-in-Ok
build_optional-returns-in_ok-optional_value-in-Ok t c = λ site.
    let tested = c.in_ok-condition.ensures site in
    let condition = c.in_ok-condition.condition in
    let first = first_seen c.get-2.ensures (c.in-Ok.ensures site) in
    let arm = arm_there tested first in
    let none = ap (λ (z : Condition). other_arm_of z.tested.left_open z.arms.alternate) (sym c.get.ensures)
    ∙ sym c.other_arm.ensures ∙ c.in_default.is in
    nested_around c.args.terminal c.args.handler (kinds.Optional c.args.optional c.args.test) c.around-around.ensures
    (boxed_built (c.in_ok-optional_value-in-Ok.ensures c.args.self.now.hir.now _ _ _ _ tested.ok.is arm.is)
    (optional_built tested.ok arm (other_none condition.tested.left_open condition.arms.alternate none))
    (same_behind tested first))
