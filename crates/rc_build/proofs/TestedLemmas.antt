-- The value terminals that test, by their kinds: what is asked before their parts are built, and that a terminal of
-- which a part is refused is refused.
use Rattle.std.proofs.Common.{◌≡◌, Bool, [], ◌∷◌, Option, Result, Ok, Err, IsErrAnd, refl, sym, ◌∙◌, subst, false, List}
use Rattle.std.proofs.Common.{drop, length, ℕ}
use Rattle.rc_names.specs.Numbers.{BlockId}
use Rattle.rc_hir.specs.Model.{Fault}
use Rattle.rc_runs.specs.ListContext.{ValueContext}
use Rattle.rc_runs.specs.ValueEnd.{GoesTo, ValueEnd}
use Rattle.rc_build.specs.declared.builder.Builder.{Builder}
use Rattle.rc_build.specs.declared.builder.Site.{Site}
use Rattle.rc_build.specs.declared.values.Around.{Around}
use Rattle.rc_build.specs.declared.values.BuiltValue.{BuiltValue}
use Rattle.rc_build.specs.declared.values.Condition.{Condition}
use Rattle.rc_build.specs.declared.value_terminals.NestedValue.{NestedValue}
use Rattle.rc_build.specs.declared.value_terminals.ValueKind.{ValueKind}
use Rattle.rc_build.specs.declared.value_terminals.ValueTerminal.{ValueTerminal}
use Rattle.rc_build.specs.inside.CanBuild.{AreReferenced}
use Rattle.rc_build.specs.inside.Setting.{Setting, setting_of}
use Rattle.rc_build.specs.inside.SilentArms.{AreArmBlocks, CanCheckSilent}
use Rattle.rc_build.specs.inside.Task.{progress_of}
use Rattle.rc_build.specs.inside.ValueSteps.{around_parts, value_at}
use Rattle.rc_build.specs.inside.ValueTerminals.{BuildsNested}
use Rattle.rc_build.specs.inside.Values.{BuildsCondition, BuildsValue, CanBuildValue}
use Rattle.rc_build.proofs.BuildsLemmas.{passes_on, same_graph}
use Rattle.rc_build.proofs.NestedLemmas.{nested_around}
use Rattle.rc_build.proofs.SilentValueLemmas.{blocks_since}
use Rattle.rc_build.specs.inside.TestParts.{TestParts, ArmBuilt, HasNoArm, Tests}
use Rattle.rc_build.proofs.TestPartLemmas.{one_first, arm_at, first_can, first_refused, second_can, second_refused}
use Rattle.rc_build.proofs.TestPartLemmas.{silent_can, test_refused, tested_parts}

module _ {old new : Builder} {site : Site} {context : ValueContext} {Q : ValueEnd → Type 0}
    {result : Result BuiltValue Fault} {seen condition : Condition} (is : seen ≡ condition) where
  -- an arm of a condition as it is seen in its box
  pub first_seen : BuildsValue old new site seen.arms.consequent context Q result
      → BuildsValue old new site condition.arms.consequent context Q result
  first_seen built =
      subst (λ (z : Condition). BuildsValue old new site z.arms.consequent context Q result) is built

  pub second_seen : BuildsValue old new site seen.arms.alternate context Q result
      → BuildsValue old new site condition.arms.alternate context Q result
  second_seen built =
      subst (λ (z : Condition). BuildsValue old new site z.arms.alternate context Q result) is built

module _ {old mid : Builder} {there : Site} {test : BlockId} {around : Around} {is_test : Bool} {condition : Condition}
    (tested : BuildsCondition old mid there test (value_at around is_test) (Ok condition)) where
  -- the first arm after a condition can be built
  pub first_arm_can : (fallthrough : BlockId) {seen : Condition} → seen ≡ condition
      → AreReferenced old.hir.now old.marks.used (test ∷ fallthrough ∷ [])
      → CanBuildValue mid.hir.now mid.marks seen.arms.consequent
  first_arm_can fallthrough is pending = subst (λ (z : Condition). CanBuildValue mid.hir.now mid.marks z.arms.consequent)
      (sym is) (subst (λ (z : Setting). CanBuildValue z.hir mid.marks condition.arms.consequent)
      (sym tested.frames) (first_can tested.ok fallthrough pending))

  module _ {late : Builder} {first : BuiltValue} {fallthrough : BlockId}
      (f : BuildsValue mid late there condition.arms.consequent (value_at around false) (GoesTo fallthrough) (Ok first))
    where
      -- the setting is as before the condition
      pub same_behind : setting_of late there ≡ setting_of old there
      same_behind = f.frames ∙ tested.frames

      -- the arm, said of what was before the condition
      pub arm_there : ArmBuilt old.hir.now old.env.now condition.arms.consequent fallthrough around.span around.handler
          first (progress_of mid) (progress_of late)
      arm_there = arm_at tested.frames f.ok

      -- the second arm can be built
      pub second_arm_can : {seen : Condition} → seen ≡ condition
          → AreReferenced old.hir.now old.marks.used (test ∷ fallthrough ∷ [])
          → CanBuildValue late.hir.now late.marks seen.arms.alternate
      second_arm_can is pending = subst (λ (z : Condition). CanBuildValue late.hir.now late.marks z.arms.alternate)
          (sym is) (subst (λ (z : Setting). CanBuildValue z.hir late.marks condition.arms.alternate)
          (sym same_behind) (second_can tested.ok fallthrough pending arm_there))

      -- and the blocks of the first one can be looked at
      pub silent_arm_can : {seen : Condition} → seen ≡ condition
          → AreReferenced old.hir.now old.marks.used (test ∷ fallthrough ∷ [])
          → CanCheckSilent late.hir.now late.marks seen.arms.consequent
      silent_arm_can is pending = subst (λ (z : Condition). CanCheckSilent late.hir.now late.marks z.arms.consequent)
          (sym is) (subst (λ (z : Setting). CanCheckSilent z.hir late.marks condition.arms.consequent)
          (sym same_behind) (silent_can tested.ok fallthrough pending arm_there))

      module _ {before : ℕ} (counted : before ≡ length mid.marks.used) where
        newly_since : drop before late.marks.used ≡ arm_there.newly
        newly_since = blocks_since mid.marks.used arm_there.newly counted arm_there.marking.used

        -- the blocks that were marked since the condition are silent, if those of the first arm are
        pub silent_since : {blocks : List BlockId}
            (p : TestParts old.hir.now old.env.now test fallthrough around.span around.handler is_test blocks)
            → AreArmBlocks old.hir.now old.env.now p.value_used
            → AreArmBlocks late.hir.now late.env.now (drop before late.marks.used)
        silent_since p silent = subst (λ (z : Setting). AreArmBlocks z.hir z.env (drop before late.marks.used))
            (sym same_behind) (subst (AreArmBlocks old.hir.now old.env.now)
            (one_first tested.ok p arm_there ∙ sym newly_since) silent)

        -- and those of the first arm are, if they are
        pub first_silent : AreArmBlocks late.hir.now late.env.now (drop before late.marks.used)
            → AreArmBlocks old.hir.now old.env.now arm_there.newly
        first_silent silent = subst (AreArmBlocks old.hir.now old.env.now) newly_since
            (subst (λ (z : Setting). AreArmBlocks z.hir z.env (drop before late.marks.used)) same_behind silent)

module _ {kind : ValueKind} {test : BlockId} {is_test : Bool} (is : Tests kind test is_test) (terminal : ValueTerminal)
    {handler : Option BlockId} {around : Around} (is_around : around ≡ around_parts terminal handler)
    {old new : Builder} {site there : Site} {result : Result NestedValue Fault} {fault : Fault}
    (passed : IsErrAnd result (λ passed. passed ≡ fault)) where
  -- the test is refused
  pub test_fails : {now : Builder} → BuildsCondition old now there test (value_at around is_test) (Err fault)
      → BuildsNested old new site handler (record terminal { kind = kind }) result
  test_fails refused = nested_around terminal handler kind is_around (passes_on passed refl refused
      (λ none nested blocks d sound. test_refused old.marks.used none (tested_parts terminal.id is d) sound))

  module _ {mid : Builder} {condition : Condition}
      (tested : BuildsCondition old mid there test (value_at around is_test) (Ok condition)) where
    -- the first arm is refused
    pub first_fails : {now : Builder} → BuildsValue mid now there condition.arms.consequent (value_at around false)
        (GoesTo terminal.fallthrough) (Err fault)
        → BuildsNested old new site handler (record terminal { kind = kind }) result
    first_fails refused = nested_around terminal handler kind is_around
        (passes_on passed (same_graph tested.frames) refused
        (λ none nested blocks d sound. first_refused tested.ok (tested_parts terminal.id is d) (subst (λ (z : Setting).
        HasNoArm z.hir z.env condition.arms.consequent terminal.fallthrough around.span around.handler mid.marks.used)
        tested.frames none) sound))

    -- the second one is refused
    pub second_fails : {late now : Builder} {first : BuiltValue} → is_test ≡ false
        → BuildsValue mid late there condition.arms.consequent (value_at around false) (GoesTo terminal.fallthrough)
        (Ok first)
        → BuildsValue late now there condition.arms.alternate (value_at around false) (GoesTo terminal.fallthrough)
        (Err fault)
        → BuildsNested old new site handler (record terminal { kind = kind }) result
    second_fails {late} has f refused = nested_around terminal handler kind is_around
        (passes_on passed (same_graph (same_behind tested f)) refused
        (λ none nested blocks d sound. second_refused tested.ok (tested_parts terminal.id is d) has (arm_there tested f)
        (subst (λ (z : Setting). HasNoArm z.hir z.env condition.arms.alternate terminal.fallthrough around.span
        around.handler late.marks.used) (same_behind tested f) none) sound))
