-- The parts of the value terminals that test: the test, the arm that is a value for all of them, and a second arm.
use Rattle.std.specs.Prelude.{◌≡◌, Bool, true, false, List, ◌++◌, Option}
use Rattle.rc_names.specs.Numbers.{BlockId}
use Rattle.rc_names.specs.declared.span.Span.{Span}
use Rattle.rc_hir.specs.Model.{LogicalOperator, HirFunction, Environment}
use Rattle.rc_runs.specs.ListContext.{ValueContext}
use Rattle.rc_runs.specs.PlainTree.{Value}
use Rattle.rc_runs.specs.ValueEnd.{ValueEnd, ChoosesBetween, GoesTo}
use Rattle.rc_runs.specs.ShortArms.{shares_alternate}
use Rattle.rc_runs.specs.ValueGrammar.{SpellsValue}
use Rattle.rc_build.specs.declared.values.BuiltValue.{BuiltValue}
use Rattle.rc_build.specs.declared.values.TestArms.{TestArms}
use Rattle.rc_build.specs.declared.value_terminals.ValueKind.{ValueKind}
use Rattle.rc_build.specs.declared.value_terminals.ValueKind.TheVariants as kinds
use Rattle.rc_build.specs.inside.Task.{Progress}
use Rattle.rc_build.specs.inside.Values.{HasArms, HasNoValue, ValueBuilt}

-- the context of a part of a value terminal with that span
abbrev pub in_part : Option Span → Option BlockId → Bool → ValueContext
in_part span handler is_test = record { around = span; handler = handler; is_test = is_test }

-- an arm is spelled
pub record ArmSpelled (hir : HirFunction) (env : Environment) (key next : BlockId) (span : Option Span)
    (handler : Option BlockId) (used : List BlockId) : Type 0 where
  pub value : Value
  pub end : ValueEnd
  pub spelled : SpellsValue hir env key (in_part span handler false) value end used
  pub goes : GoesTo next end

-- a test with its first arm and the blocks that are used after them: those of a second arm, but for the test of an
-- optional, which shares its alternate
pub record TestParts (hir : HirFunction) (env : Environment) (test fallthrough : BlockId) (span : Option Span)
    (handler : Option BlockId) (is_test : Bool) (blocks : List BlockId) : Type 0 where
  pub condition : Value
  pub condition_end : ValueEnd
  pub test_used : List BlockId
  pub consequent : BlockId
  pub alternate : BlockId
  pub tested : SpellsValue hir env test (in_part span handler is_test) condition condition_end test_used
  pub choice : ChoosesBetween env consequent alternate condition_end
  pub value_used : List BlockId
  pub first : ArmSpelled hir env consequent fallthrough span handler value_used
  pub rest : List BlockId
  pub second : is_test ≡ false → ArmSpelled hir env alternate fallthrough span handler rest
  pub shared : is_test ≡ true → shares_alternate condition_end.left_open alternate ≡ true
  pub whole : blocks ≡ test_used ++ (value_used ++ rest)

-- the kinds of value terminals that test, with the block of the test, and whether the test is that of an optional
pub data Tests : ValueKind → BlockId → Bool → Type 0 where
  ternary_tests : {test : BlockId} → Tests (kinds.Ternary test) test false
  logical_tests : {operator : LogicalOperator} {test : BlockId} → Tests (kinds.Logical operator test) test false
  optional_tests : {optional : Bool} {test : BlockId} → Tests (kinds.Optional optional test) test true

-- an arm is built
abbrev pub ArmBuilt : HirFunction → Environment → BlockId → BlockId → Option Span → Option BlockId → BuiltValue
    → Progress → Progress → Type 0
ArmBuilt hir env key next span handler built old new =
    ValueBuilt hir env key (in_part span handler false) (GoesTo next) built old new

-- no arm is spelled
abbrev pub HasNoArm : HirFunction → Environment → BlockId → BlockId → Option Span → Option BlockId → List BlockId
    → Type 0
HasNoArm hir env key next span handler used = HasNoValue hir env key (in_part span handler false) (GoesTo next) used

-- a condition is built
abbrev pub ConditionBuilt : HirFunction → Environment → BlockId → Option Span → Option BlockId → Bool → TestArms
    → BuiltValue → Progress → Progress → Type 0
ConditionBuilt hir env key span handler is_test arms built old new =
    ValueBuilt hir env key (in_part span handler is_test) (HasArms env arms) built old new

-- the choice of a condition that is built
abbrev pub choice_of : {env : Environment} {arms : TestArms} {end : ValueEnd} → HasArms env arms end
    → ChoosesBetween env arms.consequent arms.alternate end
choice_of {arms = arms} h =
    record { test = arms.test; id = h.id; span = arms.span; chooses = h.chooses; answers = h.answers }
