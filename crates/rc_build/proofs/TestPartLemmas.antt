-- The parts of the value terminals that test: when they can be built, and that a terminal has those that were built.
use Rattle.std.proofs.Common.{◌≡◌, ◌≤◌, Bool, true, false, List, [], ◌∷◌, ◌++◌, Option, refl, sym, ap, ◌∙◌, subst}
use Rattle.std.proofs.Common.{arith}
use Rattle.std.proofs.lemmas.Bool.{false≢true}
use Rattle.std.proofs.lemmas.List.{append-nil}
use Rattle.rc_names.specs.Numbers.{BlockId, EvaluationOrder, is_among}
use Rattle.rc_names.specs.declared.span.Span.{Span}
use Rattle.rc_hir.specs.Model.{LogicalOperator, HirFunction, Environment}
use Rattle.rc_hir.specs.declared.terminal.Terminal.TheVariants as terminals
use Rattle.rc_runs.specs.PlainTree.{Value}
use Rattle.rc_runs.specs.Spelled.{AreSound}
use Rattle.rc_runs.specs.ValueEnd.{ValueEnd, ChoosesBetween, GoesTo}
use Rattle.rc_runs.specs.ShortArms.{SpellsSilentArm, shares_alternate}
use Rattle.rc_runs.specs.ValueGrammar.{Nested, SpellsNested, SpellsValue, ternary_value, logical_value, optional_value}
use Rattle.rc_runs.proofs.OneValue.{one_choice, one_value}
use Rattle.rc_build.specs.declared.values.BuiltValue.{BuiltValue}
use Rattle.rc_build.specs.declared.values.TestArms.{TestArms}
use Rattle.rc_build.specs.declared.value_terminals.ValueKind.{ValueKind}
use Rattle.rc_build.specs.References.{Arm, blocks_as, referenced_blocks, value_references}
use Rattle.rc_build.specs.TerminalForms.{branch_alternate}
use Rattle.rc_build.specs.BlockFacts.{BlockIs, IsReferredAs, IsValueReferenced, times_referenced}
use Rattle.rc_build.specs.inside.CanBuild.{AreReferenced}
use Rattle.rc_build.specs.inside.Marks.{MarksBlocks}
use Rattle.rc_build.specs.inside.Setting.{Setting}
use Rattle.rc_build.specs.inside.SilentArms.{CanCheckSilent}
use Rattle.rc_build.specs.inside.Task.{Progress}
use Rattle.rc_build.specs.inside.ValueKinds.{terminal_with}
use Rattle.rc_build.specs.inside.ShortArms.{IsShort, alternate_of}
use Rattle.rc_build.specs.inside.Values.{CanBuildValue, HasNoValue, IsChoice}
use Rattle.rc_build.proofs.BuiltLemmas.{marking_drop, refused_back, refused_front}
use Rattle.rc_build.proofs.LoopKindLemmas.{among_first}
use Rattle.rc_build.proofs.MarksLemmas.{among_back, references_le, referenced_fewer, times_among, times_append}
use Rattle.rc_build.proofs.SilentArmLemmas.{usable_there}
use Rattle.rc_build.proofs.SilentValueLemmas.{silent_goes}
use Rattle.rc_build.proofs.ValueLemmas.{value_block}
use Rattle.rc_build.proofs.WalkLemmas.{none_used}
use Rattle.rc_build.specs.inside.TestParts.{in_part, ArmSpelled, TestParts, Tests, ternary_tests, logical_tests}
use Rattle.rc_build.specs.inside.TestParts.{optional_tests, ArmBuilt, HasNoArm, ConditionBuilt, choice_of}

-- a used block is referred to
referenced_used : (hir : HirFunction) (used pending : List BlockId) (key : BlockId) → AreReferenced hir used pending
    → is_among used key ≡ true → 1 ≤ times_referenced hir key
referenced_used hir used pending key h among =
    omega (arith, h key, times_append key pending used, times_among key used among, references_le hir used key)

module _ {hir : HirFunction} {env : Environment} where
  -- nothing that an arm refers to stays pending
  pub arm_marking : {key next : BlockId} {span : Option Span} {handler : Option BlockId} {built : BuiltValue} {old new : Progress}
      (b : ArmBuilt hir env key next span handler built old new) → MarksBlocks hir (key ∷ []) [] old.marks new.marks b.newly
  arm_marking b = marking_drop hir (λ other. omega arith) b.marking

  module _ {test : BlockId} {span : Option Span} {handler : Option BlockId} {is_test : Bool} {arms : TestArms} {tested : BuiltValue}
      {old mid : Progress} (b : ConditionBuilt hir env test span handler is_test arms tested old mid) where
    -- both arms stay pending after a condition
    pub condition_marking :
        MarksBlocks hir (test ∷ []) (arms.consequent ∷ arms.alternate ∷ []) old.marks mid.marks b.newly
    condition_marking = subst (λ t. MarksBlocks hir (test ∷ []) (referenced_blocks t) old.marks mid.marks b.newly)
        b.ends.chooses b.marking

    -- the `Branch` of the condition
    branch_here : BlockIs hir tested.block (λ block. block.terminal
        ≡ terminals.Branch arms.test arms.consequent arms.alternate b.ends.id arms.span)
    branch_here = record {
      block = b.is.at_end.here.block;
      found = b.is.at_end.here.found;
      holds = b.is.at_end.here.holds ∙ b.ends.chooses;
    }

    pub valued_arm : (key : BlockId) → is_among (arms.consequent ∷ arms.alternate ∷ []) key ≡ true
        → IsValueReferenced hir key
    valued_arm key among = (
      tested.block,
      record {
        block = branch_here.block;
        found = branch_here.found;
        holds = ap (λ t. is_among (value_references t) key) branch_here.holds ∙ among;
      },
    )

    pub branch_arm : (key : BlockId) → is_among (arms.consequent ∷ arms.alternate ∷ []) key ≡ true
        → IsReferredAs Arm hir key
    branch_arm key among = (
      tested.block,
      record {
        block = branch_here.block;
        found = branch_here.found;
        holds = ap (λ t. is_among (blocks_as Arm t) key) branch_here.holds ∙ among;
      },
    )

    -- its alternate may be a short arm
    pub short_arm : IsShort hir (record { alternate = arms.alternate; branch = tested.block })
    short_arm = record {
      referenced = b.is.at_end.referenced;
      here = record {
        block = branch_here.block;
        found = branch_here.found;
        holds = ap branch_alternate branch_here.holds;
      };
    }

    among_second : is_among (arms.consequent ∷ arms.alternate ∷ []) arms.alternate ≡ true
    among_second = among_back (arms.consequent ∷ []) (arms.alternate ∷ []) arms.alternate (among_first arms.alternate [])

    module _ (fallthrough : BlockId)
        (pending : AreReferenced hir old.marks.used (test ∷ fallthrough ∷ [])) where
      -- the first arm can be built
      pub first_can : CanBuildValue hir mid.marks arms.consequent
      first_can = record {
        can = record {
          marked = b.marking.marked;
          handled = tt;
          referenced = referenced_fewer hir mid.marks.used (arms.consequent ∷ [])
              (arms.consequent ∷ arms.alternate ∷ fallthrough ∷ []) (λ other. omega arith)
              (condition_marking.referenced (fallthrough ∷ []) pending);
          used_before = none_used mid.marks;
          owned = tt;
        };
        referenced = valued_arm arms.consequent (among_first arms.consequent (arms.alternate ∷ []));
      }

      -- after it, the used blocks can be looked at
      pub silent_can : {first : BuiltValue} {new : Progress}
          → ArmBuilt hir env arms.consequent fallthrough span handler first mid new
          → CanCheckSilent hir new.marks arms.consequent
      silent_can {new = new} f =
          let at = value_block f.spelled in record {
            referenced = λ key used. referenced_used hir new.marks.used (arms.alternate ∷ fallthrough ∷ []) key
                ((arm_marking f).referenced (arms.alternate ∷ fallthrough ∷ [])
                (condition_marking.referenced (fallthrough ∷ []) pending)) used;
            arm_is = branch_arm arms.consequent (among_first arms.consequent (arms.alternate ∷ []));
            there = usable_there hir arms.consequent at.whole at.usable;
          }

      -- and the second one can be built after it
      pub second_can : {first : BuiltValue} {new : Progress}
          → ArmBuilt hir env arms.consequent fallthrough span handler first mid new → CanBuildValue hir new.marks arms.alternate
      second_can {new = new} f = record {
        can = record {
          marked = f.marking.marked;
          handled = tt;
          referenced = referenced_fewer hir new.marks.used (arms.alternate ∷ []) (arms.alternate ∷ fallthrough ∷ [])
              (λ other. omega arith) ((arm_marking f).referenced (arms.alternate ∷ fallthrough ∷ [])
              (condition_marking.referenced (fallthrough ∷ []) pending));
          used_before = none_used new.marks;
          owned = tt;
        };
        referenced = valued_arm arms.alternate among_second;
      }

    module _ {fallthrough : BlockId} {blocks : List BlockId} (p : TestParts hir env test fallthrough span handler is_test blocks)
      where
        -- the parts of a terminal have the condition that was built
        one_tested : (p.condition ≡ b.value) × (p.condition_end ≡ b.end) × (p.test_used ≡ b.newly)
        one_tested = one_value p.tested b.spelled

        pub one_arms : (p.consequent ≡ arms.consequent) × (p.alternate ≡ arms.alternate) × (p.choice.span ≡ arms.span)
        one_arms = one_choice one_tested.1 p.choice (choice_of b.ends)

        first_there : ArmSpelled hir env arms.consequent fallthrough span handler p.value_used
        first_there = subst (λ z. ArmSpelled hir env z fallthrough span handler p.value_used) one_arms.0 p.first

        behind_test : AreSound hir (old.marks.used ++ blocks) → AreSound hir (mid.marks.used ++ (p.value_used ++ p.rest))
        behind_test sound = refused_back hir old.marks.used b.newly (p.value_used ++ p.rest) sound
            (p.whole ∙ ap (λ z. z ++ (p.value_used ++ p.rest)) one_tested.2) b.marking.used

        -- and the first arm
        pub one_first : {first : BuiltValue} {new : Progress}
            → (f : ArmBuilt hir env arms.consequent fallthrough span handler first mid new) → p.value_used ≡ f.newly
        one_first f = (one_value first_there.spelled f.spelled).2

        pub first_refused : HasNoArm hir env arms.consequent fallthrough span handler mid.marks.used
            → AreSound hir (old.marks.used ++ blocks) → ⊥
        first_refused none sound =
            none first_there.value first_there.end p.value_used first_there.spelled first_there.goes
            (refused_front hir mid.marks.used p.value_used p.rest (behind_test sound) refl)

        pub second_refused : {first : BuiltValue} {new : Progress} → is_test ≡ false
            → ArmBuilt hir env arms.consequent fallthrough span handler first mid new
            → HasNoArm hir env arms.alternate fallthrough span handler new.marks.used
            → AreSound hir (old.marks.used ++ blocks) → ⊥
        second_refused is f none sound =
            let s = subst (λ z. ArmSpelled hir env z fallthrough span handler p.rest) one_arms.1 (p.second is) in
            none s.value s.end p.rest s.spelled s.goes
            (refused_back hir mid.marks.used f.newly p.rest (behind_test sound) (ap (λ z. z ++ p.rest) (one_first f)) f.marking.used)

        -- the test leaves the arm open that the terminal shares
        pub shares_same : is_test ≡ true → shares_alternate (alternate_of tested.left_open) arms.alternate ≡ true
        shares_same is = ap (λ z. shares_alternate z arms.alternate)
            (b.is.left ∙ sym (ap (λ (e : ValueEnd). e.left_open) one_tested.1))
            ∙ ap (λ z. shares_alternate p.condition_end.left_open z) (sym one_arms.1) ∙ p.shared is

  arm : {key next : BlockId} {span : Option Span} {handler : Option BlockId} {value : Value} {end : ValueEnd}
      {used : List BlockId} → SpellsValue hir env key (in_part span handler false) value end used → GoesTo next end
      → ArmSpelled hir env key next span handler used
  arm {value = value} {end} d g = record { value = value; end = end; spelled = d; goes = g }

  parts : {test consequent alternate fallthrough : BlockId} {span : Option Span} {handler : Option BlockId}
      {is_test : Bool} {condition : Value} {condition_end : ValueEnd} {test_used value_used rest blocks : List BlockId}
      → SpellsValue hir env test (in_part span handler is_test) condition condition_end test_used
      → ChoosesBetween env consequent alternate condition_end
      → ArmSpelled hir env consequent fallthrough span handler value_used
      → (is_test ≡ false → ArmSpelled hir env alternate fallthrough span handler rest)
      → (is_test ≡ true → shares_alternate condition_end.left_open alternate ≡ true)
      → blocks ≡ test_used ++ (value_used ++ rest) → TestParts hir env test fallthrough span handler is_test blocks
  parts {consequent = a} {alternate = b} {condition = c0} {condition_end = e0} {test_used = x} {value_used = y}
      {rest = z} t c first second shared u = record {
        condition = c0;
        condition_end = e0;
        test_used = x;
        consequent = a;
        alternate = b;
        tested = t;
        choice = c;
        value_used = y;
        first = first;
        rest = z;
        second = second;
        shared = shared;
        whole = u;
      }

  -- a terminal whose test is refused is refused
  pub test_refused : {test fallthrough : BlockId} {span : Option Span} {handler : Option BlockId} {is_test : Bool} (used : List BlockId)
      {blocks : List BlockId} → HasNoValue hir env test (in_part span handler is_test) (IsChoice env) used
      → (p : TestParts hir env test fallthrough span handler is_test blocks) → AreSound hir (used ++ blocks) → ⊥
  test_refused used none p sound = none p.condition p.condition_end p.test_used p.tested (p.consequent, p.alternate, p.choice)
      (refused_front hir used p.test_used (p.value_used ++ p.rest) sound p.whole)

  -- the parts of a logical, whose first arm is silent
  pub logical_parts : {handler : Option BlockId} {operator : LogicalOperator} {test fallthrough : BlockId}
      {id : EvaluationOrder} {span : Option Span} {nested : Nested} {blocks : List BlockId}
      → SpellsNested hir env handler (terminals.Logical operator test fallthrough id span) nested blocks
      → (p : TestParts hir env test fallthrough span handler false blocks)
      × SpellsSilentArm hir env handler fallthrough p.consequent p.value_used
  unfolding parts
  logical_parts (logical_value t c d s e h u) =
      (parts t c (arm d (silent_goes s d)) (λ _. arm e h) (λ e. absurd (false≢true e)) u, s)

  -- the parts of a terminal that tests
  pub tested_parts : {handler : Option BlockId} {kind : ValueKind} {test fallthrough : BlockId} (id : EvaluationOrder)
      {span : Option Span} {is_test : Bool} {nested : Nested} {blocks : List BlockId} → Tests kind test is_test
      → SpellsNested hir env handler (terminal_with kind fallthrough id span) nested blocks
      → TestParts hir env test fallthrough span handler is_test blocks
  tested_parts id ternary_tests (ternary_value t c d g e h u) =
      parts t c (arm d g) (λ _. arm e h) (λ e. absurd (false≢true e)) u
  tested_parts id logical_tests d = (logical_parts d).0
  tested_parts id optional_tests (optional_value {test_used = x} {value_used = y} t c shared d g u) =
      parts t c (arm d g) (λ e. absurd (false≢true (sym e))) (λ _. shared) (u ∙ ap (λ z. x ++ z) (sym (append-nil y)))

-- what is built in the same setting
pub arm_at : {s t : Setting} {key next : BlockId} {span : Option Span} {handler : Option BlockId} {built : BuiltValue}
    {old new : Progress} → s ≡ t → ArmBuilt s.hir s.env key next span handler built old new
    → ArmBuilt t.hir t.env key next span handler built old new
arm_at {key = key} {next} {span} {handler} {built} {old} {new} same b =
    subst (λ (z : Setting). ArmBuilt z.hir z.env key next span handler built old new) same b
