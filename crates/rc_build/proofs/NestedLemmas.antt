-- What the builder ensures of the four value terminals, once their parts are built.
use Rattle.std.proofs.Common.{◌≡◌, Bool, true, false, List, [], ◌∷◌, ◌++◌, Option, Some, None, refl, sym, ap, ◌∙◌}
use Rattle.std.proofs.Common.{subst, Result, arith, IfOk}
use Rattle.rc_names.specs.Numbers.{BlockId, EvaluationOrder}
use Rattle.rc_names.specs.declared.span.Span.{Span}
use Rattle.rc_hir.specs.Model.{LogicalOperator, Fault, HirFunction, Environment, Place}
use Rattle.rc_hir.specs.declared.terminal.Terminal.TheVariants as terminals
use Rattle.rc_tree.specs.Model.{ReactiveValue}
use Rattle.rc_tree.specs.declared.value.ReactiveValue.TheVariants as reactive_values
use Rattle.rc_runs.specs.PlainTree.{Conditional, Logical, Optional, Sequence, Row, NoRows}
use Rattle.rc_runs.specs.TreeOf.{value_of}
use Rattle.rc_runs.specs.ShortArms.{shares_alternate}
use Rattle.rc_runs.specs.ValueGrammar.{SpellsNested, sequence_value, ternary_value, logical_value, optional_value}
use Rattle.rc_build.specs.declared.builder.Builder.{Builder}
use Rattle.rc_build.specs.declared.builder.Site.{Site}
use Rattle.rc_build.specs.declared.short_arms.ShortArm.{ShortArm}
use Rattle.rc_build.specs.declared.values.Around.{Around}
use Rattle.rc_build.specs.declared.values.BuiltValue.{BuiltValue}
use Rattle.rc_build.specs.declared.values.TestArms.{TestArms}
use Rattle.rc_build.specs.declared.value_terminals.NestedValue.{NestedValue}
use Rattle.rc_build.specs.declared.value_terminals.ValueKind.{ValueKind}
use Rattle.rc_build.specs.declared.value_terminals.ValueKind.TheVariants as kinds
use Rattle.rc_build.specs.declared.value_terminals.ValueTerminal.{ValueTerminal}
use Rattle.rc_build.specs.inside.Built.{Refused}
use Rattle.rc_build.specs.inside.Marks.{MarksBlocks}
use Rattle.rc_build.specs.inside.Task.{Progress}
use Rattle.rc_build.specs.inside.SilentArms.{AreArmBlocks}
use Rattle.rc_build.specs.inside.ValueKinds.{with_kind}
use Rattle.rc_build.specs.inside.ValueSteps.{around_parts}
use Rattle.rc_build.specs.inside.ValueTerminals.{BuildsNested, NestedBuilt}
use Rattle.rc_build.specs.inside.ShortArms.{alternate_of}
use Rattle.rc_build.proofs.BuiltLemmas.{marking_beside, marking_drop, marking_then}
use Rattle.rc_build.specs.inside.TestParts.{ArmBuilt, ConditionBuilt, HasNoArm, choice_of}
use Rattle.rc_build.proofs.TestPartLemmas.{arm_marking, condition_marking, short_arm}
use Rattle.rc_build.proofs.SilentValueLemmas.{silent_arm}
use Rattle.rc_build.proofs.ValueLoopLemmas.{marking_kept}

module _ {hir : HirFunction} {env : Environment} {fallthrough test : BlockId} {span : Option Span} {handler : Option BlockId} {is_test : Bool}
    {arms : TestArms} {tested first second : BuiltValue} {old mid late new : Progress}
    (b : ConditionBuilt hir env test span handler is_test arms tested old mid)
    (f : ArmBuilt hir env arms.consequent fallthrough span handler first mid late)
    (s : ArmBuilt hir env arms.alternate fallthrough span handler second late new) where
  -- the blocks of a test and of two arms are marked
  pub arms_marking : MarksBlocks hir (test ∷ fallthrough ∷ []) (fallthrough ∷ []) old.marks new.marks
      (b.newly ++ (f.newly ++ s.newly))
  arms_marking = marking_then hir (marking_kept (fallthrough ∷ []) (condition_marking b))
      (marking_then hir (marking_beside hir (arm_marking f)) (marking_beside hir (arm_marking s)))

module _ {hir : HirFunction} {env : Environment} {fallthrough : BlockId} {id : EvaluationOrder} {span : Option Span}
    {handler : Option BlockId} where
  pub sequence_built : {block : BlockId} {built : BuiltValue} {old new : Progress}
      → ArmBuilt hir env block fallthrough span handler built old new
      → NestedBuilt hir env handler (with_kind (kinds.Sequence block) fallthrough id span)
      (record { value = built.value; answer = built.answer; short = None }) old new
  sequence_built b = record {
    nested = record {
      fallthrough = fallthrough;
      id = id;
      span = span;
      value = b.value;
      answer = b.end.answer;
      short = None;
    };
    newly = b.newly;
    is = record { is = b.is.is; answer = b.is.answer; left = refl; short = tt };
    spelled = sequence_value b.spelled b.ends;
    marking = marking_beside hir (arm_marking b);
    kept = b.kept;
  }

  pub sequence_refused : {block : BlockId} (used : List BlockId) → HasNoArm hir env block fallthrough span handler used
      → Refused hir (SpellsNested hir env handler (terminals.Sequence block fallthrough id span)) used
  sequence_refused used none nested blocks (sequence_value {value = v} {end = e} d g) sound = none v e blocks d g sound

  module _ {test : BlockId} {arms : TestArms} {tested first : BuiltValue} {old mid late : Progress} where
    module _ {second : BuiltValue} {new : Progress}
        (b : ConditionBuilt hir env test span handler false arms tested old mid)
        (f : ArmBuilt hir env arms.consequent fallthrough span handler first mid late)
        (s : ArmBuilt hir env arms.alternate fallthrough span handler second late new) where
      pub ternary_built : NestedBuilt hir env handler (with_kind (kinds.Ternary test) fallthrough id span)
          (record {
            value = reactive_values.ConditionalExpression tested.value first.value second.value;
            answer = first.answer;
            short = None;
          }) old new
      ternary_built = record {
        nested = record {
          fallthrough = fallthrough;
          id = id;
          span = span;
          value = Conditional b.value f.value s.value;
          answer = f.end.answer;
          short = None;
        };
        newly = b.newly ++ (f.newly ++ s.newly);
        is = record {
          is = ap (λ z. reactive_values.ConditionalExpression z first.value second.value) b.is.is
              ∙ ap (λ z. reactive_values.ConditionalExpression (value_of b.value) z second.value) f.is.is
              ∙ ap (λ z. reactive_values.ConditionalExpression (value_of b.value) (value_of f.value) z) s.is.is;
          answer = f.is.answer;
          left = refl;
          short = tt;
        };
        spelled = ternary_value b.spelled (choice_of b.ends) f.spelled f.ends s.spelled s.ends refl;
        marking = arms_marking b f s;
        kept = s.kept ∙ f.kept ∙ b.kept;
      }

      pub logical_built : {operator : LogicalOperator} → AreArmBlocks hir env f.newly
          → NestedBuilt hir env handler (with_kind (kinds.Logical operator test) fallthrough id span)
          (record {
            value = reactive_values.LogicalExpression operator
                (value_of (Sequence (Row b.end.id (Some b.end.answer) b.value span NoRows) f.end.id f.value))
                second.value;
            answer = first.answer;
            short = None;
          }) old new
      logical_built {operator} silent = record {
        nested = record {
          fallthrough = fallthrough;
          id = id;
          span = span;
          value = Logical operator
              (Sequence (Row b.end.id (Some b.end.answer) b.value span NoRows) f.end.id f.value) s.value;
          answer = f.end.answer;
          short = None;
        };
        newly = b.newly ++ (f.newly ++ s.newly);
        is = record {
          is = ap (λ z. reactive_values.LogicalExpression operator
              (value_of (Sequence (Row b.end.id (Some b.end.answer) b.value span NoRows) f.end.id f.value)) z) s.is.is;
          answer = f.is.answer;
          left = refl;
          short = tt;
        };
        spelled = logical_value b.spelled (choice_of b.ends) f.spelled
            (silent_arm refl f.spelled f.ends silent) s.spelled s.ends refl;
        marking = arms_marking b f s;
        kept = s.kept ∙ f.kept ∙ b.kept;
      }

    module _ {optional : Bool}
        (b : ConditionBuilt hir env test span handler true arms tested old mid)
        (f : ArmBuilt hir env arms.consequent fallthrough span handler first mid late) where
      pub optional_built : shares_alternate (alternate_of tested.left_open) arms.alternate ≡ true
          → NestedBuilt hir env handler (with_kind (kinds.Optional optional test) fallthrough id span)
          (record {
            value = reactive_values.OptionalExpression
                (value_of (Sequence (Row b.end.id (Some b.end.answer) b.value arms.span NoRows) f.end.id f.value))
                optional;
            answer = first.answer;
            short = Some (record { alternate = arms.alternate; branch = tested.block });
          }) old late
      optional_built shared = record {
        nested = record {
          fallthrough = fallthrough;
          id = id;
          span = span;
          value = Optional (Sequence (Row b.end.id (Some b.end.answer) b.value arms.span NoRows) f.end.id f.value) optional;
          answer = f.end.answer;
          short = Some arms.alternate;
        };
        newly = b.newly ++ f.newly;
        is = record {
          is = refl;
          answer = f.is.answer;
          left = refl;
          short = short_arm b;
        };
        spelled = optional_value b.spelled (choice_of b.ends)
            (ap (λ z. shares_alternate z arms.alternate) (sym b.is.left) ∙ shared) f.spelled f.ends refl;
        marking = marking_then hir (marking_kept (fallthrough ∷ []) (condition_marking b))
            (marking_drop hir (λ other. omega arith) (marking_beside hir (arm_marking f)));
        kept = f.kept ∙ b.kept;
      }

-- what is made of a value terminal, by equal parts
pub made_alike : {E : Type 0} (result : Result NestedValue E) {value other : ReactiveValue} {answer place : Place}
    {short arm : Option ShortArm} → IfOk result (λ made. made ≡ record { value = value; answer = answer; short = short })
    → value ≡ other → answer ≡ place → short ≡ arm
    → IfOk result (λ made. made ≡ record { value = other; answer = place; short = arm })
made_alike result {value} {other} {answer} {place} {short} {arm} is v a s =
    subst (λ z. IfOk result (λ made. made ≡ record { value = other; answer = place; short = z })) s
    (subst (λ z. IfOk result (λ made. made ≡ record { value = other; answer = z; short = short })) a
    (subst (λ z. IfOk result (λ made. made ≡ record { value = z; answer = answer; short = short })) v is))

-- short arms with equal parts
pub short_alike : {alternate other branch block : BlockId} → alternate ≡ other → branch ≡ block
    → ◌≡◌ {A = Option ShortArm} (Some (record { alternate = alternate; branch = branch }))
    (Some (record { alternate = other; branch = block }))
short_alike arms blocks = cc

-- what is built of a value terminal, by its kind
pub nested_of : {old new : Builder} {site : Site} {handler : Option BlockId} {kind : ValueKind}
    {result : Result NestedValue Fault} (terminal : ValueTerminal) → terminal.kind ≡ kind
    → BuildsNested old new site handler (record terminal { kind = kind }) result
    → BuildsNested old new site handler terminal result
nested_of {old} {new} {site} {handler} {result = result} terminal is built =
    subst (λ k. BuildsNested old new site handler (record terminal { kind = k }) result) (sym is) built

-- what is built with that around its parts, said of the value terminal itself
pub nested_around : {old new : Builder} {site : Site} {result : Result NestedValue Fault} {around : Around}
    (terminal : ValueTerminal) (handler : Option BlockId) (kind : ValueKind) → around ≡ around_parts terminal handler
    → BuildsNested old new site around.handler (with_kind kind terminal.fallthrough terminal.id around.span) result
    → BuildsNested old new site handler (record terminal { kind = kind }) result
nested_around {old} {new} {site} {result} terminal handler kind is built =
    subst (λ (z : Around). BuildsNested old new site z.handler (with_kind kind terminal.fallthrough terminal.id z.span)
    result) is built
