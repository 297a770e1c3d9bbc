-- The ends of values: where they lead, and values as they are after a row or in a loop.
use Rattle.std.proofs.Common.{◌≡◌, Bool, true, false, List, [], ◌∷◌, Option, Some, None, refl, sym, ap, ◌∙◌, subst}
use Rattle.std.proofs.Common.{arith, inl, eq-eqb, ◌&&◌}
use Rattle.rc_names.specs.Numbers.{BlockId, same_id}
use Rattle.rc_names.specs.declared.span.Span.{Span}
use Rattle.rc_hir.specs.Model.{Instruction, Terminal, HirFunction, Environment, Place}
use Rattle.rc_hir.specs.declared.fault.Rule.TheVariants as rules
use Rattle.rc_hir.specs.declared.terminal.Terminal.TheVariants as terminals
use Rattle.rc_tree.specs.Model.{ReactiveValue}
use Rattle.rc_runs.specs.Graph.{only_goes}
use Rattle.rc_runs.specs.LastRow.{ends_value}
use Rattle.rc_runs.specs.ListContext.{ValueContext}
use Rattle.rc_runs.specs.PlainTree.{Value}
use Rattle.rc_runs.specs.TreeOf.{instructions_of, value_of}
use Rattle.rc_runs.specs.AnsweredTest.{same_declaration}
use Rattle.rc_runs.specs.ValueEnd.{ValueEnd, ChoosesBetween, GoesTo}
use Rattle.rc_runs.specs.ShortArms.{SpellsShortArm}
use Rattle.rc_runs.specs.LoopValues.{SpellsGoing, SpellsTest, shown}
use Rattle.rc_runs.specs.ValueGrammar.{SpellsValue, named_test, last_block, last_throw, may_throw as throws_on}
use Rattle.rc_runs.specs.ValueGrammar.{value_row}
use Rattle.rc_runs.proofs.OneValue.{one_value}
use Rattle.rc_build.specs.declared.short_arms.ShortArm.{ShortArm}
use Rattle.rc_build.specs.declared.values.BuiltValue.{BuiltValue}
use Rattle.rc_build.specs.declared.values.TestArms.{TestArms}
use Rattle.rc_build.specs.declared.value_steps.ValueRow.{ValueRow}
use Rattle.rc_build.specs.TerminalForms.{is_branch}
use Rattle.rc_build.specs.BlockFacts.{ValueBlockIs}
use Rattle.rc_build.specs.RuleFacts.{RuleFact}
use Rattle.rc_build.specs.inside.Built.{BuiltPart, Refused}
use Rattle.rc_build.specs.inside.Setting.{Setting}
use Rattle.rc_build.specs.inside.Task.{Progress}
use Rattle.rc_build.specs.inside.ShortArms.{ShortBuilt, AreShort, alternate_of}
use Rattle.rc_build.specs.inside.ValueLoops.{PutBehind, row_answers}
use Rattle.rc_build.specs.inside.ValueRows.{behind_rows}
use Rattle.rc_build.specs.inside.Values.{EndsAlike, HasArms, HasNoValue, IsBuilt, IsChoice, ValueBuilt, arms_of}
use Rattle.rc_build.specs.inside.Values.{goes_to}
use Rattle.rc_build.specs.inside.TestParts.{ArmBuilt, ConditionBuilt, HasNoArm, choice_of, in_part}
use Rattle.rc_build.proofs.TestPartLemmas.{arm_marking}
use Rattle.rc_build.proofs.BuiltLemmas.{marking_drop}
use Rattle.rc_build.proofs.ValueLemmas.{arms_of-branch, arms_of-not, goes_to-goto, goes_to-not}
use Rattle.rc_build.proofs.ValueRowsLemmas.{behind_instructions}

-- two places are of one declaration in the same setting
pub declared_in : {s t : Setting} {b : Bool} (test answer : Place) → s ≡ t → same_declaration s.env test answer ≡ b
    → same_declaration t.env test answer ≡ b
declared_in test answer same is = sym (ap (λ (z : Setting). same_declaration z.env test answer) same) ∙ is

-- a block that only goes on ends values
only_ends : (rows : List Instruction) (terminal : Terminal) → only_goes rows terminal ≡ true → ends_value terminal ≡ true
only_ends [] (terminals.Goto block variant id span) only = refl
only_ends rows terminal only = let bad : ⊥ = cc in absurd bad

-- what was built, out of its box
pub opened_built : {hir : HirFunction} {value : Value} {end : ValueEnd} {built opened : BuiltValue} → opened ≡ built
    → IsBuilt hir value end built → IsBuilt hir value end opened
opened_built {hir} {value} {end} same is = subst (IsBuilt hir value end) (sym same) is

module _ {hir : HirFunction} {env : Environment} where
  -- a value ends in a terminal that ends values
  last_ends : {key : BlockId} {context : ValueContext} {value : Value} {end : ValueEnd} {blocks : List BlockId}
      → SpellsValue hir env key context value end blocks → ends_value end.last ≡ true
  last_ends (named_test found empty branch) = ap ends_value branch
  last_ends (last_block rows row found ends whole) = ends
  last_ends (last_throw {behind = block} rows row found throws current whole there only) =
      only_ends block.rows block.terminal only
  last_ends (throws_on found throws current further d w) = last_ends d
  last_ends (value_row {behind = b} found d e s w g u) = ap (λ (z : ValueEnd). ends_value z.last) g ∙ last_ends e

  module _ {key : BlockId} {context : ValueContext} {Q : ValueEnd → Type 0} {built : BuiltValue} {old new : Progress}
      (b : ValueBuilt hir env key context Q built old new) where
    -- the same value, of whose end more is known
    pub ends_as : {R : ValueEnd → Type 0} → R b.end → ValueBuilt hir env key context R built old new
    ends_as asked = record {
      value = b.value;
      end = b.end;
      newly = b.newly;
      is = b.is;
      spelled = b.spelled;
      ends = asked;
      marking = b.marking;
      kept = b.kept;
    }

    -- where it ends otherwise than R asks, no value from the block on ends so
    pub ends_not : (R : ValueEnd → Type 0) (used : List BlockId) → (R b.end → ⊥) → HasNoValue hir env key context R used
    ends_not R used not value end blocks d asked sound = not (subst R (one_value d b.spelled).1 asked)

    -- why it is a fault that it ends elsewhere
    pub end_elsewhere : RuleFact hir rules.ValueEnd built.block
    end_elsewhere = record {
      referenced = b.is.at_end.referenced;
      here = record {
        block = b.is.at_end.here.block;
        found = b.is.at_end.here.found;
        holds = inl (ap ends_value b.is.at_end.here.holds ∙ last_ends b.spelled);
      };
    }

    pub goes_as : {next : BlockId} → goes_to built.last.now next ≡ true → GoesTo next b.end
    goes_as {next} goes =
        let goto = goes_to-goto built.last.now next goes in
        record { variant = goto.0; id = goto.1; span = goto.2; goes = sym b.is.last ∙ goto.3 }

    pub goes_not : {next : BlockId} → goes_to built.last.now next ≡ false → GoesTo next b.end → ⊥
    goes_not {next} not goes = goes_to-not built.last.now next goes.variant goes.id goes.span not (b.is.last ∙ goes.goes)

    module _ {arms : TestArms} (found : arms_of built.last.now ≡ Some arms) where
      branch : b.end.last ≡ terminals.Branch arms.test arms.consequent arms.alternate
          (arms_of-branch built.last.now arms found).0 arms.span
      branch = sym b.is.last ∙ (arms_of-branch built.last.now arms found).1

      pub arms_as : same_declaration env arms.test built.answer ≡ true → HasArms env arms b.end
      arms_as alike = record {
        id = (arms_of-branch built.last.now arms found).0;
        chooses = branch;
        answers = ap (same_declaration env arms.test) (sym b.is.answer) ∙ alike;
      }

      pub arms_unlike : same_declaration env arms.test built.answer ≡ false → IsChoice env b.end → ⊥
      arms_unlike unlike choice =
          let test : choice.2.test ≡ arms.test = (let z = choice.2.chooses in let y = branch in cc) in
          let answers = choice.2.answers in
          let other = ap (λ z. same_declaration env z b.end.answer) test
          ∙ ap (same_declaration env arms.test) (sym b.is.answer) in
          let bad : ⊥ = cc in bad

      pub tested_fact : RuleFact hir rules.Tested built.block
      tested_fact = record {
        referenced = b.is.at_end.referenced;
        here = record {
          block = b.is.at_end.here.block;
          found = b.is.at_end.here.found;
          holds = ap is_branch (b.is.at_end.here.holds ∙ branch);
        };
      }

    pub arms_none : arms_of built.last.now ≡ None → IsChoice env b.end → ⊥
    arms_none none choice = arms_of-not built.last.now choice.2.test choice.0 choice.1 choice.2.id choice.2.span none
        (b.is.last ∙ choice.2.chooses)

  -- a value as a loop shows it
  pub going_built : {key next : BlockId} {span : Option Span} {handler : Option BlockId} {built : BuiltValue} {old new : Progress} {flat : Bool}
      {whole : ReactiveValue} (b : ArmBuilt hir env key next span handler built old new)
      → whole ≡ value_of (shown flat span b.end b.value)
      → BuiltPart value_of (SpellsGoing hir env flat key (in_part span handler false) next) hir (key ∷ []) whole old new
  going_built {span = span} {flat = flat} b is = record {
    value = shown flat span b.end b.value;
    newly = b.newly;
    is = is;
    spelled = record { value = b.value; end = b.end; spelled = b.spelled; goes = b.ends; is_shown = refl };
    marking = arm_marking b;
    kept = b.kept;
  }

  pub going_refused : {key next : BlockId} {span : Option Span} {handler : Option BlockId} {flat : Bool} (used : List BlockId)
      → HasNoArm hir env key next span handler used
      → Refused hir (SpellsGoing hir env flat key (in_part span handler false) next) used
  going_refused used none whole blocks d sound = none d.value d.end blocks d.spelled d.goes sound

  pub test_refused_value : {key first second : BlockId} {span : Option Span} {handler : Option BlockId} {flat : Bool} (used : List BlockId)
      → HasNoValue hir env key (in_part span handler false) (IsChoice env) used
      → Refused hir (SpellsTest hir env flat key (in_part span handler false) first second) used
  test_refused_value {first = first} {second} used none whole blocks d sound =
      none d.value d.end blocks d.spelled (first, second, d.chooses) sound

  module _ {key first second : BlockId} {span : Option Span} {handler : Option BlockId} {arms : TestArms} {built : BuiltValue}
      {old new : Progress} {flat : Bool} (b : ConditionBuilt hir env key span handler false arms built old new) where
    pub test_built : {whole : ReactiveValue} → arms.consequent ≡ first → arms.alternate ≡ second
        → whole ≡ value_of (shown flat span b.end b.value)
        → BuiltPart value_of (SpellsTest hir env flat key (in_part span handler false) first second) hir (key ∷ []) whole old new
    test_built {whole} one other is = record {
      value = shown flat span b.end b.value;
      newly = b.newly;
      is = is;
      spelled = record {
        value = b.value;
        end = b.end;
        spelled = b.spelled;
        chooses = subst (λ z. ChoosesBetween env z second b.end) one
            (subst (λ z. ChoosesBetween env arms.consequent z b.end) other (choice_of b.ends));
        is_shown = refl;
      };
      marking = marking_drop hir (λ other. omega arith) b.marking;
      kept = b.kept;
    }

    -- a test between other blocks
    pub test_elsewhere : (used : List BlockId) → ((arms.consequent ≡ first) × (arms.alternate ≡ second) → ⊥)
        → Refused hir (SpellsTest hir env flat key (in_part span handler false) first second) used
    test_elsewhere used not whole blocks d sound =
        let same = one_value d.spelled b.spelled in
        let alike = sym d.chooses.chooses ∙ ap (λ (e : ValueEnd). e.last) same.1 ∙ b.ends.chooses in
        let one : arms.consequent ≡ first = cc in
        let other : arms.alternate ≡ second = cc in
        not (one, other)

  -- a row before a value
  pub put_made : {handler : Option BlockId} {row : ValueRow} {is_test answers : Bool} {value : Value} {end : ValueEnd} {built whole : BuiltValue}
      {left : Option ShortArm} {old new : Progress} → IsBuilt hir value end built
      → answers ≡ row_answers env is_test row.answer value
      → ShortBuilt hir env handler row.next answers row.short built.left_open left old new
      → whole.value ≡ behind_rows row.rows built.id built.value → EndsAlike built left whole
      → PutBehind hir env handler row is_test value end whole old new
  put_made {handler} {row} {is_test} {answers} {value} {end} {built} {whole} {left} is test s v a = record {
    left = alternate_of left;
    newly = s.newly;
    arm = subst (λ z. SpellsShortArm hir env handler row.next z (alternate_of row.short) end.left_open (alternate_of left) s.newly)
        test (subst (λ z. SpellsShortArm hir env handler row.next answers (alternate_of row.short) z (alternate_of left) s.newly)
        is.left s.spelled);
    is = λ rows are. record {
      is = v ∙ ap (λ z. behind_rows z built.id built.value) are
          ∙ ap (λ z. behind_rows (instructions_of rows) z built.value) is.id
          ∙ ap (λ z. behind_rows (instructions_of rows) end.id z) is.is ∙ behind_instructions rows end.id value;
      answer = a.answer ∙ is.answer;
      id = a.id ∙ is.id;
      last = a.last ∙ is.last;
      left = ap alternate_of a.left_is;
      at_end = subst (λ z. ValueBlockIs hir z (λ block. block.terminal ≡ end.last)) (sym a.block) is.at_end;
      short = subst (AreShort hir) (sym a.left_is) (s.left_is is.short);
    };
    marking = s.marking;
    kept = s.kept;
  }

  pub put_refused : {handler : Option BlockId} (row : ValueRow) (is_test : Bool) {answers : Bool} {value : Value} {end : ValueEnd} {built : BuiltValue}
      (used : List BlockId) → IsBuilt hir value end built → answers ≡ row_answers env is_test row.answer value
      → Refused hir (SpellsShortArm hir env handler row.next answers (alternate_of row.short) (alternate_of built.left_open)) used
      → Refused hir (SpellsShortArm hir env handler row.next (row_answers env is_test row.answer value) (alternate_of row.short)
      end.left_open) used
  put_refused {handler} row is_test {answers} {end = end} used is test none =
      subst (λ z. Refused hir (SpellsShortArm hir env handler row.next z (alternate_of row.short) end.left_open) used) test
      (subst (λ z. Refused hir (SpellsShortArm hir env handler row.next answers (alternate_of row.short) z) used) is.left none)

-- arms that aren't both of these blocks
pub arms_differ : (arms : TestArms) (first second : BlockId)
    → (same_id arms.consequent first && same_id arms.alternate second) ≡ false
    → (arms.consequent ≡ first) × (arms.alternate ≡ second) → ⊥
arms_differ arms first second not (one, other) =
    let a : same_id arms.consequent first ≡ true = eq-eqb arms.consequent.0 first.0 (ap (λ (z : BlockId). z.0) one) in
    let b : same_id arms.alternate second ≡ true = eq-eqb arms.alternate.0 second.0 (ap (λ (z : BlockId). z.0) other) in
    let bad : ⊥ = cc in bad
