-- The value that a graph spells from a block on, its end, and the blocks that it uses.
--
-- A value terminal is a row of the value in which it is, and the value goes on at the fallthrough.
-- A block that may throw names the current handler, or none, and the value goes on at its continuation.
--
-- The indices are: a block, the context of the value, the value, its end, and the used blocks in the order in which
-- they are marked.
use Rattle.std.specs.Prelude.{◌≡◌, true, false, List, [], ◌∷◌, ◌++◌, Option, Some, None, if◌then◌else◌}
use Rattle.rc_names.specs.Numbers.{BlockId, EvaluationOrder}
use Rattle.rc_names.specs.declared.span.Span.{Span}
use Rattle.rc_hir.specs.Model.{Place, Terminal, Instruction, HirFunction, Environment}
use Rattle.rc_hir.specs.declared.instruction.InstructionValue.TheVariants as kinds
use Rattle.rc_hir.specs.declared.terminal.Terminal.TheVariants as terminals
use Rattle.rc_runs.specs.Graph.{Block, block_at, usable_block, only_goes, is_empty_goto}
use Rattle.rc_runs.specs.PlainTree.{Value, Base, Logical, Conditional, Sequence, Optional, NoRows, Row}
use Rattle.rc_runs.specs.ListContext.{is_current, ValueContext, part_context}
use Rattle.rc_runs.specs.LastRow.{ends_value, last_value, last_answer, rows_then, after_rows}
use Rattle.rc_runs.specs.AnsweredTest.{answers_test}
use Rattle.rc_runs.specs.ValueEnd.{ValueEnd, GoesTo, ChoosesBetween}
use Rattle.rc_runs.specs.ShortArms.{SpellsSilentArm, SpellsShortArm, shares_alternate}

-- a value terminal: where the graph goes on after it, its id and span, its value, the place with which it answers, and
-- the alternate of an optional, which leads to its short end
pub record Nested : Type 0 where
  pub fallthrough : BlockId
  pub id : EvaluationOrder
  pub span : Option Span
  pub value : Value
  pub answer : Place
  pub short : Option BlockId

module _ (hir : HirFunction) (env : Environment) where
  mutual
    -- the value from a block on
    pub data SpellsValue : BlockId → ValueContext → Value → ValueEnd → List BlockId → Type 0 where
      -- a branch without rows before it tests a place that is only loaded
      named_test : {key context : _} {block : Block} {test : Place} {consequent alternate id span : _} →
          usable_block hir key ≡ Some block → block.rows ≡ [] →
          block.terminal ≡ terminals.Branch test consequent alternate id span →
          SpellsValue key context (Base (kinds.LoadLocal test test.span)) (record {
            answer = test;
            id = id;
            last = block.terminal;
            left_open = None;
          }) (key ∷ [])
      -- the last row is the value
      last_block : {key context : _} {block : Block} (rows : List Instruction) (row : Instruction) →
          usable_block hir key ≡ Some block → ends_value block.terminal ≡ true → block.rows ≡ rows ++ row ∷ [] →
          SpellsValue key context (after_rows rows row.id (Base (last_value env row.value))) (record {
            answer = last_answer env row.lvalue row.value;
            id = row.id;
            last = block.terminal;
            left_open = None;
          }) (key ∷ [])
      -- a block that may throw, and then only goes on, ends the value like a last block
      last_throw :
          {key continuation : _} {context : ValueContext} {block behind : Block} {named id span : _}
          (rows : List Instruction) (row : Instruction) → usable_block hir key ≡ Some block →
          block.terminal ≡ terminals.MaybeThrow continuation named id span → is_current named context.handler ≡ true →
          block.rows ≡ rows ++ row ∷ [] → usable_block hir continuation ≡ Some behind →
          only_goes behind.rows behind.terminal ≡ true →
          SpellsValue key context (after_rows rows row.id (Base (last_value env row.value))) (record {
            answer = last_answer env row.lvalue row.value;
            id = row.id;
            last = behind.terminal;
            left_open = None;
          }) (key ∷ continuation ∷ [])
      -- another block that may throw has rows of the value, which goes on at its continuation
      may_throw :
          {key continuation : _} {context : ValueContext} {block : Block} {named id span value whole : _}
          {end : ValueEnd} {used : _} → usable_block hir key ≡ Some block →
          block.terminal ≡ terminals.MaybeThrow continuation named id span → is_current named context.handler ≡ true →
          is_empty_goto (block_at hir continuation) ≡ false → SpellsValue continuation context value end used →
          whole ≡ after_rows block.rows end.id value → SpellsValue key context whole end (key ∷ used)
      -- a value terminal is a row, before the value at its fallthrough
      value_row :
          {key : _} {context : ValueContext} {block : Block} {nested : Nested} {value whole : _} {behind : ValueEnd}
          {end left nested_used value_used arm_used used : _} → usable_block hir key ≡ Some block →
          SpellsNested context.handler block.terminal nested nested_used →
          SpellsValue nested.fallthrough context value behind value_used →
          SpellsShortArm hir env context.handler nested.fallthrough
          (if context.is_test then answers_test env nested.answer value else false) nested.short behind.left_open left
          arm_used →
          whole ≡ Sequence (rows_then block.rows (Row nested.id (Some nested.answer) nested.value context.around NoRows))
          behind.id value → end ≡ record behind { left_open = left } →
          used ≡ key ∷ (nested_used ++ (value_used ++ arm_used)) → SpellsValue key context whole end used

    -- a value terminal under a handler, whose parts meet at its fallthrough
    pub data SpellsNested : Option BlockId → Terminal → Nested → List BlockId → Type 0 where
      sequence_value : {handler inner fallthrough id span value : _} {end : ValueEnd} {used : _} →
          SpellsValue inner (part_context span handler) value end used → GoesTo fallthrough end →
          SpellsNested handler (terminals.Sequence inner fallthrough id span) (record {
            fallthrough = fallthrough;
            id = id;
            span = span;
            value = value;
            answer = end.answer;
            short = None;
          }) used
      ternary_value :
          {handler test consequent alternate fallthrough id span condition value other condition_end : _}
          {end : ValueEnd} {other_end test_used value_used other_used used : _} →
          SpellsValue test (part_context span handler) condition condition_end test_used →
          ChoosesBetween env consequent alternate condition_end →
          SpellsValue consequent (part_context span handler) value end value_used → GoesTo fallthrough end →
          SpellsValue alternate (part_context span handler) other other_end other_used → GoesTo fallthrough other_end →
          used ≡ test_used ++ (value_used ++ other_used) →
          SpellsNested handler (terminals.Ternary test fallthrough id span) (record {
            fallthrough = fallthrough;
            id = id;
            span = span;
            value = Conditional condition value other;
            answer = end.answer;
            short = None;
          }) used
      -- the consequent only hands the answer of the test on, so it is a silent arm besides
      logical_value :
          {handler operator test consequent alternate fallthrough id span condition value other : _}
          {condition_end end : ValueEnd} {other_end test_used value_used other_used used : _} →
          SpellsValue test (part_context span handler) condition condition_end test_used →
          ChoosesBetween env consequent alternate condition_end →
          SpellsValue consequent (part_context span handler) value end value_used →
          SpellsSilentArm hir env handler fallthrough consequent value_used →
          SpellsValue alternate (part_context span handler) other other_end other_used → GoesTo fallthrough other_end →
          used ≡ test_used ++ (value_used ++ other_used) →
          SpellsNested handler (terminals.Logical operator test fallthrough id span) (record {
            fallthrough = fallthrough;
            id = id;
            span = span;
            value = Logical operator (Sequence (Row condition_end.id (Some condition_end.answer)
                condition span NoRows) end.id value) other;
            answer = end.answer;
            short = None;
          }) used
      -- the alternate is no value, but the short arm
      optional_value :
          {handler optional test consequent alternate fallthrough id span condition value : _}
          {condition_end end : ValueEnd} {test_used value_used used : _} →
          SpellsValue test (record (part_context span handler) { is_test = true }) condition condition_end test_used →
          (chosen : ChoosesBetween env consequent alternate condition_end) →
          shares_alternate condition_end.left_open alternate ≡ true →
          SpellsValue consequent (part_context span handler) value end value_used → GoesTo fallthrough end →
          used ≡ test_used ++ value_used →
          SpellsNested handler (terminals.Optional optional test fallthrough id span) (record {
            fallthrough = fallthrough;
            id = id;
            span = span;
            value = Optional (Sequence (Row condition_end.id (Some condition_end.answer)
                condition chosen.span NoRows) end.id value) optional;
            answer = end.answer;
            short = Some alternate;
          }) used
