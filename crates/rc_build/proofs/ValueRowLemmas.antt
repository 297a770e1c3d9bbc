-- The rows of a value's blocks: how they lead from block to block, and what comes after them.
use Rattle.std.proofs.Common.{◌≡◌, ◌+◌, Bool, true, false, List, [], ◌∷◌, ◌++◌, Option, Some, None, refl, sym, ap, ◌∙◌}
use Rattle.std.proofs.Common.{append_assoc, arith, subst}
use Rattle.std.specs.Prelude.{if◌then◌else◌}
use Rattle.std.proofs.lemmas.List.{append-nil, same_from_push}
use Rattle.rc_names.specs.Numbers.{BlockId, EvaluationOrder, times}
use Rattle.rc_names.specs.declared.span.Span.{Span}
use Rattle.rc_hir.specs.Model.{Place, HirFunction, Environment}
use Rattle.rc_hir.specs.declared.terminal.Terminal.TheVariants as terminals
use Rattle.rc_runs.specs.AnsweredTest.{answers_test}
use Rattle.rc_runs.specs.Graph.{Block, block_at, is_empty_goto, usable_block}
use Rattle.rc_runs.specs.ListContext.{ValueContext}
use Rattle.rc_runs.specs.LastRow.{ends_value, rows_then}
use Rattle.rc_runs.specs.PlainTree.{Value, Rows, NoRows, Row}
use Rattle.rc_runs.specs.TreeOf.{instructions_of}
use Rattle.rc_runs.specs.ValueEnd.{ValueEnd}
use Rattle.rc_runs.specs.ShortArms.{SpellsShortArm, no_arm, left_to_test, own_arm}
use Rattle.rc_runs.specs.ValueGrammar.{Nested, SpellsNested, SpellsValue, named_test, last_block, last_throw}
use Rattle.rc_runs.specs.ValueGrammar.{may_throw as throws_on, value_row}
use Rattle.rc_runs.proofs.GraphLemmas.{is_empty_goto-at, one_continuation, one_held, one_kind}
use Rattle.rc_runs.proofs.OneValue.{nested_ends_no_value, one_nested, not_empty}
use Rattle.rc_build.specs.declared.values.Around.{Around}
use Rattle.rc_build.specs.declared.value_steps.ValueRow.{ValueRow}
use Rattle.rc_build.specs.BlockFacts.{IsValueReferenced}
use Rattle.rc_build.specs.inside.Throws.{may_throw}
use Rattle.rc_build.specs.inside.ValueSteps.{value_at}
use Rattle.rc_build.specs.inside.ShortArms.{arm_blocks, AreShort, alternate_of}
use Rattle.rc_build.specs.inside.StepRows.{IsRow, IsStep, IsThrowing, nested_row, throwing_row}
use Rattle.rc_build.specs.inside.ValueLoops.{RowsLead, no_row, one_more, arms_of_rows, row_answers, value_behind}
use Rattle.rc_build.proofs.MarksLemmas.{times_append}
use Rattle.rc_build.proofs.MayThrowLemmas.{nested_stays}
use Rattle.rc_build.proofs.ValueRowsLemmas.{behind_block, behind_row}

-- what a row asks of the value after it
pub record Behind (hir : HirFunction) (env : Environment) (around : Around) (is_test : Bool) (row : ValueRow)
    (used blocks : List BlockId) : Type 0 where
  pub value : Value
  pub end : ValueEnd
  pub left : Option BlockId
  pub value_used : List BlockId
  pub arm_used : List BlockId
  pub spelled : SpellsValue hir env row.next (value_at around is_test) value end value_used
  pub arm : SpellsShortArm hir env around.handler row.next (row_answers env is_test row.answer value) (alternate_of row.short)
      end.left_open left arm_used
  pub whole : blocks ≡ used ++ (value_used ++ arm_used)

-- what rows ask of the value to which they lead
pub record AtEnd (hir : HirFunction) (env : Environment) (around : Around) (is_test : Bool) (at : BlockId)
    (newly blocks : List BlockId) : Type 0 where
  pub value : Value
  pub end : ValueEnd
  pub used : List BlockId
  pub rest : List BlockId
  pub spelled : SpellsValue hir env at (value_at around is_test) value end used
  pub whole : blocks ≡ newly ++ (used ++ rest)

-- the last of these rows, and those before it
pub record LastLead (hir : HirFunction) (env : Environment) (around : Around) (key : BlockId)
    (rows : List ValueRow) (row : ValueRow) (at : BlockId) (newly : List BlockId) : Type 0 where
  pub mid : BlockId
  pub front : List BlockId
  pub used : List BlockId
  pub lead : RowsLead hir env around key rows mid front
  pub is : IsStep hir env around mid row used
  pub at_is : at ≡ row.next
  pub whole : newly ≡ front ++ used

-- the arm of a row, said of its value terminal or of the row
arm_of_row : {hir : HirFunction} {env : Environment} {handler : Option BlockId} (is_test : Bool) (value : Value)
    {next other : BlockId} {answer place : Option Place} {short alternate : Option BlockId}
    {behind left : Option BlockId} {used : List BlockId} → next ≡ other → answer ≡ place → short ≡ alternate
    → SpellsShortArm hir env handler next (row_answers env is_test answer value) short behind left used
    → SpellsShortArm hir env handler other (row_answers env is_test place value) alternate behind left used
arm_of_row {hir} {env} {handler} is_test value {next} {other} {answer} {place} {short} {alternate} {behind} {left} {used}
    n a s d =
    subst (λ z. SpellsShortArm hir env handler z (row_answers env is_test place value) alternate behind left used) n
    (subst (λ z. SpellsShortArm hir env handler next (row_answers env is_test z value) alternate behind left used) a
    (subst (λ z. SpellsShortArm hir env handler next (row_answers env is_test answer value) z behind left used) s d))

-- whether the row of a value terminal answers the test
answers_same : (env : Environment) (is_test : Bool) (answer : Place) (value : Value)
    → (if is_test then answers_test env answer value else false) ≡ row_answers env is_test (Some answer) value
answers_same env true answer value = refl
answers_same env false answer value = refl

value_from : {hir : HirFunction} {env : Environment} {context : ValueContext} {key other : BlockId} {value : Value} {end : ValueEnd} {used : List BlockId}
    → key ≡ other → SpellsValue hir env key context value end used → SpellsValue hir env other context value end used
value_from {hir} {env} {context} {value = value} {end} {used} same d =
    subst (λ z. SpellsValue hir env z context value end used) same d

joined : (newly used value arm rest blocks whole : List BlockId) → whole ≡ newly ++ (blocks ++ rest)
    → blocks ≡ used ++ (value ++ arm) → whole ≡ (newly ++ used) ++ (value ++ (arm ++ rest))
joined newly used value arm rest blocks whole e f = e ∙ ap (λ z. newly ++ (z ++ rest)) f
    ∙ ap (λ z. newly ++ z) (append_assoc used (value ++ arm) rest ∙ ap (λ z. used ++ z) (append_assoc value arm rest))
    ∙ sym (append_assoc newly used (value ++ (arm ++ rest)))

-- where there is no short arm, what the value after the row leaves open is left
no_arm_left : {hir : HirFunction} {env : Environment} {handler : Option BlockId} {next : BlockId} {answers : Bool} {short behind left : Option BlockId} {used : List BlockId}
    → SpellsShortArm hir env handler next answers short behind left used → short ≡ None
    → (left ≡ behind) × (used ≡ [])
no_arm_left no_arm none = (refl, refl)
no_arm_left left_to_test none = let bad : ⊥ = cc in absurd bad
no_arm_left (own_arm arm) none = let bad : ⊥ = cc in absurd bad

module _ {hir : HirFunction} {env : Environment} {around : Around} where
  nested_ends : {key : BlockId} {block : Block} {row : ValueRow} {used : List BlockId}
      → (is : IsRow hir env around key row used) → usable_block hir key ≡ Some block → ends_value block.terminal ≡ true → ⊥
  nested_ends is found ends =
      let same = ap (λ (b : Block). ends_value b.terminal) (one_held found is.usable) in
      let other = nested_ends_no_value is.spelled in
      let bad : ⊥ = cc in bad

  nested_throws : {key : BlockId} {block : Block} {row : ValueRow} {used : List BlockId} {continuation : BlockId}
      {named : Option BlockId} {id : EvaluationOrder} {span : Option Span} → (is : IsRow hir env around key row used)
      → usable_block hir key ≡ Some block → block.terminal ≡ terminals.MaybeThrow continuation named id span → ⊥
  nested_throws is found throws =
      let same = ap (λ (b : Block). may_throw b.terminal) (one_held found is.usable) ∙ ap may_throw throws in
      let other = nested_stays is.spelled in
      let bad : ⊥ = cc in bad

  -- a value from the block of a value terminal goes on after it
  row_only : {is_test : Bool} {key : BlockId} {row : ValueRow} {used : List BlockId} {value : Value} {end : ValueEnd}
      {blocks : List BlockId} → (is : IsRow hir env around key row used)
      → SpellsValue hir env key (value_at around is_test) value end blocks
      → Behind hir env around is_test row used blocks
  row_only is (named_test found empty branch) = absurd (nested_ends is found (ap ends_value branch))
  row_only is (last_block rows row found ends whole) = absurd (nested_ends is found ends)
  row_only is (last_throw rows row found throws current whole behind only) = absurd (nested_throws is found throws)
  row_only is (throws_on found throws current further d w) = absurd (nested_throws is found throws)
  row_only {is_test = is_test} {key = key} {row = row} {used = used} is (value_row {block = block} {nested = n} {value = v}
      {behind = b} {left = l} {nested_used = x} {value_used = y} {arm_used = z} found d e s w g u) =
      let same = one_held is.usable found in
      let k = one_nested (subst (λ (b : Block). SpellsNested hir env around.handler b.terminal n x) same d) is.spelled in
      let next = ap (λ (n : Nested). n.fallthrough) k.0 ∙ sym is.next in record {
        value = v;
        end = b;
        left = l;
        value_used = y;
        arm_used = z;
        spelled = value_from next e;
        arm = arm_of_row is_test v next (ap (λ (n : Nested). Some n.answer) k.0 ∙ sym is.answer)
            (ap (λ (n : Nested). n.short) k.0 ∙ sym is.left)
            (subst (λ q. SpellsShortArm hir env around.handler n.fallthrough q n.short b.left_open l z)
            (answers_same env is_test n.answer v) s);
        whole = u ∙ ap (λ x. key ∷ (x ++ (y ++ z))) k.1 ∙ ap (λ q. q ++ (y ++ z)) (sym is.used_is);
      }

  -- and so does one from a block that may throw
  throwing_only : {is_test : Bool} {key : BlockId} {row : ValueRow} {used : List BlockId} {value : Value}
      {end : ValueEnd} {blocks : List BlockId} → (is : IsThrowing hir around.handler key row used)
      → SpellsValue hir env key (value_at around is_test) value end blocks
      → Behind hir env around is_test row used blocks
  throwing_only {key = key} is (named_test found empty branch) =
      absurd (one_kind hir ends_value key is.usable (ap ends_value is.throws) found (ap ends_value branch))
  throwing_only {key = key} is (last_block rows row found ends whole) =
      absurd (one_kind hir ends_value key is.usable (ap ends_value is.throws) found ends)
  throwing_only {key = key} {row = row} is (last_throw {behind = behind} rows last found throws current whole found' only) =
      let next = one_continuation hir key is.usable is.throws found throws in
      let empty = ap (λ z. is_empty_goto (block_at hir z)) (sym next) ∙ is_empty_goto-at hir _ behind found' ∙ only in
      let further = is.goes_on in
      let bad : ⊥ = cc in absurd bad
  throwing_only {is_test = is_test} {key = key} {row = row} is
      (throws_on {value = v} {end = e} {used = later} found throws current further d w) = record {
        value = v;
        end = e;
        left = e.left_open;
        value_used = later;
        arm_used = [];
        spelled = value_from (one_continuation hir key is.usable is.throws found throws) d;
        arm = arm_of_row is_test v refl (sym is.answer) (sym (ap alternate_of is.short)) no_arm;
        whole = ap (λ z. key ∷ z) (sym (append-nil later)) ∙ ap (λ z. z ++ (later ++ [])) (sym is.used_is);
      }
  throwing_only {key = key} is (value_row {block = block} found d e s w g u) =
      let same = ap (λ (b : Block). may_throw b.terminal) (one_held is.usable found) ∙ ap may_throw is.throws in
      let stays = nested_stays d in
      let bad : ⊥ = cc in absurd bad

  pub step_only : {is_test : Bool} {key : BlockId} {row : ValueRow} {used : List BlockId} {value : Value} {end : ValueEnd}
      {blocks : List BlockId} → (is : IsStep hir env around key row used)
      → SpellsValue hir env key (value_at around is_test) value end blocks
      → Behind hir env around is_test row used blocks
  step_only (nested_row is) d = row_only is d
  step_only (throwing_row is) d = throwing_only is d

  -- the rows of a block that are put before a value
  pub rows_of_step : {key : BlockId} {row : ValueRow} {used : List BlockId} → IsStep hir env around key row used → Rows
  rows_of_step (nested_row is) =
      rows_then is.block.rows (Row is.nested.id (Some is.nested.answer) is.nested.value around.span NoRows)
  rows_of_step (throwing_row is) = rows_then is.block.rows NoRows

  pub step_rows : {key : BlockId} {row : ValueRow} {used : List BlockId} (is : IsStep hir env around key row used)
      → row.rows ≡ instructions_of (rows_of_step is)
  unfolding rows_of_step
  step_rows (nested_row is) = is.rows
  step_rows (throwing_row is) = is.rows

  -- a block of the graph refers to the next one as to a value
  pub step_valued : {key : BlockId} {row : ValueRow} {used : List BlockId} → IsStep hir env around key row used
      → IsValueReferenced hir row.next
  step_valued (nested_row is) = is.valued
  step_valued (throwing_row is) = is.valued

  -- the short arm is the arm of a `Branch`
  pub step_short : {key : BlockId} {row : ValueRow} {used : List BlockId} → IsStep hir env around key row used
      → AreShort hir row.short
  step_short (nested_row is) = is.short
  step_short (throwing_row is) = subst (AreShort hir) (sym is.short) tt

  -- the block is used first
  pub step_starts : {key : BlockId} {row : ValueRow} {used : List BlockId} → IsStep hir env around key row used
      → (later : List BlockId) × (used ≡ key ∷ later)
  step_starts (nested_row is) = (is.nested_used, is.used_is)
  step_starts (throwing_row is) = ([], is.used_is)

  -- a row, the value after it, and its short arm are a value
  pub step_value : {is_test : Bool} {key : BlockId} {row : ValueRow} {used : List BlockId} {value : Value}
      {end : ValueEnd} {left : Option BlockId} {value_used arm_used : List BlockId}
      → (is : IsStep hir env around key row used)
      → SpellsValue hir env row.next (value_at around is_test) value end value_used
      → SpellsShortArm hir env around.handler row.next (row_answers env is_test row.answer value) (alternate_of row.short)
      end.left_open left arm_used
      → SpellsValue hir env key (value_at around is_test) (value_behind (rows_of_step is) end.id value)
      (record end { left_open = left }) (used ++ (value_used ++ arm_used))
  unfolding rows_of_step
  step_value {is_test = is_test} {value = value} {end = end} {left = left} {value_used = y} {arm_used = z} (nested_row is) d s =
      value_row is.usable is.spelled (value_from is.next d)
      (subst (λ q. SpellsShortArm hir env around.handler is.nested.fallthrough q is.nested.short end.left_open left z)
      (sym (answers_same env is_test is.nested.answer value))
      (arm_of_row is_test value is.next is.answer is.left s))
      (behind_row is.block.rows is.nested.id (Some is.nested.answer) is.nested.value around.span end.id value) refl
      (ap (λ q. q ++ (y ++ z)) is.used_is)
  step_value {is_test = is_test} {key = key} {used = used} {value = value} {end = end} {left = left} {value_used = y}
      {arm_used = z} (throwing_row is) d s =
      let none = no_arm_left s (ap alternate_of is.short) in
      let whole = throws_on is.usable is.throws is.current is.goes_on d (behind_block is.block.rows end.id value) in
      subst (λ q. SpellsValue hir env key (value_at around is_test) (value_behind (rows_then is.block.rows NoRows) end.id
      value) (record end { left_open = q }) (used ++ (y ++ z))) (sym none.0)
      (subst (SpellsValue hir env key (value_at around is_test) (value_behind (rows_then is.block.rows NoRows) end.id value)
      end) (ap (λ q. key ∷ q) (sym (append-nil y)) ∙ ap (λ q. key ∷ (y ++ q)) (sym none.1)
      ∙ ap (λ q. q ++ (y ++ z)) (sym is.used_is)) whole)

  -- a value goes through the rows that lead from its block
  pub lead_only : {is_test : Bool} {key at : BlockId} {rows : List ValueRow} {newly : List BlockId} {value : Value}
      {end : ValueEnd} {blocks : List BlockId} → RowsLead hir env around key rows at newly
      → SpellsValue hir env key (value_at around is_test) value end blocks
      → AtEnd hir env around is_test at newly blocks
  lead_only {value = value} {end} {blocks} no_row d = record {
    value = value;
    end = end;
    used = blocks;
    rest = [];
    spelled = d;
    whole = sym (append-nil blocks);
  }
  lead_only {blocks = blocks} (one_more {newly = newly} {used = used} row lead is) d =
      let h = lead_only lead d in
      let k = step_only is h.spelled in record {
        value = k.value;
        end = k.end;
        used = k.value_used;
        rest = k.arm_used ++ h.rest;
        spelled = k.spelled;
        whole = joined newly used k.value_used k.arm_used h.rest h.used blocks h.whole k.whole;
      }

  -- the last row
  pub lead_last : {key at : BlockId} {all : List ValueRow} {newly : List BlockId} (rows : List ValueRow) (row : ValueRow)
      → RowsLead hir env around key all at newly → all ≡ rows ++ row ∷ []
      → LastLead hir env around key rows row at newly
  lead_last rows row no_row e = absurd (not_empty rows row e)
  lead_last {key = key} rows row (one_more {rows = others} {at = mid} {newly = front} {used = used} other lead is) e =
      let same = same_from_push others rows other row e in record {
        mid = mid;
        front = front;
        used = used;
        lead = subst (λ z. RowsLead hir env around key z mid front) same.0 lead;
        is = subst (λ z. IsStep hir env around mid z used) same.1 is;
        at_is = ap (λ (z : ValueRow). z.next) same.1;
        whole = refl;
      }

  pub lead_none : {key at : BlockId} {all : List ValueRow} {newly : List BlockId}
      → RowsLead hir env around key all at newly → all ≡ [] → (at ≡ key) × (newly ≡ [])
  lead_none no_row e = (refl, refl)
  lead_none (one_more {rows = others} row lead is) e = absurd (not_empty others row (sym e))

-- how often a block is among the short arms, with one more row
pub arms_times : (key : BlockId) (rows : List ValueRow) (row : ValueRow)
    → times key (arms_of_rows (rows ++ row ∷ [])) ≡ times key (arms_of_rows rows) + times key (arm_blocks row.short)
arms_times key [] row = omega (arith, times_append key (arm_blocks row.short) [])
arms_times key (first ∷ rows) row = omega (
  arith,
  arms_times key rows row,
  times_append key (arm_blocks first.short) (arms_of_rows (rows ++ row ∷ [])),
  times_append key (arm_blocks first.short) (arms_of_rows rows),
)
