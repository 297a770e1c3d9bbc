-- The numbers of a spelled value are in their tables if those of its graph are.
use Rattle.std.proofs.Common.{◌≡◌, Bool, true, false, List, [], ◌∷◌, ◌++◌, Option, Some, if◌then◌else◌, sym, subst}
use Rattle.std.proofs.lemmas.List.Elements.{All-nil}
use Rattle.rc_names.specs.Numbers.{BlockId, EvaluationOrder}
use Rattle.rc_names.specs.declared.span.Span.{Span}
use Rattle.rc_hir.specs.GraphNames.{place_names, terminal_names}
use Rattle.rc_hir.specs.ValueNames.{value_names}
use Rattle.rc_hir.specs.Names.{FunctionInTables}
use Rattle.rc_hir.specs.Model.{Environment, HirFunction, Instruction, InstructionValue, Place, Terminal}
use Rattle.rc_hir.specs.declared.instruction.InstructionValue.TheVariants as kinds
use Rattle.rc_runs.specs.Silent.{is_unnamed}
use Rattle.rc_runs.specs.PlainTree.{Value, Base, Logical, Conditional, Sequence, Optional, Rows, NoRows, Row}
use Rattle.rc_runs.specs.LastRow.{last_value, last_answer, rows_then, after_rows}
use Rattle.rc_runs.specs.Flattened.{rows_join, flat_rows, final_value, loads_own, final_row}
use Rattle.rc_runs.specs.ListContext.{ListContext, ValueContext}
use Rattle.rc_runs.specs.LoopParts.{LoopBlocks}
use Rattle.rc_runs.specs.ValueEnd.{ValueEnd}
use Rattle.rc_runs.specs.LoopValues.{shown, SpellsGoing, SpellsTest}
use Rattle.rc_runs.specs.ValueGrammar.{Nested, SpellsValue, named_test, last_block, last_throw, may_throw, value_row}
use Rattle.rc_runs.specs.ValueGrammar.{SpellsNested, sequence_value, ternary_value, logical_value, optional_value}
use Rattle.rc_runs.specs.Grammar.{SpellsBefore, no_value, some_value}
use Rattle.rc_runs.proofs.AllLemmas.{All-left, All-right}
use Rattle.rc_runs.proofs.BlockNames.{InTable, Held, RowsHeld, HeldByGraph, place_held, usable_block_held}
use Rattle.rc_runs.proofs.PlainNames.{HeldValue, HeldRows, HeldOption}

module _ (env : Environment) where
  -- flattening keeps the numbers, and adds the answer place
  join_held : (rows more : Rows) → HeldRows env rows → HeldRows env more → HeldRows env (rows_join rows more)
  join_held NoRows more held later = later
  join_held (Row id target value span rest) more held later = (held.0, held.1, join_held rest more held.2 later)

  flat_rows_held : (value : Value) → HeldValue env value → HeldRows env (flat_rows value)
  flat_rows_held (Base value) held = tt
  flat_rows_held (Logical operator left right) held = tt
  flat_rows_held (Conditional test consequent alternate) held = tt
  flat_rows_held (Sequence rows id value) held = join_held rows (flat_rows value) held.0 (flat_rows_held value held.1)
  flat_rows_held (Optional value optional) held = tt

  final_value_held : (value : Value) → HeldValue env value → HeldValue env (final_value value)
  final_value_held (Base value) held = held
  final_value_held (Logical operator left right) held = held
  final_value_held (Conditional test consequent alternate) held = held
  final_value_held (Sequence rows id value) held = final_value_held value held.1
  final_value_held (Optional value optional) held = held

  final_row_held : (answer : Place) (id : EvaluationOrder) (span : Option Span) (value : Value) →
      Held env (place_names answer) → HeldValue env value → HeldRows env (final_row answer id span value)
  final_row_held answer id span value own held = go (loads_own answer value)
    where
      go : (loads : Bool) → HeldRows env (if loads then NoRows else Row id (Some answer) value span NoRows)
      go true = tt
      go false = (own, held, tt)

  shown_held : (flat : Bool) (span : Option Span) (end : ValueEnd) (value : Value) →
      Held env (place_names end.answer) → HeldValue env value → HeldValue env (shown flat span end value)
  shown_held false span end value answer held = held
  shown_held true span end value answer held = (
    join_held (flat_rows value) (final_row end.answer end.id span (final_value value)) (flat_rows_held value held)
        (final_row_held end.answer end.id span (final_value value) answer (final_value_held value held)),
    All-nil (InTable env),
  )

  -- the rows of a block as rows of a sequence, and then more of its rows
  rows_then_held : (rows : List Instruction) → RowsHeld env rows → (more : Rows) → HeldRows env more →
      HeldRows env (rows_then rows more)
  rows_then_held [] held more later = later
  rows_then_held (first ∷ rows) held more later = (
    All-left (InTable env) (place_names first.lvalue) (value_names first.value) held.0,
    All-right (InTable env) (place_names first.lvalue) (value_names first.value) held.0,
    rows_then_held rows held.1 more later,
  )

  -- the rows of a block before its last one, and the last one
  front_held : (rows : List Instruction) (row : Instruction) → RowsHeld env (rows ++ row ∷ []) → RowsHeld env rows
  front_held [] row held = tt
  front_held (first ∷ rows) row held = (held.0, front_held rows row held.1)

  last_held : (rows : List Instruction) (row : Instruction) → RowsHeld env (rows ++ row ∷ []) →
      RowsHeld env (row ∷ [])
  last_held [] row held = held
  last_held (first ∷ rows) row held = last_held rows row held.1

  after_rows_held : (rows : List Instruction) (id : EvaluationOrder) (value : Value) → RowsHeld env rows →
      HeldValue env value → HeldValue env (after_rows rows id value)
  after_rows_held [] id value held own = own
  after_rows_held (first ∷ rows) id value held own = (rows_then_held (first ∷ rows) held NoRows tt, own)

  -- the value of the last row, and its answer place
  last_value_held : (target : Place) (value : InstructionValue) → Held env (place_names target) →
      Held env (value_names value) →
      Held env (value_names (last_value env value)) × Held env (place_names (last_answer env target value))
  last_value_held target (kinds.StoreLocal lvalue value span) own held = go (is_unnamed env lvalue.place)
    where
      go : (unnamed : Bool) → Held env (value_names
          (if unnamed then kinds.LoadLocal value value.span else kinds.StoreLocal lvalue value span))
          × Held env (place_names (if unnamed then lvalue.place else target))
      go true = (
        All-right (InTable env) (place_names lvalue.place) (place_names value) held,
        All-left (InTable env) (place_names lvalue.place) (place_names value) held,
      )
      go false = (held, own)
  last_value_held target value own held = (held, own)

  -- the value of a last block, and the place with which it answers
  last_block_held : (rows : List Instruction) (row : Instruction) → RowsHeld env (rows ++ row ∷ []) →
      HeldValue env (after_rows rows row.id (Base (last_value env row.value)))
      × Held env (place_names (last_answer env row.lvalue row.value))
  last_block_held rows row held =
      let last = (last_held rows row held).0 in
      let both = last_value_held row.lvalue row.value
      (All-left (InTable env) (place_names row.lvalue) (value_names row.value) last)
      (All-right (InTable env) (place_names row.lvalue) (value_names row.value) last) in (
        after_rows_held rows row.id (Base (last_value env row.value)) (front_held rows row held) both.0,
        both.1,
      )

module _ (hir : HirFunction) (env : Environment) (named : FunctionInTables env hir) where
  mutual
    pub spelled_value_held : {key : BlockId} {context : ValueContext} {value : Value} {end : ValueEnd}
        {used : List BlockId} → SpellsValue hir env key context value end used →
        HeldValue env value × Held env (place_names end.answer)
    spelled_value_held (named_test {key = key} {block = b} {test = test} usable rows e) =
        let here = usable_block_held hir env named key b usable in
        let own = place_held hir env test (subst (λ t. HeldByGraph hir env (terminal_names t)) e here.1) in
        (own, own)
    spelled_value_held (last_block {key = key} {block = b} rows row usable ends e) =
        last_block_held env rows row (subst (RowsHeld env) e (usable_block_held hir env named key b usable).0)
    spelled_value_held (last_throw {key = key} {block = b} rows row usable ends current e goes only) =
        last_block_held env rows row (subst (RowsHeld env) e (usable_block_held hir env named key b usable).0)
    spelled_value_held (may_throw {key = key} {block = b} {value = v} {end = end} usable ends current more behind
        whole) =
        let later = spelled_value_held behind in
        let rows = (usable_block_held hir env named key b usable).0 in
        (subst (HeldValue env) (sym whole) (after_rows_held env b.rows end.id v rows later.0), later.1)
    spelled_value_held (value_row {key = key} {context = context} {block = b} {nested = n} {value = v} usable row behind
        arm whole end used) =
        let here = (usable_block_held hir env named key b usable).0 in
        let own = nested_value_held row in
        let later = spelled_value_held behind in
        let rows = rows_then_held env b.rows here (Row n.id (Some n.answer) n.value context.around NoRows)
        (own.1, own.0, tt) in (
          subst (HeldValue env) (sym whole) (rows, later.0),
          subst (λ (e : ValueEnd). Held env (place_names e.answer)) (sym end) later.1,
        )

    -- the value of a value terminal, and the place with which it answers
    pub nested_value_held : {handler : Option BlockId} {terminal : Terminal} {nested : Nested} {used : List BlockId} →
        SpellsNested hir env handler terminal nested used →
        HeldValue env nested.value × Held env (place_names nested.answer)
    nested_value_held (sequence_value d g) = spelled_value_held d
    nested_value_held (ternary_value test choice d g other h used) =
        let own = spelled_value_held d in
        (((spelled_value_held test).0, own.0, (spelled_value_held other).0), own.1)
    nested_value_held (logical_value test choice d silent other h used) =
        let tested = spelled_value_held test in
        let own = spelled_value_held d in
        ((((tested.1, tested.0, tt), own.0), (spelled_value_held other).0), own.1)
    nested_value_held (optional_value test choice shares d g used) =
        let tested = spelled_value_held test in
        let own = spelled_value_held d in
        (((tested.1, tested.0, tt), own.0), own.1)

  shown_value_held : (flat : Bool) {key : BlockId} {context : ValueContext} {value : Value} {end : ValueEnd}
      {used : List BlockId} (whole : Value) → SpellsValue hir env key context value end used →
      whole ≡ shown flat context.around end value → HeldValue env whole
  shown_value_held flat {context = context} {value = value} {end = end} whole d e =
      let held = spelled_value_held d in
      subst (HeldValue env) (sym e) (shown_held env flat context.around end value held.1 held.0)

  pub going_held : {flat : Bool} {key next : BlockId} {context : ValueContext} {value : Value} {used : List BlockId} →
      SpellsGoing hir env flat key context next value used → HeldValue env value
  going_held {flat} {value = value} d = shown_value_held flat value d.spelled d.is_shown

  pub test_held : {flat : Bool} {key consequent alternate : BlockId} {context : ValueContext} {value : Value}
      {used : List BlockId} → SpellsTest hir env flat key context consequent alternate value used →
      HeldValue env value
  test_held {flat} {value = value} d = shown_value_held flat value d.spelled d.is_shown

  pub before_held : {blocks : LoopBlocks} {context : ListContext} {key : Option BlockId} {value : Option Value}
      {used : List BlockId} → SpellsBefore hir env blocks context key value used → HeldOption env value
  before_held no_value = tt
  before_held (some_value d) = going_held d
