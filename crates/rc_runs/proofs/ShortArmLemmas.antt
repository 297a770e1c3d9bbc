-- Which alternate a value terminal or a value leaves open, and which rows hold an optional that answers a test.
use Rattle.std.proofs.Common.{◌≡◌, Bool, true, false, List, Option, Some, None, ◌⊎◌, inl, inr, if◌then◌else◌}
use Rattle.std.proofs.Common.{refl, sym, ap, ◌∙◌}
use Rattle.rc_names.specs.Numbers.{BlockId}
use Rattle.rc_hir.specs.Model.{Place, Terminal, HirFunction, Environment}
use Rattle.rc_hir.specs.Terminal.{evaluation_order}
use Rattle.rc_runs.specs.Event.{Event}
use Rattle.rc_runs.specs.PlainTree.{Value, Base, NoRows}
use Rattle.rc_runs.specs.AnsweredTest.{answers_test}
use Rattle.rc_runs.specs.ListContext.{ValueContext}
use Rattle.rc_runs.specs.ValueEnd.{ValueEnd}
use Rattle.rc_runs.specs.ShortArms.{SpellsShortArm, no_arm, left_to_test, own_arm, shares_alternate}
use Rattle.rc_runs.specs.ValueGrammar.{Nested, SpellsValue, named_test, last_block, last_throw, may_throw, value_row}
use Rattle.rc_runs.specs.ValueGrammar.{SpellsNested, sequence_value, ternary_value, logical_value, optional_value}
use Rattle.rc_runs.specs.ValueRun.{Progress, Short, goes_past, goes_past_row, is_row_of_test, RunsValue}
use Rattle.rc_names.proofs.NumbersLemmas.{same_id-eq}

-- a run that goes on after a row came past it
pub past_row_is_past : (is_last : Bool) (progress : Progress) → goes_past_row is_last progress ≡ true
    → goes_past progress ≡ true
past_row_is_past false progress past = past
past_row_is_past true Short past = refl
past_row_is_past true progress past = past

-- a value that answers a test has no short end
pub answer_ends : {env : Environment} {is_test : Bool} {events : List Event} (place : Place) (value : Value)
    → answers_test env place value ≡ true → RunsValue env is_test value events Short → ⊥
answer_ends place (Base value) answers run = elim run [ ]
answer_ends place value answers run = let bad : ⊥ = cc in bad

-- a test that leaves an alternate open leaves that of its optional open
pub same_alternate : (left : Option BlockId) (alternate own : BlockId) → shares_alternate left alternate ≡ true
    → left ≡ Some own → own ≡ alternate
same_alternate None alternate own shares e = absurd (let bad : ⊥ = cc in bad)
same_alternate (Some left) alternate own shares e =
    let same : left ≡ own = cc in sym same ∙ same_id-eq left alternate shares

module _ {hir : HirFunction} {env : Environment} where
  -- what the value after the row leaves open is what is left open, unless that value answers the test
  pub left_behind : {handler : Option BlockId} {next : BlockId} {answers : Bool} {short behind left : Option BlockId}
      {used : List BlockId} → SpellsShortArm hir env handler next answers short behind left used
      → (left ≡ behind) ⊎ (answers ≡ true)
  left_behind no_arm = inl refl
  left_behind left_to_test = inr refl
  left_behind (own_arm arm) = inl refl

  closed_behind : {handler : Option BlockId} {next : BlockId} {answers : Bool} {short behind left : Option BlockId}
      {used : List BlockId} → SpellsShortArm hir env handler next answers short behind left used → answers ≡ false
      → behind ≡ None → left ≡ None
  closed_behind no_arm none closed = closed
  closed_behind left_to_test none closed = absurd (let bad : ⊥ = cc in bad)
  closed_behind (own_arm arm) none closed = closed

  -- outside of the test of an optional nothing is left open
  pub nothing_left : {key : BlockId} {context : ValueContext} {value : Value} {end : ValueEnd} {used : List BlockId}
      → SpellsValue hir env key context value end used → context.is_test ≡ false → end.left_open ≡ None
  nothing_left (named_test found empty ends) none = refl
  nothing_left (last_block rows row found ends whole) none = refl
  nothing_left (last_throw rows row found ends current whole goes only) none = refl
  nothing_left (may_throw found ends current more behind whole) none = nothing_left behind none
  nothing_left (value_row {nested = nested} {value = value} found row behind arm whole ends used) none =
      ap (λ (e : ValueEnd). e.left_open) ends
      ∙ closed_behind arm (ap (λ test. if test then answers_test env nested.answer value else false) none)
      (nothing_left behind none)

  -- the id of a value terminal is that of its row
  pub nested_id : {handler : Option BlockId} {terminal : Terminal} {nested : Nested} {used : List BlockId}
      → SpellsNested hir env handler terminal nested used → evaluation_order terminal ≡ nested.id
  nested_id (sequence_value spelled goes) = refl
  nested_id (ternary_value test chooses value goes other other_goes e) = refl
  nested_id (logical_value test chooses value arm other goes e) = refl
  nested_id (optional_value test chooses shares value goes e) = refl

  -- the row of a value terminal with a short end is the last one of a test if the value after it answers that test
  pub row_of_test : {handler : Option BlockId} {terminal : Terminal} {nested : Nested} {used : List BlockId}
      {short : BlockId} (is_test : Bool) (value : Value) → SpellsNested hir env handler terminal nested used
      → nested.short ≡ Some short
      → is_row_of_test env is_test (Some nested.answer) nested.value NoRows value
      ≡ (if is_test then answers_test env nested.answer value else false)
  row_of_test is_test value (sequence_value spelled goes) e = absurd (let bad : ⊥ = cc in bad)
  row_of_test is_test value (ternary_value test chooses part goes other other_goes w) e =
      absurd (let bad : ⊥ = cc in bad)
  row_of_test is_test value (logical_value test chooses part arm other goes w) e = absurd (let bad : ⊥ = cc in bad)
  row_of_test true value (optional_value test chooses shares part goes w) e = refl
  row_of_test false value (optional_value test chooses shares part goes w) e = refl
