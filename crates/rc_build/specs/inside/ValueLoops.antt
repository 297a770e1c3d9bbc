-- The two loops over the blocks of a value: forward over its steps, and back over their rows and short arms.
use Rattle.std.specs.Prelude.{◌≡◌, Bool, false, List, [], ◌∷◌, ◌++◌, Option, Some, None, Result, ◌&&◌}
use Rattle.std.specs.List.{flat_map}
use Rattle.rc_names.specs.Numbers.{BlockId, EvaluationOrder}
use Rattle.rc_names.specs.declared.span.Span.{Span}
use Rattle.rc_hir.specs.Model.{Place, Fault, HirFunction, Environment}
use Rattle.rc_tree.specs.Model.{ReactiveInstruction, ReactiveValue}
use Rattle.rc_runs.specs.PlainTree.{Value, Sequence, Rows, NoRows}
use Rattle.rc_runs.specs.TreeOf.{instructions_of}
use Rattle.rc_runs.specs.AnsweredTest.{answers_test}
use Rattle.rc_runs.specs.ValueEnd.{ValueEnd}
use Rattle.rc_runs.specs.ShortArms.{SpellsShortArm}
use Rattle.rc_runs.specs.ValueGrammar.{SpellsValue}
use Rattle.rc_build.specs.declared.builder.Builder.{Builder}
use Rattle.rc_build.specs.declared.builder.Site.{Site}
use Rattle.rc_build.specs.declared.values.Around.{Around}
use Rattle.rc_build.specs.declared.values.BuiltValue.{BuiltValue}
use Rattle.rc_build.specs.declared.value_steps.ValueRow.{ValueRow}
use Rattle.rc_build.specs.declared.value_terminals.NestedValue.{NestedValue}
use Rattle.rc_build.specs.declared.value_terminals.ValueTerminal.{ValueTerminal}
use Rattle.rc_build.specs.References.{referenced_blocks}
use Rattle.rc_build.specs.BlockFacts.{IsValueReferenced}
use Rattle.rc_build.specs.inside.Marks.{MarksBlocks}
use Rattle.rc_build.specs.inside.Setting.{setting_of}
use Rattle.rc_build.specs.inside.Task.{Progress, progress_of}
use Rattle.rc_build.specs.inside.Built.{Builds, Refused}
use Rattle.rc_build.specs.inside.ValueSteps.{step_at, value_at}
use Rattle.rc_build.specs.inside.ShortArms.{alternate_of, arm_blocks}
use Rattle.rc_build.specs.inside.Values.{BuildsValue, CanBuildValue, IsBuilt, any_end}
use Rattle.rc_build.specs.inside.StepRows.{IsStep}

-- the rows lead from one block to the other, and use these blocks
pub data RowsLead (hir : HirFunction) (env : Environment) (around : Around) (key : BlockId) :
    List ValueRow → BlockId → List BlockId → Type 0 where
  no_row : RowsLead hir env around key [] key []
  one_more : {rows : List ValueRow} {at : BlockId} {newly used : List BlockId} (row : ValueRow) →
      RowsLead hir env around key rows at newly → IsStep hir env around at row used →
      RowsLead hir env around key (rows ++ row ∷ []) row.next (newly ++ used)

-- the row of a value terminal with that value, which answers with the place
abbrev pub row_with : EvaluationOrder → Place → ReactiveValue → Option Span → ReactiveInstruction
row_with id answer value span = record { id = id; lvalue = Some answer; value = value; span = span }

-- the row of a value terminal of which that is built, after the rows of its block
abbrev pub row_behind : List ReactiveInstruction → ValueTerminal → Option Span → NestedValue → ValueRow
row_behind rows terminal span nested = record {
  rows = rows ++ row_with terminal.id nested.answer nested.value span ∷ [];
  next = terminal.fallthrough;
  answer = Some nested.answer;
  short = nested.short;
}

-- the blocks of the short arms of these rows
abbrev pub arms_of_rows : List ValueRow → List BlockId
arms_of_rows rows = flat_map (λ row. arm_blocks row.short) rows

-- how far the loop over the blocks after which a value goes on has come
pub record RowsSoFar (old now : Builder) (key : BlockId) (around : Around) (rows : List ValueRow)
    (at : BlockId) : Type 0 where
  pub newly : List BlockId
  pub lead : RowsLead old.hir.now old.env.now around key rows at newly
  pub marking : MarksBlocks old.hir.now (key ∷ []) (at ∷ arms_of_rows rows) old.marks now.marks newly
  pub valued : IsValueReferenced old.hir.now at
  pub kept : now.out ≡ old.out
  pub setting : (site : Site) → setting_of now site ≡ setting_of old site

-- the loop from the key on has come to the last block of its value, after these rows
pub record IsAtEnd (old now : Builder) (key : BlockId) (around : Around) (rows : List ValueRow) (at : BlockId) : Type 0
  where
    pub so_far : RowsSoFar old now key around rows at
    pub can : CanBuildValue old.hir.now old.marks key
    pub ends : step_at now.hir.now at ≡ None

-- the last block can be built, and the rows can be put before it
abbrev pub CanBuildBack : Builder → List ValueRow → BlockId → Around → Type 0
CanBuildBack now rows at around = (old : Builder) × (key : BlockId) × IsAtEnd old now key around rows at

-- the last block is built and the rows are put before it, which builds the value from where the loop began
abbrev pub BuildsBack : Builder → Builder → List ValueRow → BlockId → Around → Bool → Result BuiltValue Fault → Type 0
BuildsBack now new rows at around is_test result = (old : Builder) (key : BlockId) → IsAtEnd old now key around rows at
    → (site : Site) → BuildsValue old new site key (value_at around is_test) any_end result

-- how far the loop has come that puts the rows before the value
pub record BackSoFar (old now : Builder) (key : BlockId) (around : Around) (is_test : Bool)
    (rows : List ValueRow) (built : BuiltValue) : Type 0 where
  pub at : BlockId
  pub newly : List BlockId
  pub back : List BlockId
  pub value : Value
  pub end : ValueEnd
  pub lead : RowsLead old.hir.now old.env.now around key rows at newly
  pub is : IsBuilt old.hir.now value end built
  pub spelled : SpellsValue old.hir.now old.env.now at (value_at around is_test) value end back
  pub marking : MarksBlocks old.hir.now (key ∷ []) (referenced_blocks end.last ++ arms_of_rows rows) old.marks now.marks
      (newly ++ back)
  pub kept : now.out ≡ old.out
  pub setting : (site : Site) → setting_of now site ≡ setting_of old site

-- whether a row before a value answers the test that the whole is
abbrev pub row_answers : Environment → Bool → Option Place → Value → Bool
row_answers env is_test None value = false
row_answers env is_test (Some answer) value = is_test && answers_test env answer value

-- a value with rows before it: a sequence, if there are any
abbrev pub value_behind : Rows → EvaluationOrder → Value → Value
value_behind NoRows id value = value
value_behind rows id value = Sequence rows id value

-- the row is put before a value with that end
pub record PutBehind (hir : HirFunction) (env : Environment) (handler : Option BlockId) (row : ValueRow) (is_test : Bool)
    (value : Value) (end : ValueEnd) (whole : BuiltValue) (old new : Progress) : Type 0 where
  pub left : Option BlockId
  pub newly : List BlockId
  pub arm : SpellsShortArm hir env handler row.next (row_answers env is_test row.answer value) (alternate_of row.short)
      end.left_open left newly
  pub is : (rows : Rows) → row.rows ≡ instructions_of rows →
      IsBuilt hir (value_behind rows end.id value) (record end { left_open = left }) whole
  pub marking : MarksBlocks hir (arm_blocks row.short) [] old.marks new.marks newly
  pub kept : new.out ≡ old.out

-- what the function ensures that puts a row before a value
abbrev pub PutsBehind : Builder → Builder → Site → Option BlockId → ValueRow → Bool → Value → ValueEnd
    → Result BuiltValue Fault → Type 0
PutsBehind old new site handler row is_test value end result = Builds old new site
    (λ whole. PutBehind old.hir.now old.env.now handler row is_test value end whole (progress_of old) (progress_of new))
    (Refused old.hir.now (SpellsShortArm old.hir.now old.env.now handler row.next
    (row_answers old.env.now is_test row.answer value) (alternate_of row.short) end.left_open) old.marks.used) result
