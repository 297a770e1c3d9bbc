-- The last blocks of values: when they can be built, and the value that is made of them.
use Rattle.std.specs.Prelude.{◌≡◌, true, false, List, [], ◌∷◌, ◌++◌, Option, Some, None}
use Rattle.std.specs.List.{list_any}
use Rattle.rc_names.specs.Numbers.{BlockId, InstructionId, same_id}
use Rattle.rc_hir.specs.Terminal.{evaluation_order}
use Rattle.rc_hir.specs.Model.{Instruction, BasicBlock, Terminal, Fault, HirFunction, Environment}
use Rattle.rc_hir.specs.declared.fault.Fault.TheVariants as faults
use Rattle.rc_hir.specs.declared.fault.Rule.TheVariants as rules
use Rattle.rc_hir.specs.declared.terminal.Terminal.TheVariants as terminals
use Rattle.rc_runs.specs.Graph.{basic_block, block_at, is_empty_goto, rows_of}
use Rattle.rc_runs.specs.Silent.{is_unset}
use Rattle.rc_runs.specs.PlainTree.{Value, Base}
use Rattle.rc_runs.specs.TreeOf.{value_of}
use Rattle.rc_runs.specs.ListContext.{ValueContext}
use Rattle.rc_runs.specs.LastRow.{ends_value, after_rows, last_answer, last_value}
use Rattle.rc_runs.specs.ValueEnd.{ValueEnd}
use Rattle.rc_runs.specs.ValueGrammar.{SpellsValue}
use Rattle.rc_build.specs.declared.builder.Marks.{Marks}
use Rattle.rc_build.specs.declared.handlers.MayThrow.{MayThrow}
use Rattle.rc_build.specs.declared.value_ends.NamedPlace.{NamedPlace}
use Rattle.rc_build.specs.declared.value_ends.ValueForm.{ValueForm}
use Rattle.rc_build.specs.declared.value_ends.ValueForm.TheVariants as forms
use Rattle.rc_build.specs.declared.values.BuiltValue.{BuiltValue}
use Rattle.rc_build.specs.TerminalForms.{is_in_values, is_label}
use Rattle.rc_build.specs.BlockFacts.{BlockIs, IsValueReferenced}
use Rattle.rc_build.specs.inside.Throws.{may_throw, throw_at}
use Rattle.rc_build.specs.inside.ValueKinds.{terminal_at}
use Rattle.rc_build.specs.inside.ValueSteps.{step_at}
use Rattle.rc_build.specs.inside.Values.{CanBuildValue, IsBuilt}

-- what a terminal is at the end of a value's last block
abbrev pub value_form : Terminal → ValueForm
value_form (terminals.Branch test consequent alternate id span) = forms.Ends
value_form (terminals.Goto block variant id span) = forms.Ends
value_form (terminals.Label block fallthrough id span) = forms.Labels
value_form _ = forms.NoValue

-- the terminal ends a value, and its id is set
pub record EndsValue (terminal : Terminal) : Type 0 where
  pub ends : ends_value terminal ≡ true
  pub set : is_unset (evaluation_order terminal) ≡ false

-- why the terminal of the block doesn't end a value
abbrev pub EndFault : BlockId → Terminal → Fault → Type 0
EndFault key terminal (faults.Malformed block rules.UnsetId) =
    (block ≡ key) × (is_unset (evaluation_order terminal) ≡ true)
EndFault key terminal (faults.Malformed block rules.NotValue) = (block ≡ key) × (is_in_values terminal ≡ false)
EndFault key terminal (faults.Todo block) = (block ≡ key) × (is_label terminal ≡ true)
EndFault key terminal _ = ⊥

-- the place that a `Branch` tests, and its id
abbrev pub place_named : Terminal → Option NamedPlace
place_named (terminals.Branch test consequent alternate id span) = Some (record { place = test; id = id })
place_named _ = None

-- the rest of a value can be built: it doesn't go on after the block
pub record CanBuildLast (hir : HirFunction) (marks : Marks) (key : BlockId) : Type 0 where
  pub can : CanBuildValue hir marks key
  pub ends : step_at hir key ≡ None

-- the last block of a value can be built: it ends neither in a value terminal nor in a `MaybeThrow`
pub record CanBuildEnd (hir : HirFunction) (marks : Marks) (key : BlockId) : Type 0 where
  pub can : CanBuildValue hir marks key
  pub ends : terminal_at hir key ≡ None
  pub stays : throw_at hir key ≡ None

-- the last two blocks of a value can be built: the first one may throw, and the other one only goes on
pub record CanBuildLastThrow (hir : HirFunction) (marks : Marks) (key : BlockId) (throw : MayThrow) : Type 0 where
  pub can : CanBuildValue hir marks key
  pub here : BlockIs hir key (λ block. may_throw block.terminal ≡ Some throw)
  pub goes : is_empty_goto (block_at hir throw.continuation) ≡ true

-- what is built of a block with that terminal is a value of the block alone, in every context
pub record IsValueOf (hir : HirFunction) (env : Environment) (key : BlockId) (terminal : Terminal) (built : BuiltValue) :
    Type 0 where
  pub value : Value
  pub end : ValueEnd
  pub is : IsBuilt hir value end built
  pub at_end : end.last ≡ terminal
  pub spelled : (context : ValueContext) → SpellsValue hir env key context value end (key ∷ [])

-- what is built of rows with these numbers, whose ids are set: the last row is the value, which ends with that block
-- and terminal
pub record IsValueOfRows (hir : HirFunction) (env : Environment) (numbers : List InstructionId) (key : BlockId)
    (terminal : Terminal) (built : BuiltValue) : Type 0 where
  pub rows : List Instruction
  pub row : Instruction
  pub filled : rows_of hir.instructions numbers ≡ Some (rows ++ row ∷ [])
  pub set : list_any (λ other. is_unset other.id) (rows ++ row ∷ []) ≡ false
  pub is : built.value ≡ value_of (after_rows rows row.id (Base (last_value env row.value)))
  pub answer : built.answer ≡ last_answer env row.lvalue row.value
  pub id : built.id ≡ row.id
  pub block : built.block ≡ key
  pub last : built.last.now ≡ terminal
  pub left : built.left_open ≡ None

-- the block under the key has that terminal, which ends a value, and lists these numbers; it is referred to as a value
pub record IsRead (hir : HirFunction) (key : BlockId) (terminal : Terminal) (numbers : List InstructionId) : Type 0 where
  pub block : BasicBlock
  pub found : basic_block hir key ≡ Some block
  pub own : same_id block.id key ≡ true
  pub is : block.terminal ≡ terminal
  pub lists : block.instructions ≡ numbers
  pub ends : EndsValue terminal
  pub referenced : IsValueReferenced hir key

-- no value is spelled from the block on
abbrev pub SpellsNoValue : HirFunction → Environment → BlockId → Type 0
SpellsNoValue hir env key = (context : ValueContext) (value : Value) (end : ValueEnd) (blocks : List BlockId) →
    SpellsValue hir env key context value end blocks → ⊥
