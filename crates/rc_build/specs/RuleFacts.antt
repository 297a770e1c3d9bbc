-- What holds of the block that a fault names, one equation a rule.
use Rattle.std.specs.Prelude.{◌≡◌, ◌≤◌, ◌⊎◌, ℕ, true, false, [], Some, None, nat_eq, slice_get}
use Rattle.std.specs.List.{list_any}
use Rattle.rc_names.specs.Numbers.{BlockId, InstructionId, ScopeId, same_id}
use Rattle.rc_hir.specs.Successors.{successors}
use Rattle.rc_hir.specs.Terminal.{evaluation_order}
use Rattle.rc_hir.specs.Model.{Fault, Rule, Terminal, Instruction, BasicBlock, HirFunction}
use Rattle.rc_hir.specs.declared.fault.Fault.TheVariants as faults
use Rattle.rc_hir.specs.declared.fault.Rule.TheVariants as rules
use Rattle.rc_hir.specs.declared.fault.TableName.TheVariants as table_names
use Rattle.rc_hir.specs.declared.terminal.GotoVariant.TheVariants as variants
use Rattle.rc_hir.specs.declared.terminal.Terminal.TheVariants as terminals
use Rattle.rc_runs.specs.Silent.{is_unset}
use Rattle.rc_runs.specs.LastRow.{ends_value}
use Rattle.rc_runs.specs.Graph.{basic_block, ends_unreachable}
use Rattle.rc_build.specs.References.{Arm, InCase, ScopeFallthrough, ValueFallthrough}
use Rattle.rc_build.specs.References.{fallthrough_of, turn_block, is_while}
use Rattle.rc_runs.specs.Spelled.{scope_named}
use Rattle.rc_runs.specs.SwitchCases.{has_one_default, tests_past}
use Rattle.rc_build.specs.TerminalForms.{Jumps, is_continue, is_leave, names_handler, is_throw, is_branch, is_label}
use Rattle.rc_build.specs.TerminalForms.{is_in_values}
use Rattle.rc_build.specs.BlockFacts.{BlockIs, times_referenced, IsFramedApart, IsReferredAs, HasTry}
use Rattle.rc_build.specs.BlockFacts.{ValueBlockIs, IsEmptyGoto}

-- a row of the block has the id that means unset
pub record HasUnsetRow (hir : HirFunction) (block : BasicBlock) : Type 0 where
  pub number : InstructionId
  pub row : Instruction
  pub among : list_any (λ other. nat_eq number.0 other.0) block.instructions ≡ true
  pub found : slice_get hir.instructions number.0 ≡ Some row
  pub unset : is_unset row.id ≡ true

-- the terminal of block b is a `Goto` of variant `Break`, or a `Branch` with an arm that is framed apart
-- from b
abbrev pub IsLostJump : HirFunction → BlockId → Terminal → Type 0
IsLostJump hir b (terminals.Goto block variants.Break id span) = Unit {0}
IsLostJump hir b (terminals.Branch test consequent alternate id span) =
    IsFramedApart hir b consequent ⊎ IsFramedApart hir b alternate
IsLostJump hir b _ = ⊥

-- a successor of the terminal ends in `Unreachable`
abbrev pub HasUnreachableSuccessor : HirFunction → Terminal → Type 0
HasUnreachableSuccessor hir terminal = list_any (ends_unreachable hir) (successors terminal) ≡ true

-- another block opens the same scope
pub record SharesScope (hir : HirFunction) (b : BlockId) (terminal : Terminal) : Type 0 where
  pub scope : ScopeId
  pub opens : scope_named terminal ≡ Some scope
  pub other : BlockId
  pub apart : same_id other b ≡ false
  pub also : BlockIs hir other (λ block. scope_named block.terminal ≡ Some scope)

-- the terminal's fallthrough is framed apart from block b, or ends in `Unreachable`
pub record FallsBadly (hir : HirFunction) (b : BlockId) (terminal : Terminal) : Type 0 where
  pub fallthrough : BlockId
  pub falls : fallthrough_of terminal ≡ Some fallthrough
  pub bad : IsFramedApart hir b fallthrough ⊎ (ends_unreachable hir fallthrough ≡ true)

-- the loop's fallthrough or the block with which its turns begin is framed apart from block b, or these two are one
-- block, or the loop is a `While` whose fallthrough ends in `Unreachable`
pub record LoopsBadly (hir : HirFunction) (b : BlockId) (terminal : Terminal) : Type 0 where
  pub fallthrough : BlockId
  pub start : BlockId
  pub falls : fallthrough_of terminal ≡ Some fallthrough
  pub starts : turn_block terminal ≡ Some start
  pub bad : IsFramedApart hir b fallthrough ⊎ (IsFramedApart hir b start ⊎ ((same_id fallthrough start ≡ true)
      ⊎ ((is_while terminal ≡ true) × (ends_unreachable hir fallthrough ≡ true))))

-- the terminal is a `Switch` with two defaults, or with a tested case whose block is the fallthrough
abbrev pub HasOddCases : Terminal → Type 0
HasOddCases (terminals.Switch test cases fallthrough id span) =
    (has_one_default cases ≡ false) ⊎ (tests_past fallthrough cases ≡ true)
HasOddCases _ = ⊥

-- the terminal only leads to another block: it is a `Goto`, or a `MaybeThrow` before a block without rows that ends in
-- one
abbrev pub OnlyGoesOn : HirFunction → Terminal → Type 0
OnlyGoesOn hir (terminals.Goto block variant id span) = Unit {0}
OnlyGoesOn hir (terminals.MaybeThrow continuation handler id span) = IsEmptyGoto hir continuation
OnlyGoesOn hir _ = ⊥

-- the block ends in a `Label`, and a block of the graph refers to it as to a value
abbrev pub IsLabeledValue : HirFunction → BlockId → Type 0
IsLabeledValue hir key = ValueBlockIs hir key (λ block. is_label block.terminal ≡ true)

-- the fact that a rule's fault states of its block; of `OtherTree` no fault comes
abbrev pub RuleFact : HirFunction → Rule → BlockId → Type 0
RuleFact hir rules.NoBlock key = (basic_block hir key ≡ None) × (1 ≤ times_referenced hir key)
RuleFact hir rules.KeyDiffers key = BlockIs hir key (λ block. same_id block.id key ≡ false)
RuleFact hir rules.UnsetId key = BlockIs hir key
    (λ block. HasUnsetRow hir block ⊎ (is_unset (evaluation_order block.terminal) ≡ true))
RuleFact hir rules.Twice key = BlockIs hir key (λ block. 2 ≤ times_referenced hir key)
RuleFact hir rules.BreakTarget key = BlockIs hir key (λ block. IsLostJump hir key block.terminal)
RuleFact hir rules.ContinueTarget key = BlockIs hir key (λ block. is_continue block.terminal ≡ true)
RuleFact hir rules.GotoTry key = BlockIs hir key (λ block. is_leave block.terminal ≡ true)
RuleFact hir rules.Handler key = BlockIs hir key (λ block. names_handler block.terminal ≡ true)
RuleFact hir rules.ThrowInTry key = BlockIs hir key (λ block. is_throw block.terminal ≡ true) × HasTry hir
RuleFact hir rules.LoopLive key = BlockIs hir key (λ block. LoopsBadly hir key block.terminal)
RuleFact hir rules.SwitchCase key = BlockIs hir key (λ block. HasOddCases block.terminal)
RuleFact hir rules.CaseLabel key =
    BlockIs hir key (λ block. (target : BlockId) × Jumps block.terminal target × IsReferredAs InCase hir target)
RuleFact hir rules.ScopeBreak key =
    BlockIs hir key (λ block. (target : BlockId) × Jumps block.terminal target × IsReferredAs ScopeFallthrough hir target)
RuleFact hir rules.Dead key = BlockIs hir key (λ block. HasUnreachableSuccessor hir block.terminal)
RuleFact hir rules.ScopeTwice key = BlockIs hir key (λ block. SharesScope hir key block.terminal)
RuleFact hir rules.FallsElsewhere key = BlockIs hir key (λ block. FallsBadly hir key block.terminal)
RuleFact hir rules.EmptyValue key =
    ValueBlockIs hir key (λ block. (block.instructions ≡ []) × OnlyGoesOn hir block.terminal)
RuleFact hir rules.NotValue key = ValueBlockIs hir key (λ block. is_in_values block.terminal ≡ false)
RuleFact hir rules.ValueEnd key =
    ValueBlockIs hir key (λ block. (ends_value block.terminal ≡ true) ⊎ IsReferredAs ValueFallthrough hir key)
RuleFact hir rules.Tested key = ValueBlockIs hir key (λ block. is_branch block.terminal ≡ true)
RuleFact hir rules.ShortArm key = ValueBlockIs hir key (λ block. is_branch block.terminal ≡ true)
RuleFact hir rules.LoudArm key = IsReferredAs Arm hir key × BlockIs hir key (λ block. Unit {0})
RuleFact hir _ key = ⊥

-- the block names a row that isn't there
abbrev pub LacksRow : HirFunction → ℕ → BasicBlock → Type 0
LacksRow hir index block = list_any (λ number. nat_eq index number.0) block.instructions ≡ true

-- the fact that a fault of the builder states; of the faults without a line none comes from it
abbrev pub FaultFact : HirFunction → Fault → Type 0
FaultFact hir (faults.Malformed block rule) = RuleFact hir rule block
FaultFact hir (faults.Todo block) = IsLabeledValue hir block
FaultFact hir (faults.BadName table_names.Instructions index) =
    (slice_get hir.instructions index ≡ None) × ((key : BlockId) × BlockIs hir key (LacksRow hir index))
FaultFact hir faults.NoMemory = Unit {0}
FaultFact hir _ = ⊥
