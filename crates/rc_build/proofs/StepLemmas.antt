-- How a value goes on after a block, by the block's terminal.
use Rattle.std.proofs.Common.{◌≡◌, Bool, true, false, Option, Some, None, refl, sym, ap, ◌∙◌}
use Rattle.std.specs.Prelude.{option_and_then, option_map, if◌then◌else◌}
use Rattle.rc_names.specs.Numbers.{BlockId}
use Rattle.rc_hir.specs.Model.{BasicBlock, Terminal, HirFunction, Environment}
use Rattle.rc_hir.specs.declared.terminal.Terminal.TheVariants as terminals
use Rattle.rc_runs.specs.Graph.{basic_block, block_at, is_empty_goto}
use Rattle.rc_build.specs.declared.builder.Marks.{Marks}
use Rattle.rc_build.specs.declared.handlers.MayThrow.{MayThrow}
use Rattle.rc_build.specs.declared.values.Around.{Around}
use Rattle.rc_build.specs.declared.value_steps.Step.{Step}
use Rattle.rc_build.specs.declared.value_steps.Step.TheVariants as steps
use Rattle.rc_build.specs.declared.value_steps.ValueRow.{ValueRow}
use Rattle.rc_build.specs.declared.value_terminals.ValueKind.TheVariants as kinds
use Rattle.rc_build.specs.declared.value_terminals.ValueTerminal.{ValueTerminal}
use Rattle.rc_build.specs.BlockFacts.{BlockIs}
use Rattle.rc_build.specs.inside.Task.{Progress}
use Rattle.rc_build.specs.inside.Throws.{may_throw}
use Rattle.rc_build.specs.inside.ValueKinds.{terminal_of, value_terminal}
use Rattle.rc_build.specs.inside.ValueSteps.{step_at, step_behind}
use Rattle.rc_build.specs.inside.StepRows.{CanBuildRow, CanBuildStep, CanBuildThrowing, IsRow, IsStep, IsThrowing}
use Rattle.rc_build.specs.inside.StepRows.{RowBuilt, nested_row, throwing_row}

-- a terminal that is a value terminal
pub terminal_same : (terminal : Terminal) (found : ValueTerminal) → value_terminal terminal ≡ Some found
    → terminal ≡ terminal_of found
terminal_same (terminals.Sequence block fallthrough id span) found e =
    let same : record { kind = kinds.Sequence block; fallthrough = fallthrough; id = id; span = span } ≡ found = cc in
    ap terminal_of same
terminal_same (terminals.Ternary test fallthrough id span) found e =
    let same : record { kind = kinds.Ternary test; fallthrough = fallthrough; id = id; span = span } ≡ found = cc in
    ap terminal_of same
terminal_same (terminals.Logical operator test fallthrough id span) found e =
    let same : record { kind = kinds.Logical operator test; fallthrough = fallthrough; id = id; span = span } ≡ found = cc
    in
    ap terminal_of same
terminal_same (terminals.Optional optional test fallthrough id span) found e =
    let same : record { kind = kinds.Optional optional test; fallthrough = fallthrough; id = id; span = span } ≡ found = cc
    in
    ap terminal_of same
terminal_same terminal found e = let bad : ⊥ = cc in absurd bad

module _ (hir : HirFunction) where
  -- where a value goes on after a value terminal, it is the one that was found
  some_nested : (found : Option ValueTerminal) (terminal : ValueTerminal)
      → option_map steps.Nested found ≡ Some (steps.Nested terminal) → found ≡ Some terminal
  some_nested None terminal e = let bad : ⊥ = cc in absurd bad
  some_nested (Some found) terminal e = ap Some (let same : found ≡ terminal = cc in same)

  no_nested : (found : Option ValueTerminal) (throw : MayThrow)
      → option_map steps.Nested found ≡ Some (steps.Throws throw) → ⊥
  no_nested None throw e = let bad : ⊥ = cc in bad
  no_nested (Some found) throw e = let bad : ⊥ = cc in bad

  pub nested_step : (terminal : Terminal) (found : ValueTerminal)
      → step_behind hir terminal ≡ Some (steps.Nested found) → terminal ≡ terminal_of found
  nested_step (terminals.MaybeThrow continuation handler id span) found e =
      absurd (go (is_empty_goto (block_at hir continuation)) e)
    where
      go : (empty : Bool) → ◌≡◌ {A = Option Step} (if empty then None
          else Some (steps.Throws (record { continuation = continuation; handler = handler }))) (Some (steps.Nested found))
          → ⊥
      go true h = let bad : ⊥ = cc in bad
      go false h = let bad : ⊥ = cc in bad
  nested_step terminal found e = terminal_same terminal found (some_nested (value_terminal terminal) found e)

  pub throws_step : (terminal : Terminal) (throw : MayThrow) → step_behind hir terminal ≡ Some (steps.Throws throw)
      → (may_throw terminal ≡ Some throw) × (is_empty_goto (block_at hir throw.continuation) ≡ false)
  throws_step (terminals.MaybeThrow continuation handler id span) throw e =
      go (is_empty_goto (block_at hir continuation)) refl e
    where
      go : (empty : Bool) → is_empty_goto (block_at hir continuation) ≡ empty
          → ◌≡◌ {A = Option Step} (if empty then None
          else Some (steps.Throws (record { continuation = continuation; handler = handler }))) (Some (steps.Throws throw))
          → (may_throw (terminals.MaybeThrow continuation handler id span) ≡ Some throw)
          × (is_empty_goto (block_at hir throw.continuation) ≡ false)
      go true q h = let bad : ⊥ = cc in absurd bad
      go false q h =
          let same : record { continuation = continuation; handler = handler } ≡ throw = cc in
          (ap Some same, ap (λ (z : MayThrow). is_empty_goto (block_at hir z.continuation)) (sym same) ∙ q)
  throws_step terminal throw e = absurd (no_nested (value_terminal terminal) throw e)

  -- where a value goes on after the block under a key, there is such a block
  pub step_there : (key : BlockId) (step : Step) → step_at hir key ≡ Some step
      → BlockIs hir key (λ block. step_behind hir block.terminal ≡ Some step)
  step_there key step e = go (basic_block hir key) refl e
    where
      go : (found : Option BasicBlock) → basic_block hir key ≡ found
          → option_and_then (λ (z : BasicBlock). step_behind hir z.terminal) found ≡ Some step
          → BlockIs hir key (λ block. step_behind hir block.terminal ≡ Some step)
      go None p h = let bad : ⊥ = cc in absurd bad
      go (Some block) p h = record { block = block; found = p; holds = h }

module _ {hir : HirFunction} {marks : Marks} {key : BlockId} where
  -- where the value goes on after a value terminal, its row can be built
  pub row_can : {step : Step} (terminal : ValueTerminal) → step ≡ steps.Nested terminal → CanBuildStep hir marks key step
      → CanBuildRow hir marks key terminal
  row_can terminal is can = record {
    can = can.can;
    here = record {
      block = can.here.block;
      found = can.here.found;
      holds = nested_step hir can.here.block.terminal terminal (can.here.holds ∙ ap Some is);
    };
  }

  -- or the rows of a block that may throw
  pub throwing_can : {step : Step} (throw : MayThrow) → step ≡ steps.Throws throw → CanBuildStep hir marks key step
      → CanBuildThrowing hir marks key throw
  throwing_can throw is can =
      let both = throws_step hir can.here.block.terminal throw (can.here.holds ∙ ap Some is) in record {
        can = can.can;
        here = record { block = can.here.block; found = can.here.found; holds = both.0 };
        goes_on = both.1;
      }

module _ {hir : HirFunction} {env : Environment} {around : Around} {key : BlockId} {row : ValueRow} {old new : Progress}
  where
    -- the row of a value terminal, and that of a block that may throw
    pub row_step : RowBuilt hir (IsRow hir env around key) key row old new
        → RowBuilt hir (IsStep hir env around key) key row old new
    row_step b = record { newly = b.newly; is = nested_row b.is; marking = b.marking; kept = b.kept }

    pub throwing_step : RowBuilt hir (IsThrowing hir around.handler key) key row old new
        → RowBuilt hir (IsStep hir env around key) key row old new
    throwing_step b = record { newly = b.newly; is = throwing_row b.is; marking = b.marking; kept = b.kept }
