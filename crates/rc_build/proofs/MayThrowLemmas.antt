-- Blocks that may throw: where they go on, the handler that they name, and blocks that only go on.
use Rattle.std.proofs.Common.{◌≡◌, Bool, true, false, List, [], ◌∷◌, Option, Some, None, refl, sym, ap, ◌∙◌}
use Rattle.std.specs.Prelude.{option_map, option_and_then}
use Rattle.rc_names.specs.Numbers.{BlockId, InstructionId, EvaluationOrder}
use Rattle.rc_names.specs.declared.span.Span.{Span}
use Rattle.rc_hir.specs.Model.{Instruction, BasicBlock, Terminal, HirFunction, Environment}
use Rattle.rc_hir.specs.declared.fault.Rule.TheVariants as rules
use Rattle.rc_hir.specs.declared.terminal.Terminal.TheVariants as terminals
use Rattle.rc_runs.specs.Graph.{basic_block, block_at, rows_of, with_rows, only_goes, is_empty_goto}
use Rattle.rc_runs.specs.ListContext.{is_current}
use Rattle.rc_runs.specs.LastRow.{ends_value}
use Rattle.rc_runs.specs.ValueGrammar.{Nested, SpellsNested, sequence_value, ternary_value, logical_value, optional_value}
use Rattle.rc_build.specs.declared.handlers.MayThrow.{MayThrow}
use Rattle.rc_build.specs.TerminalForms.{is_goto, names_handler}
use Rattle.rc_build.specs.BlockFacts.{IsEmptyGoto}
use Rattle.rc_build.specs.RuleFacts.{RuleFact}
use Rattle.rc_build.specs.inside.Throws.{may_throw}
use Rattle.rc_build.proofs.RowsLemmas.{first_row}
use Rattle.rc_build.proofs.UsableLemmas.{filled}

-- a terminal that may throw is a `MaybeThrow`
pub throws_as : (terminal : Terminal) (throw : MayThrow) → may_throw terminal ≡ Some throw
    → (id : EvaluationOrder) × (span : Option Span)
    × (terminal ≡ terminals.MaybeThrow throw.continuation throw.handler id span)
throws_as (terminals.MaybeThrow continuation handler id span) throw e =
    let same : record { continuation = continuation; handler = handler } ≡ throw = cc in
    (id, span, ap (λ (z : MayThrow). terminals.MaybeThrow z.continuation z.handler id span) same)
throws_as terminal throw e = let bad : ⊥ = cc in absurd bad

-- it ends no value
pub throws_unended : (terminal : Terminal) (throw : MayThrow) → may_throw terminal ≡ Some throw
    → ends_value terminal ≡ false
throws_unended terminal throw e = ap ends_value (throws_as terminal throw e).2

-- a value terminal doesn't throw
pub nested_stays : {hir : HirFunction} {env : Environment} {handler : Option BlockId} {terminal : Terminal}
    {nested : Nested} {used : List BlockId} → SpellsNested hir env handler terminal nested used
    → may_throw terminal ≡ None
nested_stays (sequence_value d g) = refl
nested_stays (ternary_value t c d g e h u) = refl
nested_stays (logical_value t c d s e h u) = refl
nested_stays (optional_value t c a d g u) = refl

-- one that names another handler than the current one names one
names_other : (named current : Option BlockId) (continuation : BlockId) (id : EvaluationOrder) (span : Option Span)
    → is_current named current ≡ false → names_handler (terminals.MaybeThrow continuation named id span) ≡ true
names_other None current continuation id span other = let bad : ⊥ = cc in absurd bad
names_other (Some handler) current continuation id span other = refl

-- which is the fact of its block
pub handler_fact : (hir : HirFunction) (key : BlockId) (block : BasicBlock) → basic_block hir key ≡ Some block
    → (throw : MayThrow) (current : Option BlockId) → may_throw block.terminal ≡ Some throw
    → is_current throw.handler current ≡ false → RuleFact hir rules.Handler key
handler_fact hir key block found throw current throws other =
    let form = throws_as block.terminal throw throws in record {
      block = block;
      found = found;
      holds = ap names_handler form.2 ∙ names_other throw.handler current throw.continuation form.0 form.1 other;
    }

-- a block only goes on where it has no rows and ends in a `Goto`
pub goes_bare : (terminal : Terminal) → only_goes [] terminal ≡ is_goto terminal
goes_bare (terminals.Goto block variant id span) = refl
goes_bare terminal = refl

module _ (hir : HirFunction) where
  -- the block under the key with its rows, by its basic block
  abbrev at_found : Option BasicBlock → Bool
  at_found found = is_empty_goto (option_and_then (with_rows hir) found)

  found_same : (key : BlockId) (found : Option BasicBlock) → basic_block hir key ≡ found
      → is_empty_goto (block_at hir key) ≡ at_found found
  unfolding block_at
  found_same key found e = ap at_found e

  bare_rows : (block : BasicBlock) → block.instructions ≡ [] → at_found (Some block) ≡ is_goto block.terminal
  bare_rows block none =
      ap (λ z. is_empty_goto (option_map (filled block) (rows_of hir.instructions z))) none ∙ goes_bare block.terminal

  some_rows : (block : BasicBlock) (numbers : List InstructionId) → (numbers ≡ [] → ⊥)
      → is_empty_goto (option_map (filled block) (rows_of hir.instructions numbers)) ≡ false
  some_rows block [] some = absurd (some refl)
  some_rows block (number ∷ numbers) some = go (rows_of hir.instructions (number ∷ numbers)) refl
    where
      go : (rows : Option (List Instruction)) → rows_of hir.instructions (number ∷ numbers) ≡ rows
          → is_empty_goto (option_map (filled block) rows) ≡ false
      go None e = refl
      go (Some rows) e = ap (λ z. only_goes z block.terminal)
          (first_row hir.instructions number numbers rows e).whole

  -- a block without rows only goes on where it ends in a `Goto`
  pub empty_at : (key : BlockId) (block : BasicBlock) → basic_block hir key ≡ Some block → block.instructions ≡ []
      → is_empty_goto (block_at hir key) ≡ is_goto block.terminal
  empty_at key block found none = found_same key (Some block) found ∙ bare_rows block none

  -- one with rows doesn't, and neither does one that isn't there
  pub full_at : (key : BlockId) (block : BasicBlock) → basic_block hir key ≡ Some block → (block.instructions ≡ [] → ⊥)
      → is_empty_goto (block_at hir key) ≡ false
  full_at key block found some = found_same key (Some block) found ∙ some_rows block block.instructions some

  pub missing_at : (key : BlockId) → basic_block hir key ≡ None → is_empty_goto (block_at hir key) ≡ false
  missing_at key none = found_same key None none

  -- a block that only goes on has no rows, and ends in a `Goto`
  pub empty_there : (key : BlockId) → is_empty_goto (block_at hir key) ≡ true → IsEmptyGoto hir key
  empty_there key e = go (basic_block hir key) refl
    where
      rows : (block : BasicBlock) → basic_block hir key ≡ Some block → (numbers : List InstructionId)
          → block.instructions ≡ numbers → IsEmptyGoto hir key
      rows block found [] none = record {
        block = block;
        found = found;
        holds = (none, sym (empty_at key block found none) ∙ e);
      }
      rows block found (number ∷ numbers) some =
          let no = full_at key block found (λ none. let bad : ⊥ = cc in bad) in let bad : ⊥ = cc in absurd bad

      go : (found : Option BasicBlock) → basic_block hir key ≡ found → IsEmptyGoto hir key
      go None none = let no = missing_at key none in let bad : ⊥ = cc in absurd bad
      go (Some block) found = rows block found block.instructions refl
