-- The statements of a block row by row: first those of its rows, then those of its terminal.
--
-- A list goes on at the continuation of a block that may throw, without a statement. So the rows and the terminal that
-- are shown here are those of the first block in such a chain that has a row left, or that ends the chain.
use Rattle.std.proofs.Common.{◌≡◌, Bool, true, false, List, [], ◌∷◌, Some}
use Rattle.rc_names.specs.Numbers.{BlockId}
use Rattle.rc_hir.specs.Model.{Terminal, Instruction, HirFunction, Environment}
use Rattle.rc_hir.specs.Terminal.{evaluation_order}
use Rattle.rc_runs.specs.Silent.{is_unset}
use Rattle.rc_runs.specs.PlainTree.{Base, Statements, Cons, RowStatement}
use Rattle.rc_runs.specs.ListContext.{ListContext}
use Rattle.rc_runs.specs.SimpleStatements.{rows_before}
use Rattle.rc_runs.specs.Grammar.{SpellsTerminal, may_throw}

-- the statements are those of the continuation of a block that may throw
abbrev pub goes_further : {hir : HirFunction} {env : Environment} {terminal : Terminal} {context : ListContext}
    {statements : Statements} {used : List BlockId} → SpellsTerminal hir env terminal context statements used → Bool
goes_further (may_throw current further spelled) = true
goes_further _ = false

-- the statements of the remaining rows of a block, and of its terminal, whose id is set
pub data SpellsRows (hir : HirFunction) (env : Environment) : List Instruction → Terminal → ListContext → Statements
    → List BlockId → Type 0 where
  row_then : {row : Instruction} {rows : List Instruction} {terminal : Terminal} {context : ListContext}
      {rest : Statements} {used : List BlockId} → is_unset (evaluation_order terminal) ≡ false
      → SpellsTerminal hir env terminal context rest used
      → SpellsRows hir env (row ∷ rows) terminal context
      (Cons (RowStatement row.id (Some row.lvalue) (Base row.value) row.span) (rows_before rows rest)) used
  rows_done : {terminal : Terminal} {context : ListContext} {statements : Statements} {used : List BlockId}
      → is_unset (evaluation_order terminal) ≡ false
      → (spelled : SpellsTerminal hir env terminal context statements used) → goes_further spelled ≡ false
      → SpellsRows hir env [] terminal context statements used
