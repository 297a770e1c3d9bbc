-- A measure of the parts of a tree that is determined by the measures of their own parts, where values and rows stay.
--
-- For example, the tree in which each scope is replaced by its contents is such a measure: that of a list of
-- statements is a list again, and that of a scope is that of its statements.
use Rattle.std.proofs.Common.{◌≡◌, List, [], ◌∷◌, ◌++◌, Option, Some, map}
use Rattle.rc_hir.specs.Model.{Place}
use Rattle.rc_names.specs.Numbers.{EvaluationOrder}
use Rattle.rc_tree.proofs.TerminalShapes.{OneBlock, TwoBlocks, with_block, with_blocks}
use Rattle.rc_tree.specs.Model.{PrunedReactiveScopeBlock, ReactiveScopeBlock, ReactiveBlock, ReactiveStatement}
use Rattle.rc_tree.specs.Model.{ReactiveTerminal, ReactiveTerminalStatement}
use Rattle.rc_tree.specs.declared.statement.ReactiveStatement.TheVariants as reactive
use Rattle.rc_tree.specs.declared.terminal.ReactiveSwitchCase.{ReactiveSwitchCase, roll-ReactiveSwitchCase}
use Rattle.rc_tree.specs.declared.terminal.ReactiveTerminal.TheVariants as tree

-- the measures of lists of statements, of cases and of terminals
pub record Measure (L C P : Type 0) : Type 0 where
  pub statements : List ReactiveStatement → L
  pub case : ReactiveSwitchCase → C
  pub terminal : ReactiveTerminal → P

module _ {L C P : Type 0} (m : Measure L C P) where
  -- the measures of a block and of one statement
  abbrev pub block : ReactiveBlock → L
  block x = m.statements x.statements

  abbrev pub one : ReactiveStatement → L
  one x = m.statements (x ∷ [])

-- the measure of a whole depends only on the measures of its parts
pub record Compositional {L C P : Type 0} (m : Measure L C P) : Type 0 where
  pub append : (xs xs1 ys ys1 : List ReactiveStatement) → m.statements xs1 ≡ m.statements xs
      → m.statements ys1 ≡ m.statements ys
      → m.statements (xs1 ++ ys1) ≡ m.statements (xs ++ ys)
  pub labeled : (x : ReactiveTerminalStatement) (t : ReactiveTerminal) → m.terminal t ≡ m.terminal x.terminal
      → one m (reactive.Terminal (record { terminal = t; label = x.label })) ≡ one m (reactive.Terminal x)
  pub scope : (x : ReactiveScopeBlock) (b : ReactiveBlock) → block m b ≡ block m x.instructions
      → one m (reactive.Scope (record { scope = x.scope; instructions = b })) ≡ one m (reactive.Scope x)
  pub pruned_scope : (x : PrunedReactiveScopeBlock) (b : ReactiveBlock) → block m b ≡ block m x.instructions
      → one m (reactive.PrunedScope (record { scope = x.scope; instructions = b })) ≡ one m (reactive.PrunedScope x)
  pub case : (test : Option Place) (x x1 : ReactiveBlock) → block m x1 ≡ block m x
      → m.case (roll-ReactiveSwitchCase (record { test = test; block = Some x1 }))
      ≡ m.case (roll-ReactiveSwitchCase (record { test = test; block = Some x }))
  pub switch : (test : Place) (cases cases1 : List ReactiveSwitchCase) (id : EvaluationOrder)
      → map m.case cases1 ≡ map m.case cases
      → m.terminal (tree.Switch test cases1 id) ≡ m.terminal (tree.Switch test cases id)
  pub one_block : (shape : OneBlock) (x x1 : ReactiveBlock) → block m x1 ≡ block m x
      → m.terminal (with_block shape x1) ≡ m.terminal (with_block shape x)
  pub two_blocks : (shape : TwoBlocks) (x y x1 y1 : ReactiveBlock) → block m x1 ≡ block m x → block m y1 ≡ block m y
      → m.terminal (with_blocks shape x1 y1) ≡ m.terminal (with_blocks shape x y)
