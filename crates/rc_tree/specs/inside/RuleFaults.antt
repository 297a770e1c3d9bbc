-- Which faults the rules of a pass may give.
use Rattle.std.specs.Prelude.{List, IfErr}
use Rattle.rc_hir.specs.Model.{Fault}
use Rattle.rc_tree.specs.Rebuilt.{Rules}
use Rattle.rc_tree.specs.Model.{PrunedReactiveScopeBlock, ReactiveScopeBlock, ReactiveStatement}
use Rattle.rc_tree.specs.Model.{ReactiveTerminalStatement, ReactiveInstruction}

-- each fault of the rules is one of these
pub record FaultsOnly {S : Type 0} (rules : Rules S) (IsSuch : Fault → Type 0) : Type 0 where
  pub row : (x : ReactiveInstruction) (s : S) → IfErr (rules.row x s) IsSuch
  pub terminal : (x : ReactiveTerminalStatement) (s : S) → IfErr (rules.terminal x s) IsSuch
  pub pruned_scope : (x : PrunedReactiveScopeBlock) (s : S) → IfErr (rules.pruned_scope x s) IsSuch
  pub scope : (met : S) (x : ReactiveScopeBlock) (s : S) → IfErr (rules.scope met x s) IsSuch
  pub block : (xs : List ReactiveStatement) (s : S) → IfErr (rules.block xs s) IsSuch
