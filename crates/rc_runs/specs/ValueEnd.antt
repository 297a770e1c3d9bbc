-- The end of a value, and where the graph goes on after it.
use Rattle.std.specs.Prelude.{◌≡◌, true, Option}
use Rattle.rc_names.specs.Numbers.{BlockId, EvaluationOrder}
use Rattle.rc_names.specs.declared.span.Span.{Span}
use Rattle.rc_hir.specs.Model.{Place, GotoVariant, Terminal, Environment}
use Rattle.rc_hir.specs.declared.terminal.Terminal.TheVariants as terminals
use Rattle.rc_runs.specs.AnsweredTest.{same_declaration}

-- the end of a value: the place with which it answers, its id, the terminal of its last block, and the alternate that
-- it leaves to the optional whose test it answers, if there is one
pub record ValueEnd : Type 0 where
  pub answer : Place
  pub id : EvaluationOrder
  pub last : Terminal
  pub left_open : Option BlockId

-- after the value the graph goes on at the next block
pub record GoesTo (next : BlockId) (end : ValueEnd) : Type 0 where
  pub variant : GotoVariant
  pub id : EvaluationOrder
  pub span : Option Span
  pub goes : end.last ≡ terminals.Goto next variant id span

-- the value chooses between two blocks by its answer
pub record ChoosesBetween (env : Environment) (consequent alternate : BlockId) (end : ValueEnd) : Type 0 where
  pub test : Place
  pub id : EvaluationOrder
  pub span : Option Span
  pub chooses : end.last ≡ terminals.Branch test consequent alternate id span
  pub answers : same_declaration env test end.answer ≡ true
