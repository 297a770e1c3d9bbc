-- The values of loops: one after which the graph goes on, and one that chooses between two blocks.
use Rattle.std.specs.Prelude.{◌≡◌, Bool, List, Option, if◌then◌else◌}
use Rattle.rc_names.specs.Numbers.{BlockId}
use Rattle.rc_names.specs.declared.span.Span.{Span}
use Rattle.rc_hir.specs.Model.{HirFunction, Environment}
use Rattle.rc_runs.specs.PlainTree.{Value}
use Rattle.rc_runs.specs.ListContext.{ValueContext}
use Rattle.rc_runs.specs.Flattened.{flattened}
use Rattle.rc_runs.specs.ValueEnd.{ValueEnd, GoesTo, ChoosesBetween}
use Rattle.rc_runs.specs.ValueGrammar.{SpellsValue}

-- a value as it is in a loop, which flattens it or not
abbrev pub shown : Bool → Option Span → ValueEnd → Value → Value
shown flat span end value = if flat then flattened end.answer end.id span value else value

-- the value from a block on, after which the graph goes on at the next block
pub record SpellsGoing (hir : HirFunction) (env : Environment) (flat : Bool) (key : BlockId) (context : ValueContext)
    (next : BlockId) (shown_value : Value) (used : List BlockId) : Type 0 where
  pub value : Value
  pub end : ValueEnd
  pub spelled : SpellsValue hir env key context value end used
  pub goes : GoesTo next end
  pub is_shown : shown_value ≡ shown flat context.around end value

-- the value from a block on, which chooses between two blocks by its answer
pub record SpellsTest (hir : HirFunction) (env : Environment) (flat : Bool) (key : BlockId) (context : ValueContext)
    (consequent alternate : BlockId) (shown_value : Value) (used : List BlockId) : Type 0 where
  pub value : Value
  pub end : ValueEnd
  pub spelled : SpellsValue hir env key context value end used
  pub chooses : ChoosesBetween env consequent alternate end
  pub is_shown : shown_value ≡ shown flat context.around end value
