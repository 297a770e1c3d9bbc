-- How a terminal leads on, and its successors: the blocks to which it leads.
use Rattle.std.specs.Prelude.{Bool, List, [], ◌∷◌, ◌++◌, Option, Some, None, is_none, map, if◌then◌else◌}
use Rattle.std.specs.List.{list_any}
use Rattle.std.specs.Option.{option_to_list}
use Rattle.rc_names.specs.Numbers.{BlockId}
use Rattle.rc_hir.specs.Model.{Case, Terminal}
use Rattle.rc_hir.specs.declared.terminal.Terminal.TheVariants as terminals

-- the case is the default
abbrev pub is_default : Case → Bool
is_default case = is_none case.test

-- the blocks of the cases
abbrev pub case_blocks : List Case → List BlockId
case_blocks cases = map (λ case. case.block) cases

-- the cases of a switch; other terminals have none
abbrev pub cases_of : Terminal → List Case
cases_of (terminals.Switch test cases fallthrough id span) = cases
cases_of _ = []

-- where a switch leads that chooses none of its cases: to its fallthrough, unless there is a default
abbrev pub block_past : List Case → BlockId → Option BlockId
block_past cases fallthrough = if list_any is_default cases then None else Some fallthrough

-- how a terminal leads on: not at all, straight to a block, to one of two blocks by its test, to that of a case or past the
-- cases of a switch, or to a continuation or a handler
pub data Moves : Type 0 where
  Ends : Moves
  Straight : (block : BlockId) → Moves
  ByTest : (consequent alternate : BlockId) → Moves
  ByCase : (cases : List Case) (fallthrough : BlockId) → Moves
  MayThrow : (continuation : BlockId) (handler : Option BlockId) → Moves

-- how each terminal leads on, one line a terminal
abbrev pub moves : Terminal → Moves
moves (terminals.If test consequent alternate fallthrough id span) = ByTest consequent alternate
moves (terminals.Branch test consequent alternate id span) = ByTest consequent alternate
moves (terminals.Logical operator test fallthrough id span) = Straight test
moves (terminals.Ternary test fallthrough id span) = Straight test
moves (terminals.Optional optional test fallthrough id span) = Straight test
moves (terminals.Sequence block fallthrough id span) = Straight block
moves (terminals.Throw value id span) = Ends
moves (terminals.Return value id span) = Ends
moves (terminals.Goto block variant id span) = Straight block
moves (terminals.Switch test cases fallthrough id span) = ByCase cases fallthrough
moves (terminals.DoWhile loop_block test fallthrough id span) = Straight loop_block
moves (terminals.While test loop_block fallthrough id span) = Straight test
moves (terminals.For init test update loop_block fallthrough id span) = Straight init
moves (terminals.ForOf init test loop_block fallthrough id span) = Straight init
moves (terminals.ForIn init loop_block fallthrough id span) = Straight init
moves (terminals.Label block fallthrough id span) = Straight block
moves (terminals.Unreachable id span) = Ends
moves (terminals.MaybeThrow continuation handler id span) = MayThrow continuation handler
moves (terminals.Scope fallthrough block scope id span) = Straight block
moves (terminals.PrunedScope fallthrough block scope id span) = Straight block
moves (terminals.Try block handler_binding handler fallthrough id span) = Straight block

-- the blocks to which these moves lead
abbrev pub blocks : Moves → List BlockId
blocks Ends = []
blocks (Straight block) = block ∷ []
blocks (ByTest consequent alternate) = consequent ∷ alternate ∷ []
blocks (ByCase cases fallthrough) = case_blocks cases ++ option_to_list (block_past cases fallthrough)
blocks (MayThrow continuation handler) = continuation ∷ option_to_list handler

-- the blocks to which a terminal leads
abbrev pub successors : Terminal → List BlockId
successors terminal = blocks (moves terminal)
