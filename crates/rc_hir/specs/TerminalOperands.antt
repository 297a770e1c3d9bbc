-- The table of the terminals: the places that each reads, one line a terminal.
use Rattle.std.specs.Prelude.{List, [], ◌∷◌, Option, None, Some}
use Rattle.std.specs.List.{flat_map}
use Rattle.rc_hir.specs.Model.{Place, Case, Terminal}
use Rattle.rc_hir.specs.declared.terminal.Terminal.TheVariants as terminals

-- an optional place
abbrev pub perhaps_place : Option Place → List Place
perhaps_place None = []
perhaps_place (Some place) = place ∷ []

-- the test of a case, if it isn't the default
abbrev pub case_places : Case → List Place
case_places c = perhaps_place c.test

-- the operands of a terminal, in the order in which they are read
abbrev pub terminal_operands : Terminal → List Place
terminal_operands (terminals.If test consequent alternate fallthrough id span) = test ∷ []
terminal_operands (terminals.Branch test consequent alternate id span) = test ∷ []
terminal_operands (terminals.Logical operator test fallthrough id span) = []
terminal_operands (terminals.Ternary test fallthrough id span) = []
terminal_operands (terminals.Optional optional test fallthrough id span) = []
terminal_operands (terminals.Sequence block fallthrough id span) = []
terminal_operands (terminals.Throw value id span) = value ∷ []
terminal_operands (terminals.Return value id span) = value ∷ []
terminal_operands (terminals.Goto block variant id span) = []
terminal_operands (terminals.Switch test cases fallthrough id span) = test ∷ flat_map case_places cases
terminal_operands (terminals.DoWhile loop_block test fallthrough id span) = []
terminal_operands (terminals.While test loop_block fallthrough id span) = []
terminal_operands (terminals.For init test update loop_block fallthrough id span) = []
terminal_operands (terminals.ForOf init test loop_block fallthrough id span) = []
terminal_operands (terminals.ForIn init loop_block fallthrough id span) = []
terminal_operands (terminals.Label block fallthrough id span) = []
terminal_operands (terminals.Unreachable id span) = []
terminal_operands (terminals.MaybeThrow continuation handler id span) = []
terminal_operands (terminals.Scope fallthrough block scope id span) = []
terminal_operands (terminals.PrunedScope fallthrough block scope id span) = []
terminal_operands (terminals.Try block handler_binding handler fallthrough id span) =
    perhaps_place handler_binding
