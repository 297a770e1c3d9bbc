-- The place of a terminal in the order of evaluation.
use Rattle.rc_names.specs.Numbers.{EvaluationOrder}
use Rattle.rc_hir.specs.Model.{Terminal}
use Rattle.rc_hir.specs.declared.terminal.Terminal.TheVariants as terminals

-- the terminal's id
abbrev pub evaluation_order : Terminal → EvaluationOrder
evaluation_order (terminals.If test consequent alternate fallthrough id span) = id
evaluation_order (terminals.Branch test consequent alternate id span) = id
evaluation_order (terminals.Logical operator test fallthrough id span) = id
evaluation_order (terminals.Ternary test fallthrough id span) = id
evaluation_order (terminals.Optional optional test fallthrough id span) = id
evaluation_order (terminals.Sequence block fallthrough id span) = id
evaluation_order (terminals.Throw value id span) = id
evaluation_order (terminals.Return value id span) = id
evaluation_order (terminals.Goto block variant id span) = id
evaluation_order (terminals.Switch test cases fallthrough id span) = id
evaluation_order (terminals.DoWhile loop_block test fallthrough id span) = id
evaluation_order (terminals.While test loop_block fallthrough id span) = id
evaluation_order (terminals.For init test update loop_block fallthrough id span) = id
evaluation_order (terminals.ForOf init test loop_block fallthrough id span) = id
evaluation_order (terminals.ForIn init loop_block fallthrough id span) = id
evaluation_order (terminals.Label block fallthrough id span) = id
evaluation_order (terminals.Unreachable id span) = id
evaluation_order (terminals.MaybeThrow continuation handler id span) = id
evaluation_order (terminals.Scope fallthrough block scope id span) = id
evaluation_order (terminals.PrunedScope fallthrough block scope id span) = id
evaluation_order (terminals.Try block handler_binding handler fallthrough id span) = id
