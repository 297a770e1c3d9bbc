-- The forms of terminals that the facts of rules ask for.
use Rattle.std.specs.Prelude.{Bool, true, false, Option, Some, None}
use Rattle.rc_names.specs.Numbers.{BlockId, EvaluationOrder}
use Rattle.rc_names.specs.declared.span.Span.{Span}
use Rattle.rc_hir.specs.Model.{Place, Terminal}
use Rattle.rc_hir.specs.declared.terminal.GotoVariant.TheVariants as variants
use Rattle.rc_hir.specs.declared.terminal.Terminal.TheVariants as terminals

-- the terminal is a jump to the target: a `Goto` of variant `Break`, or an arm of a `Branch`
pub data Jumps : Terminal → BlockId → Type 0 where
  goto_break : {target : BlockId} {id : EvaluationOrder} {span : Option Span} →
      Jumps (terminals.Goto target variants.Break id span) target
  first_arm : {test : Place} {consequent alternate : BlockId} {id : EvaluationOrder} {span : Option Span} →
      Jumps (terminals.Branch test consequent alternate id span) consequent
  second_arm : {test : Place} {consequent alternate : BlockId} {id : EvaluationOrder} {span : Option Span} →
      Jumps (terminals.Branch test consequent alternate id span) alternate

-- the terminal is a `Goto` of variant `Continue`
abbrev pub is_continue : Terminal → Bool
is_continue (terminals.Goto target variants.Continue id span) = true
is_continue _ = false

-- the terminal is a `Goto` of variant `Try`
abbrev pub is_leave : Terminal → Bool
is_leave (terminals.Goto target variants.Try id span) = true
is_leave _ = false

-- the terminal is a `MaybeThrow` that names a handler
abbrev pub names_handler : Terminal → Bool
names_handler (terminals.MaybeThrow continuation (Some handler) id span) = true
names_handler _ = false

abbrev pub is_throw : Terminal → Bool
is_throw (terminals.Throw value id span) = true
is_throw _ = false

abbrev pub is_try : Terminal → Bool
is_try (terminals.Try block handler_binding handler fallthrough id span) = true
is_try _ = false

abbrev pub is_branch : Terminal → Bool
is_branch (terminals.Branch test consequent alternate id span) = true
is_branch _ = false

-- the alternate of a `Branch`
abbrev pub branch_alternate : Terminal → Option BlockId
branch_alternate (terminals.Branch test consequent alternate id span) = Some alternate
branch_alternate _ = None

abbrev pub is_goto : Terminal → Bool
is_goto (terminals.Goto block variant id span) = true
is_goto _ = false

abbrev pub is_label : Terminal → Bool
is_label (terminals.Label block fallthrough id span) = true
is_label _ = false

-- a block of a value may end in the terminal, even if the value goes on after it, or is refused for its `Label`
abbrev pub is_in_values : Terminal → Bool
is_in_values (terminals.Branch test consequent alternate id span) = true
is_in_values (terminals.Goto block variant id span) = true
is_in_values (terminals.Label block fallthrough id span) = true
is_in_values (terminals.Logical operator test fallthrough id span) = true
is_in_values (terminals.Ternary test fallthrough id span) = true
is_in_values (terminals.Optional optional test fallthrough id span) = true
is_in_values (terminals.Sequence block fallthrough id span) = true
is_in_values (terminals.MaybeThrow continuation handler id span) = true
is_in_values _ = false
