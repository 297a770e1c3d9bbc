-- A `Label` without a name can be replaced by its statements, since no jump names it.
use Rattle.std.specs.Prelude.{◌≡◌, [], Option, None, Ok, Result, IfOk}
use Rattle.rc_hir.specs.Model.{Fault}
use Rattle.rc_names.specs.Numbers.{EvaluationOrder}
use Rattle.rc_tree.specs.Unrolled.{UnrolledTerminal}
use Rattle.rc_tree.specs.RewriteSteps.{RewriteSteps}
use Rattle.rc_tree.specs.Model.{ReactiveBlock, ReactiveStatement, ReactiveLabel, ReactiveTerminalStatement, Transformed}
use Rattle.rc_tree.specs.declared.statement.ReactiveStatement.TheOpen as layer
use Rattle.rc_tree.specs.declared.statement.ReactiveStatement.TheVariants as reactive
use Rattle.rc_tree.specs.declared.terminal.ReactiveTerminal.{out-ReactiveTerminal}
use Rattle.rc_tree.specs.declared.terminal.ReactiveTerminal.TheVariants as tree
use Rattle.rc_tree.specs.declared.hooks.Transformed.TheVariants.{Keep, ReplaceMany}
use Rattle.rc_tree.specs.declared.hooks.Enter.TheVariants.{Inside}

-- the `Label`
abbrev pub unnamed : ReactiveBlock → EvaluationOrder → ReactiveTerminalStatement
unnamed body id = record { terminal = tree.Label body id; label = None }

-- the replacement of a terminal, with the terminal afterwards
abbrev pub taken_out : ReactiveTerminalStatement → Option ReactiveLabel → UnrolledTerminal
    → Transformed ReactiveStatement × ReactiveTerminalStatement
taken_out x None (layer.Label body id) =
    (ReplaceMany body.statements, record { terminal = tree.Label (record { statements = [] }) id; label = None })
taken_out x label _ = (Keep, x)

-- the same, by the label and the form of the terminal
abbrev pub without_name : ReactiveTerminalStatement → Transformed ReactiveStatement × ReactiveTerminalStatement
without_name x = taken_out x x.label (out-ReactiveTerminal x.terminal)

-- the steps replace the `Label` by its statements: those at a terminal don't change it, and the last one takes the
-- statements out
pub record TakesOut {W : Type 0} (v : RewriteSteps W) : Type 0 where
  pub enters : (w : W) (x : ReactiveTerminalStatement) → (w1 : W) × (v.enter_terminal w x ≡ Ok (Inside, (w1, x)))
  pub visits : (w : W) (id : EvaluationOrder) → (w1 : W) × (v.visit_id id w ≡ Ok (tt, w1))
  pub leaves : (w : W) (x : ReactiveTerminalStatement) → (w1 : W) × (v.leave_terminal w x ≡ Ok (tt, (w1, x)))
  pub answers : (w : W) (x : ReactiveTerminalStatement) → (w1 : W)
      × (v.transform_terminal w x ≡ Ok ((without_name x).0, (w1, (without_name x).1)))

-- if the statement is such a `Label`, the result is the statements of its block at that time
abbrev pub GivesWay : ReactiveStatement → Result (Transformed ReactiveStatement) Fault → Type 0
GivesWay x result = (body : ReactiveBlock) (id : EvaluationOrder) → x ≡ reactive.Terminal (unnamed body id)
    → IfOk result (λ answer. (block : ReactiveBlock) × (answer ≡ ReplaceMany block.statements))
