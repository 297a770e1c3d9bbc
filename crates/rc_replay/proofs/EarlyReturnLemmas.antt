-- What a statement stores and what a break returns are what they are of the plain statement.
use Rattle.std.proofs.Common.{◌≡◌, Bool, true, false, Option, Some, None, refl, sym, ap, ◌∙◌}
use Rattle.std.specs.Prelude.{if◌then◌else◌}
use Rattle.rc_names.specs.Numbers.{BlockId, EvaluationOrder}
use Rattle.rc_hir.specs.Model.{Environment, Place}
use Rattle.rc_tree.specs.Model.{ReactiveInstruction, ReactiveTerminalTargetKind}
use Rattle.rc_tree.specs.declared.kind.ReactiveTerminalTargetKind.TheVariants.{Implicit, Labeled, Unlabeled}
use Rattle.rc_tree.specs.declared.statement.ReactiveStatement.{out-ReactiveStatement}
use Rattle.rc_tree.specs.declared.statement.ReactiveStatement.TheVariants as reactive
use Rattle.rc_tree.specs.declared.value.ReactiveValue.{out-ReactiveValue}
use Rattle.rc_tree.specs.declared.value.ReactiveValue.TheVariants as values
use Rattle.rc_runs.specs.PlainTree.{Value, Base, Logical, Conditional, Sequence, Optional, Statement, RowStatement}
use Rattle.rc_runs.specs.PlainTree.{TerminalStatement, ScopeStatement, PrunedScopeStatement, TreeTerminal, Break, Return}
use Rattle.rc_runs.specs.Returning.{stored_by, is_early_label, returning_break}
use Rattle.rc_runs.specs.TreeOf.{value_of, instructions_of, statement_of, terminal_of, block_of}
use Rattle.rc_replay.specs.inside.EarlyReturn.{stored_value, stored_in, returned_by}

stored-value : (row : ReactiveInstruction) (value : Value) → stored_value row (out-ReactiveValue (value_of value))
    ≡ stored_by (RowStatement row.id row.lvalue value row.span)
stored-value row (Base value) = ap (stored_value row) (values.outs-Instruction value)
stored-value row (Logical operator left right) =
    ap (stored_value row) (values.outs-LogicalExpression operator (value_of left) (value_of right))
stored-value row (Conditional test consequent alternate) =
    ap (stored_value row) (values.outs-ConditionalExpression (value_of test) (value_of consequent) (value_of alternate))
stored-value row (Sequence rows id value) =
    ap (stored_value row) (values.outs-SequenceExpression (instructions_of rows) id (value_of value))
stored-value row (Optional value optional) =
    ap (stored_value row) (values.outs-OptionalExpression (value_of value) optional)

-- what a statement stores
pub stored-plain : (statement : Statement) → stored_in (out-ReactiveStatement (statement_of statement))
    ≡ stored_by statement
stored-plain (RowStatement id target value span) =
    let row : ReactiveInstruction = record { id = id; lvalue = target; value = value_of value; span = span } in
    ap stored_in (reactive.outs-Instruction row) ∙ stored-value row value
stored-plain (TerminalStatement terminal label) =
    ap stored_in (reactive.outs-Terminal (record { terminal = terminal_of terminal; label = label }))
stored-plain (ScopeStatement scope body) =
    ap stored_in (reactive.outs-Scope (record { scope = scope; instructions = block_of body }))
stored-plain (PrunedScopeStatement scope body) =
    ap stored_in (reactive.outs-PrunedScope (record { scope = scope; instructions = block_of body }))

-- the return of that place, or the break
abbrev pub break_or_return : Option Place → BlockId → ReactiveTerminalTargetKind → EvaluationOrder → TreeTerminal
break_or_return (Some place) target kind id = Return place id
break_or_return None target kind id = Break target kind id

-- what a break returns
pub returned-plain : (env : Environment) (stored : Option Place) (target : BlockId) (kind : ReactiveTerminalTargetKind)
    (id : EvaluationOrder)
    → returning_break env stored target kind id ≡ break_or_return (returned_by env stored target kind) target kind id
returned-plain env None target Implicit id = refl
returned-plain env None target Labeled id = refl
returned-plain env None target Unlabeled id = refl
returned-plain env (Some place) target Implicit id = refl
returned-plain env (Some place) target Unlabeled id = refl
returned-plain env (Some place) target Labeled id = by (is_early_label env target)
  where
    by : (early : Bool) → (if early then Return place id else Break target Labeled id)
        ≡ break_or_return (if early then Some place else None) target Labeled id
    by true = refl
    by false = refl
