-- How often a scope is that of a scope block in statements.
use Rattle.std.proofs.Common.{◌≡◌, ◌∙◌, ◌+◌, ℕ, List, [], ◌∷◌, Option, None, Some, arith, refl, ap, subst}
use Rattle.rc_names.specs.Numbers.{BlockId, ScopeId, EvaluationOrder, times}
use Rattle.rc_names.specs.declared.span.Span.{Span}
use Rattle.rc_hir.specs.Model.{Instruction, Place}
use Rattle.rc_tree.specs.Collected.{collected, collected_list, collected_statement, collected_terminal}
use Rattle.rc_tree.specs.Model.{ReactiveLabel}
use Rattle.rc_tree.proofs.CollectedLemmas.{collected-block, collected-Instruction, collected-Terminal, collected-Break}
use Rattle.rc_tree.proofs.CollectedLemmas.{collected-Continue, collected-If}
use Rattle.rc_runs.specs.SimpleStatements.{break_statements, continue_statements, rows_before, unlabeled}
use Rattle.rc_runs.specs.PlainTree.{Value, Base, Statement, RowStatement, TerminalStatement, Statements, Nil, Cons}
use Rattle.rc_runs.specs.PlainTree.{TreeTerminal, Break, Continue, If, Present}
use Rattle.rc_runs.specs.TreeOf.{value_of, block_of, statement_of, statements_of, terminal_of}
use Rattle.rc_runs.specs.declared.frames.BreakResult.{BreakResult}
use Rattle.rc_runs.specs.declared.frames.BreakResult.TheVariants.{NoFrame, LeavesScope, LeavesCase, FallsOff, Breaks}
use Rattle.rc_runs.specs.declared.frames.ContinueResult.{ContinueResult}
use Rattle.rc_runs.specs.declared.frames.ContinueResult.TheVariants.{NoLoop, Continues}
use Rattle.rc_tree.specs.ScopesIn.{scope_parts}
use Rattle.rc_tree.proofs.DistinctLemmas.{times-append}

module _ (s : ScopeId) where
  -- how often the scope is that of a scope block in statements
  abbrev pub tree_times : Statements → ℕ
  tree_times statements = times s (collected_list scope_parts (statements_of statements))

  pub tree-Cons : (statement : Statement) (rest : Statements)
      → tree_times (Cons statement rest)
      ≡ times s (collected_statement scope_parts (statement_of statement)) + tree_times rest
  tree-Cons statement rest =
      times-append s (collected_statement scope_parts (statement_of statement))
      (collected_list scope_parts (statements_of rest))

  -- a label holds nothing
  pub labeled_times : (terminal : TreeTerminal) (own : Option ReactiveLabel) {part : List ScopeId}
      → collected_terminal scope_parts (terminal_of terminal) ≡ part
      → times s (collected_statement scope_parts (statement_of (TerminalStatement terminal own)))
      ≡ times s part
  labeled_times terminal own e =
      ap (times s) (collected-Terminal scope_parts (record { terminal = terminal_of terminal; label = own })
      ∙ ap (λ part. part) e)

  -- a terminal alone
  pub alone_times : (terminal : TreeTerminal) {part : List ScopeId}
      → collected_terminal scope_parts (terminal_of terminal) ≡ part
      → tree_times (unlabeled terminal) ≡ times s part
  alone_times terminal e =
      omega (arith, tree-Cons (TerminalStatement terminal None) Nil, labeled_times terminal None e)

  -- rows have no scope blocks
  pub row_times : (id : EvaluationOrder) (target : Option Place) (value : Value) (span : Option Span)
      → times s (collected_statement scope_parts (statement_of (RowStatement id target value span))) ≡ 0
  row_times id target value span =
      ap (times s) (collected-Instruction scope_parts
      (record { id = id; lvalue = target; value = value_of value; span = span }))

  pub tree-rows : (rows : List Instruction) (rest : Statements) → tree_times (rows_before rows rest) ≡ tree_times rest
  tree-rows [] rest = refl
  tree-rows (row ∷ rows) rest =
      omega (
        arith,
        tree-Cons (RowStatement row.id (Some row.lvalue) (Base row.value) row.span) (rows_before rows rest),
        tree-rows rows rest,
        row_times row.id (Some row.lvalue) (Base row.value) row.span,
      )

  -- a jump has none
  pub jump_times : (way : BreakResult) (target : BlockId) (id : EvaluationOrder) (statements : Statements)
      → break_statements way target id ≡ Some statements → tree_times statements ≡ 0
  jump_times NoFrame target id statements e = absurd (let no : ⊥ = cc in no)
  jump_times LeavesScope target id statements e = absurd (let no : ⊥ = cc in no)
  jump_times LeavesCase target id statements e = absurd (let no : ⊥ = cc in no)
  jump_times FallsOff target id statements e =
      subst (λ x. tree_times x ≡ 0) (let same : Nil ≡ statements = cc in same) refl
  jump_times (Breaks kind) target id statements e =
      subst (λ x. tree_times x ≡ 0) (let same : unlabeled (Break target kind id) ≡ statements = cc in same)
      (alone_times (Break target kind id) (collected-Break scope_parts target kind id))

  pub continue_times : (result : ContinueResult) (id : EvaluationOrder) (statements : Statements)
      → continue_statements result id ≡ Some statements → tree_times statements ≡ 0
  continue_times NoLoop id statements e = absurd (let no : ⊥ = cc in no)
  continue_times (Continues target kind) id statements e =
      subst (λ x. tree_times x ≡ 0) (let same : unlabeled (Continue target kind id) ≡ statements = cc in same)
      (alone_times (Continue target kind id) (collected-Continue scope_parts target kind id))

  pub part_times : (part : Statements) → times s (collected scope_parts (block_of part)) ≡ tree_times part
  part_times part = ap (times s) (collected-block scope_parts (block_of part))

  -- two lists of one statement
  pub two_times : (part other : Statements)
      → times s (scope_parts.joining.both (collected scope_parts (block_of part))
      (collected scope_parts (block_of other))) ≡ tree_times part + tree_times other
  two_times part other =
      omega (
        arith,
        times-append s (collected scope_parts (block_of part))
            (collected scope_parts (block_of other)),
        part_times part,
        part_times other,
      )

  -- the arms of a branch
  pub branch_times : (test : Place) (part other : Statements) (id : EvaluationOrder)
      → tree_times (unlabeled (If test part (Present other) id)) ≡ tree_times part + tree_times other
  branch_times test part other id =
      omega (
        arith,
        alone_times (If test part (Present other) id)
            (collected-If scope_parts test (block_of part) (Some (block_of other)) id),
        two_times part other,
      )
