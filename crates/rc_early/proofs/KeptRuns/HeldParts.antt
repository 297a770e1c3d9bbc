-- What holds of all that a tree holds, as the numbers of its values or the blocks that its jumps name, holds of each
-- part of the plain tree that it is.
use Rattle.std.proofs.Common.{◌≡◌, Option, None, Some, option_map, subst}
use Rattle.rc_names.specs.Numbers.{BlockId, EvaluationOrder, ScopeId}
use Rattle.rc_names.specs.declared.span.Span.{Span}
use Rattle.rc_hir.specs.Model.{Place}
use Rattle.rc_tree.specs.Collected.{Contributions, collected, collected_cases, collected_if, collected_list}
use Rattle.rc_tree.specs.Collected.{collected_statement, collected_terminal}
use Rattle.rc_tree.proofs.CollectedLemmas.{collected-block, collected-case, collected-Instruction, collected-Terminal}
use Rattle.rc_tree.proofs.CollectedLemmas.{collected-Scope, collected-PrunedScope, collected-Switch, collected-If}
use Rattle.rc_tree.proofs.TerminalShapes as shapes
use Rattle.rc_tree.proofs.TerminalShapes.{collected-leaf, collected-one, collected-two, of_one}
use Rattle.rc_runs.specs.PlainTree.{Value, Statements, Nil, Cons, Statement, RowStatement, TerminalStatement}
use Rattle.rc_runs.specs.PlainTree.{ScopeStatement, PrunedScopeStatement, TreeTerminal, Break, Continue, Return, Throw}
use Rattle.rc_runs.specs.PlainTree.{Switch, DoWhile, While, For, ForOf, ForIn, If, Label, Try, Alternate, Absent}
use Rattle.rc_runs.specs.PlainTree.{Present}
use Rattle.rc_runs.specs.PlainTree.{Cases, NoCases, Case}
use Rattle.rc_runs.specs.TreeOf.{alternate_of, block_of, cases_of, statement_of, statements_of, terminal_of, value_of}
use Rattle.rc_early.proofs.KeptRuns.PlainParts.{Asked, HeldOne, HoldsAll, HoldsAt, HoldsCases, HoldsIf, HoldsOf}
use Rattle.rc_early.proofs.KeptRuns.PlainParts.{OfOption}
use Rattle.rc_early.proofs.KeptRuns.PlainShapes.{OneList, shape_of}
use Rattle.rc_early.proofs.KeptRuns.PlainShapes as plain

-- if joined contents have the property, both have it, and the contents of a part give what is asked of the part
pub record Gives {A : Type 0} (adds : Contributions A) (Has : A → Type 0) (asked : Asked) : Type 0 where
  pub left : (x y : A) → Has (adds.joining.both x y) → Has x
  pub right : (x y : A) → Has (adds.joining.both x y) → Has y
  pub row : (id : EvaluationOrder) (target : Option Place) (value : Value) (span : Option Span)
      → Has (adds.row (record { id = id; lvalue = target; value = value_of value; span = span }))
      → asked.Row target value
  pub value : (id : EvaluationOrder) (value : Value) → Has (adds.value id (Some (value_of value)))
      → asked.OfValue value
  pub jump : (target : BlockId) → Has (adds.jump target) → asked.Jump target
  pub scope : (scope : ScopeId) (inside : A) → Has (adds.scope scope inside) → Has inside
  pub pruned_scope : (scope : ScopeId) (inside : A) → Has (adds.pruned_scope scope inside) → Has inside

module _ {A : Type 0} (adds : Contributions A) (Has : A → Type 0) (asked : Asked) (gives : Gives adds Has asked) where
  -- equal contents have the property too
  same_has : (x y : A) → x ≡ y → Has x → Has y
  same_has x y e h = subst Has e h

  option_held : (id : EvaluationOrder) (value : Option Value) → Has (adds.value id (option_map value_of value))
      → OfOption asked value
  option_held id None h = tt
  option_held id (Some value) h = gives.value id value h

  -- a terminal with one list
  one_held : (shape : OneList) (inside : A) → Has (of_one adds (shape_of shape) inside)
      → HeldOne asked shape × Has inside
  one_held (plain.DoWhile test id) inside h = (gives.value id test (gives.right _ _ h), gives.left _ _ h)
  one_held (plain.While test id) inside h = (gives.value id test (gives.left _ _ h), gives.right _ _ h)
  one_held (plain.For init test update id) inside h =
      let more = gives.right _ _ h in
      let last = gives.right _ _ more in (
        (
          gives.value id init (gives.left _ _ h),
          gives.value id test (gives.left _ _ more),
          option_held id update (gives.right _ _ last),
        ),
        gives.left _ _ last,
      )
  one_held (plain.ForOf init test span id) inside h =
      let more = gives.right _ _ h in
      ((gives.value id init (gives.left _ _ h), gives.value id test (gives.left _ _ more)), gives.right _ _ more)
  one_held (plain.ForIn init span id) inside h = (gives.value id init (gives.left _ _ h), gives.right _ _ h)
  one_held (plain.IfAlone test id) inside h = (tt, gives.left _ _ (gives.right _ _ h))
  one_held (plain.Label id) inside h = (tt, h)

  one_apart : (shape : OneList) (body : Statements)
      → Has (collected_terminal adds (shapes.with_block (shape_of shape) (block_of body)))
      → HeldOne asked shape × Has (collected adds (block_of body))
  one_apart shape body h =
      one_held shape (collected adds (block_of body))
      (same_has _ _ (collected-one adds (shape_of shape) (block_of body)) h)

  -- a block has what its statements have
  in_block : (body : Statements) → Has (collected adds (block_of body))
      → Has (collected_list adds (statements_of body))
  in_block body h = same_has _ _ (collected-block adds (block_of body)) h

  mutual
    list_held : (statements : Statements) → Has (collected_list adds (statements_of statements))
        → HoldsAll asked statements
    list_held Nil h = tt
    list_held (Cons statement rest) h =
        (statement_held statement (gives.left _ _ h), list_held rest (gives.right _ _ h))

    statement_held : (statement : Statement) → Has (collected_statement adds (statement_of statement))
        → HoldsOf asked statement
    statement_held (RowStatement id target value span) h =
        gives.row id target value span (same_has _ _ (collected-Instruction adds _) h)
    statement_held (TerminalStatement terminal label) h =
        terminal_held terminal (gives.right _ _ (same_has _ _ (collected-Terminal adds
        (record { terminal = terminal_of terminal; label = label })) h))
    statement_held (ScopeStatement scope body) h =
        list_held body (in_block body (gives.scope scope _ (same_has _ _ (collected-Scope adds
        (record { scope = scope; instructions = block_of body })) h)))
    statement_held (PrunedScopeStatement scope body) h =
        list_held body (in_block body (gives.pruned_scope scope _ (same_has _ _ (collected-PrunedScope adds
        (record { scope = scope; instructions = block_of body })) h)))

    terminal_held : (terminal : TreeTerminal) → Has (collected_terminal adds (terminal_of terminal))
        → HoldsAt asked terminal
    terminal_held (Break target kind id) h =
        gives.jump target (same_has _ _ (collected-leaf adds (shapes.Break target kind id)) h)
    terminal_held (Continue target kind id) h =
        gives.jump target (same_has _ _ (collected-leaf adds (shapes.Continue target kind id)) h)
    terminal_held (Return value id) h = tt
    terminal_held (Throw value id) h = tt
    terminal_held (Switch test cases id) h =
        cases_held id cases (gives.right _ _ (same_has _ _ (collected-Switch adds test (cases_of cases) id) h))
    terminal_held (DoWhile body test id) h =
        let parts = one_apart (plain.DoWhile test id) body h in (parts.0, list_held body (in_block body parts.1))
    terminal_held (While test body id) h =
        let parts = one_apart (plain.While test id) body h in (parts.0, list_held body (in_block body parts.1))
    terminal_held (For init test update body id) h =
        let parts = one_apart (plain.For init test update id) body h in
        (parts.0, list_held body (in_block body parts.1))
    terminal_held (ForOf init test body span id) h =
        let parts = one_apart (plain.ForOf init test span id) body h in
        (parts.0, list_held body (in_block body parts.1))
    terminal_held (ForIn init body span id) h =
        let parts = one_apart (plain.ForIn init span id) body h in (parts.0, list_held body (in_block body parts.1))
    terminal_held (If test consequent alternate id) h =
        let parts = gives.right _ _ (same_has _ _
        (collected-If adds test (block_of consequent) (alternate_of alternate) id) h) in (
          list_held consequent (in_block consequent (gives.left _ _ parts)),
          alternate_held alternate (gives.right _ _ parts),
        )
    terminal_held (Label body id) h = list_held body (in_block body (one_apart (plain.Label id) body h).1)
    terminal_held (Try body binding handler id) h =
        let parts = same_has _ _ (collected-two adds (shapes.Try binding id) (block_of body) (block_of handler)) h in (
          list_held body (in_block body (gives.left _ _ parts)),
          list_held handler (in_block handler (gives.right _ _ (gives.right _ _ parts))),
        )

    alternate_held : (alternate : Alternate) → Has (collected_if adds (alternate_of alternate))
        → HoldsIf asked alternate
    alternate_held Absent h = tt
    alternate_held (Present body) h = list_held body (in_block body h)

    cases_held : (id : EvaluationOrder) (cases : Cases) → Has (collected_cases adds id (cases_of cases))
        → HoldsCases asked cases
    cases_held id NoCases h = tt
    cases_held id (Case test body rest) h = (
      alternate_held body (gives.right _ _ (same_has _ _ (collected-case adds test (alternate_of body) id)
          (gives.left _ _ h))),
      cases_held id rest (gives.right _ _ h),
    )

  -- what is asked of each part
  pub all_held : (body : Statements) → Has (collected adds (block_of body)) → HoldsAll asked body
  all_held body h = list_held body (in_block body h)
