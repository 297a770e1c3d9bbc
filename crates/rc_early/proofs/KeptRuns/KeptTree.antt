-- Each part of a tree keeps its runs with early returns, by recursion on the plain tree.
use Rattle.std.proofs.Common.{◌≡◌, ◌∙◌, ◌<◌, [], ◌∷◌, Option, refl, sym}
use Rattle.rc_names.specs.Numbers.{BlockId, EvaluationOrder}
use Rattle.rc_names.specs.declared.span.Span.{Span}
use Rattle.rc_hir.specs.Model.{Environment, Place}
use Rattle.rc_tree.specs.Model.{ReactiveInstruction, ReactiveLabel}
use Rattle.rc_tree.specs.declared.statement.ReactiveStatement.TheVariants as reactive
use Rattle.rc_tree.proofs.RebuiltLemmas.{rebuilt-Instruction}
use Rattle.rc_tree.proofs.TerminalShapes as shapes
use Rattle.rc_runs.specs.PlainTree.{Value, Statements, Nil, Cons, Statement, RowStatement, TerminalStatement}
use Rattle.rc_runs.specs.PlainTree.{ScopeStatement, PrunedScopeStatement, TreeTerminal, Break, Continue, Return, Throw}
use Rattle.rc_runs.specs.PlainTree.{Switch, DoWhile, While, For, ForOf, ForIn, If, Label, Try, Alternate, Absent}
use Rattle.rc_runs.specs.PlainTree.{Present}
use Rattle.rc_runs.specs.PlainTree.{Cases, NoCases, Case}
use Rattle.rc_runs.specs.Returning.{is_early_label, returning_after, returning_statement}
use Rattle.rc_runs.specs.TreeOf.{statements_of, value_of}
use Rattle.rc_runs.proofs.KeepsRunsLemmas.{same-keeps_runs}
use Rattle.rc_runs.proofs.PlainLists.{alone}
use Rattle.rc_early.specs.EarlyReturned.{early_return_rules as rules}
use Rattle.rc_early.proofs.KeptRuns.KeptLeaves.{leaf_kept, old_blocks}
use Rattle.rc_early.proofs.KeptRuns.KeptParts.{KeptAlternate, KeptCases, KeptList, KeptStatement, StatementAlike}
use Rattle.rc_early.proofs.KeptRuns.KeptParts.{kept_at, kept_body, kept_cons, kept_nil}
use Rattle.rc_early.proofs.KeptRuns.KeptScopes.{pruned_scope_kept, scope_kept}
use Rattle.rc_early.proofs.KeptRuns.KeptSwitches.{absent_kept, case_kept, no_cases_kept, present_kept, switch_kept}
use Rattle.rc_early.proofs.KeptRuns.KeptTerminals.{one_kept, two_kept}
use Rattle.rc_early.proofs.KeptRuns.PlainParts.{HoldsAll, HoldsAt, HoldsCases, HoldsIf, HoldsOf}
use Rattle.rc_early.proofs.KeptRuns.PlainShapes as plain

module _ (old new : Environment)
    (same : (block : BlockId) → block.0 < old.next_block → is_early_label new block ≡ is_early_label old block) where
  row_alike : (id : EvaluationOrder) (target : Option Place) (value : Value) (span : Option Span)
      → StatementAlike old new (RowStatement id target value span) (alone (RowStatement id target value span))
  unfolding returning_after returning_statement
  row_alike id target value span stored = ((same-keeps_runs new _, same-keeps_runs new _), refl)

  row_kept : (id : EvaluationOrder) (target : Option Place) (value : Value) (span : Option Span)
      → KeptStatement old new (RowStatement id target value span)
  row_kept id target value span s r e =
      let x : ReactiveInstruction = record { id = id; lvalue = target; value = value_of value; span = span } in
      kept_at old new statements_of (StatementAlike old new (RowStatement id target value span)) s s
      (reactive.Instruction x ∷ []) r (sym (rebuilt-Instruction (rules old) x s) ∙ e)
      (λ suits. record {
        suits = suits;
        after = alone (RowStatement id target value span);
        tree = refl;
        alike = row_alike id target value span;
      })

  mutual
    pub kept_list : (before : Statements) → HoldsAll (old_blocks old) before → KeptList old new before
    kept_list Nil h = kept_nil old new
    kept_list (Cons statement rest) h =
        kept_cons old new statement rest (kept_statement statement h.0) (kept_list rest h.1)

    kept_statement : (before : Statement) → HoldsOf (old_blocks old) before → KeptStatement old new before
    kept_statement (RowStatement id target value span) h = row_kept id target value span
    kept_statement (TerminalStatement terminal label) h = kept_terminal terminal label h
    kept_statement (ScopeStatement scope body) h =
        scope_kept old new scope body h (kept_body old new body (kept_list body h))
    kept_statement (PrunedScopeStatement scope body) h =
        pruned_scope_kept old new scope body (kept_body old new body (kept_list body h))

    kept_terminal : (before : TreeTerminal) (label : Option ReactiveLabel) → HoldsAt (old_blocks old) before
        → KeptStatement old new (TerminalStatement before label)
    kept_terminal (Break target kind id) label h = leaf_kept old new same (shapes.Break target kind id) label h
    kept_terminal (Continue target kind id) label h = leaf_kept old new same (shapes.Continue target kind id) label h
    kept_terminal (Return value id) label h = leaf_kept old new same (shapes.Return value id) label h
    kept_terminal (Throw value id) label h = leaf_kept old new same (shapes.Throw value id) label h
    kept_terminal (Switch test cases id) label h = switch_kept old new test cases id label (kept_cases cases h)
    kept_terminal (DoWhile body test id) label h =
        one_kept old new (plain.DoWhile test id) body label (kept_body old new body (kept_list body h.1))
    kept_terminal (While test body id) label h =
        one_kept old new (plain.While test id) body label (kept_body old new body (kept_list body h.1))
    kept_terminal (For init test update body id) label h =
        one_kept old new (plain.For init test update id) body label (kept_body old new body (kept_list body h.1))
    kept_terminal (ForOf init test body span id) label h =
        one_kept old new (plain.ForOf init test span id) body label (kept_body old new body (kept_list body h.1))
    kept_terminal (ForIn init body span id) label h =
        one_kept old new (plain.ForIn init span id) body label (kept_body old new body (kept_list body h.1))
    kept_terminal (If test consequent Absent id) label h =
        one_kept old new (plain.IfAlone test id) consequent label
        (kept_body old new consequent (kept_list consequent h.0))
    kept_terminal (If test consequent (Present other) id) label h =
        two_kept old new (shapes.IfElse test id) consequent other label
        (kept_body old new consequent (kept_list consequent h.0)) (kept_body old new other (kept_list other h.1))
    kept_terminal (Label body id) label h =
        one_kept old new (plain.Label id) body label (kept_body old new body (kept_list body h))
    kept_terminal (Try body binding handler id) label h =
        two_kept old new (shapes.Try binding id) body handler label (kept_body old new body (kept_list body h.0))
        (kept_body old new handler (kept_list handler h.1))

    kept_alternate : (before : Alternate) → HoldsIf (old_blocks old) before → KeptAlternate old new before
    kept_alternate Absent h = absent_kept old new
    kept_alternate (Present body) h = present_kept old new body (kept_body old new body (kept_list body h))

    kept_cases : (before : Cases) → HoldsCases (old_blocks old) before → KeptCases old new before
    kept_cases NoCases h = no_cases_kept old new
    kept_cases (Case test body rest) h =
        case_kept old new test body rest (kept_alternate body h.0) (kept_cases rest h.1)
