-- Where no scope has an early return, a body's runs are those of its statements as they are.
use Rattle.std.proofs.Common.{◌≡◌, ◌∙◌, List, Bool, false, Option, None, Some, refl, sym, ap, subst}
use Rattle.std.proofs.Common.{inl, inr, arith, length, lt-ltb}
use Rattle.std.specs.Prelude.{All, position, slice_index_or, is_some, if◌then◌else◌}
use Rattle.std.specs.List.{position_or_len}
use Rattle.std.specs.Option.{option_map_or}
use Rattle.std.proofs.lemmas.List.Folds.{list_any_none}
use Rattle.std.proofs.lemmas.List.Sums.{fails_before_first}
use Rattle.std.proofs.lemmas.Bool.{cases_lt}
use Rattle.rc_names.specs.Numbers.{BlockId, EvaluationOrder, same_id}
use Rattle.rc_hir.specs.Model.{Environment, Place, ReactiveScope, ReactiveScopeEarlyReturn}
use Rattle.rc_tree.specs.Model.{ReactiveTerminalTargetKind, ReactiveFunction}
use Rattle.rc_tree.specs.declared.kind.ReactiveTerminalTargetKind.TheVariants.{Labeled}
use Rattle.rc_runs.specs.Event.{Event, End}
use Rattle.rc_runs.specs.EarlyReturns.{NoEarlyReturnSet, returns_early}
use Rattle.rc_runs.specs.PlainTree.{Statements, Nil, Cons, Statement, RowStatement, TerminalStatement}
use Rattle.rc_runs.specs.PlainTree.{ScopeStatement, PrunedScopeStatement, TreeTerminal, Break, Return}
use Rattle.rc_runs.specs.PlainTree.{Switch, DoWhile, While, For, ForOf, ForIn, If, Label, Try, Alternate, Absent, Present}
use Rattle.rc_runs.specs.PlainTree.{Cases, NoCases, Case}
use Rattle.rc_runs.specs.TreeOf.{block_of}
use Rattle.rc_runs.specs.Completion.{Ended}
use Rattle.rc_runs.specs.Returning.{is_early_label, is_label_of, returning_after, returning_alternate}
use Rattle.rc_runs.specs.Returning.{returning_break, returning_cases, returning_statement, returning_terminal, stored_by}
use Rattle.rc_runs.specs.BodyRun.{RunsList, IsBodyRun}

-- a test without a position fails everywhere
pub none_passes : {X : Type 0} (p : X → Bool) (xs : List X) → position p xs ≡ None → All (λ x. p x ≡ false) xs
none_passes p xs none k d lt = elim (cases_lt (position_or_len p xs) (length xs)) [
  | inl inside ↦ absurd (let bad : ⊥ = cc (rw (lt-ltb (position_or_len p xs) (length xs) inside) at none) in bad)
  | inr past ↦ fails_before_first p xs k d (omega arith)
]

-- the label of a scope without an early return is no block
unlabeled_scope : (block : BlockId) (scope : ReactiveScope) → returns_early scope ≡ false
    → is_label_of block scope ≡ false
unlabeled_scope block scope none = by scope.early_return_value none
  where
    by : (early : Option ReactiveScopeEarlyReturn) → is_some early ≡ false
        → option_map_or (λ early. same_id early.label block) early false ≡ false
    by None none = refl
    by (Some early) none = absurd (let bad : ⊥ = cc in bad)

-- no block is the label of an early return
no_label : (env : Environment) → NoEarlyReturnSet env → (block : BlockId) → is_early_label env block ≡ false
no_label env none block = list_any_none (is_label_of block) env.scopes
    (λ k d lt. unlabeled_scope block (slice_index_or env.scopes k d)
    (none_passes returns_early env.scopes none k d lt))

module _ (env : Environment) (none : NoEarlyReturnSet env) where
  break_stays : (stored : Option Place) (target : BlockId) (kind : ReactiveTerminalTargetKind) (id : EvaluationOrder)
      → returning_break env stored target kind id ≡ Break target kind id
  break_stays (Some place) target Labeled id =
      ap (λ early. if early then Return place id else Break target Labeled id) (no_label env none target)
  break_stays stored target kind id = refl

  mutual
    unfolding returning_after returning_statement returning_terminal returning_alternate returning_cases

    after_stays : (stored : Option Place) (statements : Statements) → returning_after env stored statements ≡ statements
    after_stays stored Nil = refl
    after_stays stored (Cons statement rest) =
        ap (λ s. Cons s (returning_after env (stored_by statement) rest)) (statement_stays stored statement)
        ∙ ap (Cons statement) (after_stays (stored_by statement) rest)

    statement_stays : (stored : Option Place) (statement : Statement)
        → returning_statement env stored statement ≡ statement
    statement_stays stored (RowStatement id target value span) = refl
    statement_stays stored (TerminalStatement terminal label) =
        ap (λ t. TerminalStatement t label) (terminal_stays stored terminal)
    statement_stays stored (ScopeStatement scope body) = ap (ScopeStatement scope) (after_stays None body)
    statement_stays stored (PrunedScopeStatement scope body) = ap (PrunedScopeStatement scope) (after_stays None body)

    terminal_stays : (stored : Option Place) (terminal : TreeTerminal)
        → returning_terminal env stored terminal ≡ terminal
    terminal_stays stored (Break target kind id) = break_stays stored target kind id
    terminal_stays stored (Switch test cases id) = ap (λ c. Switch test c id) (cases_stay cases)
    terminal_stays stored (DoWhile body test id) = ap (λ b. DoWhile b test id) (after_stays None body)
    terminal_stays stored (While test body id) = ap (λ b. While test b id) (after_stays None body)
    terminal_stays stored (For init test update body id) = ap (λ b. For init test update b id) (after_stays None body)
    terminal_stays stored (ForOf init test body span id) = ap (λ b. ForOf init test b span id) (after_stays None body)
    terminal_stays stored (ForIn init body span id) = ap (λ b. ForIn init b span id) (after_stays None body)
    terminal_stays stored (If test consequent alternate id) =
        ap (λ b. If test b (returning_alternate env alternate) id) (after_stays None consequent)
        ∙ ap (λ a. If test consequent a id) (alternate_stays alternate)
    terminal_stays stored (Label body id) = ap (λ b. Label b id) (after_stays None body)
    terminal_stays stored (Try body binding handler id) =
        ap (λ b. Try b binding (returning_after env None handler) id) (after_stays None body)
        ∙ ap (λ h. Try body binding h id) (after_stays None handler)
    terminal_stays stored terminal = refl

    alternate_stays : (alternate : Alternate) → returning_alternate env alternate ≡ alternate
    alternate_stays Absent = refl
    alternate_stays (Present body) = ap Present (after_stays None body)

    cases_stay : (cases : Cases) → returning_cases env cases ≡ cases
    cases_stay NoCases = refl
    cases_stay (Case test body rest) =
        ap (λ b. Case test b (returning_cases env rest)) (alternate_stays body) ∙ ap (Case test body) (cases_stay rest)

  -- a run of a body is one of its statements
  pub statements_run : {func : ReactiveFunction} {events : List Event} {end : End} → (run : IsBodyRun func env events end)
      → RunsList env run.statements events (Ended end)
  statements_run {events = events} {end} run =
      subst (λ s. RunsList env s events (Ended end)) (after_stays None run.statements) run.run

  -- a run of the statements of a body is one of the body
  pub body_run : {func : ReactiveFunction} {statements : Statements} {events : List Event} {end : End}
      → func.body ≡ block_of statements → RunsList env statements events (Ended end) → IsBodyRun func env events end
  body_run {statements = statements} {events} {end} e run = record {
    statements = statements;
    body = e;
    run = subst (λ s. RunsList env s events (Ended end)) (sym (after_stays None statements)) run;
  }
