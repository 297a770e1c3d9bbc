-- A list that breaks out to a block has a jump that names it. So where all jumps name blocks of some kind, the list
-- breaks out to blocks of that kind alone, and a label that is no such block catches nothing.
use Rattle.std.proofs.Common.{◌≡◌, ◌∙◌, Bool, true, false, List, Option, None, Some, if◌then◌else◌, refl, sym, subst}
use Rattle.rc_names.specs.Numbers.{BlockId, same_id}
use Rattle.rc_names.proofs.NumbersLemmas.{same_id-eq}
use Rattle.rc_hir.specs.Model.{Environment, Place}
use Rattle.rc_tree.specs.Model.{ReactiveLabel}
use Rattle.rc_runs.specs.Event.{Event}
use Rattle.rc_runs.specs.LoopParts.{LoopParts}
use Rattle.rc_runs.specs.PlainTree.{Alternate, Cases, Statement, Statements}
use Rattle.rc_runs.specs.ValueRun.{Progress, Done, Short, Inside}
use Rattle.rc_runs.specs.Completion.{Completion, Normal, BreakTo, BreakInnermost, ContinueTo, ContinueLoop, Ended}
use Rattle.rc_runs.specs.Completion.{caught}
use Rattle.rc_runs.specs.Completion.{caught_unlabeled, row_completion}
use Rattle.rc_runs.specs.BodyRun.{Spot, RunsAlternate, RunsCases, RunsChosen, RunsList, RunsLoop}
use Rattle.rc_runs.specs.BodyRun.{RunsStatement, absent, and_then, break_implicit, break_labeled, break_unlabeled}
use Rattle.rc_runs.specs.BodyRun.{chosen_here, chosen_later, continue_implicit, continue_labeled, continue_unlabeled}
use Rattle.rc_runs.specs.BodyRun.{falls_into, goes_on, in_before, in_case, in_do_while, in_for_in, in_for_of, in_init}
use Rattle.rc_runs.specs.BodyRun.{in_handler, in_label, in_pruned_scope, in_scope, in_test, in_try, in_while}
use Rattle.rc_runs.specs.BodyRun.{leaves_case, leaves_list, leaves_loop, next_turn, no_more_cases, nothing}
use Rattle.rc_runs.specs.BodyRun.{nothing_before, past_before, past_cases, past_init, present, returned, row, stopped}
use Rattle.rc_runs.specs.BodyRun.{test_fails, test_holds, thrown, took_arm, took_other}
use Rattle.rc_runs.proofs.KeepsRunsLemmas.{CatchesNothing}
use Rattle.rc_early.proofs.KeptRuns.PlainParts.{Asked, HoldsAll, HoldsCases, HoldsIf, HoldsOf}

-- the completion is a break to that block
abbrev pub Breaks : Completion → BlockId → Type 0
Breaks outcome block = outcome ≡ BreakTo block

-- a break that isn't caught was there before
not_caught : (label : Option ReactiveLabel) (outcome : Completion) (block : BlockId)
    → Breaks (caught label outcome) block → Breaks outcome block
not_caught None outcome block e = e
not_caught (Some label) (BreakTo target) block e = by (same_id label.id target) e
  where
    by : (same : Bool) → Breaks (if same then Normal else BreakTo target) block → Breaks (BreakTo target) block
    by true e = absurd (let bad : ⊥ = cc in bad)
    by false e = e
not_caught (Some label) Normal block e = e
not_caught (Some label) BreakInnermost block e = e
not_caught (Some label) (ContinueTo target) block e = e
not_caught (Some label) ContinueLoop block e = e
not_caught (Some label) (Ended end) block e = e

not_taken : (label : Option ReactiveLabel) (outcome : Completion) (block : BlockId)
    → Breaks (caught_unlabeled label outcome) block → Breaks outcome block
not_taken label BreakInnermost block e = absurd (let bad : ⊥ = cc in bad)
not_taken label Normal block e = not_caught label Normal block e
not_taken label (BreakTo target) block e = not_caught label (BreakTo target) block e
not_taken label (ContinueTo target) block e = not_caught label (ContinueTo target) block e
not_taken label ContinueLoop block e = not_caught label ContinueLoop block e
not_taken label (Ended end) block e = not_caught label (Ended end) block e

no_row_breaks : (progress : Progress) (block : BlockId) → Breaks (row_completion progress) block → ⊥
no_row_breaks Done block e = cc
no_row_breaks Short block e = cc
no_row_breaks Inside block e = cc

same_target : (a b : BlockId) → Breaks (BreakTo a) b → a ≡ b
same_target a b e = cc

module _ (env : Environment) (asked : Asked) (block : BlockId) where
  mutual
    list_named : {statements : Statements} {events : List Event} {outcome : Completion} → HoldsAll asked statements
        → RunsList env statements events outcome → Breaks outcome block → asked.Jump block
    list_named h stopped e = absurd (let bad : ⊥ = cc in bad)
    list_named h nothing e = absurd (let bad : ⊥ = cc in bad)
    list_named h (and_then r (goes_on later) w) e = list_named h.1 later e
    list_named h (and_then r (leaves_list l) w) e = statement_named h.0 r e

    statement_named : {statement : Statement} {events : List Event} {outcome : Completion} → HoldsOf asked statement
        → RunsStatement env statement events outcome → Breaks outcome block → asked.Jump block
    statement_named h (row {progress = progress} r q) e = absurd (no_row_breaks progress block (sym q ∙ e))
    statement_named h returned e = absurd (let bad : ⊥ = cc in bad)
    statement_named h thrown e = absurd (let bad : ⊥ = cc in bad)
    statement_named h break_implicit e = absurd (let bad : ⊥ = cc in bad)
    statement_named h (break_labeled {target = target} {label = label} q) e =
        subst asked.Jump (same_target target block (not_caught label (BreakTo target) block (sym q ∙ e))) h
    statement_named h break_unlabeled e = absurd (let bad : ⊥ = cc in bad)
    statement_named h continue_implicit e = absurd (let bad : ⊥ = cc in bad)
    statement_named h continue_labeled e = absurd (let bad : ⊥ = cc in bad)
    statement_named h continue_unlabeled e = absurd (let bad : ⊥ = cc in bad)
    statement_named h (took_arm {label = label} {inner = inner} r q) e =
        list_named h.0 r (not_caught label inner block (sym q ∙ e))
    statement_named h (took_other {label = label} {inner = inner} r q) e =
        alternate_named h.1 r (not_caught label inner block (sym q ∙ e))
    statement_named h (in_case {label = label} {inner = inner} r q) e =
        chosen_named h r (not_taken label inner block (sym q ∙ e))
    statement_named h (past_cases n) e = absurd (let bad : ⊥ = cc in bad)
    statement_named h (in_while r) e = loop_named h.1 r e
    statement_named h (in_do_while r) e = loop_named h.1 r e
    statement_named h (in_init r) e = absurd (let bad : ⊥ = cc in bad)
    statement_named h (past_init r past later w) e = loop_named h.1 later e
    statement_named h (in_for_of r) e = loop_named h.1 r e
    statement_named h (in_for_in r) e = loop_named h.1 r e
    statement_named h (in_label {label = label} {inner = inner} r q) e =
        list_named h r (not_caught label inner block (sym q ∙ e))
    statement_named h (in_try {label = label} {inner = inner} r stays q) e =
        list_named h.0 r (not_caught label inner block (sym q ∙ e))
    statement_named h (in_handler {label = label} {inner = inner} r reaches later q w) e =
        list_named h.1 later (not_caught label inner block (sym q ∙ e))
    statement_named h (in_scope r) e = list_named h r e
    statement_named h (in_pruned_scope r) e = list_named h r e

    chosen_named : {chosen : Option Place} {cases : Cases} {events : List Event} {outcome : Completion}
        → HoldsCases asked cases → RunsChosen env chosen cases events outcome → Breaks outcome block
        → asked.Jump block
    chosen_named h (chosen_here r) e = cases_named h r e
    chosen_named h (chosen_later r) e = chosen_named h.1 r e

    cases_named : {cases : Cases} {events : List Event} {outcome : Completion} → HoldsCases asked cases
        → RunsCases env cases events outcome → Breaks outcome block → asked.Jump block
    cases_named h no_more_cases e = absurd (let bad : ⊥ = cc in bad)
    cases_named h (falls_into r later w) e = cases_named h.1 later e
    cases_named h (leaves_case r l) e = alternate_named h.0 r e

    loop_named : {label : Option ReactiveLabel} {loop : LoopParts} {spot : Spot} {events : List Event}
        {outcome : Completion} → HoldsAll asked loop.body → RunsLoop env label loop spot events outcome
        → Breaks outcome block → asked.Jump block
    loop_named h (nothing_before none r) e = loop_named h r e
    loop_named h (in_before some r) e = absurd (let bad : ⊥ = cc in bad)
    loop_named h (past_before some r past later w) e = loop_named h later e
    loop_named h (in_test r) e = absurd (let bad : ⊥ = cc in bad)
    loop_named h (test_fails r past w) e = absurd (let bad : ⊥ = cc in bad)
    loop_named h (test_holds r past later w) e = loop_named h later e
    loop_named h (next_turn r again later w) e = loop_named h later e
    loop_named h (leaves_loop {label = label} {inner = inner} r ends q) e =
        list_named h r (not_taken label inner block (sym q ∙ e))

    alternate_named : {alternate : Alternate} {events : List Event} {outcome : Completion} → HoldsIf asked alternate
        → RunsAlternate env alternate events outcome → Breaks outcome block → asked.Jump block
    alternate_named h absent e = absurd (let bad : ⊥ = cc in bad)
    alternate_named h (present r) e = list_named h r e

module _ (env : Environment) (asked : Asked) (label : ReactiveLabel) (body : Statements) where
  -- a label that is no block that a jump may name catches nothing
  pub unnamed_catches_nothing : HoldsAll asked body → ¬ asked.Jump label.id → CatchesNothing env (Some label) body
  unnamed_catches_nothing h none events Normal r = refl
  unnamed_catches_nothing h none events BreakInnermost r = refl
  unnamed_catches_nothing h none events (ContinueTo target) r = refl
  unnamed_catches_nothing h none events ContinueLoop r = refl
  unnamed_catches_nothing h none events (Ended end) r = refl
  unnamed_catches_nothing h none events (BreakTo target) r = by (same_id label.id target) refl
    where
      by : (same : Bool) → same_id label.id target ≡ same → (if same then Normal else BreakTo target) ≡ BreakTo target
      by false is = refl
      by true is = absurd (none (subst asked.Jump (sym (same_id-eq label.id target is))
          (list_named env asked target h r refl)))
