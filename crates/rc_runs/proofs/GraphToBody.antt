-- Every run of the graph is a run of the spelled body.
--
-- It is proved by induction on the rows and edges of the run, and each terminal takes one edge. A terminal adds its
-- edges to `statement_leads`, or a case to `terminal_leads` if it ends its list.
use Rattle.std.proofs.Common.{◌≡◌, ℕ, zero, suc, ◌<◌, ◌≤◌, Bool, true, false, List, [], ◌∷◌, ◌++◌, refl}
use Rattle.std.proofs.Common.{sym, ap, ◌∙◌, subst, append-nil, arith, ◌⊎◌, inl, inr, is_none}
use Rattle.rc_names.specs.Numbers.{BlockId, EvaluationOrder}
use Rattle.rc_hir.specs.Model.{Place, Terminal, HirFunction, Environment}
use Rattle.rc_hir.specs.Terminal.{evaluation_order}
use Rattle.rc_tree.specs.Model.{ReactiveFunction}
use Rattle.rc_runs.specs.Event.{Event, Arm, End}
use Rattle.rc_runs.specs.Silent.{is_unset}
use Rattle.rc_runs.specs.Graph.{Block}
use Rattle.rc_runs.specs.GraphRun.{then_arm, else_arm, goes_to, goes_on as goes_past, throws as throws_to}
use Rattle.rc_runs.specs.GraphRun.{GraphRunAt, arrives, enters, IsGraphRun, GraphRun, stopped, moved, returned, thrown}
use Rattle.rc_runs.specs.PlainTree.{Statements, Cons, Statement, If, Alternate, Present}
use Rattle.rc_runs.specs.ListContext.{ListContext, outermost}
use Rattle.rc_runs.specs.SimpleStatements.{unlabeled, rows_before}
use Rattle.rc_runs.specs.Grammar.{SpellsList, SpellsTerminal, SpellsRest, from_block, returns, throws, unreachable}
use Rattle.rc_runs.specs.Grammar.{breaks, continues, leaves_try, may_throw_last, may_throw, branch_arms, branch_break}
use Rattle.rc_runs.specs.Grammar.{and_rest, no_rest, value_statement, has_rest}
use Rattle.rc_runs.specs.Spelled.{SpellsBody, Spells}
use Rattle.rc_runs.specs.EarlyReturns.{NoEarlyReturnSet}
use Rattle.rc_runs.specs.Completion.{Completion, Normal, BreakTo, BreakInnermost, ContinueTo, ContinueLoop, Ended, leaves}
use Rattle.rc_runs.specs.BodyRun.{RunsList, RunsStatement, IsBodyRun, stopped as stops, nothing, and_then, goes_on}
use Rattle.rc_runs.specs.BodyRun.{leaves_list, returned as returns_here, thrown as throws_here, took_arm, took_other}
use Rattle.rc_runs.specs.BodyRun.{present}
use Rattle.rc_runs.proofs.GraphLemmas.{one_held, usable_block-at}
use Rattle.rc_runs.proofs.FramesLemmas.{Fits, fits_body, Aims, Aims-leaves, leaving, by_leaves, falls_to-next}
use Rattle.rc_runs.proofs.JumpsLemmas.{break_jumps, continue_jumps}
use Rattle.rc_runs.proofs.RunSize.{size, size_at, run_to}
use Rattle.rc_runs.proofs.SetIds.{usable_block-set}
use Rattle.rc_runs.proofs.HandlerLemmas.{named_handler}
use Rattle.rc_runs.proofs.Throws.{throws_there, throw_behind}
use Rattle.rc_runs.proofs.Leads.{Runs, Leads, ends, leads, to_handler, Below, more_room, lead_events, lead_behind}
use Rattle.rc_runs.proofs.Leads.{rows_lead, jump_leads, alone_leads}
use Rattle.rc_runs.proofs.GraphToLoop.{turn_leads}
use Rattle.rc_runs.proofs.GraphToStatement.{statement_leads}
use Rattle.rc_runs.proofs.OneTree.{terminal_at}
use Rattle.rc_runs.proofs.ReturningLemmas.{body_run}

module _ {hir : HirFunction} {env : Environment} {bound : ℕ} {context : ListContext} where
  -- the arms of a branch
  arm_leads : {test : Place} {part : Statements} {alternate : Alternate} {id : EvaluationOrder} {events : List Event}
      {end : End} → Leads hir env context bound (RunsList env part) events end
      → Leads hir env context bound (RunsList env (unlabeled (If test part alternate id))) (Arm true ∷ events) end
  arm_leads d = alone_leads (lead_behind (Arm true ∷ []) (λ events outcome here. took_arm here refl) d)

  other_leads : {test : Place} {part other : Statements} {id : EvaluationOrder} {events : List Event} {end : End}
      → Leads hir env context bound (RunsList env other) events end
      → Leads hir env context bound (RunsList env (unlabeled (If test part (Present other) id))) (Arm false ∷ events)
      end
  other_leads d = alone_leads (lead_behind (Arm false ∷ []) (λ events outcome here. took_other (present here) refl) d)

module _ {hir : HirFunction} {env : Environment} {bound : ℕ} (below : Below hir env bound) {context : ListContext}
    (fits : Fits context) where
  -- a statement is done, and the next ones run
  done_leads : {opened : Bool} {fallthrough key : BlockId} {statement : Statement} {rest : Statements}
      {used : List BlockId} {front back : List Event} {end : End}
      → SpellsRest hir env opened fallthrough context rest used → RunsStatement env statement front Normal
      → Aims (leaving opened fallthrough context) Normal key →
      (run : GraphRunAt hir env key back end) → size_at run < bound →
      Leads hir env context bound (RunsList env (Cons statement rest)) (front ++ back) end
  done_leads {front = front} no_rest here n run small =
      leads (and_then here (goes_on nothing) (sym (append-nil front))) n run small refl
  done_leads {fallthrough = fallthrough} {key} {front = front} (has_rest d) here n run small =
      let from = run_to (let same : key ≡ fallthrough = cc in same) run small in
      lead_behind front (λ events outcome after. and_then here (goes_on after) refl) (below.list d fits from.0 from.1)

  -- a statement, and the statements after it
  then_leads : {opened : Bool} {fallthrough : BlockId} {statement : Statement} {rest : Statements}
      {used : List BlockId} {events : List Event} {end : End}
      → SpellsRest hir env opened fallthrough context rest used
      → Leads hir env (leaving opened fallthrough context) bound (RunsStatement env statement) events end
      → Leads hir env context bound (RunsList env (Cons statement rest)) events end
  then_leads {events = events} rest (ends here can) =
      ends (and_then here (leaves_list refl) (sym (append-nil events))) can
  then_leads rest (to_handler t) =
      to_handler (throw_behind [] (λ events here. and_then here (leaves_list refl) (sym (append-nil events))) t)
  then_leads {opened} {fallthrough} {statement} {rest} {events = events} {end} r
      (leads {front = front} {outcome = outcome} {key} here aim run small e) =
      go (by_leaves outcome)
    where
      go : (outcome ≡ Normal) ⊎ (leaves outcome ≡ true)
          → Leads hir env context bound (RunsList env (Cons statement rest)) events end
      go (inl n) = lead_events e (done_leads r (subst (RunsStatement env statement front) n here)
          (subst (λ o. Aims (leaving opened fallthrough context) o key) n aim) run small)
      go (inr l) = leads (and_then here (leaves_list l) (sym (append-nil front)))
          (Aims-leaves context _ outcome key l aim) run small e

  -- a terminal, and the statements that it spells
  terminal_leads : {terminal : Terminal} {statements : Statements} {used : List BlockId} {events : List Event}
      {end : End} → is_unset (evaluation_order terminal) ≡ false
      → SpellsTerminal hir env terminal context statements used
      → (run : GraphRun hir env [] terminal events end) → size run ≤ bound →
      Leads hir env context bound (RunsList env statements) events end
  unfolding size
  terminal_leads set d stopped small = ends stops refl
  terminal_leads set returns returned small = ends (and_then returns_here (leaves_list refl) refl) refl
  terminal_leads set returns (moved m run e) small = elim m [ ]
  terminal_leads set (throws h) thrown small = ends (and_then throws_here (leaves_list refl) refl) (ap is_none h)
  terminal_leads set (throws h) (moved m run e) small = elim m [ ]
  terminal_leads set unreachable (moved m run e) small = elim m [ ]
  terminal_leads {statements = statements} set (breaks {target = target} {id = id} j) (moved goes_to run e) small =
      lead_events e (jump_leads (break_jumps context target id statements fits j) run (omega arith))
  terminal_leads {statements = statements} set (continues {target = target} {id = id} j) (moved goes_to run e) small =
      lead_events e (jump_leads (continue_jumps context target id statements fits j) run (omega arith))
  terminal_leads set (leaves_try {target = target} n) (moved goes_to run e) small =
      lead_events e (leads nothing (falls_to-next false target context.next n) run (omega arith) refl)
  terminal_leads set (may_throw_last {continuation = next} current n) (moved goes_past run e) small =
      lead_events e (leads nothing (falls_to-next false next context.next n) run (omega arith) refl)
  terminal_leads set (may_throw_last current n) (moved (throws_to {handler = key}) run e) small =
      to_handler (throws_there [] stops (named_handler key context.handler current)
      (record { run = run; small = omega arith }) refl e)
  terminal_leads set (may_throw current n d) (moved goes_past run e) small =
      lead_events e (below.list d fits run (omega arith))
  terminal_leads set (may_throw current n d) (moved (throws_to {handler = key}) run e) small =
      to_handler (throws_there [] stops (named_handler key context.handler current)
      (record { run = run; small = omega arith }) refl e)
  terminal_leads set (branch_arms d other w) (moved then_arm run e) small =
      lead_events e (arm_leads (below.list d fits run (omega arith)))
  terminal_leads set (branch_arms d other w) (moved else_arm run e) small =
      lead_events e (other_leads (below.list other fits run (omega arith)))
  terminal_leads set (branch_break {consequent = target} {id = id} {part = part} t j other) (moved then_arm run e)
      small =
      lead_events e (arm_leads (jump_leads (break_jumps context target id part fits j) run (omega arith)))
  terminal_leads set (branch_break t j other) (moved else_arm run e) small =
      lead_events e (other_leads (below.list other fits run (omega arith)))
  terminal_leads set (and_rest (value_statement i falls d arm v) rest w) returned small = elim d [ ]
  terminal_leads set (and_rest (value_statement i falls d arm v) rest w) thrown small = elim d [ ]
  terminal_leads set (and_rest d rest w) (moved m run e) small =
      lead_events e (then_leads rest (statement_leads below fits set d m run (omega arith)))

-- a block's rows, and then its terminal, which takes an edge
list_leads : {hir : HirFunction} {env : Environment} {bound : ℕ} {key : BlockId} {context : ListContext}
    {statements : Statements} {used : List BlockId} {events : List Event} {end : End} →
    Below hir env bound → SpellsList hir env key context statements used → Fits context →
    (run : GraphRunAt hir env key events end) → size_at run < suc bound
    → Leads hir env context (suc bound) (RunsList env statements) events end
unfolding size_at
list_leads below d fits arrives small = ends stops refl
list_leads {hir} {env} {bound} {key} {context} {events = events} {end} below
    (from_block {rest = rest} {block = b} found apart d w) fits (enters {block = other} at run) small =
    let same : b ≡ other = one_held at (usable_block-at hir key b found) in
    let set = subst (λ (block : Block). is_unset (evaluation_order block.terminal) ≡ false) same
    (usable_block-set hir key b found).terminal in
    subst (λ s. Leads hir env context (suc bound) (RunsList env s) events end)
    (sym (w ∙ ap (λ v. rows_before v.rows rest) same))
    (rows_lead run small (λ events run small. more_room
    (terminal_leads below fits set (terminal_at same d) run (omega arith))))

every_run : {hir : HirFunction} {env : Environment} (bound : ℕ) → Below hir env bound
every_run zero = record {
  list = λ d fits run small. absurd (omega arith);
  turn = λ d fits run small. absurd (omega arith);
}
every_run (suc bound) = record {
  list = λ d fits run small. list_leads (every_run bound) d fits run small;
  turn = λ d fits run small. more_room (turn_leads (every_run bound) d fits run (omega arith));
}

-- a body's context is empty, so nothing leads out of it
stays : {hir : HirFunction} {env : Environment} {bound : ℕ} {R : Runs} {events : List Event} {end : End}
    → Leads hir env outermost bound R events end → R events (Ended end)
stays (ends here can) = here
stays (to_handler t) = absurd (let none = t.current in let bad : ⊥ = cc in bad)
stays (leads {outcome = outcome} {key} here aim run small e) = absurd (nowhere outcome key aim)
  where
    nowhere : (outcome : Completion) (key : BlockId) → Aims outermost outcome key → ⊥
    nowhere Normal key a = let bad : ⊥ = cc in bad
    nowhere (BreakTo target) key a = let bad : ⊥ = cc (a.1) in bad
    nowhere BreakInnermost key a = let bad : ⊥ = cc in bad
    nowhere (ContinueTo target) key a = let bad : ⊥ = cc in bad
    nowhere ContinueLoop key a = let bad : ⊥ = cc in bad
    nowhere (Ended end) key a = a

-- every run of the graph is a run of the body that it spells
pub graph_to_body : {hir : HirFunction} {env : Environment} {statements : Statements} → SpellsBody hir env statements →
    (events : List Event) (end : End) → IsGraphRun hir env events end → RunsList env statements events (Ended end)
graph_to_body {hir} {env} spelled events end run =
    let all : Below hir env (suc (size_at run)) = every_run (suc (size_at run)) in
    stays (all.list spelled.list fits_body run (omega arith))

-- every run of the graph is a run of the function that it spells
pub graph_to_function : {hir : HirFunction} {env : Environment} {func : ReactiveFunction} → Spells hir env func →
    NoEarlyReturnSet env → (events : List Event) (end : End) → IsGraphRun hir env events end
    → IsBodyRun func env events end
graph_to_function {env = env} spelled none events end run =
    body_run env none (ap (λ (f : ReactiveFunction). f.body) spelled.whole)
    (graph_to_body spelled.body events end run)
