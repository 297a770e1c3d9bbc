-- Each run of a spelled body that has no throw is a run of its graph: by recursion on the run of the body.
--
-- Each form adds its clauses to the recursion; how runs of the graph go on after its parts is shown in `AfterParts`,
-- `RowToGraph`, `JumpToGraph`, `TryToGraph`, `CasesToGraph` and `LoopToGraph`.
use Rattle.std.proofs.Common.{◌≡◌, List, [], ◌∷◌, Bool, true, false, ◌||◌, Option, Some, None, refl, sym, ap, ◌∙◌}
use Rattle.std.proofs.Common.{subst}
use Rattle.rc_names.specs.Numbers.{BlockId, EvaluationOrder}
use Rattle.rc_names.specs.declared.span.Span.{Span}
use Rattle.rc_tree.specs.Model.{ReactiveFunction}
use Rattle.rc_hir.specs.Model.{Place, Case, Terminal, HirFunction, Environment}
use Rattle.rc_hir.specs.Terminal.{evaluation_order}
use Rattle.rc_hir.specs.declared.terminal.Terminal.TheVariants as terminals
use Rattle.rc_runs.specs.declared.frames.Frame.TheVariants as frame_kinds
use Rattle.rc_runs.specs.Event.{Event, Arm, Threw, has_throw, End}
use Rattle.rc_runs.specs.Silent.{is_unset}
use Rattle.rc_runs.specs.Graph.{ends_unreachable}
use Rattle.rc_runs.specs.GraphRun.{InCases, HasNoUnreachableSuccessor, GraphRun, GraphRunAt, IsGraphRun}
use Rattle.rc_runs.specs.GraphRun as graph
use Rattle.rc_runs.specs.PlainTree.{Statements, Statement, TerminalStatement, If, Alternate, Cases}
use Rattle.rc_runs.specs.TreeOf.{block_of}
use Rattle.rc_runs.specs.ListContext.{ListContext, outermost}
use Rattle.rc_runs.specs.LoopParts.{LoopBlocks, LoopParts}
use Rattle.rc_runs.specs.SwitchCases.{case_context}
use Rattle.rc_runs.specs.Frames.{is_jump_target}
use Rattle.rc_runs.specs.SimpleStatements.{unlabeled}
use Rattle.rc_runs.specs.Grammar.{SpellsList, SpellsTerminal, SpellsStatement, SpellsCases}
use Rattle.rc_runs.specs.Grammar as grammar
use Rattle.rc_runs.specs.Spelled.{SpellsBody, Spells}
use Rattle.rc_runs.specs.Completion.{Completion, Ended}
use Rattle.rc_runs.specs.BodyRun.{Spot, RunsList, RunsStatement, RunsLoop, RunsCases, RunsChosen, IsBodyRun}
use Rattle.rc_runs.specs.BodyRun as body
use Rattle.rc_runs.specs.ValueRun.{unset_row, set_row}
use Rattle.rc_names.proofs.NumbersLemmas.{same_id-eq}
use Rattle.rc_runs.proofs.FramesLemmas.{Fits, fits_body, fits_inside, fits_marked, leaving, loop_label, caught-normal, falls_to-next}
use Rattle.rc_runs.proofs.JumpsLemmas.{falls_off, break_jumps, continue_jumps}
use Rattle.rc_runs.specs.EarlyReturns.{NoEarlyReturnSet}
use Rattle.rc_runs.proofs.ReturningLemmas.{statements_run}
use Rattle.rc_runs.proofs.TreeOfLemmas.{block_of-injective}
use Rattle.rc_runs.proofs.RowsLemmas.{row_then, rows_done}
use Rattle.rc_runs.proofs.NoThrow.{no_throw_front, no_throw_behind}
use Rattle.rc_runs.proofs.Covers.{row_covered}
use Rattle.rc_runs.proofs.ShortArmLemmas.{nested_id}
use Rattle.rc_runs.proofs.ValueToGraph.{nested_to_graph, going_on, going_stops, test_stops}
use Rattle.rc_runs.proofs.AliveBlocks.{AllAlive, alive_front, alive_behind, nested_alive}
use Rattle.rc_runs.proofs.AfterParts.{After, ends, leads, Carries, ahead, alone, elsewhere, behind_label, at_block}
use Rattle.rc_runs.proofs.AfterParts.{from_rows, in_part, labeled_part, scope_part, past_part, then_nothing, onward}
use Rattle.rc_runs.proofs.RowToGraph.{row_onward, row_stops, value_onward}
use Rattle.rc_runs.proofs.JumpToGraph.{jump_to_graph}
use Rattle.rc_runs.proofs.TryToGraph.{protected_part}
use Rattle.rc_runs.proofs.CasesToGraph.{Chosen, kept_live, chosen_part, past_kept, chosen_further, at_case, falls_on}
use Rattle.rc_runs.proofs.CasesToGraph.{out_of_case}
use Rattle.rc_runs.proofs.LoopToGraph.{Looped, looped, with_before, before_none, spot_block, turn_is_test, turn_going}
use Rattle.rc_runs.proofs.LoopToGraph.{into_body, out_by_test, around_again, out_by_body}

module _ (hir : HirFunction) (env : Environment) where
  mutual
    list_to_graph : {context : ListContext} {statements : Statements} {events : List Event} {outcome : Completion} →
        RunsList env statements events outcome → has_throw events ≡ false
        → Carries hir env context statements events outcome
    list_to_graph body.stopped no_throw fits _ _ _ d live moves alive = ends graph.stopped
    list_to_graph body.nothing no_throw fits _ _ _ (rows_done set grammar.unreachable last) live moves alive =
        absurd (let bad : ⊥ = cc (live refl) in bad)
    list_to_graph body.nothing no_throw fits _ _ _ (rows_done set (grammar.breaks {id = id} e) last) live moves alive =
        jump_to_graph graph.goes_to moves (break_jumps _ _ id _ fits e) body.nothing
    list_to_graph body.nothing no_throw fits _ _ _ (rows_done set (grammar.continues {id = id} e) last) live moves
        alive =
        jump_to_graph graph.goes_to moves (continue_jumps _ _ id _ fits e) body.nothing
    list_to_graph body.nothing no_throw fits _ _ _ (rows_done set (grammar.leaves_try n) last) live moves alive =
        jump_to_graph graph.goes_to moves (falls_off (falls_to-next false _ _ n)) body.nothing
    list_to_graph body.nothing no_throw fits _ _ _ (rows_done set (grammar.may_throw_last h n) last) live moves alive =
        jump_to_graph graph.goes_on moves (falls_off (falls_to-next false _ _ n)) body.nothing
    list_to_graph body.nothing no_throw fits _ _ _ (rows_done set (grammar.may_throw h n d) last) live moves alive =
        absurd (let bad : ⊥ = cc in bad)
    list_to_graph (body.and_then x y q) no_throw fits _ _ _ (rows_done set (grammar.may_throw h n d) last) live moves
        alive =
        absurd (let bad : ⊥ = cc in bad)
    list_to_graph (body.and_then x y q) no_throw fits _ _ _ (rows_done set (grammar.breaks {id = id} e) last) live moves
        alive =
        jump_to_graph graph.goes_to moves (break_jumps _ _ id _ fits e) (body.and_then x y q)
    list_to_graph (body.and_then x y q) no_throw fits _ _ _ (rows_done set (grammar.continues {id = id} e) last) live
        moves alive =
        jump_to_graph graph.goes_to moves (continue_jumps _ _ id _ fits e) (body.and_then x y q)
    list_to_graph (body.and_then {first = a} {second = b} (body.row x o) (body.goes_on y) q) no_throw fits _ _ _
        (row_then {row = own} {rows = rows} set d) live moves alive =
        row_onward (row_covered own x) o
        (from_rows rows set d fits live moves alive (list_to_graph y (no_throw_behind a b q no_throw))) q
    list_to_graph (body.and_then (body.row x o) (body.leaves_list l) q) no_throw fits _ _ _ (row_then {row = own} set d)
        live moves alive =
        alone (row_stops (row_covered own x) o l) q
    list_to_graph (body.and_then body.returned (body.leaves_list l) q) no_throw fits _ _ _
        (rows_done set grammar.returns last) live moves alive =
        alone (ends graph.returned) q
    list_to_graph (body.and_then body.thrown (body.leaves_list l) q) no_throw fits _ _ _
        (rows_done set (grammar.throws h) last) live moves alive =
        alone (ends graph.thrown) q
    list_to_graph (body.and_then {first = a} {second = b} x y q) no_throw fits _ _ _
        (rows_done set (grammar.branch_arms d e w) last) live moves alive =
        then_nothing
        (branch_to_graph x (no_throw_front a b q no_throw) fits (grammar.branch_arms d e w) moves alive) y q
    list_to_graph (body.and_then {first = a} {second = b} x y q) no_throw fits _ _ _
        (rows_done set (grammar.branch_break t j d) last) live moves alive =
        then_nothing
        (branch_to_graph x (no_throw_front a b q no_throw) fits (grammar.branch_break t j d) moves alive) y q
    list_to_graph (body.and_then {first = a} {second = b} x (body.goes_on y) q) no_throw fits _ _ _
        (rows_done set (grammar.and_rest {part_used = u} {rest_used = v} d r w) last) live moves alive =
        onward fits r
        (statement_to_graph x (no_throw_front a b q no_throw) fits set d moves (alive_front hir u v w alive)) y q
        (alive_behind hir u v w alive) (list_to_graph y (no_throw_behind a b q no_throw))
    list_to_graph (body.and_then {first = a} x (body.leaves_list l) q) no_throw fits _ _ _
        (rows_done set (grammar.and_rest {part_used = u} {rest_used = v} d r w) last) live moves alive =
        alone (elsewhere l
        (statement_to_graph x (no_throw_front a [] q no_throw) fits set d moves (alive_front hir u v w alive))) q

    -- the if that a branch in a list is
    branch_to_graph : {test place : Place} {part : Statements} {other : Alternate} {own id : EvaluationOrder}
        {consequent alternate : BlockId} {span : Option Span} {context : ListContext} {used : List BlockId}
        {events : List Event} {outcome : Completion} →
        RunsStatement env (TerminalStatement (If place part other own) None) events outcome
        → has_throw events ≡ false → Fits context
        → SpellsTerminal hir env (terminals.Branch test consequent alternate id span) context
        (unlabeled (If place part other own)) used
        → HasNoUnreachableSuccessor hir (terminals.Branch test consequent alternate id span) → AllAlive hir used
        → After hir env context (GraphRun hir env [] (terminals.Branch test consequent alternate id span)) events
        outcome
    branch_to_graph (body.took_arm x q) no_throw fits (grammar.branch_arms {part_used = u} {other_used = v} d e w) moves
        alive =
        behind_label None
        (in_part graph.then_arm d fits moves (alive_front hir u v w alive) (list_to_graph x no_throw))
        (λ key aim. aim) q
    branch_to_graph (body.took_other (body.present x) q) no_throw fits
        (grammar.branch_arms {part_used = u} {other_used = v} d e w) moves alive =
        behind_label None
        (in_part graph.else_arm e fits moves (alive_behind hir u v w alive) (list_to_graph x no_throw))
        (λ key aim. aim) q
    branch_to_graph {id = id} (body.took_arm x q) no_throw fits (grammar.branch_break t j d) moves alive =
        behind_label None (jump_to_graph graph.then_arm moves (break_jumps _ _ id _ fits j) x) (λ key aim. aim) q
    branch_to_graph (body.took_other (body.present x) q) no_throw fits (grammar.branch_break t j d) moves alive =
        behind_label None (in_part graph.else_arm d fits moves alive (list_to_graph x no_throw)) (λ key aim. aim) q
    branch_to_graph x no_throw fits (grammar.and_rest d r w) moves alive = elim d [ ]

    statement_to_graph : {terminal : Terminal} {context : ListContext} {opened : Bool} {fallthrough : BlockId}
        {statement : Statement} {used : List BlockId} {events : List Event} {outcome : Completion}
        → RunsStatement env statement events outcome → has_throw events ≡ false → Fits context
        → is_unset (evaluation_order terminal) ≡ false
        → SpellsStatement hir env terminal context opened fallthrough statement used
        → HasNoUnreachableSuccessor hir terminal → AllAlive hir used
        → After hir env (leaving opened fallthrough context) (GraphRun hir env [] terminal) events outcome
    statement_to_graph (body.took_arm x q) no_throw fits set (grammar.if_only i l same falls d) moves alive =
        labeled_part _ _ fits l q graph.then_arm d moves alive (list_to_graph x no_throw)
    statement_to_graph (body.took_other body.absent q) no_throw fits set
        (grammar.if_only {alternate = alternate} {fallthrough = f} {context = context} {opened = opened} {label = label}
        i
        l same falls d) moves alive =
        behind_label None (past_part opened f context graph.else_arm (same_id-eq alternate f same) falls moves)
        (λ key aim. aim) (q ∙ caught-normal label)
    statement_to_graph (body.took_arm x q) no_throw fits set
        (grammar.if_else {part_used = u} {other_used = v} i l same d e w) moves alive =
        labeled_part _ _ fits l q graph.then_arm d moves (alive_front hir u v w alive) (list_to_graph x no_throw)
    statement_to_graph (body.took_other (body.present x) q) no_throw fits set
        (grammar.if_else {part_used = u} {other_used = v} i l same d e w) moves alive =
        labeled_part _ _ fits l q graph.else_arm e moves (alive_behind hir u v w alive) (list_to_graph x no_throw)
    statement_to_graph (body.in_label x q) no_throw fits set (grammar.label_statement i l d) moves alive =
        labeled_part _ _ fits l q graph.goes_to d moves alive (list_to_graph x no_throw)
    statement_to_graph (body.in_try x safe q) no_throw fits set
        (grammar.try_statement {part_used = u} {other_used = v} i l d e w) moves alive =
        protected_part _ _ _ fits l q graph.goes_to d moves (alive_front hir u v w alive) (list_to_graph x no_throw)
    statement_to_graph (body.in_handler {first = a} {second = b} x reach y o q) no_throw fits set d moves alive =
        let thrown : true ≡ false = no_throw_behind a (Threw ∷ b) q no_throw in absurd (let bad : ⊥ = cc in bad)
    statement_to_graph (body.in_scope x) no_throw fits set (grammar.scope_statement i d) moves alive =
        scope_part _ _ fits graph.goes_to d moves alive (list_to_graph x no_throw)
    statement_to_graph (body.in_pruned_scope x) no_throw fits set (grammar.pruned_scope_statement i d) moves alive =
        scope_part _ _ fits graph.goes_to d moves alive (list_to_graph x no_throw)
    statement_to_graph (body.in_case x q) no_throw fits set (grammar.switch_statement {cases = cases} {fallthrough = f}
        {context = context} {opened = opened} i l one tests keep reach d) moves alive =
        let is_target = opened || is_jump_target context.frames f in
        chosen_part is_target keep opened context l q
        (chosen_to_graph x no_throw d (fits_marked (fits_inside opened (frame_kinds.Switch f) refl tt fits))
        (kept_live is_target cases f keep hir moves) alive)
    statement_to_graph (body.past_cases none) no_throw fits set
        (grammar.switch_statement {fallthrough = f} {context = context} {opened = opened} i l one tests keep reach d)
        moves alive =
        past_kept (opened || is_jump_target context.frames f) keep opened context one reach d none moves
    statement_to_graph (body.in_while x) no_throw fits set (grammar.while_loop live d) moves alive =
        let k = looped d fits alive in
        ahead [] (loop_to_graph x no_throw (with_before None (before_none k.before) k)) refl
        (λ events end run. graph.moved graph.goes_to run refl)
    statement_to_graph (body.in_do_while x) no_throw fits set (grammar.do_while_loop d) moves alive =
        let k = looped d fits alive in
        ahead [] (loop_to_graph x no_throw (with_before None (before_none k.before) k)) refl
        (λ events end run. graph.moved graph.goes_to run refl)
    statement_to_graph (body.in_init v) no_throw fits set (grammar.for_loop init d w) moves alive =
        ends (graph.moved graph.goes_to (going_stops init v) refl)
    statement_to_graph (body.past_init {first = a} {second = b} v past x q) no_throw fits set
        (grammar.for_loop {init_used = u} {turns_used = t} init d w) moves alive =
        ahead a (loop_to_graph x (no_throw_behind a b q no_throw) (looped d fits (alive_behind hir u t w alive))) q
        (λ events end run. graph.moved graph.goes_to (going_on init v past run) refl)
    statement_to_graph (body.in_for_of x) no_throw fits set (grammar.for_of_loop {init_value = init} e d) moves alive =
        ahead [] (loop_to_graph x no_throw (with_before (Some init) e (looped d fits alive))) refl
        (λ events end run. graph.moved graph.goes_to run refl)
    statement_to_graph (body.in_for_in x) no_throw fits set (grammar.for_in_loop d) moves alive =
        let k = looped d fits alive in
        ahead [] (loop_to_graph x no_throw (with_before None (before_none k.before) k)) refl
        (λ events end run. graph.moved graph.goes_to run refl)
    statement_to_graph (body.row (unset_row u) o) no_throw fits set (grammar.value_statement i falls nested arm w) moves
        alive =
        let same = ap is_unset (nested_id nested) in absurd (let bad : ⊥ = cc in bad)
    statement_to_graph (body.row (set_row s run) o) no_throw fits set
        (grammar.value_statement {context = context} {opened = opened} {nested_used = u} {arm_used = v} i falls nested
        arm w) moves alive =
        value_onward opened context o arm falls (nested_alive hir nested (alive_front hir u v w alive))
        (nested_to_graph nested _ _ run)
    statement_to_graph body.returned no_throw fits set d moves alive = elim d [ ]
    statement_to_graph body.thrown no_throw fits set d moves alive = elim d [ ]
    statement_to_graph body.break_implicit no_throw fits set d moves alive = elim d [ ]
    statement_to_graph (body.break_labeled o) no_throw fits set d moves alive = elim d [ ]
    statement_to_graph body.break_unlabeled no_throw fits set d moves alive = elim d [ ]
    statement_to_graph body.continue_implicit no_throw fits set d moves alive = elim d [ ]
    statement_to_graph body.continue_labeled no_throw fits set d moves alive = elim d [ ]
    statement_to_graph body.continue_unlabeled no_throw fits set d moves alive = elim d [ ]

    chosen_to_graph : {kept : List Case} {context : ListContext} {cases : Cases} {used : List BlockId}
        {chosen : Option Place} {events : List Event} {outcome : Completion}
        → RunsChosen env chosen cases events outcome → has_throw events ≡ false
        → SpellsCases hir env kept context cases used → Fits context
        → ((case : Case) → InCases case kept → ends_unreachable hir case.block ≡ false) → AllAlive hir used
        → Chosen hir env context kept chosen events outcome
    chosen_to_graph (body.chosen_here x) no_throw (grammar.one_case {case = case} d e w) fits live alive = record {
      case = case;
      among = graph.first refl;
      test = refl;
      after = cases_to_graph x no_throw (grammar.one_case d e w) fits alive case.block refl
          (live case (graph.first refl));
    }
    chosen_to_graph (body.chosen_later x) no_throw
        (grammar.one_case {case = case} {later_used = u} {part_used = v} d e w) fits live alive =
        chosen_further case
        (chosen_to_graph x no_throw d fits (λ case among. live case (graph.later among)) (alive_front hir u v w alive))

    -- the cases from the first one on, at the block that falling off to them reaches
    cases_to_graph : {kept : List Case} {context : ListContext} {cases : Cases} {used : List BlockId}
        {events : List Event} {outcome : Completion} → RunsCases env cases events outcome → has_throw events ≡ false
        → SpellsCases hir env kept context cases used → Fits context → AllAlive hir used → (key : BlockId)
        → (case_context kept context).next ≡ Some key → ends_unreachable hir key ≡ false
        → After hir env context (GraphRunAt hir env key) events outcome
    cases_to_graph body.no_more_cases no_throw grammar.no_cases fits alive key next live =
        leads next live (λ more end run. run)
    cases_to_graph {context = context} (body.falls_into {first = a} {second = b} (body.present x) y q) no_throw
        (grammar.one_case {case = case} {later = others} {later_used = u} {part_used = v} d e w) fits alive key next
        live =
        let same : case.block ≡ key = cc in
        falls_on others (at_case case same others e fits live (alive_behind hir u v w alive)
        (list_to_graph x (no_throw_front a b q no_throw))) (λ key next live.
        cases_to_graph y (no_throw_behind a b q no_throw) d fits (alive_front hir u v w alive) key next live) q
    cases_to_graph (body.leaves_case (body.present x) l) no_throw
        (grammar.one_case {case = case} {later = others} {later_used = u} {part_used = v} d e w) fits alive key next
        live =
        let same : case.block ≡ key = cc in
        out_of_case others l
        (at_case case same others e fits live (alive_behind hir u v w alive) (list_to_graph x no_throw))
    cases_to_graph (body.falls_into body.absent y q) no_throw d fits alive key next live = elim d [ ]
    cases_to_graph (body.leaves_case body.absent l) no_throw d fits alive key next live = elim d [ ]

    loop_to_graph : {blocks : LoopBlocks} {context : ListContext} {parts : LoopParts} {spot : Spot}
        {events : List Event} {outcome : Completion} → RunsLoop env (loop_label blocks) parts spot events outcome
        → has_throw events ≡ false → Looped hir env blocks context parts
        → After hir env (leaving true blocks.fallthrough context) (GraphRunAt hir env (spot_block blocks spot)) events
        outcome
    loop_to_graph (body.nothing_before e x) no_throw k =
        ahead [] (loop_to_graph x no_throw k) refl
        (λ events end run. subst (λ b. GraphRunAt hir env b events end) (sym (turn_is_test k.before e)) run)
    loop_to_graph (body.in_before e v) no_throw k = ends (going_stops (turn_going k.before e) v)
    loop_to_graph (body.past_before {first = a} {second = b} e v past x q) no_throw k =
        ahead a (loop_to_graph x (no_throw_behind a b q no_throw) k) q
        (λ events end run. going_on (turn_going k.before e) v past run)
    loop_to_graph (body.in_test v) no_throw k = ends (test_stops k.test v)
    loop_to_graph (body.test_fails v past q) no_throw k = out_by_test k v past q
    loop_to_graph (body.test_holds {first = a} {second = b} v past x q) no_throw k =
        into_body k v past (loop_to_graph x (no_throw_behind a (Arm true ∷ b) q no_throw) k) q
    loop_to_graph {blocks} {context} (body.next_turn {first = a} {second = b} x again y q) no_throw k =
        ahead a (loop_to_graph y (no_throw_behind a b q no_throw) k) q
        (λ events end run. around_again blocks context again
        (at_block k.body k.fits (λ n. k.body_live) k.alive (list_to_graph x (no_throw_front a b q no_throw))) run)
    loop_to_graph {blocks} {context} (body.leaves_loop x left q) no_throw k =
        out_by_body blocks context left q
        (at_block k.body k.fits (λ n. k.body_live) k.alive (list_to_graph x no_throw))

  -- the context of the entry's statements is empty, so their runs don't jump out
  all_ends : {run : List Event → End → Type 0} {events : List Event} {end : End}
      → After hir env outermost run events (Ended end) → run events end
  all_ends (ends r) = r
  all_ends (leads a alive k) = absurd a

  entry_to_graph : {key : BlockId} {statements : Statements} {used : List BlockId} {events : List Event} {end : End} →
      SpellsList hir env key outermost statements used → AllAlive hir used → has_throw events ≡ false
      → RunsList env statements events (Ended end) → GraphRunAt hir env key events end
  entry_to_graph d alive no_throw x =
      all_ends (at_block d fits_body (λ n. absurd (let bad : ⊥ = cc in bad)) alive (list_to_graph x no_throw))

-- each run of a spelled body that has no throw is a run of its graph
pub body_to_graph : (hir : HirFunction) (env : Environment) (statements : Statements) → SpellsBody hir env statements
    → (events : List Event) (end : End) → has_throw events ≡ false
    → RunsList env statements events (Ended end) → IsGraphRun hir env events end
body_to_graph hir env statements spelled events end no_throw x =
    entry_to_graph hir env spelled.list spelled.sound.alive no_throw x

-- each run of a function that a graph spells is a run of the graph, if it has no throw
pub function_to_graph : (hir : HirFunction) (env : Environment) (func : ReactiveFunction) → Spells hir env func
    → NoEarlyReturnSet env → (events : List Event) (end : End) → has_throw events ≡ false
    → IsBodyRun func env events end → IsGraphRun hir env events end
function_to_graph hir env func spelled none events end no_throw x =
    let body : func.body ≡ block_of spelled.statements = ap (λ (f : ReactiveFunction). f.body) spelled.whole in
    let same : x.statements ≡ spelled.statements = block_of-injective x.statements spelled.statements
    (sym x.body ∙ body) in
    body_to_graph hir env spelled.statements spelled.body events end no_throw
    (subst (λ s. RunsList env s events (Ended end)) same (statements_run env none x))
