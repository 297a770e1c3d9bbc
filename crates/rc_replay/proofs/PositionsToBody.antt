-- A run from the first position of statements on is a run of them, or leads out of them.
--
-- By recursion on the positions of the statements, and for the turns of loops on the number of steps.
use Rattle.std.proofs.Common.{◌≡◌, ◌⊎◌, inl, inr, ℕ, zero, suc, ◌<◌, Bool, true, false, List, [], ◌∷◌, ◌++◌, Option, None, refl}
use Rattle.std.proofs.Common.{sym, ap, ◌∙◌, subst, arith}
use Rattle.std.proofs.lemmas.List.{append-nil}
use Rattle.rc_names.specs.Numbers.{BlockId, EvaluationOrder}
use Rattle.rc_names.specs.declared.span.Span.{Span}
use Rattle.rc_hir.specs.Model.{Place, Environment}
use Rattle.rc_tree.specs.declared.kind.ReactiveTerminalTargetKind.TheVariants.{Implicit, Labeled, Unlabeled}
use Rattle.rc_tree.specs.Model.{ReactiveLabel, ReactiveTerminalTargetKind}
use Rattle.rc_runs.specs.Event.{Event, Arm, Chose, End, Open, Returned, Thrown}
use Rattle.rc_runs.specs.PlainTree.{Value, Statements, Cons, Statement, RowStatement, TerminalStatement, Break, Continue}
use Rattle.rc_runs.specs.PlainTree.{Return, Throw, Switch, For, If, Try, Alternate, Cases, Case}
use Rattle.rc_runs.specs.LoopParts.{LoopParts}
use Rattle.rc_runs.specs.ValueRun.{RunsValue, RunsRow}
use Rattle.rc_runs.specs.Completion.{Completion, Normal, BreakTo, BreakInnermost, ContinueTo, ContinueLoop, Ended}
use Rattle.rc_runs.specs.Completion.{is_thrown}
use Rattle.rc_runs.specs.BodyRun.{has_default, AtTest, RunsList, RunsStatement, RunsLoop, RunsCases}
use Rattle.rc_runs.specs.BodyRun.{RunsChosen, RunsAlternate}
use Rattle.rc_runs.specs.BodyRun as body
use Rattle.rc_runs.proofs.FramesLemmas.{caught-ended}
use Rattle.rc_replay.specs.inside.Positions.{Choice, Tests, Chooses, Ends, IsChoice, first as first_choice, later as later_choice, Table, Follows}
use Rattle.rc_replay.specs.inside.Positions.{FollowsAt, rests, test_holds, test_fails, chooses, ends}
use Rattle.rc_replay.specs.inside.Exits.{Exits, is_over, exit, before, labeled, protected, in_switch, in_loop, may_end}
use Rattle.rc_replay.specs.inside.Lowered.{thrown_position, all_choices, break_completion, continue_completion}
use Rattle.rc_replay.specs.inside.Lowered.{LowersList, LowersStatement, LowersAlternate, LowersCases, LowersLoop}
use Rattle.rc_replay.specs.inside.Lowered as lower
use Rattle.rc_replay.proofs.FollowsSize.{size, size_at, entered, from_equal}
use Rattle.rc_replay.proofs.ExitsLemmas.{caught-over, caught-catches, caught_unlabeled-catches, labeled-leads}
use Rattle.rc_replay.proofs.ExitsLemmas.{protected-leads, in_switch-leads}
use Rattle.rc_replay.proofs.PositionsToValue.{Crosses, stays, passes, shortens, value_crossed, row_crossed}
use Rattle.rc_replay.proofs.PartLeads.{Leads, ends_here, leads, Led, Starts, in_front, starts, Below, more_room}
use Rattle.rc_replay.proofs.PartLeads.{lead_events, lead_after, lead_out, then_lead}
use Rattle.rc_replay.proofs.PositionsToLoop.{body_led, test_led, turn_led}

-- a choice among those before the last one, or the last one
front_or_last : (choices : List Choice) {test other : Option Place} {next last : ℕ}
    → IsChoice (choices ++ (other, last) ∷ []) test next
    → IsChoice choices test next ⊎ ((test ≡ other) × (next ≡ last))
front_or_last [] first_choice = inr (refl, refl)
front_or_last [] (later_choice among) = elim among [ ]
front_or_last (choice ∷ choices) first_choice = inl first_choice
front_or_last (choice ∷ choices) {test} {other} {next} {last} (later_choice among) = by (front_or_last choices among)
  where
    by : IsChoice choices test next ⊎ ((test ≡ other) × (next ≡ last))
        → IsChoice (choice ∷ choices) test next ⊎ ((test ≡ other) × (next ≡ last))
    by (inl front) = inl (later_choice front)
    by (inr last) = inr last

-- where no case is chosen, the switch has no default
case_or_past : (defaults : Bool) (choices : List Choice) {test : Option Place} {next normal : ℕ}
    → IsChoice (all_choices defaults normal choices) test next
    → IsChoice choices test next ⊎ ((defaults ≡ false) × (test ≡ None) × (next ≡ normal))
case_or_past true choices among = inl among
case_or_past false choices {test} {next} {normal} among = by (front_or_last choices among)
  where
    by : IsChoice choices test next ⊎ ((test ≡ None) × (next ≡ normal))
        → IsChoice choices test next ⊎ ((false ≡ false) × (test ≡ None) × (next ≡ normal))
    by (inl front) = inl front
    by (inr last) = inr (refl, last.0, last.1)

-- in a protected block a run ends by no throw
safe_end : (end : End) → may_end false end ≡ true → is_thrown (Ended end) ≡ false
safe_end Open can = refl
safe_end (Returned place) can = refl
safe_end (Thrown place) can = absurd (let bad : ⊥ = cc in bad)

safe_anywhere : (throws : Bool) (end : End) → may_end false end ≡ true → may_end throws end ≡ true
safe_anywhere throws Open can = refl
safe_anywhere throws (Returned place) can = refl
safe_anywhere throws (Thrown place) can = absurd (let bad : ⊥ = cc in bad)

going_on-safe : (outcome : Completion) → is_over outcome ≡ false → is_thrown outcome ≡ false
going_on-safe Normal n = refl
going_on-safe (BreakTo target) n = refl
going_on-safe BreakInnermost n = refl
going_on-safe (ContinueTo target) n = refl
going_on-safe ContinueLoop n = refl
going_on-safe (Ended end) n = absurd (let bad : ⊥ = cc in bad)

module _ {table : Table} {env : Environment} {bound : ℕ} {exits : Exits} where
  -- a row
  row_leads : {id : EvaluationOrder} {target : Option Place} {value : Value} {span : Option Span} {events : List Event}
      {end : End} → Crosses table exits.normal exits.normal bound (RunsRow env false id value) events end
      → Leads table exits bound (RunsStatement env (RowStatement id target value span)) events end
  row_leads {id} {target} {value} {span} {events} (stays here e) =
      subst (λ z. Leads table exits bound (RunsStatement env (RowStatement id target value span)) events z) (sym e)
      (ends_here (body.row here refl) refl)
  row_leads (passes here run small e) = leads (body.row here refl) refl run small e
  row_leads (shortens here run small e) = leads (body.row here refl) refl run small e

  -- a return and a throw
  return_starts : {value : Place} {id : EvaluationOrder} {label : Option ReactiveLabel} {events : List Event} {end : End}
      → Follows table (Ends (Returned value)) events end
      → Starts table exits bound (RunsStatement env (TerminalStatement (Return value id) label)) events end
  return_starts rests = in_front refl refl
  return_starts ends = starts (ends_here body.returned refl)

  throw_starts : {value : Place} {id : EvaluationOrder} {label : Option ReactiveLabel} {events : List Event} {end : End}
      (throws : Bool) → exits.throws ≡ throws → Follows table (thrown_position throws value) events end
      → Starts table exits bound (RunsStatement env (TerminalStatement (Throw value id) label)) events end
  throw_starts true e rests = in_front refl refl
  throw_starts true e ends = starts (ends_here body.thrown e)
  throw_starts false e rests = in_front refl refl

  -- jumps
  break_leads : {target : BlockId} {id : EvaluationOrder} {label : Option ReactiveLabel}
      (kind : ReactiveTerminalTargetKind)
      → Led table exits (exit exits (break_completion label target kind)) bound
      (RunsStatement env (TerminalStatement (Break target kind id) label))
  break_leads Implicit events end run small = leads body.break_implicit refl run small refl
  break_leads {target} {label = label} Labeled events end run small =
      leads (body.break_labeled refl) (caught-over label (BreakTo target)) run small refl
  break_leads Unlabeled events end run small = leads body.break_unlabeled refl run small refl

  continue_leads : {target : BlockId} {id : EvaluationOrder} {label : Option ReactiveLabel}
      (kind : ReactiveTerminalTargetKind) → Led table exits (exit exits (continue_completion target kind)) bound
      (RunsStatement env (TerminalStatement (Continue target kind id) label))
  continue_leads Implicit events end run small = leads body.continue_implicit refl run small refl
  continue_leads Labeled events end run small = leads body.continue_labeled refl run small refl
  continue_leads Unlabeled events end run small = leads body.continue_unlabeled refl run small refl

  -- an if
  if_starts : {test : Place} {consequent : Statements} {alternate : Alternate} {id : EvaluationOrder}
      {label : Option ReactiveLabel} {holds fails : ℕ} {events : List Event} {end : End}
      → Led table (labeled label exits) holds bound (RunsList env consequent)
      → Led table (labeled label exits) fails bound (RunsAlternate env alternate)
      → (run : Follows table (Tests holds fails) events end) → size run < bound
      → Starts table exits bound (RunsStatement env (TerminalStatement (If test consequent alternate id) label)) events
      end
  unfolding size
  if_starts then_arm else_arm rests small = in_front refl refl
  if_starts {label = label} then_arm else_arm (test_holds run) small =
      starts (lead_out (caught-catches label) refl (labeled-leads exits label) (Arm true ∷ [])
      (λ events inner outer here e. body.took_arm here e) (then_arm _ _ run (omega arith)))
  if_starts {label = label} then_arm else_arm (test_fails run) small =
      starts (lead_out (caught-catches label) refl (labeled-leads exits label) (Arm false ∷ [])
      (λ events inner outer here e. body.took_other here e) (else_arm _ _ run (omega arith)))

  -- a switch
  choice_leads : {place : Place} {cases : Cases} {id : EvaluationOrder} {label : Option ReactiveLabel}
      {choices : List Choice} {chosen : Option Place} {next : ℕ} {events : List Event} {end : End}
      → ((chosen : Option Place) (next : ℕ) → IsChoice choices chosen next
      → Led table (in_switch label exits) next bound (RunsChosen env chosen cases))
      → IsChoice choices chosen next ⊎ ((has_default cases ≡ false) × (chosen ≡ None) × (next ≡ exits.normal))
      → (run : FollowsAt table next events end) → size_at run < bound
      → Leads table exits bound (RunsStatement env (TerminalStatement (Switch place cases id) label))
      (Chose chosen ∷ events) end
  choice_leads {label = label} {chosen = chosen} every (inl among) run small =
      lead_out (caught_unlabeled-catches label) refl (in_switch-leads exits label) (Chose chosen ∷ [])
      (λ events inner outer here e. body.in_case here e) (every _ _ among _ _ run small)
  choice_leads {events = events} every (inr past) run small =
      let to = from_equal past.2 run small in
      leads (body.past_cases past.0) refl to.0 to.1 (ap (λ chosen. Chose chosen ∷ events) past.1)

  switch_starts : {place : Place} {cases : Cases} {id : EvaluationOrder} {label : Option ReactiveLabel}
      {choices : List Choice} {events : List Event} {end : End}
      → ((chosen : Option Place) (next : ℕ) → IsChoice choices chosen next
      → Led table (in_switch label exits) next bound (RunsChosen env chosen cases))
      → (run : Follows table (Chooses (all_choices (has_default cases) exits.normal choices)) events end)
      → size run < bound
      → Starts table exits bound (RunsStatement env (TerminalStatement (Switch place cases id) label)) events end
  unfolding size
  switch_starts every rests small = in_front refl refl
  switch_starts {cases = cases} {choices = choices} every (chooses among run) small =
      starts (choice_leads every (case_or_past (has_default cases) choices among) run (omega arith))

  -- a case, and those after it
  case_leads : {test : Option Place} {block : Alternate} {rest : Cases} {start next : ℕ}
      → Led table exits next bound (RunsCases env rest)
      → Led table (before next exits) start bound (RunsAlternate env block)
      → Led table exits start bound (RunsCases env (Case test block rest))
  case_leads following here events end run small =
      then_lead (λ events outcome here l. body.leaves_case here l)
      (λ first second outcome here after. body.falls_into here after refl) following (here _ _ run small)

  -- a later case, or this one
  case_or_later : {test chosen : Option Place} {block : Alternate} {rest : Cases} {choices : List Choice}
      {start next : ℕ} {events : List Event} {end : End}
      → (IsChoice choices chosen next → Led table exits next bound (RunsChosen env chosen rest))
      → Led table exits start bound (RunsCases env (Case test block rest))
      → IsChoice choices chosen next ⊎ ((chosen ≡ test) × (next ≡ start))
      → (run : FollowsAt table next events end) → size_at run < bound
      → Leads table exits bound (RunsChosen env chosen (Case test block rest)) events end
  case_or_later further here (inl front) run small =
      lead_after [] (λ events outcome after. body.chosen_later after) (further front _ _ run small)
  case_or_later {test} {block = block} {rest} {events = events} {end} further here (inr last) run small =
      let to = from_equal last.1 run small in
      subst (λ chosen. Leads table exits bound (RunsChosen env chosen (Case test block rest)) events end) (sym last.0)
      (lead_after [] (λ events outcome after. body.chosen_here after) (here _ _ to.0 to.1))

  -- a protected block
  try_leads : {block handler : Statements} {binding : Option Place} {id : EvaluationOrder}
      {label : Option ReactiveLabel} {events : List Event} {end : End}
      → Leads table (protected label exits) bound (RunsList env block) events end
      → Leads table exits bound (RunsStatement env (TerminalStatement (Try block binding handler id) label)) events end
  try_leads {label = label} {end = end} (ends_here here can) =
      ends_here (body.in_try here (safe_end end can) (sym (caught-ended label end))) (safe_anywhere exits.throws end can)
  try_leads {label = label} (leads {outcome = outcome} here n run small e) =
      let to = from_equal (protected-leads exits label outcome ∙ labeled-leads exits label outcome) run small in
      leads (body.in_try here (going_on-safe outcome n) refl) (caught-over label outcome ∙ n) to.0 to.1 e

  -- a loop after its init
  init_leads : {init test : Value} {update : Option Value} {block : Statements} {id : EvaluationOrder}
      {label : Option ReactiveLabel} {tested : ℕ} {events : List Event} {end : End}
      → Led table exits tested bound
      (RunsLoop env label (record { before = update; test = test; body = block }) AtTest)
      → Crosses table tested tested bound (RunsValue env false init) events end
      → Leads table exits bound (RunsStatement env (TerminalStatement (For init test update block id) label)) events end
  init_leads {init} {test} {update} {block} {id} {label} {events = events} turns (stays here e) =
      subst (λ z. Leads table exits bound (RunsStatement env (TerminalStatement (For init test update block id) label))
      events z) (sym e) (ends_here (body.in_init here) refl)
  init_leads turns (passes {front = front} here run small e) =
      lead_events e
      (lead_after front (λ events outcome after. body.past_init here refl after refl) (turns _ _ run small))
  init_leads turns (shortens {front = front} here run small e) =
      lead_events e
      (lead_after front (λ events outcome after. body.past_init here refl after refl) (turns _ _ run small))

  -- a statement, and those after it
  after_statement : {statement : Statement} {rest : Statements} {next : ℕ} {events : List Event} {end : End}
      → Led table exits next bound (RunsList env rest)
      → Leads table (before next exits) bound (RunsStatement env statement) events end
      → Leads table exits bound (RunsList env (Cons statement rest)) events end
  after_statement following here =
      then_lead (λ events outcome here l. body.and_then here (body.leaves_list l) (sym (append-nil events)))
      (λ first second outcome here after. body.and_then here (body.goes_on after) refl) following here

  from_start : {statement : Statement} {rest : Statements} {next : ℕ} {events : List Event} {end : End}
      → Led table exits next bound (RunsList env rest)
      → Starts table (before next exits) bound (RunsStatement env statement) events end
      → Leads table exits bound (RunsList env (Cons statement rest)) events end
  from_start {statement} {rest} {end = end} following (in_front e q) =
      subst (λ v. Leads table exits bound (RunsList env (Cons statement rest)) v end) (sym e)
      (subst (λ z. Leads table exits bound (RunsList env (Cons statement rest)) [] z) (sym q)
      (ends_here body.stopped refl))
  from_start following (starts here) = after_statement following here

module _ {table : Table} {env : Environment} {bound : ℕ} where
  mutual
    pub list_leads : {exits : Exits} {statements : Statements} {start : ℕ} → Below table env bound
        → LowersList table env exits statements start → Led table exits start bound (RunsList env statements)
    list_leads below lower.no_statement events end run small = leads body.nothing refl run small refl
    list_leads below (lower.one_statement l m) events end run small =
        from_start (list_leads below l) (statement_starts below m run small)

    statement_starts : {exits : Exits} {statement : Statement} {start : ℕ} {events : List Event} {end : End}
        → Below table env bound → LowersStatement table env exits statement start
        → (run : FollowsAt table start events end) → size_at run < bound
        → Starts table exits bound (RunsStatement env statement) events end
    statement_starts below (lower.row l) run small = starts (row_leads (row_crossed l _ _ run small))
    statement_starts below (lower.returns found) run small =
        let at = entered found run small in return_starts at.0
    statement_starts {exits} below (lower.throws found) run small =
        let at = entered found run small in throw_starts exits.throws refl at.0
    statement_starts below (lower.breaks {kind = kind}) run small = starts (break_leads kind _ _ run small)
    statement_starts below (lower.continues {kind = kind}) run small = starts (continue_leads kind _ _ run small)
    statement_starts below (lower.tests l m found) run small =
        let at = entered found run small in if_starts (list_leads below l) (alternate_leads below m) at.0 at.1
    statement_starts below (lower.switches l found) run small =
        let at = entered found run small in switch_starts (chosen_leads below l) at.0 at.1
    statement_starts below (lower.while_loop k) run small =
        starts (lead_after [] (λ events outcome here. body.in_while here) (test_led below k (body_leads below k) _ _ run small))
    statement_starts below (lower.do_while_loop k) run small =
        starts (lead_after [] (λ events outcome here. body.in_do_while here) (body_led below k (body_leads below k) _ _ run small))
    statement_starts below (lower.for_loop k l) run small =
        starts (init_leads (test_led below k (body_leads below k)) (value_crossed l _ _ run small))
    statement_starts below (lower.for_of_loop k) run small =
        starts (lead_after [] (λ events outcome here. body.in_for_of here) (turn_led below k (body_leads below k) run (omega arith)))
    statement_starts below (lower.for_in_loop k) run small =
        starts (lead_after [] (λ events outcome here. body.in_for_in here) (test_led below k (body_leads below k) _ _ run small))
    statement_starts {exits} below (lower.label_statement {label = label} l) run small =
        starts (lead_out (caught-catches label) refl (labeled-leads exits label) []
        (λ events inner outer here e. body.in_label here e) (list_leads below l _ _ run small))
    statement_starts below (lower.try_statement l) run small = starts (try_leads (list_leads below l _ _ run small))
    statement_starts below (lower.scope_statement l) run small =
        starts (lead_after [] (λ events outcome here. body.in_scope here) (list_leads below l _ _ run small))
    statement_starts below (lower.pruned_scope_statement l) run small =
        starts (lead_after [] (λ events outcome here. body.in_pruned_scope here) (list_leads below l _ _ run small))

    alternate_leads : {exits : Exits} {alternate : Alternate} {start : ℕ} → Below table env bound
        → LowersAlternate table env exits alternate start → Led table exits start bound (RunsAlternate env alternate)
    alternate_leads below lower.absent events end run small = leads body.absent refl run small refl
    alternate_leads below (lower.present l) events end run small =
        lead_after [] (λ events outcome here. body.present here) (list_leads below l _ _ run small)

    cases_lead : {exits : Exits} {cases : Cases} {start : ℕ} {choices : List Choice} → Below table env bound
        → LowersCases table env exits cases start choices → Led table exits start bound (RunsCases env cases)
    cases_lead below lower.no_cases events end run small = leads body.no_more_cases refl run small refl
    cases_lead below (lower.one_case l m) events end run small =
        case_leads (cases_lead below l) (alternate_leads below m) _ _ run small

    chosen_leads : {exits : Exits} {cases : Cases} {start : ℕ} {choices : List Choice} → Below table env bound
        → LowersCases table env exits cases start choices → (chosen : Option Place) (next : ℕ)
        → IsChoice choices chosen next → Led table exits next bound (RunsChosen env chosen cases)
    chosen_leads below lower.no_cases chosen next among events end run small = elim among [ ]
    chosen_leads below (lower.one_case {choices = choices} l m) chosen next among events end run small =
        case_or_later (chosen_leads below l chosen next) (case_leads (cases_lead below l) (alternate_leads below m))
        (front_or_last choices among) run small

    body_leads : {exits : Exits} {label : Option ReactiveLabel} {parts : LoopParts} {turn test start : ℕ}
        → Below table env bound → LowersLoop table env exits label parts turn test start
        → Led table (in_loop label turn exits) start bound (RunsList env parts.body)
    body_leads below (lower.loop b t found l) = list_leads below l

-- the claim for the turns of loops holds for all numbers of steps
every_turn : {table : Table} {env : Environment} (bound : ℕ) → Below table env bound
every_turn zero = record { turn = λ l events end run small. absurd (omega arith) }
every_turn (suc bound) = record { turn = λ l events end run small. more_room (turn_led (every_turn bound) l (body_leads (every_turn bound) l) run small) }

-- a run from the first position of statements on
pub list_led : {table : Table} {env : Environment} {exits : Exits} {statements : Statements} {start : ℕ}
    {events : List Event} {end : End} → LowersList table env exits statements start
    → (run : FollowsAt table start events end)
    → Leads table exits (suc (size_at run)) (RunsList env statements) events end
list_led l run = list_leads (every_turn (suc (size_at run))) l _ _ run (omega arith)
