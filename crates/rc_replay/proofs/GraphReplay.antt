-- The runs through the table of a graph are the runs of the graph.
use Rattle.std.proofs.Common.{◌≡◌, ◌∙◌, ◌++◌, ◌↔◌, ℕ, Bool, true, false, List, [], ◌∷◌, Option, None, Some, refl, sym, ap, subst}
use Rattle.std.proofs.Common.{if◌then◌else◌}
use Rattle.std.proofs.lemmas.Option.{same_Some}
use Rattle.rc_names.specs.Numbers.{BlockId}
use Rattle.rc_hir.specs.Model.{Environment, HirFunction, Instruction, Terminal}
use Rattle.rc_hir.specs.Successors.{Moves, Straight, ByTest, ByCase, MayThrow, moves}
use Rattle.rc_hir.specs.Successors as successors
use Rattle.rc_hir.specs.declared.terminal.Terminal.TheVariants as terminals
use Rattle.rc_replay.specs.inside.GraphTable.{BeginsAt, at_row, at_terminal, IsEntry, IsGraphTable, form_position, number_of, row_position, terminal_position}
use Rattle.rc_replay.specs.inside.Paths.{Leads}
use Rattle.rc_replay.specs.inside.Paths as paths
use Rattle.rc_replay.specs.inside.Positions.{Computes, Ends, Follows, FollowsAt, Passes, Position, Stops, Table}
use Rattle.rc_replay.specs.inside.Positions as positions
use Rattle.rc_replay.proofs.ChoiceLemmas.{choice_edge, past_cases_choice, to_case_choice}
use Rattle.rc_runs.specs.Event.{Arm, Chose, End, Event, Open, Threw}
use Rattle.rc_runs.specs.Graph.{Block, block_at}
use Rattle.rc_runs.specs.GraphRun.{GraphRun, GraphRunAt, IsGraphRun, Move, arrives, did, enters, moved, quiet, returned, stopped, thrown}
use Rattle.rc_runs.specs.GraphRun as runs
use Rattle.rc_runs.specs.Silent.{is_silent}

module _ (hir : HirFunction) (env : Environment) (table : Table) where
  -- an edge, and the run from its block
  edge_follows : {form : Moves} {step events : List Event} {key : BlockId} {end : End} → Move form step key
      → FollowsAt table (number_of hir key) events end → Follows table (form_position hir form) (step ++ events) end
  edge_follows runs.goes_to rest = positions.passes rest
  edge_follows runs.then_arm rest = positions.test_holds rest
  edge_follows runs.else_arm rest = positions.test_fails rest
  edge_follows (runs.to_case {fallthrough = fallthrough} found test block) rest =
      positions.chooses (to_case_choice hir fallthrough found test block) rest
  edge_follows (runs.past_cases {cases = cases} {fallthrough = fallthrough} none) rest =
      positions.chooses (past_cases_choice hir cases fallthrough none) rest
  edge_follows (runs.goes_on {handler = None}) rest = positions.passes rest
  edge_follows (runs.goes_on {handler = Some handler}) rest = positions.goes_on rest
  edge_follows runs.throws rest = positions.throws rest

  terminal_follows : {events : List Event} {end : End} (terminal : Terminal)
      → Follows table (form_position hir (moves terminal)) events end
      → Follows table (terminal_position hir terminal) events end
  terminal_follows (terminals.Return value id span) positions.rests = positions.rests
  terminal_follows (terminals.Throw value id span) positions.rests = positions.rests
  terminal_follows terminal follows = follows

  -- a position's move, and what is known of the run from where it leads
  data Turn (Known : ℕ → List Event → End → Type 0) : Position → List Event → End → Type 0 where
    rested : {position : Position} → Turn Known position [] Open
    ended : {end : End} → Turn Known (Ends end) [] end
    turned : {position : Position} {step events all : List Event} {next : ℕ} {end : End} → Leads position step next
        → Known next events end → all ≡ step ++ events → Turn Known position all end

  -- the run from the position with a number on is one of the graph, from whatever begins there
  record IsRunFrom (number : ℕ) (events : List Event) (end : End) : Type 0 where
    pub rows : {rows : List Instruction} {terminal : Terminal} → BeginsAt hir env table number rows terminal
        → GraphRun hir env rows terminal events end
    pub block : (key : BlockId) → number ≡ number_of hir key → GraphRunAt hir env key events end

  -- the run from a terminal's position on, by the form in which the terminal leads on
  form_run : {all : List Event} {end : End} (form : Moves) (terminal : Terminal) → moves terminal ≡ form
      → Turn IsRunFrom (form_position hir form) all end → GraphRun hir env [] terminal all end
  form_run successors.Ends terminal is rested = stopped
  form_run successors.Ends terminal is (turned leads rest same) = elim leads [ ]
  form_run (Straight block) terminal is rested = stopped
  form_run (Straight block) terminal is (turned paths.passes rest same) =
      moved (subst (λ m. Move m [] block) (sym is) runs.goes_to) (rest.block block refl) same
  form_run (ByTest consequent alternate) terminal is rested = stopped
  form_run (ByTest consequent alternate) terminal is (turned paths.holds rest same) =
      moved (subst (λ m. Move m (Arm true ∷ []) consequent) (sym is) runs.then_arm) (rest.block consequent refl) same
  form_run (ByTest consequent alternate) terminal is (turned paths.fails rest same) =
      moved (subst (λ m. Move m (Arm false ∷ []) alternate) (sym is) runs.else_arm) (rest.block alternate refl) same
  form_run (ByCase cases fallthrough) terminal is rested = stopped
  form_run (ByCase cases fallthrough) terminal is (turned (paths.chooses {test = test} choice) rest same) =
      let found = choice_edge hir cases fallthrough choice in
      moved (subst (λ m. Move m (Chose test ∷ []) found.key) (sym is) found.edge) (rest.block found.key found.there) same
  form_run (MayThrow continuation None) terminal is rested = stopped
  form_run (MayThrow continuation None) terminal is (turned paths.passes rest same) =
      moved (subst (λ m. Move m [] continuation) (sym is) runs.goes_on) (rest.block continuation refl) same
  form_run (MayThrow continuation (Some handler)) terminal is rested = stopped
  form_run (MayThrow continuation (Some handler)) terminal is (turned paths.goes_on rest same) =
      moved (subst (λ m. Move m [] continuation) (sym is) runs.goes_on) (rest.block continuation refl) same
  form_run (MayThrow continuation (Some handler)) terminal is (turned paths.throws rest same) =
      moved (subst (λ m. Move m (Threw ∷ []) handler) (sym is) runs.throws) (rest.block handler refl) same

  terminal_run : {all : List Event} {end : End} (terminal : Terminal)
      → Turn IsRunFrom (terminal_position hir terminal) all end → GraphRun hir env [] terminal all end
  terminal_run (terminals.Return value id span) rested = stopped
  terminal_run (terminals.Return value id span) ended = returned
  terminal_run (terminals.Return value id span) (turned leads rest same) = elim leads [ ]
  terminal_run (terminals.Throw value id span) rested = stopped
  terminal_run (terminals.Throw value id span) ended = thrown
  terminal_run (terminals.Throw value id span) (turned leads rest same) = elim leads [ ]
  terminal_run terminal turn = form_run (moves terminal) terminal refl turn

  row_run : {rows : List Instruction} {terminal : Terminal} {all : List Event} {end : End} (row : Instruction) (next : ℕ)
      (silent : Bool) → is_silent env row.id row.value ≡ silent → BeginsAt hir env table next rows terminal
      → Turn IsRunFrom (if silent then Passes next else Computes row.value next) all end
      → GraphRun hir env (row ∷ rows) terminal all end
  row_run row next true is begins rested = stopped
  row_run {rows} {terminal} {end = end} row next true is begins (turned paths.passes rest same) =
      subst (λ l. GraphRun hir env (row ∷ rows) terminal l end) (sym same) (quiet is (rest.rows begins))
  row_run row next false is begins rested = stopped
  row_run {rows} {terminal} {end = end} row next false is begins (turned paths.computes rest same) =
      subst (λ l. GraphRun hir env (row ∷ rows) terminal l end) (sym same) (did is (rest.rows begins))

  rows_run : {at : ℕ} {rows : List Instruction} {terminal : Terminal} {all : List Event} {end : End} (position : Position)
      → table at ≡ Some position → BeginsAt hir env table at rows terminal → Turn IsRunFrom position all end
      → GraphRun hir env rows terminal all end
  rows_run {all = all} {end = end} position known (at_terminal {terminal = terminal} here) turn = terminal_run terminal
      (subst (λ p. Turn IsRunFrom p all end) (same_Some position (terminal_position hir terminal) (sym known ∙ here)) turn)
  rows_run {all = all} {end = end} position known (at_row {next = next} {row = row} here begins) turn =
      row_run row next (is_silent env row.id row.value) refl begins
      (subst (λ p. Turn IsRunFrom p all end) (same_Some position (row_position env row next) (sym known ∙ here)) turn)

  entry_run : {all : List Event} {end : End} (key : BlockId) (found : Option Block) (position : Position)
      → block_at hir key ≡ found → IsEntry hir env table found position → Turn IsRunFrom position all end
      → GraphRunAt hir env key all end
  entry_run {all} {end} key None position is entry turn = stops (subst (λ p. Turn IsRunFrom p all end) entry turn)
    where
      stops : {all : List Event} {end : End} → Turn IsRunFrom Stops all end → GraphRunAt hir env key all end
      stops rested = arrives
      stops (turned leads rest same) = elim leads [ ]
  entry_run {all} {end} key (Some block) position is entry turn =
      goes (subst (λ p. Turn IsRunFrom p all end) entry.1 turn)
    where
      goes : {all : List Event} {end : End} → Turn IsRunFrom (Passes entry.0) all end → GraphRunAt hir env key all end
      goes rested = arrives
      goes {end = end} (turned paths.passes rest same) =
          subst (λ l. GraphRunAt hir env key l end) (sym same) (enters is (rest.rows entry.2))

  module _ (laid : IsGraphTable hir env table) where
    turn_run : {at : ℕ} {all : List Event} {end : End} (position : Position) → table at ≡ Some position
        → Turn IsRunFrom position all end → IsRunFrom at all end
    turn_run {all = all} {end = end} position known turn = record {
      rows = λ begins. rows_run position known begins turn;
      block = λ key there. let entry = laid key in
          entry_run key (block_at hir key) entry.0 refl entry.2 (subst (λ p. Turn IsRunFrom p all end)
          (same_Some position entry.0 (sym known ∙ ap table there ∙ entry.1)) turn);
    }

    mutual
      position_turn : {position : Position} {events : List Event} {end : End} → Follows table position events end
          → Turn IsRunFrom position events end
      position_turn positions.rests = rested
      position_turn (positions.passes rest) = turned paths.passes (number_run rest) refl
      position_turn (positions.computes rest) = turned paths.computes (number_run rest) refl
      position_turn (positions.test_holds rest) = turned paths.holds (number_run rest) refl
      position_turn (positions.test_fails rest) = turned paths.fails (number_run rest) refl
      position_turn (positions.chooses choice rest) = turned (paths.chooses choice) (number_run rest) refl
      position_turn (positions.goes_on rest) = turned paths.goes_on (number_run rest) refl
      position_turn (positions.throws rest) = turned paths.throws (number_run rest) refl
      position_turn positions.ends = ended

      number_run : {number : ℕ} {events : List Event} {end : End} → FollowsAt table number events end
          → IsRunFrom number events end
      number_run positions.arrives = record { rows = λ begins. stopped; block = λ key there. arrives }
      number_run (positions.enters {position = position} known follows) = turn_run position known (position_turn follows)

    row_follows : {events : List Event} {end : End} (row : Instruction) (next : ℕ) (silent : Bool)
        → is_silent env row.id row.value ≡ silent
        → Follows table (if silent then Passes next else Computes row.value next) events end
        → Follows table (row_position env row next) events end
    row_follows {events} {end} row next silent is follows = subst
        (λ b. Follows table (if b then Passes next else Computes row.value next) events end) (sym is) follows

    mutual
      rows_follow : {at : ℕ} {rows : List Instruction} {terminal : Terminal} {events : List Event} {end : End}
          → BeginsAt hir env table at rows terminal → GraphRun hir env rows terminal events end
          → FollowsAt table at events end
      rows_follow begins stopped = positions.arrives
      rows_follow (at_row {next = next} {row = row} known begins) (quiet is run) =
          positions.enters known (row_follows row next true is (positions.passes (rows_follow begins run)))
      rows_follow (at_row {next = next} {row = row} known begins) (did is run) =
          positions.enters known (row_follows row next false is (positions.computes (rows_follow begins run)))
      rows_follow (at_terminal {terminal = terminal} known) (moved {end = end} edge run same) = positions.enters known
          (terminal_follows terminal (subst (λ l. Follows table (form_position hir (moves terminal)) l end) (sym same)
          (edge_follows edge (block_follows run))))
      rows_follow (at_terminal known) returned = positions.enters known positions.ends
      rows_follow (at_terminal known) thrown = positions.enters known positions.ends

      block_follows : {key : BlockId} {events : List Event} {end : End} → GraphRunAt hir env key events end
          → FollowsAt table (number_of hir key) events end
      block_follows arrives = positions.arrives
      block_follows (enters {key = key} {block = block} {events = events} {end = end} found run) =
          let entry = laid key in
          let block_entry = subst (λ o. IsEntry hir env table o entry.0) found entry.2 in
          positions.enters entry.1 (subst (λ p. Follows table p events end) (sym block_entry.1)
          (positions.passes (rows_follow block_entry.2 run)))

    -- the runs through the table from the entry's position on are the runs of the graph
    pub follows_are_runs : {events : List Event} {end : End}
        → FollowsAt table (number_of hir hir.body.entry) events end ↔ IsGraphRun hir env events end
    follows_are_runs = ((λ follows. (number_run follows).block hir.body.entry refl), block_follows)
