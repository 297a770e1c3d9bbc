-- The positions of a body, where no row throws: each statement is told where its completions lead.
use Rattle.std.specs.Prelude.{◌≡◌, ◌++◌, ℕ, Bool, true, false, List, [], ◌∷◌, Option, Some, None, if◌then◌else◌}
use Rattle.rc_names.specs.Numbers.{BlockId}
use Rattle.rc_hir.specs.Model.{Place, Environment}
use Rattle.rc_tree.specs.declared.kind.ReactiveTerminalTargetKind.TheVariants.{Implicit, Labeled, Unlabeled}
use Rattle.rc_tree.specs.Model.{ReactiveLabel, ReactiveTerminalTargetKind}
use Rattle.rc_runs.specs.Event.{Returned, Thrown}
use Rattle.rc_runs.specs.PlainTree.{Value, Statements, Nil, Cons, Statement, RowStatement, TerminalStatement}
use Rattle.rc_runs.specs.PlainTree.{ScopeStatement, PrunedScopeStatement, Break, Continue, Return, Throw, Switch}
use Rattle.rc_runs.specs.PlainTree.{DoWhile, While, For, ForOf, ForIn, If, Label, Try, Alternate, Absent, Present}
use Rattle.rc_runs.specs.PlainTree.{Cases, NoCases, Case}
use Rattle.rc_runs.specs.LoopParts.{LoopParts}
use Rattle.rc_runs.specs.Completion.{Completion, Normal, BreakTo, BreakInnermost, ContinueTo, ContinueLoop, caught}
use Rattle.rc_runs.specs.BodyRun.{has_default}
use Rattle.rc_replay.specs.inside.Positions.{Choice, Position, Passes, Tests, Chooses, Ends, Stops, Table}
use Rattle.rc_replay.specs.inside.Exits.{Exits, exit, before, labeled, protected, in_switch, in_loop}
use Rattle.rc_replay.specs.inside.LoweredValue.{LowersValue, LowersRow}

-- the completion of a break of that kind, in a statement with that label, and that of a continue
abbrev pub break_completion : Option ReactiveLabel → BlockId → ReactiveTerminalTargetKind → Completion
break_completion label target Implicit = Normal
break_completion label target Labeled = caught label (BreakTo target)
break_completion label target Unlabeled = BreakInnermost

abbrev pub continue_completion : BlockId → ReactiveTerminalTargetKind → Completion
continue_completion target Implicit = Normal
continue_completion target Labeled = ContinueTo target
continue_completion target Unlabeled = ContinueLoop

-- the position of a throw statement
abbrev pub thrown_position : Bool → Place → Position
thrown_position throws place = if throws then Ends (Thrown place) else Stops

-- the choices of a switch, which goes on at that position where no case is chosen
abbrev pub all_choices : Bool → ℕ → List Choice → List Choice
all_choices defaults next choices = if defaults then choices else (choices ++ (None, next) ∷ [])

module _ (table : Table) (env : Environment) where
  -- a loop with that label, whose turns, test and body begin at these positions
  pub data LowersBefore : Option Value → (test turn : ℕ) → Type 0 where
    nothing_before : {test turn : _} → table turn ≡ Some (Passes test) → LowersBefore None test turn
    some_before : {value test start turn : _} → LowersValue table env false value test test start →
        table turn ≡ Some (Passes start) → LowersBefore (Some value) test turn

  mutual
    -- statements, with those exits, begin at a position
    pub data LowersList : Exits → Statements → ℕ → Type 0 where
      no_statement : {exits : Exits} → LowersList exits Nil exits.normal
      one_statement : {exits statement rest next start : _} → LowersList exits rest next →
          LowersStatement (before next exits) statement start → LowersList exits (Cons statement rest) start

    pub data LowersStatement : Exits → Statement → ℕ → Type 0 where
      row : {exits : Exits} {id target value span start : _} →
          LowersRow table env false id value exits.normal exits.normal start →
          LowersStatement exits (RowStatement id target value span) start
      returns : {exits value id label start : _} → table start ≡ Some (Ends (Returned value)) →
          LowersStatement exits (TerminalStatement (Return value id) label) start
      throws : {exits : Exits} {value id label start : _} → table start ≡ Some (thrown_position exits.throws value) →
          LowersStatement exits (TerminalStatement (Throw value id) label) start
      breaks : {exits target kind id label : _} →
          LowersStatement exits (TerminalStatement (Break target kind id) label)
          (exit exits (break_completion label target kind))
      continues : {exits target kind id label : _} →
          LowersStatement exits (TerminalStatement (Continue target kind id) label)
          (exit exits (continue_completion target kind))
      tests : {exits test consequent alternate id label holds fails start : _} →
          LowersList (labeled label exits) consequent holds → LowersAlternate (labeled label exits) alternate fails →
          table start ≡ Some (Tests holds fails) →
          LowersStatement exits (TerminalStatement (If test consequent alternate id) label) start
      switches : {exits : Exits} {test cases id label first choices start : _} →
          LowersCases (in_switch label exits) cases first choices →
          table start ≡ Some (Chooses (all_choices (has_default cases) exits.normal choices)) →
          LowersStatement exits (TerminalStatement (Switch test cases id) label) start
      while_loop : {exits test body id label turn start inner : _} →
          LowersLoop exits label (record { before = None; test = test; body = body }) turn start inner →
          LowersStatement exits (TerminalStatement (While test body id) label) start
      do_while_loop : {exits test body id label turn tested start : _} →
          LowersLoop exits label (record { before = None; test = test; body = body }) turn tested start →
          LowersStatement exits (TerminalStatement (DoWhile body test id) label) start
      for_loop : {exits init test update body id label turn tested inner start : _} →
          LowersLoop exits label (record { before = update; test = test; body = body }) turn tested inner →
          LowersValue table env false init tested tested start →
          LowersStatement exits (TerminalStatement (For init test update body id) label) start
      for_of_loop : {exits init test body span id label start tested inner : _} →
          LowersLoop exits label (record { before = Some init; test = test; body = body }) start tested inner →
          LowersStatement exits (TerminalStatement (ForOf init test body span id) label) start
      for_in_loop : {exits init body span id label turn start inner : _} →
          LowersLoop exits label (record { before = None; test = init; body = body }) turn start inner →
          LowersStatement exits (TerminalStatement (ForIn init body span id) label) start
      label_statement : {exits body id label start : _} → LowersList (labeled label exits) body start →
          LowersStatement exits (TerminalStatement (Label body id) label) start
      try_statement : {exits body binding handler id label start : _} → LowersList (protected label exits) body start →
          LowersStatement exits (TerminalStatement (Try body binding handler id) label) start
      scope_statement : {exits scope body start : _} → LowersList exits body start →
          LowersStatement exits (ScopeStatement scope body) start
      pruned_scope_statement : {exits scope body start : _} → LowersList exits body start →
          LowersStatement exits (PrunedScopeStatement scope body) start

    -- an optional block
    pub data LowersAlternate : Exits → Alternate → ℕ → Type 0 where
      absent : {exits : Exits} → LowersAlternate exits Absent exits.normal
      present : {exits body start : _} → LowersList exits body start → LowersAlternate exits (Present body) start

    -- the cases of a switch, where each falls into the next one, and their choices
    pub data LowersCases : Exits → Cases → ℕ → List Choice → Type 0 where
      no_cases : {exits : Exits} → LowersCases exits NoCases exits.normal []
      one_case : {exits test body rest next start choices : _} → LowersCases exits rest next choices →
          LowersAlternate (before next exits) body start →
          LowersCases exits (Case test body rest) start (choices ++ (test, start) ∷ [])

    -- a loop with that label: where its turns begin, its test, and its body
    pub data LowersLoop : Exits → Option ReactiveLabel → LoopParts → (turn test body : ℕ) → Type 0 where
      loop : {exits : Exits} {label : _} {parts : LoopParts} {turn test branch body : _} →
          LowersBefore parts.before test turn → LowersValue table env false parts.test branch branch test →
          table branch ≡ Some (Tests body exits.normal) → LowersList (in_loop label turn exits) parts.body body →
          LowersLoop exits label parts turn test body
