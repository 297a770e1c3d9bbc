-- When each run of a list is a run of another list: joined lists, and statements whose parts keep their runs.
use Rattle.std.proofs.Common.{◌≡◌, List, [], ◌++◌, Option, refl, sym, ap, ◌∙◌, subst, append_assoc}
use Rattle.std.proofs.lemmas.List.{append-nil}
use Rattle.rc_names.specs.Numbers.{BlockId, ScopeId, EvaluationOrder}
use Rattle.rc_hir.specs.Model.{Environment, Place}
use Rattle.rc_tree.specs.Model.{ReactiveTerminalTargetKind, ReactiveLabel}
use Rattle.rc_runs.specs.Event.{Event, Open}
use Rattle.rc_runs.specs.PlainTree.{Statements, Nil, Cons, Statement, TerminalStatement, ScopeStatement}
use Rattle.rc_runs.specs.PlainTree.{PrunedScopeStatement, TreeTerminal, Break, Continue, Return, Throw, If, Label, Try}
use Rattle.rc_runs.specs.PlainTree.{Alternate, Absent, Present}
use Rattle.rc_runs.specs.Completion.{Completion, Normal, BreakTo, BreakInnermost, ContinueTo, ContinueLoop, Ended, caught}
use Rattle.rc_runs.specs.BodyRun.{RunsList, stopped, nothing, and_then, RunsAfter, goes_on, leaves_list, RunsStatement}
use Rattle.rc_runs.specs.BodyRun.{returned, thrown, break_implicit, break_labeled, break_unlabeled, continue_implicit}
use Rattle.rc_runs.specs.BodyRun.{continue_labeled, continue_unlabeled, took_arm, took_other, in_label, in_try}
use Rattle.rc_runs.specs.BodyRun.{in_handler, in_scope, in_pruned_scope, RunsAlternate, present}
use Rattle.rc_runs.proofs.LabelLemmas.{NameAlike, caught-alike}
use Rattle.rc_runs.proofs.PlainLists.{alone, labeled, append}

append-Nil : (statements : Statements) → append statements Nil ≡ statements
append-Nil Nil = refl
append-Nil (Cons statement rest) = ap (Cons statement) (append-Nil rest)

-- each run of the first kind is one of the second
abbrev pub AreAmong : (List Event → Completion → Type 0) → (List Event → Completion → Type 0) → Type 0
AreAmong first second = (events : List Event) (outcome : Completion) → first events outcome → second events outcome

module _ (env : Environment) where
  -- each run of the first list is a run of the second; the same for statements and for alternates
  abbrev pub KeepsRuns : Statements → Statements → Type 0
  KeepsRuns from to = AreAmong (RunsList env from) (RunsList env to)

  abbrev pub StatementKeepsRuns : Statement → Statement → Type 0
  StatementKeepsRuns from to = AreAmong (RunsStatement env from) (RunsStatement env to)

  abbrev pub AlternateKeepsRuns : Alternate → Alternate → Type 0
  AlternateKeepsRuns from to = AreAmong (RunsAlternate env from) (RunsAlternate env to)

  -- each list has the runs of the other
  abbrev pub SameRuns : Statements → Statements → Type 0
  SameRuns before after = KeepsRuns before after × KeepsRuns after before

  abbrev pub SameAlternateRuns : Alternate → Alternate → Type 0
  SameAlternateRuns before after = AlternateKeepsRuns before after × AlternateKeepsRuns after before

  -- a run of a list, and a run of the statements after it
  joined : {front behind : Statements} {first second : List Event} {outcome last : Completion} →
      RunsList env front first outcome → RunsAfter env outcome behind second last →
      RunsList env (append front behind) (first ++ second) last
  joined stopped (leaves_list l) = stopped
  joined nothing (goes_on h) = h
  joined nothing (leaves_list l) = absurd (let bad : ⊥ = cc in bad)
  joined {second = second} (and_then {first = a} {second = b} r (goes_on h) e) k =
      and_then r (goes_on (joined h k)) (ap (λ l. l ++ second) e ∙ append_assoc a b second)
  joined (and_then r (leaves_list l) e) (goes_on h) = absurd (let bad : ⊥ = cc in bad)
  joined (and_then {first = a} r (leaves_list l) e) (leaves_list m) =
      and_then r (leaves_list l) (ap (λ l. l ++ []) e ∙ append-nil (a ++ []))

  -- a run of joined lists is a run of the first, and a run of the statements after it
  record Joined (front behind : Statements) (events : List Event) (last : Completion) : Type 0 where
    first : List Event
    second : List Event
    outcome : Completion
    ahead : RunsList env front first outcome
    after : RunsAfter env outcome behind second last
    whole : events ≡ first ++ second

  taken_apart : (front behind : Statements) {events : List Event} {last : Completion} →
      RunsList env (append front behind) events last → Joined front behind events last
  taken_apart Nil behind {events} h =
      record { first = []; second = events; outcome = Normal; ahead = nothing; after = goes_on h; whole = refl }
  taken_apart (Cons statement rest) behind stopped =
      record { first = []; second = []; outcome = Ended Open; ahead = stopped; after = leaves_list refl; whole = refl }
  taken_apart (Cons statement rest) behind (and_then {first = a} {second = b} r (goes_on h) e) =
      let inner = taken_apart rest behind h in
      record {
        first = a ++ inner.first;
        second = inner.second;
        outcome = inner.outcome;
        ahead = and_then r (goes_on inner.ahead) refl;
        after = inner.after;
        whole = e ∙ ap (λ l. a ++ l) inner.whole ∙ sym (append_assoc a inner.first inner.second);
      }
  taken_apart (Cons statement rest) behind {events} {last} (and_then r (leaves_list l) e) =
      record {
        first = events;
        second = [];
        outcome = last;
        ahead = and_then r (leaves_list l) e;
        after = leaves_list l;
        whole = sym (append-nil events);
      }

  after-keeps_runs : {from to : Statements} {outcome last : Completion} {events : List Event} → KeepsRuns from to →
      RunsAfter env outcome from events last → RunsAfter env outcome to events last
  after-keeps_runs keeps (goes_on h) = goes_on (keeps _ _ h)
  after-keeps_runs keeps (leaves_list l) = leaves_list l

  pub append-keeps_runs : (front behind front' behind' : Statements) → KeepsRuns front front' →
      KeepsRuns behind behind' → KeepsRuns (append front behind) (append front' behind')
  append-keeps_runs front behind front' behind' keeps keeps' events last r =
      let parts = taken_apart front behind r in
      let run = joined (keeps parts.first parts.outcome parts.ahead) (after-keeps_runs keeps' parts.after) in
      subst (λ l. RunsList env (append front' behind') l last) (sym parts.whole) run

  pub same-keeps_runs : (statements : Statements) → KeepsRuns statements statements
  same-keeps_runs statements events outcome r = r

  -- a statement as a list
  as_list : {statement : Statement} {events : List Event} (outcome : Completion) →
      RunsStatement env statement events outcome → RunsList env (alone statement) events outcome
  as_list {events = events} Normal r = and_then r (goes_on nothing) (sym (append-nil events))
  as_list {events = events} (BreakTo target) r = and_then r (leaves_list refl) (sym (append-nil events))
  as_list {events = events} BreakInnermost r = and_then r (leaves_list refl) (sym (append-nil events))
  as_list {events = events} (ContinueTo target) r = and_then r (leaves_list refl) (sym (append-nil events))
  as_list {events = events} ContinueLoop r = and_then r (leaves_list refl) (sym (append-nil events))
  as_list {events = events} (Ended end) r = and_then r (leaves_list refl) (sym (append-nil events))

  -- a list that has the runs of a statement
  from_statement : (from : Statement) (to : Statements) → AreAmong (RunsStatement env from) (RunsList env to) →
      KeepsRuns (alone from) to
  from_statement from to keeps events outcome stopped = stopped
  from_statement from to keeps events outcome (and_then {first = first} {second = second} {outcome = inner} r k e) =
      let joint : RunsList env (append to Nil) (first ++ second) outcome = joined (keeps first inner r) k in
      let run = subst (λ s. RunsList env s (first ++ second) outcome) (append-Nil to) joint in
      subst (λ l. RunsList env to l outcome) (sym e) run

  -- a statement that has the runs of another one
  pub statement-keeps_runs : (from to : Statement) → StatementKeepsRuns from to → KeepsRuns (alone from) (alone to)
  statement-keeps_runs from to keeps =
      from_statement from (alone to) (λ events outcome r. as_list outcome (keeps events outcome r))

  pub scope-keeps_runs : (scope : ScopeId) (from to : Statements) → KeepsRuns from to →
      KeepsRuns (alone (ScopeStatement scope from)) (alone (ScopeStatement scope to))
  scope-keeps_runs scope from to keeps =
      statement-keeps_runs (ScopeStatement scope from) (ScopeStatement scope to) inside
    where
      inside : StatementKeepsRuns (ScopeStatement scope from) (ScopeStatement scope to)
      inside events outcome (in_scope r) = in_scope (keeps events outcome r)

  pub pruned_scope-keeps_runs : (scope : ScopeId) (from to : Statements) → KeepsRuns from to →
      KeepsRuns (alone (PrunedScopeStatement scope from)) (alone (PrunedScopeStatement scope to))
  pruned_scope-keeps_runs scope from to keeps =
      statement-keeps_runs (PrunedScopeStatement scope from) (PrunedScopeStatement scope to) inside
    where
      inside : StatementKeepsRuns (PrunedScopeStatement scope from) (PrunedScopeStatement scope to)
      inside events outcome (in_pruned_scope r) = in_pruned_scope (keeps events outcome r)

  -- a list that keeps the runs of the contents keeps those of the scope block, and the converse; the same for a pruned
  -- one
  pub contents-keep_runs : (scope : ScopeId) (contents to : Statements) → KeepsRuns contents to →
      KeepsRuns (alone (ScopeStatement scope contents)) to
  contents-keep_runs scope contents to keeps = from_statement (ScopeStatement scope contents) to inside
    where
      inside : AreAmong (RunsStatement env (ScopeStatement scope contents)) (RunsList env to)
      inside events outcome (in_scope r) = keeps events outcome r

  pub keeps_runs-contents : (scope : ScopeId) (from contents : Statements) → KeepsRuns from contents →
      KeepsRuns from (alone (ScopeStatement scope contents))
  keeps_runs-contents scope from contents keeps events outcome r = as_list outcome (in_scope (keeps events outcome r))

  pub pruned_contents-keep_runs : (scope : ScopeId) (contents to : Statements) → KeepsRuns contents to →
      KeepsRuns (alone (PrunedScopeStatement scope contents)) to
  pruned_contents-keep_runs scope contents to keeps = from_statement (PrunedScopeStatement scope contents) to inside
    where
      inside : AreAmong (RunsStatement env (PrunedScopeStatement scope contents)) (RunsList env to)
      inside events outcome (in_pruned_scope r) = keeps events outcome r

  pub keeps_runs-pruned_contents : (scope : ScopeId) (from contents : Statements) → KeepsRuns from contents →
      KeepsRuns from (alone (PrunedScopeStatement scope contents))
  keeps_runs-pruned_contents scope from contents keeps events outcome r =
      as_list outcome (in_pruned_scope (keeps events outcome r))

  -- the terminals with these labels
  abbrev pub TerminalKeepsRuns : TreeTerminal → Option ReactiveLabel → TreeTerminal → Option ReactiveLabel → Type 0
  TerminalKeepsRuns from label to label' =
      StatementKeepsRuns (TerminalStatement from label) (TerminalStatement to label')

  relabeled_break : (target : BlockId) (kind : ReactiveTerminalTargetKind) (id : EvaluationOrder)
      (label label' : Option ReactiveLabel) → NameAlike label label' →
      TerminalKeepsRuns (Break target kind id) label (Break target kind id) label'
  relabeled_break target kind id label label' alike events outcome break_implicit = break_implicit
  relabeled_break target kind id label label' alike events outcome (break_labeled q) =
      break_labeled (q ∙ caught-alike label label' alike (BreakTo target))
  relabeled_break target kind id label label' alike events outcome break_unlabeled = break_unlabeled

  -- a break, which may be caught by its own label
  pub break-keeps_runs : (target : BlockId) (kind : ReactiveTerminalTargetKind) (id : EvaluationOrder)
      (label label' : Option ReactiveLabel) → NameAlike label label' →
      KeepsRuns (labeled (Break target kind id) label) (labeled (Break target kind id) label')
  break-keeps_runs target kind id label label' alike =
      statement-keeps_runs _ _ (relabeled_break target kind id label label' alike)

  -- a continue, a return and a throw, whose own label is never met
  pub continue-keeps_runs : (target : BlockId) (kind : ReactiveTerminalTargetKind) (id : EvaluationOrder)
      (label label' : Option ReactiveLabel) →
      KeepsRuns (labeled (Continue target kind id) label) (labeled (Continue target kind id) label')
  continue-keeps_runs target kind id label label' = statement-keeps_runs _ _ (inside kind)
    where
      inside : (kind : ReactiveTerminalTargetKind) →
          TerminalKeepsRuns (Continue target kind id) label (Continue target kind id) label'
      inside kind events outcome continue_implicit = continue_implicit
      inside kind events outcome continue_labeled = continue_labeled
      inside kind events outcome continue_unlabeled = continue_unlabeled

  pub return-keeps_runs : (value : Place) (id : EvaluationOrder) (label label' : Option ReactiveLabel) →
      KeepsRuns (labeled (Return value id) label) (labeled (Return value id) label')
  return-keeps_runs value id label label' = statement-keeps_runs _ _ inside
    where
      inside : TerminalKeepsRuns (Return value id) label (Return value id) label'
      inside events outcome returned = returned

  pub throw-keeps_runs : (value : Place) (id : EvaluationOrder) (label label' : Option ReactiveLabel) →
      KeepsRuns (labeled (Throw value id) label) (labeled (Throw value id) label')
  throw-keeps_runs value id label label' = statement-keeps_runs _ _ inside
    where
      inside : TerminalKeepsRuns (Throw value id) label (Throw value id) label'
      inside events outcome thrown = thrown

  pub present-keeps_runs : (from to : Statements) → KeepsRuns from to → AlternateKeepsRuns (Present from) (Present to)
  present-keeps_runs from to keeps events outcome (present r) = present (keeps events outcome r)

  pub absent-keeps_runs : AlternateKeepsRuns Absent Absent
  absent-keeps_runs events outcome r = r

  pub if-keeps_runs : (test : Place) (id : EvaluationOrder) (from to : Statements) (other other' : Alternate)
      (label label' : Option ReactiveLabel) → KeepsRuns from to → AlternateKeepsRuns other other' →
      NameAlike label label' →
      KeepsRuns (labeled (If test from other id) label) (labeled (If test to other' id) label')
  if-keeps_runs test id from to other other' label label' keeps keeps' alike = statement-keeps_runs _ _ inside
    where
      inside : TerminalKeepsRuns (If test from other id) label (If test to other' id) label'
      inside events outcome (took_arm {inner = inner} r q) =
          took_arm (keeps _ _ r) (q ∙ caught-alike label label' alike inner)
      inside events outcome (took_other {inner = inner} r q) =
          took_other (keeps' _ _ r) (q ∙ caught-alike label label' alike inner)

  pub label-keeps_runs : (id : EvaluationOrder) (from to : Statements) (label label' : Option ReactiveLabel) →
      KeepsRuns from to → NameAlike label label' →
      KeepsRuns (labeled (Label from id) label) (labeled (Label to id) label')
  label-keeps_runs id from to label label' keeps alike = statement-keeps_runs _ _ inside
    where
      inside : TerminalKeepsRuns (Label from id) label (Label to id) label'
      inside events outcome (in_label {inner = inner} r q) =
          in_label (keeps events inner r) (q ∙ caught-alike label label' alike inner)

  -- a try is left, and its handler reached, by how the protected block completes, which stays
  pub try-keeps_runs : (binding : Option Place) (id : EvaluationOrder) (from to handler handler' : Statements)
      (label label' : Option ReactiveLabel) → KeepsRuns from to → KeepsRuns handler handler' →
      NameAlike label label' →
      KeepsRuns (labeled (Try from binding handler id) label) (labeled (Try to binding handler' id) label')
  try-keeps_runs binding id from to handler handler' label label' keeps keeps' alike = statement-keeps_runs _ _ inside
    where
      inside : TerminalKeepsRuns (Try from binding handler id) label (Try to binding handler' id) label'
      inside events outcome (in_try {inner = inner} r stays q) =
          in_try (keeps events inner r) stays (q ∙ caught-alike label label' alike inner)
      inside events outcome (in_handler {inner = inner} r reaches later q e) =
          in_handler (keeps _ _ r) reaches (keeps' _ inner later) (q ∙ caught-alike label label' alike inner) e

  -- the label catches no completion of the list
  abbrev pub CatchesNothing : Option ReactiveLabel → Statements → Type 0
  CatchesNothing label body = AreAmong (RunsList env body) (λ events outcome. caught label outcome ≡ outcome)

  -- such a `Label` may be replaced by its statements
  pub flat-keeps_runs : (id : EvaluationOrder) (label : Option ReactiveLabel) (body to : Statements) →
      KeepsRuns body to → CatchesNothing label body → KeepsRuns (labeled (Label body id) label) to
  flat-keeps_runs id label body to keeps catches = from_statement (TerminalStatement (Label body id) label) to inside
    where
      inside : AreAmong (RunsStatement env (TerminalStatement (Label body id) label)) (RunsList env to)
      inside events outcome (in_label {inner = inner} r q) =
          subst (RunsList env to events) (sym (q ∙ catches events inner r)) (keeps events inner r)

  -- and the statements by the `Label`
  pub keeps_runs-flat : (id : EvaluationOrder) (label : Option ReactiveLabel) (from body : Statements) →
      KeepsRuns from body → CatchesNothing label body → KeepsRuns from (labeled (Label body id) label)
  keeps_runs-flat id label from body keeps catches events outcome r =
      let inside = keeps events outcome r in
      as_list outcome (in_label inside (sym (catches events outcome inside)))
