-- Where each completion of a statement leads.
use Rattle.std.specs.Prelude.{ℕ, Bool, true, false, List, [], ◌∷◌, Option, Some, None, if◌then◌else◌}
use Rattle.rc_names.specs.Numbers.{BlockId, same_id}
use Rattle.rc_tree.specs.Model.{ReactiveLabel}
use Rattle.rc_runs.specs.Event.{End, Thrown}
use Rattle.rc_replay.specs.declared.exits.LabelExit.{LabelExit}
use Rattle.rc_runs.specs.Completion.{Completion, Normal, BreakTo, BreakInnermost, ContinueTo, ContinueLoop, Ended}

-- where a statement goes on, and where its jumps lead. The labels are those around it, innermost first. A throw
-- statement in a protected block doesn't end the run.
pub record Exits : Type 0 where
  pub normal : ℕ
  pub innermost_break : ℕ
  pub innermost_continue : ℕ
  pub labels : List LabelExit
  pub throws : Bool

-- the position that nothing follows
abbrev pub nowhere : ℕ
nowhere = 0

-- where a break to that label leads
abbrev pub break_exit : List LabelExit → BlockId → ℕ
break_exit [] target = nowhere
break_exit (label ∷ labels) target = if same_id label.block target then label.break_to else break_exit labels target

-- where a continue leads, if the label is that of a loop
abbrev pub continue_or : Option ℕ → Bool → ℕ → ℕ
continue_or (Some next) true otherwise = next
continue_or next named otherwise = otherwise

-- where a continue to that label leads
abbrev pub continue_exit : List LabelExit → BlockId → ℕ
continue_exit [] target = nowhere
continue_exit (label ∷ labels) target =
    continue_or label.continue_to (same_id label.block target) (continue_exit labels target)

-- the completion ends the run
abbrev pub is_over : Completion → Bool
is_over (Ended end) = true
is_over _ = false

-- where a completion leads that doesn't end the run
abbrev pub exit : Exits → Completion → ℕ
exit exits Normal = exits.normal
exit exits (BreakTo target) = break_exit exits.labels target
exit exits BreakInnermost = exits.innermost_break
exit exits (ContinueTo target) = continue_exit exits.labels target
exit exits ContinueLoop = exits.innermost_continue
exit exits (Ended end) = nowhere

-- the labels inside a statement with that label
abbrev pub inside_label : Option ReactiveLabel → ℕ → Option ℕ → List LabelExit → List LabelExit
inside_label None break_to continue_to labels = labels
inside_label (Some label) break_to continue_to labels =
    record { block = label.id; break_to = break_to; continue_to = continue_to } ∷ labels

-- the exits of a statement before one that begins at that position
abbrev pub before : ℕ → Exits → Exits
before next exits = record {
  normal = next;
  innermost_break = exits.innermost_break;
  innermost_continue = exits.innermost_continue;
  labels = exits.labels;
  throws = exits.throws;
}

-- the exits of the parts of a statement with that label
abbrev pub labeled : Option ReactiveLabel → Exits → Exits
labeled label exits = record {
  normal = exits.normal;
  innermost_break = exits.innermost_break;
  innermost_continue = exits.innermost_continue;
  labels = inside_label label exits.normal None exits.labels;
  throws = exits.throws;
}

-- the exits of a protected block in a statement with that label
abbrev pub protected : Option ReactiveLabel → Exits → Exits
protected label exits = record {
  normal = exits.normal;
  innermost_break = exits.innermost_break;
  innermost_continue = exits.innermost_continue;
  labels = inside_label label exits.normal None exits.labels;
  throws = false;
}

-- the exits of the cases of a switch with that label
abbrev pub in_switch : Option ReactiveLabel → Exits → Exits
in_switch label exits = record {
  normal = exits.normal;
  innermost_break = exits.normal;
  innermost_continue = exits.innermost_continue;
  labels = inside_label label exits.normal None exits.labels;
  throws = exits.throws;
}

-- the exits of the body of a loop with that label, whose turns begin at that position
abbrev pub in_loop : Option ReactiveLabel → ℕ → Exits → Exits
in_loop label turn exits = record {
  normal = turn;
  innermost_break = exits.normal;
  innermost_continue = turn;
  labels = inside_label label exits.normal (Some turn) exits.labels;
  throws = exits.throws;
}

-- a run may end so, in a protected block or elsewhere
abbrev pub may_end : Bool → End → Bool
may_end throws (Thrown place) = throws
may_end throws end = true

-- the exits of a whole body
abbrev pub outermost : Exits
outermost = record {
  normal = nowhere;
  innermost_break = nowhere;
  innermost_continue = nowhere;
  labels = [];
  throws = true;
}
