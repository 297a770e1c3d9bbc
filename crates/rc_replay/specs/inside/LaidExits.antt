-- The exits of statements as they are laid out: without the labels, which are in the layout, the innermost last.
use Rattle.std.specs.Prelude.{ℕ, true, false, List, Option, None, reverse}
use Rattle.rc_tree.specs.Model.{ReactiveLabel}
use Rattle.rc_replay.specs.declared.exits.Around.{Around}
use Rattle.rc_replay.specs.declared.exits.Exits.{Exits as LaidExits}
use Rattle.rc_replay.specs.declared.exits.LabelExit.{LabelExit}
use Rattle.rc_replay.specs.inside.Exits.{Exits, inside_label, nowhere}

-- the exits of a statement with these labels around it
abbrev pub exits_of : LaidExits → List LabelExit → Exits
exits_of exits labels = record {
  normal = exits.normal;
  innermost_break = exits.innermost_break;
  innermost_continue = exits.innermost_continue;
  labels = reverse labels;
  throws = exits.throws;
}

-- the exits of a part with one more label around it
abbrev pub part_exits : LaidExits → Around → List LabelExit → Exits
part_exits exits around labels = record {
  normal = exits.normal;
  innermost_break = exits.innermost_break;
  innermost_continue = exits.innermost_continue;
  labels = inside_label around.label around.break_to around.continue_to (reverse labels);
  throws = exits.throws;
}

abbrev pub laid_outermost : LaidExits
laid_outermost =
    record { normal = nowhere; innermost_break = nowhere; innermost_continue = nowhere; throws = true }

abbrev pub laid_before : ℕ → LaidExits → LaidExits
laid_before next exits = record {
  normal = next;
  innermost_break = exits.innermost_break;
  innermost_continue = exits.innermost_continue;
  throws = exits.throws;
}

abbrev pub laid_switch : LaidExits → LaidExits
laid_switch exits = record {
  normal = exits.normal;
  innermost_break = exits.normal;
  innermost_continue = exits.innermost_continue;
  throws = exits.throws;
}

abbrev pub laid_loop : ℕ → LaidExits → LaidExits
laid_loop turn exits = record {
  normal = turn;
  innermost_break = exits.normal;
  innermost_continue = turn;
  throws = exits.throws;
}

abbrev pub laid_protected : LaidExits → LaidExits
laid_protected exits = record {
  normal = exits.normal;
  innermost_break = exits.innermost_break;
  innermost_continue = exits.innermost_continue;
  throws = false;
}

-- the label around the parts of a statement that is no loop
abbrev pub laid_around : Option ReactiveLabel → LaidExits → Around
laid_around label exits = record { label = label; break_to = exits.normal; continue_to = None }
