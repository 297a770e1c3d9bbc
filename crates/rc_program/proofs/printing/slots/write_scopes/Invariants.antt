use Rattle.std.proofs.Common.{◌≡◌, ◌++◌, drop}
use Rattle.std.specs.Prelude.{flat_map}
use Rattle.rc_program.specs.SlotLines.{scope_slots_line}
use Rattle.rc_program.proofs.printing.slots.write_scopes.Given as goal

-- the lines so far and those that are left are the whole
abbrev pub invariant-loop-entry : goal.invariant-loop-entry
invariant-loop-entry l =
    l.page ++ flat_map scope_slots_line (drop l.entry-index l.scopes)
    ≡ l.fn.page ++ flat_map scope_slots_line l.scopes
