-- The lines of a cache's slots: one for each scope block, and one for all.
use Rattle.std.specs.Prelude.{ℕ, List, codes, decimal, flat_map}
use Rattle.rc_slots.specs.declared.plan.ScopeSlots.{ScopeSlots}
use Rattle.rc_slots.specs.declared.plan.SlotPlan.{SlotPlan}
use Rattle.rc_lines.specs.LineText.{◌&◌, line}

-- where the slots of a scope block begin, and how many it has of each kind
abbrev pub scope_slots_text : ScopeSlots → List ℕ
scope_slots_text entry =
    codes "scope " & decimal entry.scope.0 & codes " first " & decimal entry.first
    & codes " dependencies " & decimal entry.dependencies & codes " declarations " & decimal entry.declarations
    & codes " reassignments " & decimal entry.reassignments

-- the line of a scope block
unfoldable pub scope_slots_line : ScopeSlots → List ℕ
scope_slots_line entry = line 0 (scope_slots_text entry)

-- the lines of a plan
abbrev pub slot_lines : SlotPlan → List ℕ
slot_lines plan = flat_map scope_slots_line plan.scopes & line 0 (codes "total " & decimal plan.total)
