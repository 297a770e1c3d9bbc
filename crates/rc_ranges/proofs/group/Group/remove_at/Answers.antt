use Rattle.std.proofs.Common.{◌∙◌, ap, sym}
use Rattle.std.specs.List.{list_any}
use Rattle.rc_ranges.proofs.WithinLemmas.{nothing_left_out, nothing_outside}
use Rattle.rc_ranges.specs.inside.Entries.{entry_has}
use Rattle.rc_ranges.proofs.group.Group.remove_at.Goals as goal
use Rattle.rc_ranges.proofs.group.Group.remove_at.Goals.{else-is_in_range-via-else-is_in_range}
use Rattle.rc_ranges.proofs.group.Group.remove_at.Goals.{else-is_in_range-via-then-is_in_range+else-has_entry_at}

pub returns-else-is_in_range-clause-ok : goal.returns-else-is_in_range-clause-ok
returns-else-is_in_range-clause-ok c =
    let id = c.args.id in
    let entries = c.self.inside.entries in
    elim c.else-is_in_range.branch [
      | else-is_in_range-via-then-is_in_range+else-has_entry_at w ↦
          nothing_left_out id entries c.args.self.now c.self.view_is
          (ap (list_any (entry_has id)) (sym w.as_slice.ensures) ∙ sym w.has_entry_at.ensures
          ∙ w.if-has_entry_at.false)
      | else-is_in_range-via-else-is_in_range w ↦
          nothing_outside id c.self.inside.ids entries c.args.self.now c.self.view_is (sym c.is_in_range.ensures
          ∙ w.if-is_in_range.false) c.self.invariant
    ]
