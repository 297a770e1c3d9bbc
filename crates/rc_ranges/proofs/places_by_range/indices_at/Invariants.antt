use Rattle.std.proofs.Common.{◌≡◌, take}
use Rattle.rc_ranges.specs.inside.Entries.{indices_at, joined}
use Rattle.rc_ranges.proofs.places_by_range.indices_at.Given as goal

abbrev pub invariant-loop-section : goal.invariant-loop-section
invariant-loop-section l = l.indices.items ≡ indices_at l.id (joined (take l.section-index l.sections))
