-- Ranges around the ranges of entries.
use Rattle.std.specs.Prelude.{◌≡◌, ◌≤◌, List, false}
use Rattle.std.specs.List.{AllByRecursion}
use Rattle.rc_hir.specs.Model.{MutableRange}
use Rattle.rc_names.specs.Numbers.{EvaluationOrder}
use Rattle.rc_ranges.specs.Ranges.{is_in_range}
use Rattle.rc_ranges.specs.declared.entry.Entry.{Entry}

-- no id is in the range
abbrev pub HasNoId : MutableRange → Type 0
HasNoId range = (id : EvaluationOrder) → is_in_range id range ≡ false

-- the range begins no earlier than the ids, and ends no later
pub record IsWithin (range ids : MutableRange) : Type 0 where
  pub first : ids.start.0 ≤ range.start.0
  pub last : range.end.0 ≤ ids.end.0

-- so does the range of each entry
unfoldable pub AreWithin : MutableRange → List Entry → Type 0
AreWithin ids entries = AllByRecursion (λ entry. IsWithin entry.range ids) entries

-- what the ranges of the old entries are within, those of the new ones are
abbrev pub KeepsWithin : (old new : List Entry) → Type 0
KeepsWithin old new = (ids : MutableRange) → AreWithin ids old → AreWithin ids new
