-- The items that are left have the same first one that isn't read.
use Rattle.std.proofs.Common.{◌≡◌, drop}
use Rattle.serde_json.specs.View.{items_view}
use Rattle.rc_misread.specs.Misread.{misread_item}
use Rattle.rc_misread.proofs.misread.misread_item.Given as goal

abbrev pub invariant-loop-index : goal.invariant-loop-index
invariant-loop-index l =
    misread_item l.fn.form l.index (items_view (drop l.index l.items)) ≡ misread_item l.fn.form 0 (items_view l.items)
