-- The fields that are left have the same first one that isn't read.
use Rattle.std.proofs.Common.{◌≡◌, drop, map}
use Rattle.serde_json.specs.View.{view}
use Rattle.rc_misread.specs.Misread.{misread_field}
use Rattle.rc_misread.specs.Forms.{row_of}
use Rattle.rc_misread.proofs.misread.misread_field.Given as goal

abbrev pub invariant-loop-field : goal.invariant-loop-field
invariant-loop-field l =
    misread_field (map row_of (drop l.field-index l.fields)) (view l.value)
    ≡ misread_field (map row_of l.fields) (view l.value)
