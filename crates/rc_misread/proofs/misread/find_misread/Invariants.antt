-- The way leads to the part, which isn't read as it is asked. The part nests less deep at each step.
use Rattle.std.proofs.Common.{◌≡◌, false, map}
use Rattle.serde_json.specs.Data.{depth}
use Rattle.serde_json.specs.View.{view}
use Rattle.rc_misread.specs.Misread.{IsWay, move_of}
use Rattle.rc_misread.specs.Forms.{is_read}
use Rattle.rc_misread.proofs.misread.find_misread.Given as goal

abbrev pub invariant-loop-path : goal.invariant-loop-path
invariant-loop-path l = record {
  way : IsWay (view l.value) (map move_of l.path) l.asked (view l.part);
  misread : is_read l.asked (view l.part) ≡ false;
}

abbrev pub decreases-loop-path : goal.decreases-loop-path
decreases-loop-path l = depth (view l.part)
