use Rattle.std.proofs.Common.{rules}
use Rattle.rc_misread.proofs.MisreadLemmas.{found_on, part_below, way_on, way_start}
use Rattle.rc_misread.proofs.misread.find_misread.Goals as goal

pub loop-path-init : goal.loop-path-init
loop-path-init c = record { way = way_start _ _ c.new-path.ensures; misread = search rules }

pub loop-path-smaller : goal.loop-path-smaller
loop-path-smaller c =
    (part_below _ _ _ (found_on _ _ c.in_ok-next.field-0 c.in-Some.next c.in_ok-next.ensures c.in-Some.is)).depth

pub loop-path-preserved : goal.loop-path-preserved
loop-path-preserved c =
    let found = found_on _ _ c.in_ok-next.field-0 c.in-Some.next c.in_ok-next.ensures c.in-Some.is in record {
      way = way_on _ _ c.in-Some.next c.loop-path.invariant.way found c.in_ok-push.ensures.ok;
      misread = (part_below _ _ _ found).misread;
    }
