use Rattle.std.proofs.Common.{◌<◌, ap, arith, get_or, length}
use Rattle.rc_replay.proofs.ClosingLemmas.{closing_end, closing_next, room}
use Rattle.rc_replay.proofs.paths.close.Goals as goal

pub looking-smaller : goal.looking-smaller
looking-smaller c = omega (
  arith,
  c.looking-test.true,
  c.len.ensures.len,
  room c.args.table.now c.args.here.now.keys c.looking.here.keys c.looking.looked c.len.ensures.unique c.looking.invariant,
)

pub looking-preserved : goal.looking-preserved
looking-preserved c =
    let here = c.looking.here.keys in
    let looked = c.looking.looked in
    let inside : looked < length here = omega (arith, c.looking-test.true, c.len.ensures.len) in
    closing_next c.args.table.now c.args.here.now.keys here c.add_next.new.next.keys looked
    (get_or c.as_slice.result.now looked 0) inside (ap (λ l. get_or l looked 0) c.as_slice.ensures.keys)
    c.looking.invariant c.in_ok-add_next.ensures

pub returns : goal.returns
returns c = closing_end c.args.table.now c.args.here.now.keys c.looking.here.keys c.looking.looked
    (omega (arith, c.looking-test.false, c.len.ensures.len)) c.looking.invariant
