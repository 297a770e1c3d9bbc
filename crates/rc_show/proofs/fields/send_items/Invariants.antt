use Rattle.std.proofs.Common.{take}
use Rattle.rc_show.proofs.ShownLists.{SentSoFar}
use Rattle.rc_show.proofs.fields.send_items.Given as goal

abbrev pub invariant-loop-item : goal.invariant-loop-item
invariant-loop-item g l =
    SentSoFar g.T.Show.reads g.T.Show.shows (take l.item-index l.items)
    (g.S.Serializer.written l.initial.out) (g.S.Serializer.written l.out)
