use Rattle.std.proofs.Common.{sym}
use Rattle.rc_escape.proofs.RecordPlaces.{node_absent, node_at}
use Rattle.rc_escape.proofs.PlaceLemmas.{place_has_entry}
use Rattle.rc_escape.proofs.memo_walk.find_node.Goals as goal

pub returns-in-Some-at : goal.returns-in-Some-at
returns-in-Some-at c =
    node_at c.args.rows.now c.args.name c.in-Some-at.field-0-0 c.in-Some.place c.in-Some-at.node.now
    (sym c.in-Some.ensures)
    (sym c.in-Some-at.ensures)

-- a position has an entry
pub returns-in-None-at : goal.returns-in-None-at
returns-in-None-at c =
    absurd (place_has_entry c.args.rows.now.nodes c.args.name c.in-Some.place
    (sym c.in-Some.ensures) (sym c.in-None-at.ensures))

pub returns-in-None : goal.returns-in-None
returns-in-None c =
    node_absent c.args.rows.now c.args.name
    (sym c.in-None.ensures)
