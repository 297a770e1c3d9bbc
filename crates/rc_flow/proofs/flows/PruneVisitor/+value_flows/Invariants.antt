use Rattle.std.proofs.Common.{◌≡◌, ◌++◌, drop, map}
use Rattle.rc_tree.specs.Joining.{all_of, lists}
use Rattle.rc_flow.specs.inside.PartFlows.{steps_of_row}
use Rattle.rc_flow.proofs.flows.PruneVisitor.+value_flows.Given as goal

-- the steps added so far and those still to come are all the steps
abbrev pub invariant-add_rows-loop-row : goal.invariant-add_rows-loop-row
invariant-add_rows-loop-row l =
    l.steps ++ all_of lists (map (steps_of_row l.self.env.now) (drop l.row-index l.rows)) ≡ l.fn.steps
    ++ all_of lists (map (steps_of_row l.self.env.now) l.rows)
