use Rattle.std.proofs.Common.{◌≡◌, ◌++◌, drop}
use Rattle.std.specs.List.{filter}
use Rattle.rc_flow.specs.inside.Spread.{stays}
use Rattle.rc_flow.proofs.reactive_dependencies.staying.Given as goal

-- the dependencies found so far and those still to come are all that stay
abbrev pub invariant-loop-dependency : goal.invariant-loop-dependency
invariant-loop-dependency l =
    l.staying ++ filter (stays l.spread l.id) (drop l.dependency-index l.dependency-items)
    ≡ filter (stays l.spread l.id) l.dependency-items
