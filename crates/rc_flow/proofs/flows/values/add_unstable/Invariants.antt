use Rattle.std.proofs.Common.{◌≡◌, ◌++◌, drop}
use Rattle.rc_flow.specs.Flows.Values.{names_of, unstable}
use Rattle.rc_flow.proofs.flows.values.add_unstable.Given as goal

-- the names added so far and those still to come are all the names
abbrev pub invariant-loop-place : goal.invariant-loop-place
invariant-loop-place l =
    l.names ++ unstable l.env (names_of (drop l.place-index l.places)) ≡ l.initial.names
    ++ unstable l.env (names_of l.places)
