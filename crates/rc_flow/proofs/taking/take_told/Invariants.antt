use Rattle.std.proofs.Common.{◌≡◌, drop}
use Rattle.rc_flow.specs.inside.Spread.{after_steps}
use Rattle.rc_flow.specs.inside.Told.{AreTaken, steps_told}
use Rattle.rc_flow.proofs.taking.take_told.Given as goal

-- what is left does the rest, and the contexts so far have their names in the set
abbrev pub invariant-loop-one : goal.invariant-loop-one
invariant-loop-one l =
    let said = steps_told l.env.functions in
    record {
      steps : after_steps l.env (said l.told) l.initial.spread
          ≡ after_steps l.env (said (drop l.one-index l.told)) l.spread;
      taken : AreTaken l.env.functions l.taken l.spread.names;
    }
