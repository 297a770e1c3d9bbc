use Rattle.std.proofs.Common.{◌≡◌, drop}
use Rattle.rc_flow.specs.inside.Marks.{after_steps}
use Rattle.rc_flow.proofs.always_invalidating.marks.Marks.take.Given as goal

-- the steps that are left do the rest
abbrev pub invariant-loop-step : goal.invariant-loop-step
invariant-loop-step l =
    after_steps l.env l.steps l.initial.self ≡ after_steps l.env (drop l.step-index l.steps) l.self
