use Rattle.std.proofs.Common.{◌≡◌, ◌++◌, drop}
use Rattle.std.specs.Prelude.{flat_map}
use Rattle.rc_program.specs.ReasonLines.{step_text}
use Rattle.rc_program.proofs.printing.reason.write_path.Given as goal

-- the steps so far and those that are left are the whole
abbrev pub invariant-loop-step : goal.invariant-loop-step
invariant-loop-step l =
    l.page ++ flat_map step_text (drop l.step-index l.path) ≡ l.fn.page ++ flat_map step_text l.path
