use Rattle.std.proofs.Common.{◌≡◌, take}
use Rattle.rc_runs.specs.SwitchCases as spec
use Rattle.rc_build.proofs.switches.kept_cases.Given as goal

abbrev pub invariant-loop-case : goal.invariant-loop-case
invariant-loop-case l = l.kept ≡ spec.kept_cases l.is_target l.fallthrough (take l.case-index l.cases)
