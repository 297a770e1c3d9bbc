use Rattle.std.proofs.Common.{◌≡◌, ◌++◌, drop}
use Rattle.std.specs.Prelude.{flat_map}
use Rattle.rc_program.specs.ReasonLines.{reason_line}
use Rattle.rc_program.proofs.printing.reason.write_reasons.Given as goal

-- the lines so far and those that are left are the whole
abbrev pub invariant-loop-reason : goal.invariant-loop-reason
invariant-loop-reason l =
    l.page ++ flat_map reason_line (drop l.reason-index l.reasons) ≡ l.fn.page ++ flat_map reason_line l.reasons
