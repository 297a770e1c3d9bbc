use Rattle.std.proofs.Common.{◌≡◌, ◌++◌, drop}
use Rattle.rc_lines.specs.FunctionLines.{param_lines}
use Rattle.rc_lines.proofs.function.write_params.Given as goal

-- the lines so far and those that are left are the whole
abbrev pub invariant-loop-param : goal.invariant-loop-param
invariant-loop-param l = l.page ++ param_lines (drop l.param-index l.params) ≡ l.fn.page ++ param_lines l.params
