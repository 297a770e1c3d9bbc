use Rattle.std.proofs.Common.{◌≡◌, ◌++◌, drop}
use Rattle.rc_lines.specs.FunctionLines.{fate_lines}
use Rattle.rc_lines.proofs.fates.write_fates.Given as goal

-- the lines so far and those that are left are the whole
abbrev pub invariant-loop-scope : goal.invariant-loop-scope
invariant-loop-scope l =
    l.page ++ fate_lines (drop l.scope-index l.fates) l.indent ≡ l.fn.page ++ fate_lines l.fates l.indent
