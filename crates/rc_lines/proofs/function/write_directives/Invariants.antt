use Rattle.std.proofs.Common.{◌≡◌, ◌++◌, drop}
use Rattle.rc_lines.specs.FunctionLines.{directive_lines}
use Rattle.rc_lines.proofs.function.write_directives.Given as goal

-- the lines so far and those that are left are the whole
abbrev pub invariant-loop-text : goal.invariant-loop-text
invariant-loop-text l =
    l.page ++ directive_lines (drop l.text-index l.directives) ≡ l.fn.page ++ directive_lines l.directives
