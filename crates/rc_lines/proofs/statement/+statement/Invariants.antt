use Rattle.std.proofs.Common.{◌≡◌, ◌++◌, map, drop}
use Rattle.rc_lines.specs.Lines.{all_lines, statement_lines, case_lines}
use Rattle.rc_lines.proofs.statement.+statement.Given as goal

-- the lines so far and those that are left are the whole
abbrev pub invariant-write_statements-loop-statement : goal.invariant-write_statements-loop-statement
invariant-write_statements-loop-statement l =
    l.page ++ all_lines (map statement_lines (drop l.statement-index l.statements)) l.indent ≡ l.fn.page
    ++ all_lines (map statement_lines l.statements) l.indent

abbrev pub invariant-write_cases-loop-case : goal.invariant-write_cases-loop-case
invariant-write_cases-loop-case l =
    l.page ++ all_lines (map case_lines (drop l.case-index l.cases)) l.indent ≡ l.fn.page
    ++ all_lines (map case_lines l.cases) l.indent
