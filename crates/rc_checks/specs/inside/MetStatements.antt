-- The terminals that are met in one statement.
use Rattle.rc_checks.specs.BreakTargets.{Terminals, meeting}
use Rattle.rc_tree.specs.TreeFold.{over_statement}
use Rattle.rc_tree.specs.Model.{ReactiveStatement}

-- the terminals that are met in a statement, in the order of the text
unfoldable pub met_at : ReactiveStatement → Terminals
met_at = over_statement meeting
