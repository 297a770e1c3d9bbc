-- What views of statements are seen as.
use Rattle.rc_flat.specs.Model.{FlatStatement}
use Rattle.rc_flat.specs.declared.statement.FlatStatement.TheVariants as flat
use Rattle.rc_answer.specs.declared.view.statement.StatementForm.{StatementForm}
use Rattle.rc_answer.specs.declared.view.statement.StatementForm.TheVariants as statement_form

-- the statement of a form
abbrev pub statement_seen : StatementForm → FlatStatement
statement_seen (statement_form.Instruction row) = flat.Instruction row
statement_seen (statement_form.Terminal terminal) = flat.Terminal terminal
statement_seen (statement_form.Scope block) = flat.Scope block
statement_seen (statement_form.PrunedScope block) = flat.PrunedScope block
