use Rattle.rc_escape.proofs.OutputsLemmas.{output_first, output_second}
use Rattle.rc_hir.specs.Environment.{declaration_of}
use Rattle.rc_escape.proofs.not_escaping.outputs.has_output.Goals as goal

pub returns-then-not-is_empty : goal.returns-then-not-is_empty
returns-then-not-is_empty c = λ env.
    output_first (λ entry. declaration_of env entry.value.identifier) (declaration_of env)
    c.args.scope.now.declarations c.args.scope.now.reassignments c.is_empty.result c.is_empty.ensures
    c.if-not-is_empty.true

pub returns-else-not-is_empty : goal.returns-else-not-is_empty
returns-else-not-is_empty c = λ env.
    output_second (λ entry. declaration_of env entry.value.identifier) (declaration_of env)
    c.args.scope.now.declarations c.args.scope.now.reassignments c.is_empty.result c.is_empty-else-not-is_empty.result
    c.is_empty.ensures c.is_empty-else-not-is_empty.ensures c.if-not-is_empty.false
