use Rattle.rc_escape.proofs.OutputsLemmas.{any_first, any_second}
use Rattle.rc_hir.specs.Environment.{declaration_of}
use Rattle.rc_names.specs.Numbers.{is_among}
use Rattle.rc_escape.proofs.not_escaping.outputs.has_memoized.Goals as goal

pub returns-then-declares_memoized : goal.returns-then-declares_memoized
returns-then-declares_memoized c =
    any_first (λ entry. declaration_of c.args.env.now entry.value.identifier) (declaration_of c.args.env.now)
    (is_among c.args.set.now) c.args.scope.now.declarations c.args.scope.now.reassignments c.declares_memoized.result
    c.declares_memoized.ensures c.if-declares_memoized.true

pub returns-else-declares_memoized : goal.returns-else-declares_memoized
returns-else-declares_memoized c =
    any_second (λ entry. declaration_of c.args.env.now entry.value.identifier) (declaration_of c.args.env.now)
    (is_among c.args.set.now) c.args.scope.now.declarations c.args.scope.now.reassignments c.declares_memoized.result
    c.reassigns_memoized.result c.declares_memoized.ensures c.reassigns_memoized.ensures c.if-declares_memoized.false
