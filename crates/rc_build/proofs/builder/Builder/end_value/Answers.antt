use Rattle.std.proofs.Common.{sym, ◌∙◌, subst}
use Rattle.rc_build.specs.inside.ValueEnds.{IsRead}
use Rattle.rc_build.proofs.ValueMadeLemmas.{read_refused, read_result}
use Rattle.rc_build.proofs.builder.Builder.end_value.Goals as goal

pub returns-in-Some-clause-ok : goal.returns-in-Some-clause-ok
returns-in-Some-clause-ok c = read_result
    (subst (IsRead c.args.self.now.hir.now c.args.key c.args.block.now.terminal)
    (sym c.as_slice.ensures ∙ c.in-Some.ensures.cases.0) c.requires) c.args.self.now.env.now c.value_of_rows.result c.value_of_rows.ensures.ok

pub returns-in-Some-clause-refused : goal.returns-in-Some-clause-refused
returns-in-Some-clause-refused c = λ named rule e. read_refused
    (subst (IsRead c.args.self.now.hir.now c.args.key c.args.block.now.terminal)
    (sym c.as_slice.ensures ∙ c.in-Some.ensures.cases.0) c.requires) (c.value_of_rows.ensures.refused named rule e)
