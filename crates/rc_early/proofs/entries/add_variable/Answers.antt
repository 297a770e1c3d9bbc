use Rattle.std.proofs.Common.{◌∙◌, ◌++◌, ap, sym, subst}
use Rattle.std.specs.Prelude.{codes, decimal}
use Rattle.rc_early.proofs.GrowsLemmas.{variable_grows}
use Rattle.rc_early.proofs.VariableLemmas.{has_last, variable_added}
use Rattle.rc_early.specs.inside.Growing.{Grows}
use Rattle.rc_early.proofs.entries.add_variable.Goals as goal

pub returns-in-Some-clause-ok : goal.returns-in-Some-clause-ok
returns-in-Some-clause-ok c = variable_added c.args.span c.args.env.now c.next_identifier_id.new.self
    c.in_ok-id.ensures.ok
    c.in_ok-id.id.0 c.in_ok-id.ensures.number c.in-Some.identifier.now c.from-name.result c.in-Some.ensures.value
    (c.from-name.ensures ∙ c.in_ok-format.ensures.ok ∙ ap (λ n. codes "#t" ++ decimal n) c.len-number.ensures.value)

pub returns-in-Some-clause-grows : goal.returns-in-Some-clause-grows
returns-in-Some-clause-grows c = subst (Grows c.args.env.now) (sym (returns-in-Some-clause-ok c))
    (variable_grows c.args.span c.args.env.now)

pub returns-in_default-clause-ok : goal.returns-in_default-clause-ok
returns-in_default-clause-ok c = has_last c.args.span c.args.env.now c.next_identifier_id.new.self c.in_ok-id.ensures.ok
    c.in_ok-id.id.0 c.in_ok-id.ensures.number c.in_default.ensures.value

pub returns-in_default-clause-grows : goal.returns-in_default-clause-grows
returns-in_default-clause-grows c = has_last c.args.span c.args.env.now c.next_identifier_id.new.self
    c.in_ok-id.ensures.ok
    c.in_ok-id.id.0 c.in_ok-id.ensures.number c.in_default.ensures.value
