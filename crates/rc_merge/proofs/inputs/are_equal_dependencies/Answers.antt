use Rattle.std.proofs.Common.{◌∙◌, ap, sym}
use Rattle.rc_merge.specs.Inputs.{inputs_of, same_inputs}
use Rattle.rc_merge.proofs.SameInputsLemmas.{same_inputs_equivalence}
use Rattle.rc_merge.proofs.inputs.are_equal_dependencies.Goals as goal

pub returns-clause-reflexive : goal.returns-clause-reflexive
returns-clause-reflexive c same = c.have_same_inputs.ensures
    ∙ sym (ap (λ l. same_inputs (inputs_of c.args.env.now c.args.a.now) (inputs_of c.args.env.now l)) same)
    ∙ same_inputs_equivalence.refl (inputs_of c.args.env.now c.args.a.now)

pub returns-clause-symmetric : goal.returns-clause-symmetric
returns-clause-symmetric c = c.have_same_inputs.ensures
    ∙ same_inputs_equivalence.symm (inputs_of c.args.env.now c.args.a.now) (inputs_of c.args.env.now c.args.b.now)

pub returns-clause-transitive : goal.returns-clause-transitive
returns-clause-transitive c other first second =
    same_inputs_equivalence.congr (inputs_of c.args.env.now c.args.a.now) (inputs_of c.args.env.now c.args.b.now)
    (inputs_of c.args.env.now other) (sym c.have_same_inputs.ensures ∙ first)
    ∙ second
