use Rattle.std.proofs.Common.{ap, sym, subst, ◌∙◌}
use Rattle.std.specs.Prelude.{is_some}
use Rattle.rc_build.specs.inside.SilentArms.{HasSilentRows}
use Rattle.rc_build.proofs.BuildsLemmas.{passed_on}
use Rattle.rc_build.proofs.SilentValueLemmas.{arm_block_made, arm_block_plain, arm_block_rows, no_value_terminal}
use Rattle.rc_build.proofs.builder.Builder.check_arm_block.Goals as goal

pub returns-in_err-check_silent_rows-clause-refused : goal.returns-in_err-check_silent_rows-clause-refused
returns-in_err-check_silent_rows-clause-refused c = λ named rule e is.
    c.in_err-check_silent_rows.ensures.refused named rule
    (passed_on c.from_residual-in_err-check_silent_rows.ensures.1 e)
    (subst (HasSilentRows c.args.self.now.hir.now c.args.self.now.env.now) (sym c.as_slice.ensures)
    (arm_block_rows c.in_ok-found.ensures.found is))

pub returns-then-is_some-clause-refused : goal.returns-then-is_some-clause-refused
returns-then-is_some-clause-refused c = λ named rule e is.
    let none = ap is_some (c.value_terminal.ensures ∙ arm_block_plain c.in_ok-found.ensures.found is) in
    let some = sym c.is_some.ensures ∙ c.if-is_some.true in
    let bad : ⊥ = cc in bad

pub returns-clause-ok : goal.returns-clause-ok
returns-clause-ok c =
    let block = c.in_ok-found.ensures in
    arm_block_made block.found block.own
    (subst (HasSilentRows c.args.self.now.hir.now c.args.self.now.env.now) c.as_slice.ensures
    c.in_ok-check_silent_rows.ensures.ok) block.set
    (sym c.value_terminal.ensures ∙ no_value_terminal c.value_terminal.result (sym c.is_some.ensures ∙ c.if-is_some.false))
