use Rattle.std.proofs.Common.{arith, sym, ◌∙◌, subst}
use Rattle.rc_names.specs.Numbers.{InstructionId, to_id}
use Rattle.rc_build.specs.RuleFacts.{FaultFact}
use Rattle.rc_build.proofs.BuildsLemmas.{passed_on}
use Rattle.rc_build.proofs.SilentArmLemmas.{as_rows, loud_refused, silent_further}
use Rattle.rc_build.proofs.ValueRowsLemmas.{row_at}
use Rattle.rc_build.proofs.builder.Builder.check_silent_rows.Goals as goal

pub returns-in_err-row-clause-refused : goal.returns-in_err-row-clause-refused
returns-in_err-row-clause-refused c = λ named rule e has.
    let numbers = c.args.numbers.now in
    let d : InstructionId = to_id 0 in
    let row = row_at c.args.self.now.hir.now numbers c.loop-number.number-index d _ (omega (arith, c.loop-number-test.true))
    (as_rows c.args.self.now.hir.now c.args.self.now.env.now numbers has) in
    c.in_err-row.ensures.refused named rule (passed_on c.from_residual.ensures.1 e) row.0 row.1

pub returns-then-not-is_silent-clause-refused : goal.returns-then-not-is_silent-clause-refused
returns-then-not-is_silent-clause-refused c = λ named rule e has.
    let d : InstructionId = to_id 0 in
    loud_refused c.args.self.now.hir.now c.args.self.now.env.now c.args.numbers.now c.loop-number.number-index d c.in_ok-row.row.now
    (omega (arith, c.loop-number-test.true)) c.in_ok-row.ensures.ok
    (sym c.is_silent.ensures ∙ c.if-not-is_silent.true) has

pub returns-then-not-is_silent-clause-facts : goal.returns-then-not-is_silent-clause-facts
returns-then-not-is_silent-clause-facts c =
    subst (FaultFact c.args.self.now.hir.now) (sym c.malformed.ensures) (c.requires.arm_is, c.requires.there)

pub loop-number-preserved : goal.loop-number-preserved
loop-number-preserved c =
    let d : InstructionId = to_id 0 in
    silent_further c.args.self.now.hir.now c.args.self.now.env.now c.args.numbers.now c.loop-number.number-index d c.in_ok-row.row.now
    (omega (arith, c.loop-number-test.true)) c.loop-number.invariant c.in_ok-row.ensures.ok
    (sym c.is_silent.ensures ∙ c.if-not-is_silent.false)
