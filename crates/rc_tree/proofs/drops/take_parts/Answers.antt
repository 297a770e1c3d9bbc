use Rattle.std.proofs.Common.{◌≡◌, ◌∙◌, ◌≤◌, Some, arith, subst, sym}
use denote.Param.Weighed.{most}
use Rattle.rc_tree.proofs.DropLemmas.{switch_rest, size_switch, if_rest}
use Rattle.rc_tree.proofs.drops.take_parts.Goals as goal
use Rattle.rc_tree.specs.declared.statement.ReactiveBlock.{size-ReactiveBlock}
use Rattle.rc_tree.specs.declared.terminal.ReactiveSwitchCase.{size-ReactiveSwitchCase}
use Rattle.rc_tree.specs.declared.terminal.ReactiveTerminal.{size-ReactiveTerminal}
use Rattle.rc_tree.specs.declared.terminal.ReactiveTerminal.TheVariants as tree

pub returns-in-Switch-clause-rest : goal.returns-in-Switch-clause-rest
returns-in-Switch-clause-rest c =
    let test = c.in-Switch.test in
    let cases = c.in-Switch.cases in
    let left = c.take_cases.new.cases in
    let rest : most size-ReactiveSwitchCase left ≤ most size-ReactiveSwitchCase cases =
    subst (λ x. most size-ReactiveSwitchCase left ≤ most size-ReactiveSwitchCase x) c.in-Switch.cases-is
    c.take_cases.ensures.rest in
    rw (c.in-Switch.is, tree.outs-Switch test cases c.in-Switch.id) (switch_rest test c.in-Switch.id cases left rest)

pub returns-in-Switch-clause-taken : goal.returns-in-Switch-clause-taken
returns-in-Switch-clause-taken c = λ n h k.
    let test = c.in-Switch.test in
    let cases = c.in-Switch.cases in
    let within : size-ReactiveTerminal (tree.Switch test cases c.in-Switch.id) ≤ n =
    subst (λ x. size-ReactiveTerminal x ≤ n) c.in-Switch.is h in
    let whole = size_switch test c.in-Switch.id cases in
    c.take_cases.ensures.taken n (rw c.in-Switch.cases-is (omega (arith, within, whole))) k

-- both blocks of an `If`
pub returns-in-Some-clause-rest : goal.returns-in-Some-clause-rest
returns-in-Some-clause-rest c =
    let test = c.in-If.test in
    let consequent = c.in-If.consequent in
    let left = c.take_block-in-If.new.block in
    let there : c.in-If.alternate ≡ Some c.in-Some.alternate = sym c.in-If.alternate-is ∙ c.in-Some.is in
    let rest : size-ReactiveBlock left ≤ size-ReactiveBlock consequent =
    subst (λ x. size-ReactiveBlock left ≤ size-ReactiveBlock x) c.in-If.consequent-is c.take_block-in-If.ensures.rest in
    rw (c.in-If.is, tree.outs-If test consequent c.in-If.alternate c.in-If.id, there)
    (if_rest test c.in-If.id consequent left c.in-Some.alternate c.take_block-in-Some.new.block rest
    c.take_block-in-Some.ensures.rest)
