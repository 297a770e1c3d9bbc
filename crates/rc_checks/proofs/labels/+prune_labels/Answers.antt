use Rattle.std.proofs.Common.{◌≡◌, ◌≤◌, ◌∙◌, ◌+◌, suc, Ok, ap, refl, sym, arith, rules}
use denote.Param.Weighed.{most}
use Rattle.std.proofs.lemmas.List.{reverse-reverse}
use Rattle.std.proofs.lemmas.Result.{on_ok_weaker}
use Rattle.rc_checks.proofs.LabelPruning.Depths.{size_label}
use Rattle.rc_checks.proofs.LabelPruning.FrontPruned.{all_put, front_begins, one_gives_way, one_stays}
use Rattle.rc_checks.proofs.LabelPruning.Judged.{given_way, stayed, stayed_alone}
use Rattle.rc_checks.proofs.LabelPruning.PruningLemmas.{all_cases, behind_nothing, block_pruned, next_case, next_put}
use Rattle.rc_checks.proofs.LabelPruning.PruningLemmas.{no_last, pruned_scope_stays, puts_last, row_stays, scope_stays}
use Rattle.rc_checks.proofs.LabelPruning.Opened.{opened-Break, opened-Continue, opened-Return, opened-Throw}
use Rattle.rc_checks.proofs.LabelPruning.Opened.{opened-Switch, opened-DoWhile, opened-While, opened-For, opened-ForOf}
use Rattle.rc_checks.proofs.LabelPruning.Opened.{opened-ForIn, opened-If, opened-Label, opened-Try}
use Rattle.rc_tree.proofs.PlaceLemmas.{most_pop}
use Rattle.rc_tree.proofs.FuelLemmas.{most-reverse}
use Rattle.rc_tree.proofs.statement.ReactiveBlock.TheLaws as block
use Rattle.rc_tree.proofs.statement.ReactiveStatement.TheLaws as statement
use Rattle.rc_tree.proofs.terminal.ReactiveTerminal.TheLaws as terminal
use Rattle.rc_tree.proofs.terminal.ReactiveSwitchCase.TheLaws as switch_case
use Rattle.rc_tree.specs.declared.statement.ReactiveBlock.{size_is-ReactiveBlock}
use Rattle.rc_tree.specs.declared.statement.ReactiveStatement.TheVariants as reactive
use Rattle.rc_tree.specs.declared.terminal.ReactiveTerminal.TheVariants as tree
use Rattle.rc_walk.proofs.FrontWalked.{most_behind, most_entry}
use Rattle.rc_checks.proofs.labels.+prune_labels.Goals as goal
use Rattle.rc_checks.proofs.labels.+prune_labels.Goals.{prune_last-in-Some+in_ok-stays, prune_last-in_default}

-- the statements after the first one that gives way are no deeper than all
pub prune_block-prune_reversed-requires : goal.prune_block-prune_reversed-requires
prune_block-prune_reversed-requires t c =
    let h = most_behind statement.the_size (c.in_ok-staying.staying + 1) c.args.block.now.statements
    c.prune_front.new.statements c.replace_at.new.replacement c.in_ok-replace_at.ensures.behind
    (rw c.take-statements.ensures.list at c.in_ok-staying.ensures.behind) in
    (omega (arith, h, size_is-ReactiveBlock c.args.block.now, c.decreases), tt)

pub prune_block-returns : goal.prune_block-returns
prune_block-returns t c = on_ok_weaker c.take_from.result
    (λ e. block_pruned c.args.block.now c.args.targets.now c.prune_reversed.new.targets c.take_from.new.self
    (sym (all_put c.args.block.now.statements c.prune_front.new.statements c.prune_front.new.done c.args.targets.now
    c.prune_front.new.targets c.in_ok-staying.staying
    (rw c.take-statements.ensures.list at c.in_ok-staying.ensures))
    ∙ (rw (c.in_ok-replace_at.ensures.front, c.in_ok-replace_at.ensures.behind) at c.in_ok-prune_reversed.ensures.put)
    ∙ ap (λ l. Ok (c.prune_reversed.new.targets, l)) (sym (rw c.in_ok-prune_reversed.ensures.none_left at e))))
    c.take_from.ensures.ok

-- at first all statements are as they were
pub prune_front-loop-i-init : goal.prune_front-loop-i-init
prune_front-loop-i-init t c =
    front_begins c.args.statements.now c.args.done.now c.args.targets.now c.requires

pub prune_cases-loop-case-init : goal.prune_cases-loop-case-init
prune_cases-loop-case-init t c = record {
  no_deeper = rw (c.reverse.ensures, c.take-left.ensures.list)
      (omega (arith, most-reverse switch_case.the_size c.args.cases.now));
  put = rw (
    c.reverse.ensures,
    c.take-left.ensures.list,
    c.take-left.ensures.left,
    reverse-reverse c.args.cases.now,
  ) (behind_nothing (all_cases c.args.cases.now c.args.targets.now));
}

pub prune_cases-loop-case-preserved : goal.prune_cases-loop-case-preserved
prune_cases-loop-case-preserved t c =
    let last = c.in-Some.ensures.last in
    record {
      no_deeper = omega (
        arith,
        c.loop-case.invariant.no_deeper,
        (most_pop switch_case.the_size c.loop-case.left c.pop.new.self c.in-Some.case last).1,
      );
      put = rw c.in_ok-push.ensures.ok
          (sym (next_case c.loop-case.left c.pop.new.self c.in-Some.case c.loop-case.targets
          c.prune_block_if.new.targets c.loop-case.cases c.prune_block_if.new.block last
          c.in_ok-prune_block_if.ensures)
          ∙ c.loop-case.invariant.put);
    }

-- a statement that wasn't looked at is no deeper than all
pub prune_front-prune_statement-requires : goal.prune_front-prune_statement-requires
prune_front-prune_statement-requires t c =
    let h = most_entry statement.the_size c.loop-i.i c.args.statements.now c.loop-i.statements
    c.in-Some.statement.now c.loop-i.invariant.behind (sym c.in-Some.ensures.value) in
    search (rules, h)

pub prune_front-loop-i-preserved : goal.prune_front-loop-i-preserved
prune_front-loop-i-preserved t c =
    one_stays c.args.statements.now c.loop-i.statements c.loop-i.done c.prune_statement.new.done c.args.targets.now
    c.loop-i.targets c.prune_statement.new.targets c.loop-i.i c.in-Some.statement.now
    c.prune_statement.new.statement c.loop-i.invariant (sym c.in-Some.ensures.value) c.in_ok-stays.stays
    c.if-not-stays.false c.in_ok-stays.ensures.put c.in_ok-stays.ensures.alone

pub prune_front-returns-then-not-stays : goal.prune_front-returns-then-not-stays
prune_front-returns-then-not-stays t c =
    one_gives_way c.args.statements.now c.loop-i.statements c.loop-i.done c.prune_statement.new.done
    c.args.targets.now c.loop-i.targets c.prune_statement.new.targets c.loop-i.i c.in-Some.statement.now
    c.prune_statement.new.statement c.loop-i.invariant (sym c.in-Some.ensures.value) c.in_ok-stays.stays
    c.if-not-stays.true c.in_ok-stays.ensures.put

pub prune_reversed-loop-left-preserved : goal.prune_reversed-loop-left-preserved
prune_reversed-loop-left-preserved t c =
    let puts = c.in_ok-prune_last.ensures in
    record {
      no_deeper = omega (
        arith,
        c.loop-left.invariant.no_deeper,
        (most_pop statement.the_size c.loop-left.left c.prune_last.new.left puts.last puts.is_last).1,
      );
      put = sym (next_put puts.last c.loop-left.targets c.prune_last.new.targets c.loop-left.done
          c.prune_last.new.done puts.put c.loop-left.left c.prune_last.new.left puts.is_last)
          ∙ c.loop-left.invariant.put;
    }

pub prune_last-returns : goal.prune_last-returns
prune_last-returns t c = elim c.match-get_mut.branch [
  | prune_last-in-Some+in_ok-stays w ↦ puts_last c.put_last.result c.args.left.now c.match-get_mut.left
      c.put_last.new.left c.args.done.now c.match-get_mut.done c.put_last.new.done c.args.targets.now
      c.match-get_mut.targets c.match-get_mut.stays c.put_last.ensures.put c.len-last.result
      w.in-Some.statement.now w.prune_statement.new.statement c.len-last.ensures w.in-Some.ensures.value w.left-is
      (rw (w.done-is, w.targets-is, w.stays-is) w.in_ok-stays.ensures.put)
  | prune_last-in_default w ↦
      absurd (no_last c.args.left.now c.len-last.result c.len-last.ensures c.requires w.in_default.ensures.value)
]

pub prune_statement-returns-in-Instruction : goal.prune_statement-returns-in-Instruction
prune_statement-returns-in-Instruction t c = record {
  put = rw c.in-Instruction.is
      (row_stays c.args.done.now c.args.targets.now c.args.targets.now c.in-Instruction.field-0);
  alone = λ stays. refl;
}

pub prune_statement-returns-in_ok-prune_block-in-Scope : goal.prune_statement-returns-in_ok-prune_block-in-Scope
prune_statement-returns-in_ok-prune_block-in-Scope t c = record {
  put = rw (c.in-Scope.is, reactive.outs-Scope c.in-Scope.scope)
      (scope_stays c.args.done.now c.args.targets.now c.prune_block.new.targets c.in-Scope.scope
      c.prune_block.new.block (rw c.in-Scope.scope-is at c.in_ok-prune_block-in-Scope.ensures));
  alone = λ stays. refl;
}

pub prune_statement-returns-in_ok-prune_block-in-PrunedScope :
    goal.prune_statement-returns-in_ok-prune_block-in-PrunedScope
prune_statement-returns-in_ok-prune_block-in-PrunedScope t c = record {
  put = rw (c.in-PrunedScope.is, reactive.outs-PrunedScope c.in-PrunedScope.scope)
      (pruned_scope_stays c.args.done.now c.args.targets.now c.prune_block-in-PrunedScope.new.targets
      c.in-PrunedScope.scope c.prune_block-in-PrunedScope.new.block
      (rw c.in-PrunedScope.scope-is at c.in_ok-prune_block-in-PrunedScope.ensures));
  alone = λ stays. refl;
}

-- a `Label` that nothing names gives way
pub prune_labeled-returns-then-gives_way : goal.prune_labeled-returns-then-gives_way
prune_labeled-returns-then-gives_way t c = record {
  put = given_way c.args.stmt.now c.args.targets.now c.prune_terminal.new.targets c.note_target.new.targets
      c.args.done.now c.prune_terminal.new.done c.prune_terminal.new.terminal c.in_ok-prune_terminal.ensures
      c.in_ok-note_target.ensures (sym c.gives_way.ensures ∙ c.if-gives_way.true);
  alone = λ stays. let bad : ⊥ = cc in absurd bad;
}

-- any other terminal stays
pub prune_labeled-returns : goal.prune_labeled-returns
prune_labeled-returns t c =
    let whole = rw c.len-start.ensures at c.in_ok-refill.ensures.whole in
    let before = rw c.len-start.ensures at c.in_ok-refill.ensures.left in
    record {
      put = rw c.mark.ensures
          (stayed c.args.stmt.now c.args.targets.now c.prune_terminal.new.targets c.note_target.new.targets
          c.args.done.now c.prune_terminal.new.done c.prune_terminal.new.terminal c.in_ok-prune_terminal.ensures
          c.in_ok-note_target.ensures c.refill.new.terminal c.refill.new.done whole before
          (sym c.gives_way.ensures ∙ c.if-gives_way.false));
      alone = λ stays.
          stayed_alone c.args.stmt.now c.args.targets.now c.prune_terminal.new.targets c.note_target.new.targets
          c.args.done.now c.prune_terminal.new.done c.prune_terminal.new.terminal c.in_ok-prune_terminal.ensures
          c.in_ok-note_target.ensures c.refill.new.terminal c.refill.new.done whole before;
    }

pub prune_terminal-returns-in-Break : goal.prune_terminal-returns-in-Break
prune_terminal-returns-in-Break t c =
    rw c.in-Break.is (opened-Break c.args.done.now c.args.targets.now c.in-Break.target c.in-Break.target_kind
    c.in-Break.id)

pub prune_terminal-returns-in-Continue : goal.prune_terminal-returns-in-Continue
prune_terminal-returns-in-Continue t c =
    rw c.in-Continue.is (opened-Continue c.args.done.now c.args.targets.now c.in-Continue.target
    c.in-Continue.target_kind c.in-Continue.id)

pub prune_terminal-returns-in-Return : goal.prune_terminal-returns-in-Return
prune_terminal-returns-in-Return t c =
    rw c.in-Return.is (opened-Return c.args.done.now c.args.targets.now c.in-Return.value c.in-Return.id)

pub prune_terminal-returns-in-Throw : goal.prune_terminal-returns-in-Throw
prune_terminal-returns-in-Throw t c =
    rw c.in-Throw.is (opened-Throw c.args.done.now c.args.targets.now c.in-Throw.value c.in-Throw.id)

pub prune_terminal-returns-in-Switch : goal.prune_terminal-returns-in-Switch
prune_terminal-returns-in-Switch t c =
    rw (c.in-Switch.is, tree.outs-Switch c.in-Switch.test c.in-Switch.cases c.in-Switch.id)
    (opened-Switch c.args.done.now c.args.targets.now c.prune_cases.result c.prune_cases.new.targets c.in-Switch.test
    c.in-Switch.cases c.prune_cases.new.cases c.in-Switch.id (rw c.in-Switch.cases-is at c.prune_cases.ensures))

pub prune_terminal-returns-in-DoWhile : goal.prune_terminal-returns-in-DoWhile
prune_terminal-returns-in-DoWhile t c =
    rw (c.in-DoWhile.is, tree.outs-DoWhile c.in-DoWhile.loop_block c.in-DoWhile.test c.in-DoWhile.id)
    (opened-DoWhile c.args.done.now c.args.targets.now c.prune_block.result c.prune_block.new.targets
    c.in-DoWhile.loop_block c.prune_block.new.block c.in-DoWhile.id c.in-DoWhile.test
    (rw c.in-DoWhile.loop_block-is at c.prune_block.ensures))

pub prune_terminal-returns-in-While : goal.prune_terminal-returns-in-While
prune_terminal-returns-in-While t c =
    rw (c.in-While.is, tree.outs-While c.in-While.test c.in-While.loop_block c.in-While.id)
    (opened-While c.args.done.now c.args.targets.now c.prune_block-in-While.result c.prune_block-in-While.new.targets
    c.in-While.loop_block c.prune_block-in-While.new.block c.in-While.id c.in-While.test
    (rw c.in-While.loop_block-is at c.prune_block-in-While.ensures))

pub prune_terminal-returns-in-For : goal.prune_terminal-returns-in-For
prune_terminal-returns-in-For t c =
    rw (c.in-For.is, tree.outs-For c.in-For.init c.in-For.test c.in-For.update c.in-For.loop_block c.in-For.id)
    (opened-For c.args.done.now c.args.targets.now c.prune_block-in-For.result c.prune_block-in-For.new.targets
    c.in-For.loop_block c.prune_block-in-For.new.block c.in-For.id c.in-For.init c.in-For.test c.in-For.update
    (rw c.in-For.loop_block-is at c.prune_block-in-For.ensures))

pub prune_terminal-returns-in-ForOf : goal.prune_terminal-returns-in-ForOf
prune_terminal-returns-in-ForOf t c =
    rw (
      c.in-ForOf.is,
      tree.outs-ForOf c.in-ForOf.init c.in-ForOf.test c.in-ForOf.loop_block c.in-ForOf.span c.in-ForOf.id,
    )
    (opened-ForOf c.args.done.now c.args.targets.now c.prune_block-in-ForOf.result c.prune_block-in-ForOf.new.targets
    c.in-ForOf.loop_block c.prune_block-in-ForOf.new.block c.in-ForOf.id c.in-ForOf.init c.in-ForOf.test c.in-ForOf.span
    (rw c.in-ForOf.loop_block-is at c.prune_block-in-ForOf.ensures))

pub prune_terminal-returns-in-ForIn : goal.prune_terminal-returns-in-ForIn
prune_terminal-returns-in-ForIn t c =
    rw (c.in-ForIn.is, tree.outs-ForIn c.in-ForIn.init c.in-ForIn.loop_block c.in-ForIn.span c.in-ForIn.id)
    (opened-ForIn c.args.done.now c.args.targets.now c.prune_block-in-ForIn.result c.prune_block-in-ForIn.new.targets
    c.in-ForIn.loop_block c.prune_block-in-ForIn.new.block c.in-ForIn.id c.in-ForIn.init c.in-ForIn.span
    (rw c.in-ForIn.loop_block-is at c.prune_block-in-ForIn.ensures))

pub prune_terminal-returns-in_ok-prune_block-in-If : goal.prune_terminal-returns-in_ok-prune_block-in-If
prune_terminal-returns-in_ok-prune_block-in-If t c =
    rw (c.in-If.is, tree.outs-If c.in-If.test c.in-If.consequent c.in-If.alternate c.in-If.id)
    (opened-If c.args.done.now c.args.targets.now c.prune_block_if.result c.prune_block-in-If.new.targets
    c.in-If.consequent c.prune_block-in-If.new.block c.in-If.id c.in-If.test c.in-If.alternate
    c.prune_block_if.new.block c.prune_block_if.new.targets
    (rw c.in-If.consequent-is at c.in_ok-prune_block-in-If.ensures)
    (rw c.in-If.alternate-is at c.prune_block_if.ensures))

-- the statements of a `Label` are as deep reversed
pub prune_terminal-prune_reversed-requires : goal.prune_terminal-prune_reversed-requires
prune_terminal-prune_reversed-requires t c =
    let h : most statement.the_size c.reverse.new.self ≤ most statement.the_size c.in-Label.block.statements =
    rw (c.reverse.ensures, c.in-Label.block-is)
    (omega (arith, most-reverse statement.the_size c.in-Label.block.statements)) in
    let deep : terminal.the_size c.args.terminal.now ≡ suc (block.the_size c.in-Label.block) =
    rw c.in-Label.is (size_label c.in-Label.block c.in-Label.id) in
    (omega (arith, h, deep, size_is-ReactiveBlock c.in-Label.block, c.decreases), tt)

pub prune_terminal-returns-in-Label : goal.prune_terminal-returns-in-Label
prune_terminal-returns-in-Label t c =
    rw (c.in-Label.is, tree.outs-Label c.in-Label.block c.in-Label.id)
    (opened-Label c.args.done.now c.args.targets.now c.prune_reversed.result c.prune_reversed.new.targets
    c.in-Label.block
    c.in-Label.id c.prune_reversed.new.left c.prune_reversed.new.done
    (rw (c.reverse.ensures, c.in-Label.block-is) at c.prune_reversed.ensures.put)
    c.prune_reversed.ensures.none_left)

pub prune_terminal-returns-in_ok-prune_block-in-Try : goal.prune_terminal-returns-in_ok-prune_block-in-Try
prune_terminal-returns-in_ok-prune_block-in-Try t c =
    rw (c.in-Try.is, tree.outs-Try c.in-Try.block c.in-Try.handler_binding c.in-Try.handler c.in-Try.id)
    (opened-Try c.args.done.now c.args.targets.now c.prune_block-in-Try-2.result c.prune_block-in-Try.new.targets
    c.in-Try.block c.prune_block-in-Try.new.block c.in-Try.id c.in-Try.handler_binding c.in-Try.handler
    c.prune_block-in-Try-2.new.block c.prune_block-in-Try-2.new.targets
    (rw c.in-Try.block-is at c.in_ok-prune_block-in-Try.ensures)
    (rw c.in-Try.handler-is at c.prune_block-in-Try-2.ensures))
