use Rattle.std.proofs.Common.{◌∙◌, arith}
use Rattle.std.proofs.lemmas.Result.{on_err_weaker}
use Rattle.rc_walk.proofs.LastStatements.{popped_behind}
use Rattle.rc_tree.proofs.StepLemmas.{any_case}
use Rattle.rc_walk.proofs.statements.replace_at.Goals as goal

pub returns-clause-behind : goal.returns-clause-behind
returns-clause-behind c = any_case c.take_from.result
    (popped_behind c.args.statements.now c.take_off.new.taken c.drop_last.new.statements c.args.place
    (rw c.take-put.ensures.left at c.in_ok-take_off.ensures.taken) c.in_ok-drop_last.ensures.left)

pub returns-clause-no_memory : goal.returns-clause-no_memory
returns-clause-no_memory c = on_err_weaker c.take_from.result
    (λ same. record {
      gone = c.args.place;
      after = omega arith;
      left = same ∙ c.in_ok-take_off.ensures.left;
      taken = popped_behind c.args.statements.now c.take_off.new.taken c.drop_last.new.statements c.args.place
          (rw c.take-put.ensures.left at c.in_ok-take_off.ensures.taken) c.in_ok-drop_last.ensures.left;
    }) c.take_from.ensures.err
