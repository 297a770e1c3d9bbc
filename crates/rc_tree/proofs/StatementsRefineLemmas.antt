-- If the steps of a pass over statements refine its rules, so do the steps of its walk.
use Rattle.std.proofs.Common.{List, Result, Ok, Err, refl, sym, ap, subst}
use Rattle.rc_hir.specs.Model.{Fault, HirFunction}
use Rattle.rc_tree.proofs.RefinesLemmas.{follows_body}
use Rattle.rc_tree.specs.inside.Refines.{BlockAgrees, StepAgrees, Refines, RebuildsTo}
use Rattle.rc_tree.specs.Step.{IsStep, bind}
use Rattle.rc_tree.specs.Rebuilt.{Rules}
use Rattle.rc_tree.specs.Rewrite.{rewrite_block}
use Rattle.rc_tree.specs.RewriteSteps.{EntersNoDeeper, keeps_it}
use Rattle.rc_tree.specs.StatementSteps.{StatementSteps, over_statements}
use Rattle.rc_tree.specs.inside.StatementsRefine.{StatementsRefine}
use Rattle.rc_tree.specs.Model.{ReactiveBlock, ReactiveStatement, Transformed}
use Rattle.rc_tree.specs.declared.statement.ReactiveStatement.TheVariants as reactive
use Rattle.rc_tree.specs.declared.hooks.Enter.TheVariants.{Inside}

module _ {T S R St : Type 0} (rules : Rules S) (steps : T → StatementSteps St) (at : R → S → St) (inner : R → S → R)
  where
    -- a step of the pass, beside the transform that stays
    beside : {X : Type 0} (t : T) (r : R) (made : X → ReactiveStatement)
        (rule : Result (S × List ReactiveStatement) Fault) (step : Result (Transformed ReactiveStatement × (St × X))
        Fault)
        → StepAgrees (at r) made rule step → StepAgrees {W = T × St} (λ s. (t, at r s)) made rule
        (bind step (λ q. Ok (q.0, ((t, q.1.0), q.1.1))))
    beside t r made (Ok rule) (Ok step) h = (ap (λ w. (t, w)) h.0, h.1)
    beside t r made (Err fault) (Err given) h = h
    beside t r made (Ok rule) (Err given) h = absurd h
    beside t r made (Err fault) (Ok step) h = absurd h

    block_beside : (t : T) (r : R) (rule : Result (S × List ReactiveStatement) Fault)
        (step : Result (Unit {0} × (St × ReactiveBlock)) Fault) → BlockAgrees (at r) rule step
        → BlockAgrees {W = T × St} (λ s. (t, at r s)) rule (bind step (λ q. Ok (tt, ((t, q.1.0), q.1.1))))
    block_beside t r (Ok rule) (Ok step) h = (ap (λ w. (t, w)) h.0, h.1)
    block_beside t r (Err fault) (Err given) h = h
    block_beside t r (Ok rule) (Err given) h = absurd h
    block_beside t r (Err fault) (Ok step) h = absurd h

    pub over_statements_follow : (t : T) → StatementsRefine rules (steps t) at inner
        → Refines rules (over_statements steps) (λ r s. (t, at r s)) inner
    over_statements_follow t follows = record {
      visit_id = refl;
      visit_place = refl;
      enter_instruction = refl;
      enter_value = refl;
      enter_terminal = refl;
      leave_terminal = refl;
      enter_pruned_scope = refl;
      leave_pruned_scope = refl;
      enter_block = refl;
      enter_scope = λ r s x. ap (λ e. bind e (λ q. Ok (Inside, ((t, q.1), x)))) (follows.enter_scope r s x);
      leave_scope = refl;
      row = λ r s x. subst (λ e. StepAgrees {W = T × St} (λ s. (t, at r s)) reactive.Instruction e
          (keeps_it (t, at r s) x))
          (sym (follows.row s x)) (refl, refl);
      terminal = λ r s x. beside t r reactive.Terminal (rules.terminal x s) ((steps t).transform_terminal (at r s) x)
          (follows.terminal r s x);
      pruned_scope = λ r s x. subst (λ e. StepAgrees {W = T × St} (λ s. (t, at r s)) reactive.PrunedScope e
          (keeps_it (t, at r s) x)) (sym (follows.pruned_scope s x)) (refl, refl);
      scope = λ r met s x. beside t r reactive.Scope (rules.scope met x s)
          ((steps t).transform_scope (at (inner r met) s) x)
          (follows.scope r met s x);
      block = λ r s x. block_beside t r (rules.block x.statements s) ((steps t).leave_block (at r s) x)
          (follows.block r s x);
    }

    -- a call with the result of the walk leaves the block that the rules rebuild, and the state that represents theirs
    pub statements_rebuilt : EntersNoDeeper (over_statements steps) → (functions : T → List HirFunction) (t : T)
        → StatementsRefine rules (steps t) at inner
        → (r : R) (s : S) (x y : ReactiveBlock) (w : T × St) (result : Result (Unit {0}) Fault)
        → IsStep (rewrite_block (over_statements steps) functions (t, at r s) x) result (w, y)
        → RebuildsTo rules (λ s. (t, at r s)) x s y w result
    statements_rebuilt enters functions t follows r s x y w result h =
        follows_body rules (over_statements steps) functions (λ r s. (t, at r s)) inner
        (over_statements_follow t follows)
        enters r s x y w result h
