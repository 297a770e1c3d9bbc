use Rattle.std.proofs.Common.{◌≡◌, ◌≤◌, ◌+◌, ◌∙◌, ◌++◌, ◌∷◌, [], List, drop, length, slice_set, inr, Ok, Err, refl, sym}
use Rattle.std.proofs.Common.{ap, subst, arith, rules}
use denote.Param.Weighed.{most}
use Rattle.std.proofs.lemmas.List.{drop-drop, drop-set-lt, length-set, reverse-reverse}
use Rattle.std.proofs.lemmas.Result.{err_from_is_err_and}
use Rattle.rc_tree.proofs.PlaceLemmas.{ends_full, last_set, last_is, last_there, taken_off, past_end}
use Rattle.rc_tree.proofs.PlaceLemmas.{most_place}
use Rattle.rc_tree.proofs.FuelLemmas.{meets_inside, meets_inside_fault, so_far_next_last, so_far_fault_last, so_far_end}
use Rattle.rc_tree.proofs.FuelLemmas.{place_next, place_fault, place_end}
use Rattle.rc_tree.proofs.RewriteInPlaceLemmas.{meets_put, meets_put_fault}
use Rattle.rc_tree.proofs.RewriteStatementLemmas.{meets_block_to, meets_terminal_at, meets_scope_at}
use Rattle.rc_tree.proofs.RewriteStatementLemmas.{meets_pruned_scope_at, meets_For, both_same, cases_at-in_turn}
use Rattle.rc_tree.proofs.RewriteStatementLemmas.{statements_at-in_turn}
use Rattle.rc_tree.specs.Fuel.{perhaps_hook}
use Rattle.rc_tree.specs.inside.EnoughFuel.{IsFueled}
use Rattle.rc_tree.specs.Rewrite.{block_inside, block_to, into_at, pruned_scope_inside, scope_inside, statements_at}
use Rattle.rc_tree.specs.Rewrite.Terminals.{case_at, cases_at, parts_at, terminal_inside}
use Rattle.rc_tree.specs.Rewrite.Values.{rewrite_value}
use Rattle.rc_tree.specs.Model.{ReactiveStatement}
use Rattle.rc_tree.specs.declared.terminal.ReactiveTerminal.TheVariants as tree
use Rattle.rc_tree.proofs.statement.ReactiveStatement.TheLaws as statement
use Rattle.rc_tree.proofs.terminal.ReactiveSwitchCase.TheLaws as switch_case
use Rattle.rc_walk.specs.Statements.{added_if}
use Rattle.rc_walk.specs.inside.FrontWalk.{with_replacement, without_answer}
use Rattle.rc_walk.proofs.FrontWalked.{front_fails, front_goes_on, front_stops, most_behind, most_entry}
use Rattle.rc_walk.proofs.rewrite.+rewrite_tree.Goals as goal

-- at first the statements are left that come after the first one whose replacement isn't one statement
pub statement::walk_list-statement-init : goal.statement::walk_list-statement-init
statement::walk_list-statement-init g t c =
    let place = c.in_ok-staying.staying in
    let front = c.walk_front.new.statements in
    record {
      no_deeper = most_behind statement.the_size (place + 1) c.args.statements.now front _
          c.in_ok-replace_at.ensures.behind c.in_ok-staying.ensures.behind;
      so_far = λ n. rw (
        c.in_ok-replace_at.ensures.front,
        c.in_ok-replace_at.ensures.behind,
        reverse-reverse (drop (place + 1) front),
      ) (c.in_ok-staying.ensures.front n);
    }

-- the walk of the statements in front fails, or memory runs out after it
pub statement::walk_list-returns-in_err-staying : goal.statement::walk_list-returns-in_err-staying
statement::walk_list-returns-in_err-staying g t c = λ n.
    let p = err_from_is_err_and c.from_residual.result c.from_residual.ensures.1 in
    rw (p.1, p.2) (c.in_err-staying.ensures.fault n)

-- one statement fewer is left
pub statement::walk_list-statement-smaller : goal.statement::walk_list-statement-smaller
statement::walk_list-statement-smaller g t c =
    let full : c.statement.left ≡ [] → ⊥ = search rules in
    (taken_off statement.the_size c.statement.left c.walk_last_into.new.left c.in_ok-walk_last_into.ensures.left full).0

pub statement::walk_list-statement-preserved : goal.statement::walk_list-statement-preserved
statement::walk_list-statement-preserved g t c =
    let full : c.statement.left ≡ [] → ⊥ = search rules in
    record {
      no_deeper = omega (
        arith,
        c.statement.invariant.no_deeper,
        (taken_off statement.the_size c.statement.left c.walk_last_into.new.left c.in_ok-walk_last_into.ensures.left
            full).1,
      );
      so_far = λ n.
          let steps = g.T.ReactiveFunctionTransform.steps in
          let functions = g.T.ReactiveFunctionTransform.functions in
          so_far_next_last (into_at steps functions (block_to steps functions n))
          (statements_at steps functions (block_to steps functions n)
          (c.args.transform.now, c.args.state.now) c.args.statements.now)
          (c.statement.transform, c.statement.state) c.statement.statements c.statement.left
          (c.statement.invariant.so_far n) full
          (c.walk_last_into.new.transform, c.walk_last_into.new.state) c.walk_last_into.new.done
          c.walk_last_into.new.left
          c.in_ok-walk_last_into.ensures.left (c.in_ok-walk_last_into.ensures.done n);
    }

-- no statement is left
pub statement::walk_list-returns : goal.statement::walk_list-returns
statement::walk_list-returns g t c =
    let none : c.statement.left ≡ [] = search rules in
    λ n.
    let steps = g.T.ReactiveFunctionTransform.steps in
    let functions = g.T.ReactiveFunctionTransform.functions in
    so_far_end (into_at steps functions (block_to steps functions n))
    (statements_at steps functions (block_to steps functions n)
    (c.args.transform.now, c.args.state.now) c.args.statements.now)
    (c.statement.transform, c.statement.state) c.statement.statements c.statement.left
    (c.statement.invariant.so_far n) none

-- the walk of the last statement fails
pub statement::walk_list-returns-in_err-walk_last_into : goal.statement::walk_list-returns-in_err-walk_last_into
statement::walk_list-returns-in_err-walk_last_into g t c =
    let full : c.statement.left ≡ [] → ⊥ = search rules in
    λ n.
    let steps = g.T.ReactiveFunctionTransform.steps in
    let functions = g.T.ReactiveFunctionTransform.functions in
    let p = err_from_is_err_and c.from_residual-in_err-walk_last_into.result
    c.from_residual-in_err-walk_last_into.ensures.1 in
    rw (p.1, p.2) (so_far_fault_last (into_at steps functions (block_to steps functions n))
    (statements_at steps functions (block_to steps functions n)
    (c.args.transform.now, c.args.state.now) c.args.statements.now)
    (c.statement.transform, c.statement.state) c.statement.statements c.statement.left
    (c.statement.invariant.so_far n) full
    c.in_err-walk_last_into.field-0.0 (
      (c.walk_last_into.new.transform, c.walk_last_into.new.state),
      c.walk_last_into.new.done,
    )
    ((c.walk_last_into.new.transform, c.walk_last_into.new.state), c.walk_last_into.new.done)
    (c.in_err-walk_last_into.ensures.done n))

-- a list with a last entry isn't empty
pub statement::walk_last_into-returns-in_default : goal.statement::walk_last_into-returns-in_default
statement::walk_last_into-returns-in_default g t c =
    let bad : (rest : List ReactiveStatement) (x : ReactiveStatement) → c.args.left.now ≡ rest ++ x ∷ [] → ⊥ =
    λ rest x e. c.in_default.ensures (let h = ends_full c.args.left.now rest x e in omega (arith, c.len.ensures, h)) in
    record {
      left = λ rest x e. absurd (bad rest x e);
      done = λ n rest x e. absurd (bad rest x e);
    }

-- and its last entry is found
pub statement::walk_last_into-returns-in_default-get_mut : goal.statement::walk_last_into-returns-in_default-get_mut
statement::walk_last_into-returns-in_default-get_mut g t c =
    let at : c.in-Some.last + 1 ≡ length c.args.left.now = omega (arith, c.in-Some.ensures, c.len.ensures) in
    let bad : (rest : List ReactiveStatement) (x : ReactiveStatement) → c.args.left.now ≡ rest ++ x ∷ [] → ⊥ =
    λ rest x e. last_there c.args.left.now rest x c.in-Some.last e at c.in_default-get_mut.ensures.value in
    record {
      left = λ rest x e. absurd (bad rest x e);
      done = λ n rest x e. absurd (bad rest x e);
    }

-- the walk of the last statement fails
pub statement::walk_last_into-returns-in_err-stays : goal.statement::walk_last_into-returns-in_err-stays
statement::walk_last_into-returns-in_err-stays g t c =
    let steps = g.T.ReactiveFunctionTransform.steps in
    let functions = g.T.ReactiveFunctionTransform.functions in
    let p = err_from_is_err_and c.from_residual.result c.from_residual.ensures.1 in
    let at : c.in-Some.last + 1 ≡ length c.args.left.now = omega (arith, c.in-Some.ensures, c.len.ensures) in
    record {
      left = λ rest x e. rw p.1 tt;
      done = λ n rest x e. rw (p.1, p.2) (subst (λ y. IsFueled (into_at steps functions (block_to steps functions n)
          (c.args.transform.now, c.args.state.now) c.args.done.now y) (Err c.in_err-stays.field-0.0)
          ((c.walk_in_place.new.transform, c.walk_in_place.new.state), c.walk_in_place.new.done))
          (sym (last_is c.args.left.now rest x c.in-Some-get_mut.statement.now c.in-Some.last e at
          c.in-Some-get_mut.ensures.value)) (c.in_err-stays.ensures.put n));
    }

-- the last statement is walked, and its replacement is put after those that are done
pub statement::walk_last_into-returns : goal.statement::walk_last_into-returns
statement::walk_last_into-returns g t c =
    let steps = g.T.ReactiveFunctionTransform.steps in
    let functions = g.T.ReactiveFunctionTransform.functions in
    let y = c.walk_in_place.new.statement in
    let at : c.in-Some.last + 1 ≡ length c.args.left.now = omega (arith, c.in-Some.ensures, c.len.ensures) in
    record {
      left = λ rest x e. (c.in_ok-put_last.ensures.put rest y (last_set c.args.left.now rest x y c.in-Some.last e at)).0;
      done = λ n rest x e.
          rw (c.in_ok-put_last.ensures.put rest y (last_set c.args.left.now rest x y c.in-Some.last e at)).1
          (subst (λ z. IsFueled (into_at steps functions (block_to steps functions n)
          (c.args.transform.now, c.args.state.now) c.args.done.now z) (Ok tt) (
            (c.walk_in_place.new.transform, c.walk_in_place.new.state),
            c.walk_in_place.new.done ++ added_if c.in_ok-stays.stays y,
          ))
          (sym (last_is c.args.left.now rest x c.in-Some-get_mut.statement.now c.in-Some.last e at
          c.in-Some-get_mut.ensures.value)) (c.in_ok-stays.ensures.put n));
    }

-- a statement is walked in its place
pub statement::walk_in_place-returns-in_err-walk_held : goal.statement::walk_in_place-returns-in_err-walk_held
statement::walk_in_place-returns-in_err-walk_held g t c =
    let steps = g.T.ReactiveFunctionTransform.steps in
    let functions = g.T.ReactiveFunctionTransform.functions in
    let p = err_from_is_err_and c.from_residual.result c.from_residual.ensures.1 in
    record {
      put = λ n. rw (p.1, p.2) (meets_put_fault steps functions (block_to steps functions n)
          (c.args.transform.now, c.args.state.now) c.args.done.now c.args.statement.now c.in_err-walk_held.field-0.0
          ((c.walk_held.new.transform, c.walk_held.new.state), c.walk_held.new.statement)
          ((c.walk_held.new.transform, c.walk_held.new.state), c.args.done.now) (c.in_err-walk_held.ensures n));
      alone = rw p.1 tt;
    }

pub statement::walk_in_place-returns : goal.statement::walk_in_place-returns
statement::walk_in_place-returns g t c =
    let steps = g.T.ReactiveFunctionTransform.steps in
    let functions = g.T.ReactiveFunctionTransform.functions in
    record {
      put = λ n. meets_put steps functions (block_to steps functions n) (c.args.transform.now, c.args.state.now)
          (c.walk_held.new.transform, c.walk_held.new.state) c.args.done.now c.args.statement.now
          c.walk_held.new.statement (without_answer c.settle.result) (
            (c.settle.new.transform, c.settle.new.state),
            with_replacement c.settle.result c.settle.new.done c.settle.new.statement,
          )
          (c.in_ok-walk_held.ensures n) c.settle.ensures.put;
      alone = c.settle.ensures.alone;
    }

-- at first no statement was walked in its place
pub statement::walk_front-loop-i-init : goal.statement::walk_front-loop-i-init
statement::walk_front-loop-i-init g t c = record {
  as_long = refl;
  behind = refl;
  none_done = c.requires;
  so_far = λ n.
      let steps = g.T.ReactiveFunctionTransform.steps in
      let functions = g.T.ReactiveFunctionTransform.functions in
      inr (statements_at-in_turn steps functions (block_to steps functions n)
      (c.args.transform.now, c.args.state.now) c.args.statements.now);
}

-- a statement that wasn't walked is no deeper than all
pub statement::walk_front-walk_in_place-requires : goal.statement::walk_front-walk_in_place-requires
statement::walk_front-walk_in_place-requires g t c =
    let h = most_entry statement.the_size c.loop-i.i c.args.statements.now c.loop-i.statements
    c.in-Some.statement.now c.loop-i.invariant.behind (sym c.in-Some.ensures.value) in
    search (rules, h)

pub statement::walk_front-loop-i-preserved : goal.statement::walk_front-loop-i-preserved
statement::walk_front-loop-i-preserved g t c =
    let so_far = c.loop-i.invariant in
    let now = c.loop-i.statements in
    let all = c.args.statements.now in
    let i = c.loop-i.i in
    let y = c.walk_in_place.new.statement in
    record {
      as_long = length-set now i y ∙ so_far.as_long;
      behind = drop-set-lt (i + 1) now i y (omega arith)
          ∙ sym (drop-drop 1 i now) ∙ ap (drop 1) so_far.behind ∙ drop-drop 1 i all;
      none_done = c.in_ok-stays.ensures.alone c.if-not-stays.false ∙ so_far.none_done;
      so_far = λ n.
          let steps = g.T.ReactiveFunctionTransform.steps in
          let functions = g.T.ReactiveFunctionTransform.functions in
          front_goes_on steps functions (block_to steps functions n)
          (statements_at steps functions (block_to steps functions n) (c.args.transform.now, c.args.state.now) all)
          (c.loop-i.transform, c.loop-i.state) now i (so_far.so_far n) c.in-Some.statement.now
          (sym c.in-Some.ensures.value) c.loop-i.done c.walk_in_place.new.done so_far.none_done
          (c.walk_in_place.new.transform, c.walk_in_place.new.state) c.in_ok-stays.stays y c.if-not-stays.false
          (c.in_ok-stays.ensures.alone c.if-not-stays.false) (c.in_ok-stays.ensures.put n);
    }

-- the replacement of a statement isn't one statement
pub statement::walk_front-returns-then-not-stays-clause-front :
    goal.statement::walk_front-returns-then-not-stays-clause-front
statement::walk_front-returns-then-not-stays-clause-front g t c = λ n.
    let steps = g.T.ReactiveFunctionTransform.steps in
    let functions = g.T.ReactiveFunctionTransform.functions in
    front_stops steps functions (block_to steps functions n)
    (statements_at steps functions (block_to steps functions n) (c.args.transform.now, c.args.state.now)
    c.args.statements.now)
    (c.loop-i.transform, c.loop-i.state) c.loop-i.statements c.loop-i.i (c.loop-i.invariant.so_far n)
    c.in-Some.statement.now (sym c.in-Some.ensures.value) c.loop-i.done c.walk_in_place.new.done
    c.loop-i.invariant.none_done (c.walk_in_place.new.transform, c.walk_in_place.new.state) c.in_ok-stays.stays
    c.walk_in_place.new.statement c.if-not-stays.true (c.in_ok-stays.ensures.put n)

-- the walk of a statement in its place fails
pub statement::walk_front-returns-in_err-stays-clause-fault :
    goal.statement::walk_front-returns-in_err-stays-clause-fault
statement::walk_front-returns-in_err-stays-clause-fault g t c = λ n.
    let steps = g.T.ReactiveFunctionTransform.steps in
    let functions = g.T.ReactiveFunctionTransform.functions in
    let p = err_from_is_err_and c.from_residual.result c.from_residual.ensures.1 in
    rw (p.1, p.2) (front_fails steps functions (block_to steps functions n)
    (statements_at steps functions (block_to steps functions n) (c.args.transform.now, c.args.state.now)
    c.args.statements.now)
    (c.loop-i.transform, c.loop-i.state) c.loop-i.statements c.loop-i.i (c.loop-i.invariant.so_far n)
    c.in-Some.statement.now (sym c.in-Some.ensures.value) c.loop-i.done c.walk_in_place.new.done
    c.loop-i.invariant.none_done (c.walk_in_place.new.transform, c.walk_in_place.new.state) c.in_err-stays.field-0.0 (
      (c.walk_in_place.new.transform, c.walk_in_place.new.state),
      slice_set c.loop-i.statements c.loop-i.i c.walk_in_place.new.statement,
    )
    (c.in_err-stays.ensures.put n))

-- at first all cases are left
pub terminal::walk_cases-loop-i-init : goal.terminal::walk_cases-loop-i-init
terminal::walk_cases-loop-i-init g t c = record {
  as_long = refl;
  no_deeper = omega arith;
  so_far = λ n.
      let steps = g.T.ReactiveFunctionTransform.steps in
      let functions = g.T.ReactiveFunctionTransform.functions in
      inr (cases_at-in_turn steps functions (block_to steps functions n) c.args.id
      (c.args.transform.now, c.args.state.now) c.args.cases.now);
}

-- a case that is left is no deeper than all
pub terminal::walk_cases-walk_case-requires : goal.terminal::walk_cases-walk_case-requires
terminal::walk_cases-walk_case-requires g t c κs =
    let h : switch_case.the_size c.in-Some.case.now ≤ most switch_case.the_size c.args.cases.now =
    omega (
      arith,
      c.loop-i.invariant.no_deeper,
      (most_place switch_case.the_size c.loop-i.cases c.loop-i.i c.in-Some.case.now c.in-Some.case.now
          (sym c.in-Some.ensures.value)).0,
    ) in
    search (rules, h)

pub terminal::walk_cases-loop-i-preserved : goal.terminal::walk_cases-loop-i-preserved
terminal::walk_cases-loop-i-preserved g t c = record {
  as_long = length-set c.loop-i.cases c.loop-i.i c.walk_case.new.case ∙ c.loop-i.invariant.as_long;
  no_deeper = omega (
    arith,
    c.loop-i.invariant.no_deeper,
    (most_place switch_case.the_size c.loop-i.cases c.loop-i.i c.in-Some.case.now c.walk_case.new.case
        (sym c.in-Some.ensures.value)).1,
  );
  so_far = λ n.
      let steps = g.T.ReactiveFunctionTransform.steps in
      let functions = g.T.ReactiveFunctionTransform.functions in
      place_next (case_at steps functions (block_to steps functions n) c.args.id)
      (cases_at steps functions (block_to steps functions n) c.args.id
      (c.args.transform.now, c.args.state.now) c.args.cases.now)
      (c.loop-i.transform, c.loop-i.state) c.loop-i.cases c.loop-i.i c.in-Some.case.now
      (c.walk_case.new.transform, c.walk_case.new.state) c.walk_case.new.case
      (c.loop-i.invariant.so_far n) (sym c.in-Some.ensures.value) (c.in_ok-walk_case.ensures n);
}

-- no case is left
pub terminal::walk_cases-returns : goal.terminal::walk_cases-returns
terminal::walk_cases-returns g t c = λ n.
    let steps = g.T.ReactiveFunctionTransform.steps in
    let functions = g.T.ReactiveFunctionTransform.functions in
    place_end (case_at steps functions (block_to steps functions n) c.args.id)
    (cases_at steps functions (block_to steps functions n) c.args.id
    (c.args.transform.now, c.args.state.now) c.args.cases.now)
    (c.loop-i.transform, c.loop-i.state) c.loop-i.cases c.loop-i.i (c.loop-i.invariant.so_far n)
    (omega (arith, c.loop-i-test.false, c.len-i-end.ensures, c.loop-i.invariant.as_long))

pub terminal::walk_cases-returns-in_default : goal.terminal::walk_cases-returns-in_default
terminal::walk_cases-returns-in_default g t c = λ n.
    let steps = g.T.ReactiveFunctionTransform.steps in
    let functions = g.T.ReactiveFunctionTransform.functions in
    place_end (case_at steps functions (block_to steps functions n) c.args.id)
    (cases_at steps functions (block_to steps functions n) c.args.id
    (c.args.transform.now, c.args.state.now) c.args.cases.now)
    (c.loop-i.transform, c.loop-i.state) c.loop-i.cases c.loop-i.i (c.loop-i.invariant.so_far n)
    (past_end c.loop-i.cases c.loop-i.i (sym c.in_default.ensures.value))

-- the walk of a case fails
pub terminal::walk_cases-returns-in_err-walk_case : goal.terminal::walk_cases-returns-in_err-walk_case
terminal::walk_cases-returns-in_err-walk_case g t c = λ n.
    let steps = g.T.ReactiveFunctionTransform.steps in
    let functions = g.T.ReactiveFunctionTransform.functions in
    let p = err_from_is_err_and c.from_residual.result c.from_residual.ensures.1 in
    rw (p.1, p.2) (place_fault (case_at steps functions (block_to steps functions n) c.args.id)
    (cases_at steps functions (block_to steps functions n) c.args.id
    (c.args.transform.now, c.args.state.now) c.args.cases.now)
    (c.loop-i.transform, c.loop-i.state) c.loop-i.cases c.loop-i.i c.in-Some.case.now c.in_err-walk_case.field-0.0
    ((c.walk_case.new.transform, c.walk_case.new.state), c.walk_case.new.case)
    ((c.walk_case.new.transform, c.walk_case.new.state), slice_set c.loop-i.cases c.loop-i.i c.walk_case.new.case)
    (c.loop-i.invariant.so_far n) (sym c.in-Some.ensures.value) (c.in_err-walk_case.ensures n))

-- the inside fails
pub statement::walk_block_to-returns-in_err-walk_statements-in-Inside :
    goal.statement::walk_block_to-returns-in_err-walk_statements-in-Inside
statement::walk_block_to-returns-in_err-walk_statements-in-Inside g t c = λ n.
    let steps = g.T.ReactiveFunctionTransform.steps in
    let functions = g.T.ReactiveFunctionTransform.functions in
    let fault = c.in_err-walk_statements-in-Inside.field-0.0 in
    let p = err_from_is_err_and c.from_residual-in_err-walk_statements-in-Inside.result
    c.from_residual-in_err-walk_statements-in-Inside.ensures.1 in
    rw (p.1, p.2) (meets_block_to steps functions (c.args.transform.now, c.args.state.now) c.args.block.now (Err fault)
    ((c.walk_statements.new.transform, c.walk_statements.new.state), c.walk_statements.new.block)
    (λ m. meets_inside_fault (steps.enter_block (c.args.transform.now, c.args.state.now) c.args.block.now)
    (block_inside steps functions (block_to steps functions m)) steps.leave_block
    ((c.enter_block.new.self, c.enter_block.new.state), c.enter_block.new.block)
    ((c.walk_statements.new.transform, c.walk_statements.new.state), c.walk_statements.new.block) fault
    ((c.walk_statements.new.transform, c.walk_statements.new.state), c.walk_statements.new.block)
    (c.in_ok-enter_block.ensures.step
    ∙ ap (λ a. Ok (a, ((c.enter_block.new.self, c.enter_block.new.state), c.enter_block.new.block))) c.in-Inside.is)
    (c.in_err-walk_statements-in-Inside.ensures m)) n)

-- the inside fails
pub statement::walk_scope-returns-in_err-walk_inside_scope-in-Inside :
    goal.statement::walk_scope-returns-in_err-walk_inside_scope-in-Inside
statement::walk_scope-returns-in_err-walk_inside_scope-in-Inside g t c = λ n.
    let steps = g.T.ReactiveFunctionTransform.steps in
    let functions = g.T.ReactiveFunctionTransform.functions in
    let fault = c.in_err-walk_inside_scope-in-Inside.field-0.0 in
    let p = err_from_is_err_and c.from_residual-in_err-walk_inside_scope-in-Inside.result
    c.from_residual-in_err-walk_inside_scope-in-Inside.ensures.1 in
    rw (p.1, p.2) (meets_scope_at steps functions (block_to steps functions n) (c.args.transform.now, c.args.state.now)
    c.args.scope.now (Err fault)
    ((c.walk_inside_scope.new.transform, c.walk_inside_scope.new.state), c.walk_inside_scope.new.scope)
    (meets_inside_fault (steps.enter_scope (c.args.transform.now, c.args.state.now) c.args.scope.now)
    (scope_inside steps functions (block_to steps functions n)) steps.leave_scope
    ((c.enter_scope.new.self, c.enter_scope.new.state), c.enter_scope.new.scope)
    ((c.walk_inside_scope.new.transform, c.walk_inside_scope.new.state), c.walk_inside_scope.new.scope) fault
    ((c.walk_inside_scope.new.transform, c.walk_inside_scope.new.state), c.walk_inside_scope.new.scope)
    (c.in_ok-enter_scope.ensures.step
    ∙ ap (λ a. Ok (a, ((c.enter_scope.new.self, c.enter_scope.new.state), c.enter_scope.new.scope))) c.in-Inside.is)
    (c.in_err-walk_inside_scope-in-Inside.ensures n)))

-- the inside fails
pub statement::walk_pruned_scope-returns-in_err-walk_inside_pruned_scope-in-Inside :
    goal.statement::walk_pruned_scope-returns-in_err-walk_inside_pruned_scope-in-Inside
statement::walk_pruned_scope-returns-in_err-walk_inside_pruned_scope-in-Inside g t c = λ n.
    let steps = g.T.ReactiveFunctionTransform.steps in
    let functions = g.T.ReactiveFunctionTransform.functions in
    let fault = c.in_err-walk_inside_pruned_scope-in-Inside.field-0.0 in
    let p = err_from_is_err_and c.from_residual-in_err-walk_inside_pruned_scope-in-Inside.result
    c.from_residual-in_err-walk_inside_pruned_scope-in-Inside.ensures.1 in
    rw (p.1, p.2) (meets_pruned_scope_at steps functions (block_to steps functions n)
    (c.args.transform.now, c.args.state.now) c.args.scope.now (Err fault) (
      (c.walk_inside_pruned_scope.new.transform, c.walk_inside_pruned_scope.new.state),
      c.walk_inside_pruned_scope.new.scope,
    ) (meets_inside_fault
    (steps.enter_pruned_scope (c.args.transform.now, c.args.state.now) c.args.scope.now)
    (pruned_scope_inside steps functions (block_to steps functions n)) steps.leave_pruned_scope
    ((c.enter_pruned_scope.new.self, c.enter_pruned_scope.new.state), c.enter_pruned_scope.new.scope) (
      (c.walk_inside_pruned_scope.new.transform, c.walk_inside_pruned_scope.new.state),
      c.walk_inside_pruned_scope.new.scope,
    ) fault (
      (c.walk_inside_pruned_scope.new.transform, c.walk_inside_pruned_scope.new.state),
      c.walk_inside_pruned_scope.new.scope,
    ) (c.in_ok-enter_pruned_scope.ensures.step
    ∙ ap (λ a. Ok
    (a, ((c.enter_pruned_scope.new.self, c.enter_pruned_scope.new.state), c.enter_pruned_scope.new.scope)))
    c.in-Inside.is) (c.in_err-walk_inside_pruned_scope-in-Inside.ensures n)))

-- the inside fails
pub statement::walk_terminal-returns-in_err-walk_inside_terminal-in-Inside :
    goal.statement::walk_terminal-returns-in_err-walk_inside_terminal-in-Inside
statement::walk_terminal-returns-in_err-walk_inside_terminal-in-Inside g t c = λ n.
    let steps = g.T.ReactiveFunctionTransform.steps in
    let functions = g.T.ReactiveFunctionTransform.functions in
    let fault = c.in_err-walk_inside_terminal-in-Inside.field-0.0 in
    let p = err_from_is_err_and c.from_residual-in_err-walk_inside_terminal-in-Inside.result
    c.from_residual-in_err-walk_inside_terminal-in-Inside.ensures.1 in
    rw (p.1, p.2) (meets_terminal_at steps functions (block_to steps functions n)
    (c.args.transform.now, c.args.state.now) c.args.stmt.now (Err fault)
    ((c.walk_inside_terminal.new.transform, c.walk_inside_terminal.new.state), c.walk_inside_terminal.new.stmt)
    (meets_inside_fault (steps.enter_terminal (c.args.transform.now, c.args.state.now) c.args.stmt.now)
    (terminal_inside steps functions (block_to steps functions n)) steps.leave_terminal
    ((c.enter_terminal.new.self, c.enter_terminal.new.state), c.enter_terminal.new.stmt)
    ((c.walk_inside_terminal.new.transform, c.walk_inside_terminal.new.state), c.walk_inside_terminal.new.stmt) fault
    ((c.walk_inside_terminal.new.transform, c.walk_inside_terminal.new.state), c.walk_inside_terminal.new.stmt)
    (c.in_ok-enter_terminal.ensures.step
    ∙ ap (λ a. Ok (a, ((c.enter_terminal.new.self, c.enter_terminal.new.state), c.enter_terminal.new.stmt)))
    c.in-Inside.is) (c.in_err-walk_inside_terminal-in-Inside.ensures n)))

-- the inside of a terminal, and then its leave step
pub statement::walk_terminal-returns-in_ok-walk_inside_terminal-in-Inside :
    goal.statement::walk_terminal-returns-in_ok-walk_inside_terminal-in-Inside
statement::walk_terminal-returns-in_ok-walk_inside_terminal-in-Inside g t c = λ n.
    let steps = g.T.ReactiveFunctionTransform.steps in
    let functions = g.T.ReactiveFunctionTransform.functions in
    meets_terminal_at steps functions (block_to steps functions n) (c.args.transform.now, c.args.state.now)
    c.args.stmt.now c.leave_terminal.result
    ((c.leave_terminal.new.self, c.leave_terminal.new.state), c.leave_terminal.new.stmt)
    (meets_inside (steps.enter_terminal (c.args.transform.now, c.args.state.now) c.args.stmt.now)
    (terminal_inside steps functions (block_to steps functions n)) steps.leave_terminal
    ((c.enter_terminal.new.self, c.enter_terminal.new.state), c.enter_terminal.new.stmt)
    ((c.walk_inside_terminal.new.transform, c.walk_inside_terminal.new.state), c.walk_inside_terminal.new.stmt)
    c.leave_terminal.result ((c.leave_terminal.new.self, c.leave_terminal.new.state), c.leave_terminal.new.stmt)
    (c.in_ok-enter_terminal.ensures.step
    ∙ ap (λ a. Ok (a, ((c.enter_terminal.new.self, c.enter_terminal.new.state), c.enter_terminal.new.stmt)))
    c.in-Inside.is) (c.in_ok-walk_inside_terminal-in-Inside.ensures n) c.leave_terminal.ensures.step)

-- the body of a `For`, after four steps
pub terminal::walk_parts-returns-in_ok-walk_value_if-in-For :
    goal.terminal::walk_parts-returns-in_ok-walk_value_if-in-For
terminal::walk_parts-returns-in_ok-walk_value_if-in-For g t c = λ n.
    let steps = g.T.ReactiveFunctionTransform.steps in
    let functions = g.T.ReactiveFunctionTransform.functions in
    let w : g.row.T.Denot × g.row.T-State.Denot = (c.args.transform.now, c.args.state.now) in
    let w1 : g.row.T.Denot × g.row.T-State.Denot = (c.visit_id-in-For.new.self, c.visit_id-in-For.new.state) in
    let w2 : g.row.T.Denot × g.row.T-State.Denot =
    (c.walk_loop_value-in-For.new.transform, c.walk_loop_value-in-For.new.state) in
    let w3 : g.row.T.Denot
    × g.row.T-State.Denot = (c.walk_loop_value-in-For-2.new.transform, c.walk_loop_value-in-For-2.new.state) in
    let w4 : g.row.T.Denot × g.row.T-State.Denot = (c.walk_value_if.new.transform, c.walk_value_if.new.state) in
    let w5 : g.row.T.Denot
    × g.row.T-State.Denot = (c.walk_block_to-in-For.new.transform, c.walk_block_to-in-For.new.state) in
    subst (λ id. IsFueled (parts_at steps functions (block_to steps functions n) w c.args.terminal.now)
    c.walk_block_to-in-For.result (
      w5,
      tree.For c.walk_loop_value-in-For.new.value c.walk_loop_value-in-For-2.new.value c.walk_value_if.new.value
          c.walk_block_to-in-For.new.block id,
    )) (sym c.in-For.id-is)
    (rw c.in-For.is (meets_For steps functions (block_to steps functions n) w w1 w2 w3 w4 w5 c.in-For.init
    c.walk_loop_value-in-For.new.value c.in-For.test c.walk_loop_value-in-For-2.new.value
    c.in-For.update c.walk_value_if.new.value c.in-For.body c.walk_block_to-in-For.new.block c.in-For.id
    c.walk_block_to-in-For.result
    (subst (λ id. steps.visit_id id w ≡ Ok (tt, w1)) c.in-For.id-is c.in_ok-visit_id-in-For.ensures.step)
    (both_same (λ id x. rewrite_value steps functions id w1 x ≡ Ok (tt, (w2, c.walk_loop_value-in-For.new.value)))
    c.in-For.id-is c.in-For.init-is c.in_ok-walk_loop_value-in-For.ensures)
    (both_same (λ id x. rewrite_value steps functions id w2 x ≡ Ok (tt, (w3, c.walk_loop_value-in-For-2.new.value)))
    c.in-For.id-is c.in-For.test-is c.in_ok-walk_loop_value-in-For-2.ensures)
    (both_same (λ id x. perhaps_hook (rewrite_value steps functions id) w3 x ≡ Ok (tt, (w4, c.walk_value_if.new.value)))
    c.in-For.id-is c.in-For.update-is c.in_ok-walk_value_if-in-For.ensures)
    (subst (λ x. IsFueled (block_to steps functions n w4 x) c.walk_block_to-in-For.result
    (w5, c.walk_block_to-in-For.new.block)) c.in-For.body-is (c.walk_block_to-in-For.ensures n))))
