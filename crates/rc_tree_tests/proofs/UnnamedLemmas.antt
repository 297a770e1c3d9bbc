-- The rewriting walk of a `Label` without a name, by a transform that replaces it by its statements.
use Rattle.std.proofs.Common.{◌≡◌, ◌∙◌, ℕ, List, None, Result, Ok, Err, refl, sym, ap, subst}
use Rattle.rc_hir.specs.Model.{Fault, HirFunction}
use Rattle.rc_hir.specs.declared.fault.Fault.TheVariants.{NoMemory}
use Rattle.rc_names.specs.Numbers.{EvaluationOrder}
use Rattle.rc_tree.proofs.StepLemmas.{Ok-injective, not_err}
use Rattle.rc_tree.specs.Step.{IsStep}
use Rattle.rc_tree.specs.Fuel.{Fueled, OutOfFuel, Failed, Done, bind, after, last, as_step}
use Rattle.rc_tree.specs.Rewrite.{block_to, rewrite_statement}
use Rattle.rc_tree.specs.Rewrite.Terminals.{terminal_at}
use Rattle.rc_tree.specs.RewriteSteps.{RewriteSteps}
use Rattle.rc_tree_tests.specs.Unnamed.{unnamed, without_name, TakesOut, GivesWay}
use Rattle.rc_tree.specs.Model.{ReactiveBlock, ReactiveTerminal, ReactiveTerminalStatement, Transformed}
use Rattle.rc_tree.specs.declared.statement.ReactiveStatement.{ReactiveStatement, size-ReactiveStatement}
use Rattle.rc_tree.specs.declared.statement.ReactiveStatement.TheVariants as reactive
use Rattle.rc_tree.specs.declared.terminal.ReactiveTerminal.TheVariants as tree
use Rattle.rc_tree.specs.declared.hooks.Transformed.TheVariants.{ReplaceMany}

module _ {T S : Type 0} (v : RewriteSteps (T × S)) (functions : T → List HirFunction) where
  module _ (steps : TakesOut v) where
    -- the `Label` with the walked block, its leave step and the result of its `transform_` step
    abbrev as_label : EvaluationOrder → Unit {0} × ((T × S) × ReactiveBlock)
        → Fueled (Unit {0} × ((T × S) × ReactiveTerminal))
    as_label id b = Done (tt, (b.1.0, tree.Label b.1.1 id))

    abbrev as_statement : Unit {0} × ((T × S) × ReactiveTerminal)
        → Fueled (Unit {0} × ((T × S) × ReactiveTerminalStatement))
    as_statement a = Done (tt, (a.1.0, record { terminal = a.1.1; label = None }))

    abbrev left : Unit {0} × ((T × S) × ReactiveTerminalStatement)
        → Fueled (Unit {0} × ((T × S) × ReactiveTerminalStatement))
    left r = last (v.leave_terminal r.1.0 r.1.1)

    abbrev with_answer : Transformed ReactiveStatement × ((T × S) × ReactiveTerminalStatement)
        → Fueled (Transformed ReactiveStatement × ((T × S) × ReactiveStatement))
    with_answer b = Done (b.0, (b.1.0, reactive.Terminal b.1.1))

    abbrev asked : Unit {0} × ((T × S) × ReactiveTerminalStatement)
        → Fueled (Transformed ReactiveStatement × ((T × S) × ReactiveStatement))
    asked a = after (v.transform_terminal a.1.0 a.1.1) with_answer

    abbrev behind : EvaluationOrder → Fueled (Unit {0} × ((T × S) × ReactiveBlock))
        → Fueled (Transformed ReactiveStatement × ((T × S) × ReactiveStatement))
    behind id r = bind (bind (bind (bind r (as_label id)) as_statement) left) asked

    behind_is : (id : EvaluationOrder) (w : T × S) (block : ReactiveBlock)
        → (p : (T × S) × ReactiveStatement) × (behind id (Done (tt, (w, block)))
        ≡ Done (ReplaceMany block.statements, p))
    behind_is id w block =
        let x : ReactiveTerminalStatement = unnamed block id in
        let l = steps.leaves w x in
        let t = steps.answers l.0 x in
        let end : (T × S) × ReactiveStatement = (t.0, reactive.Terminal (without_name x).1) in
        let first : behind id (Done (tt, (w, block))) ≡ asked (tt, (l.0, x)) = ap (λ q. bind (last q) asked) l.1 in
        let second : asked (tt, (l.0, x)) ≡ Done ((without_name x).0, end) = ap (λ q. after q with_answer) t.1 in
        let third : ◌≡◌ {A = Fueled (Transformed ReactiveStatement × ((T × S) × ReactiveStatement))}
        (Done ((without_name x).0, end)) (Done (ReplaceMany block.statements, end)) =
        rw (tree.outs-Label block id) refl in
        (end, first ∙ second ∙ third)

    replaced : (answer : Transformed ReactiveStatement) (p : (T × S) × ReactiveStatement) (id : EvaluationOrder)
        (r : Fueled (Unit {0} × ((T × S) × ReactiveBlock)))
        → as_step (behind id r) ≡ Ok (answer, p) → (block : ReactiveBlock) × (answer ≡ ReplaceMany block.statements)
    unfolding as_step
    replaced answer p id OutOfFuel e = absurd (not_err (answer, p) NoMemory (sym e))
    replaced answer p id (Failed fault) e = absurd (not_err (answer, p) fault (sym e))
    replaced answer p id (Done d) e =
        let b = behind_is id d.1.0 d.1.1 in
        let same : (ReplaceMany d.1.1.statements, b.0) ≡ (answer, p) =
        Ok-injective (ReplaceMany d.1.1.statements, b.0) (answer, p) (sym (ap as_step b.1) ∙ e) in
        (d.1.1, sym (ap (λ q. q.0) same))

    pub label_gives_way : (w : T × S) (body : ReactiveBlock) (id : EvaluationOrder)
        (answer : Transformed ReactiveStatement) (p : (T × S) × ReactiveStatement)
        → rewrite_statement v functions w (reactive.Terminal (unnamed body id)) ≡ Ok (answer, p)
        → (block : ReactiveBlock) × (answer ≡ ReplaceMany block.statements)
    unfolding rewrite_statement terminal_at
    label_gives_way w body id answer p e =
        let x : ReactiveTerminalStatement = unnamed body id in
        let n : ℕ = size-ReactiveStatement (reactive.Terminal x) in
        let i = steps.enters w x in
        let j = steps.visits i.0 id in
        let q : rewrite_statement v functions w (reactive.Terminal x)
        ≡ as_step (behind id (block_to v functions n j.0 body)) =
        rw (reactive.outs-Terminal x, i.1, tree.outs-Label body id, j.1) refl in
        replaced answer p id (block_to v functions n j.0 body) (sym q ∙ e)

  -- the same of a call
  pub call_gives_way : (w : T × S) (x : ReactiveStatement) (r : Result (Transformed ReactiveStatement) Fault)
      (p : (T × S) × ReactiveStatement)
      → IsStep (rewrite_statement v functions w x) r p → TakesOut v → GivesWay x r
  call_gives_way w x (Ok answer) p h steps body id e =
      label_gives_way steps w body id answer p (subst (λ x. rewrite_statement v functions w x ≡ Ok (answer, p)) e h)
  call_gives_way w x (Err fault) p h steps body id e = tt
