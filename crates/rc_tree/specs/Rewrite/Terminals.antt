-- The rewriting walk of a terminal, made from the walk of the blocks in it.
use Rattle.std.specs.Prelude.{List}
use Rattle.rc_hir.specs.Model.{HirFunction}
use Rattle.rc_names.specs.Numbers.{EvaluationOrder}
use Rattle.rc_tree.specs.Unrolled.{UnrolledTerminal}
use Rattle.rc_tree.specs.Step.{perhaps}
use Rattle.rc_tree.specs.Fuel.{Fueled, Done, bind, after, FueledWalk, each_part, perhaps_part, perhaps_hook, around}
use Rattle.rc_tree.specs.RewriteSteps.{RewriteSteps}
use Rattle.rc_tree.specs.Model.{ReactiveBlock, ReactiveTerminalStatement}
use Rattle.rc_tree.specs.declared.statement.ReactiveStatement.TheOpen as layer
use Rattle.rc_tree.specs.declared.terminal.ReactiveSwitchCase.{ReactiveSwitchCase, out-ReactiveSwitchCase}
use Rattle.rc_tree.specs.declared.terminal.ReactiveSwitchCase.{roll-ReactiveSwitchCase}
use Rattle.rc_tree.specs.declared.terminal.ReactiveTerminal.{ReactiveTerminal, out-ReactiveTerminal}
use Rattle.rc_tree.specs.declared.terminal.ReactiveTerminal.TheVariants as tree
use Rattle.rc_tree.specs.Rewrite.Values.{rewrite_value}

-- the world is the transform with the state
module _ {T S : Type 0} (v : RewriteSteps (T × S)) (functions : T → List HirFunction) where
  module _ (inner : FueledWalk (T × S) ReactiveBlock) where
    -- the walk of a case is that of its test and its block
    unfoldable pub case_at : EvaluationOrder → FueledWalk (T × S) ReactiveSwitchCase
    case_at id w x =
        after (perhaps (v.visit_place id) (out-ReactiveSwitchCase x).test w)
        (λ a. bind (perhaps_part inner a.1 (out-ReactiveSwitchCase x).block) (λ b.
        Done (tt, (b.1.0, roll-ReactiveSwitchCase (record { test = (out-ReactiveSwitchCase x).test; block = b.1.1 })))))

    -- the cases of a switch, each in its place
    unfoldable pub cases_at : EvaluationOrder → FueledWalk (T × S) (List ReactiveSwitchCase)
    cases_at id w cases = each_part (case_at id) w cases

    -- a terminal's id, and then its parts; the update of a `For` comes before the loop block
    abbrev pub parts_layer : (T × S) → UnrolledTerminal → Fueled (Unit {0} × ((T × S) × ReactiveTerminal))
    parts_layer w (layer.Break target kind id) =
        after (v.visit_id id w) (λ a. Done (tt, (a.1, tree.Break target kind id)))
    parts_layer w (layer.Continue target kind id) =
        after (v.visit_id id w) (λ a. Done (tt, (a.1, tree.Continue target kind id)))
    parts_layer w (layer.Return place id) =
        after (v.visit_id id w) (λ a. after (v.visit_place id place a.1) (λ b. Done (tt, (b.1, tree.Return place id))))
    parts_layer w (layer.Throw place id) =
        after (v.visit_id id w) (λ a. after (v.visit_place id place a.1) (λ b. Done (tt, (b.1, tree.Throw place id))))
    parts_layer w (layer.Switch test cases id) =
        after (v.visit_id id w) (λ a. after (v.visit_place id test a.1)
        (λ b. bind (cases_at id b.1 cases) (λ c. Done (tt, (c.1.0, tree.Switch test c.1.1 id)))))
    parts_layer w (layer.DoWhile body test id) =
        after (v.visit_id id w) (λ a. bind (inner a.1 body)
        (λ b. after (rewrite_value v functions id b.1.0 test) (λ c. Done (tt, (c.1.0, tree.DoWhile b.1.1 c.1.1 id)))))
    parts_layer w (layer.While test body id) =
        after (v.visit_id id w) (λ a. after (rewrite_value v functions id a.1 test)
        (λ b. bind (inner b.1.0 body) (λ c. Done (tt, (c.1.0, tree.While b.1.1 c.1.1 id)))))
    parts_layer w (layer.For init test update body id) =
        after (v.visit_id id w) (λ a. after (rewrite_value v functions id a.1 init)
        (λ b. after (rewrite_value v functions id b.1.0 test)
        (λ c. after (perhaps_hook (rewrite_value v functions id) c.1.0 update) (λ d.
        bind (inner d.1.0 body) (λ e. Done (tt, (e.1.0, tree.For b.1.1 c.1.1 d.1.1 e.1.1 id)))))))
    parts_layer w (layer.ForOf init test body span id) =
        after (v.visit_id id w) (λ a. after (rewrite_value v functions id a.1 init)
        (λ b. after (rewrite_value v functions id b.1.0 test) (λ c. bind (inner c.1.0 body) (λ d.
        Done (tt, (d.1.0, tree.ForOf b.1.1 c.1.1 d.1.1 span id))))))
    parts_layer w (layer.ForIn init body span id) =
        after (v.visit_id id w) (λ a. after (rewrite_value v functions id a.1 init)
        (λ b. bind (inner b.1.0 body) (λ c. Done (tt, (c.1.0, tree.ForIn b.1.1 c.1.1 span id)))))
    parts_layer w (layer.If test consequent alternate id) =
        after (v.visit_id id w) (λ a. after (v.visit_place id test a.1)
        (λ b. bind (inner b.1 consequent) (λ c. bind (perhaps_part inner c.1.0 alternate) (λ d.
        Done (tt, (d.1.0, tree.If test c.1.1 d.1.1 id))))))
    parts_layer w (layer.Label body id) =
        after (v.visit_id id w) (λ a. bind (inner a.1 body) (λ b. Done (tt, (b.1.0, tree.Label b.1.1 id))))
    parts_layer w (layer.Try body binding handler id) =
        after (v.visit_id id w) (λ a. bind (inner a.1 body)
        (λ b. after (perhaps (v.visit_place id) binding b.1.0) (λ c. bind (inner c.1 handler) (λ d.
        Done (tt, (d.1.0, tree.Try b.1.1 binding d.1.1 id))))))

    -- the parts of a terminal, by its form
    abbrev pub parts_at : FueledWalk (T × S) ReactiveTerminal
    parts_at w x = parts_layer w (out-ReactiveTerminal x)

    -- the inside of a terminal is its parts
    abbrev pub terminal_inside : FueledWalk (T × S) ReactiveTerminalStatement
    terminal_inside w x =
        bind (parts_at w x.terminal) (λ a. Done (tt, (a.1.0, record { terminal = a.1.1; label = x.label })))

    -- the walk of a terminal
    unfoldable pub terminal_at : FueledWalk (T × S) ReactiveTerminalStatement
    terminal_at w x = around v.enter_terminal terminal_inside v.leave_terminal w x
