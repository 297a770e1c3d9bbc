-- The walk of a terminal, by steps that follow the rules of a pass, agrees with the terminal that the rules rebuild.
use Rattle.std.proofs.Common.{◌≡◌, ◌∙◌, List, Option, None, Some, map, Result, Ok, refl, sym, ap, subst}
use Rattle.rc_hir.specs.Model.{Fault, HirFunction, Place}
use Rattle.rc_names.specs.Numbers.{EvaluationOrder}
use Rattle.rc_tree.proofs.RebuiltLemmas.{if_some, rebuilt-labeled, rebuilt-case, rebuilt-Break, rebuilt-Continue}
use Rattle.rc_tree.proofs.RebuiltLemmas.{rebuilt-Return, rebuilt-Throw, rebuilt-Switch, rebuilt-DoWhile, rebuilt-While}
use Rattle.rc_tree.proofs.RebuiltLemmas.{rebuilt-For, rebuilt-ForOf, rebuilt-ForIn, rebuilt-If, rebuilt-Label}
use Rattle.rc_tree.proofs.RebuiltLemmas.{rebuilt-Try}
use Rattle.rc_tree.specs.inside.Refines.{Refines}
use Rattle.rc_tree.specs.Unrolled.{UnrolledTerminal}
use Rattle.rc_tree.specs.Step.{perhaps}
use Rattle.rc_tree.specs.Step as outcome
use Rattle.rc_tree.specs.Rebuilt.{Rules, in_order, rebuilt_block, rebuilt_terminal, rebuilt_labeled, rebuilt_case}
use Rattle.rc_tree.specs.Fuel.{Done, bind, after, as_step, FueledWalk, perhaps_part}
use Rattle.rc_tree.specs.Rewrite.Terminals.{case_at, cases_at, parts_layer, parts_at, terminal_inside, terminal_at}
use Rattle.rc_tree.specs.Rewrite.Values.{value_to, rewrite_value}
use Rattle.rc_tree.specs.RewriteSteps.{RewriteSteps, goes_inside, does_nothing, skips}
use Rattle.rc_tree.specs.Model.{ReactiveBlock, ReactiveTerminalStatement}
use Rattle.rc_tree.specs.declared.statement.ReactiveStatement.TheOpen as layer
use Rattle.rc_tree.specs.declared.terminal.ReactiveSwitchCase.{ReactiveSwitchCase, out-ReactiveSwitchCase}
use Rattle.rc_tree.specs.declared.terminal.ReactiveSwitchCase.{roll-ReactiveSwitchCase}
use Rattle.rc_tree.specs.declared.terminal.ReactiveTerminal.{ReactiveTerminal, out-ReactiveTerminal}
use Rattle.rc_tree.specs.declared.terminal.ReactiveTerminal.{roll-ReactiveTerminal, roll-out-ReactiveTerminal}
use Rattle.rc_tree.specs.declared.terminal.ReactiveTerminal.TheVariants as tree
use Rattle.rc_tree.proofs.RefinesLemmas.Agreement.{Agrees, agreed, part, made, as_left, part_if, each_agrees}

-- the walk of steps that follow the rules
module _ {S R T St : Type 0} (rules : Rules S) (v : RewriteSteps (T × St)) (functions : T → List HirFunction)
    (world : R → S → T × St) (inner : R → S → R) (follows : Refines rules v world inner) where
  -- the steps, as those whose visits, rows and values compute
  abbrev pub plain : RewriteSteps (T × St)
  plain = record {
    visit_id = λ id w. Ok (tt, w);
    visit_place = λ id place w. Ok (tt, w);
    visit_lvalue = v.visit_lvalue;
    enter_instruction = skips;
    leave_instruction = v.leave_instruction;
    enter_value = λ id. skips;
    leave_value = v.leave_value;
    enter_terminal = goes_inside;
    leave_terminal = does_nothing;
    enter_scope = v.enter_scope;
    leave_scope = does_nothing;
    enter_pruned_scope = goes_inside;
    leave_pruned_scope = does_nothing;
    enter_block = goes_inside;
    leave_block = v.leave_block;
    transform_instruction = v.transform_instruction;
    transform_terminal = v.transform_terminal;
    transform_scope = v.transform_scope;
    transform_pruned_scope = v.transform_pruned_scope;
  }

  pub are_plain : v ≡ plain
  are_plain = λ i. record {
    visit_id = follows.visit_id i;
    visit_place = follows.visit_place i;
    visit_lvalue = v.visit_lvalue;
    enter_instruction = follows.enter_instruction i;
    leave_instruction = v.leave_instruction;
    enter_value = follows.enter_value i;
    leave_value = v.leave_value;
    enter_terminal = follows.enter_terminal i;
    leave_terminal = follows.leave_terminal i;
    enter_scope = v.enter_scope;
    leave_scope = follows.leave_scope i;
    enter_pruned_scope = follows.enter_pruned_scope i;
    leave_pruned_scope = follows.leave_pruned_scope i;
    enter_block = follows.enter_block i;
    leave_block = v.leave_block;
    transform_instruction = v.transform_instruction;
    transform_terminal = v.transform_terminal;
    transform_scope = v.transform_scope;
    transform_pruned_scope = v.transform_pruned_scope;
  }

  place_if : (id : EvaluationOrder) (place : Option Place) (w : T × St)
      → perhaps (plain.visit_place id) place w ≡ Ok (tt, w)
  place_if id None w = refl
  place_if id (Some place) w = refl

  module _ (walk : FueledWalk (T × St) ReactiveBlock) (known : (r : R) (s : S) (x : ReactiveBlock)
      → Agrees world r (walk (world r s) x) (rebuilt_block rules x s)) where
    case_agrees : (id : EvaluationOrder) (r : R) (s : S) (x : ReactiveSwitchCase)
        → Agrees world r (case_at plain functions walk id (world r s) x) (rebuilt_case rules x s)
    unfolding case_at
    case_agrees id r s x =
        subst (λ e. Agrees world r (case_at plain functions walk id (world r s) x) e) (sym (rebuilt-case rules x s))
        (subst (λ f. Agrees world r (after f (λ a. bind (perhaps_part walk a.1 (out-ReactiveSwitchCase x).block)
        (λ b. Done
        (tt, (b.1.0, roll-ReactiveSwitchCase (record { test = (out-ReactiveSwitchCase x).test; block = b.1.1 }))))))
        (outcome.bind (if_some (rebuilt_block rules) (out-ReactiveSwitchCase x).block s)
        (λ a. Ok (a.0, roll-ReactiveSwitchCase (record { test = (out-ReactiveSwitchCase x).test; block = a.1 })))))
        (sym (place_if id (out-ReactiveSwitchCase x).test (world r s)))
        (made world r (perhaps_part walk (world r s) (out-ReactiveSwitchCase x).block)
        (if_some (rebuilt_block rules) (out-ReactiveSwitchCase x).block s)
        (λ b. roll-ReactiveSwitchCase (record { test = (out-ReactiveSwitchCase x).test; block = b }))
        (part_if world walk (rebuilt_block rules) known r s (out-ReactiveSwitchCase x).block)))

    cases_agree : (id : EvaluationOrder) (r : R) (s : S) (cases : List ReactiveSwitchCase)
        → Agrees world r (cases_at plain functions walk id (world r s) cases)
        (in_order (map (rebuilt_case rules) cases) s)
    unfolding cases_at
    cases_agree id r s cases =
        each_agrees world r (rebuilt_case rules) (case_at plain functions walk id) (case_agrees id r) s cases

    -- each terminal, by its equation
    abbrev TerminalAgrees : R → S → UnrolledTerminal → Result (S × ReactiveTerminal) Fault → Type 0
    TerminalAgrees r s l e = Agrees world r (parts_layer plain functions walk (world r s) l) e

    parts_agree : (r : R) (s : S) (l : UnrolledTerminal) → Agrees world r
        (parts_layer plain functions walk (world r s) l)
        (rebuilt_terminal rules (roll-ReactiveTerminal l) s)
    unfolding rewrite_value value_to as_step
    parts_agree r s (layer.Break target kind id) =
        subst (λ e. TerminalAgrees r s (layer.Break target kind id) e)
        (sym (rebuilt-Break rules target kind id s) ∙ ap (λ y. rebuilt_terminal rules y s)
        (sym (tree.rolls-Break target kind id)))
        (agreed world r s (tree.Break target kind id))
    parts_agree r s (layer.Continue target kind id) =
        subst (λ e. TerminalAgrees r s (layer.Continue target kind id) e)
        (sym (rebuilt-Continue rules target kind id s) ∙ ap (λ y. rebuilt_terminal rules y s)
        (sym (tree.rolls-Continue target kind id)))
        (agreed world r s (tree.Continue target kind id))
    parts_agree r s (layer.Return place id) =
        subst (λ e. TerminalAgrees r s (layer.Return place id) e)
        (sym (rebuilt-Return rules place id s) ∙ ap (λ y. rebuilt_terminal rules y s)
        (sym (tree.rolls-Return place id)))
        (agreed world r s (tree.Return place id))
    parts_agree r s (layer.Throw place id) =
        subst (λ e. TerminalAgrees r s (layer.Throw place id) e)
        (sym (rebuilt-Throw rules place id s) ∙ ap (λ y. rebuilt_terminal rules y s)
        (sym (tree.rolls-Throw place id)))
        (agreed world r s (tree.Throw place id))
    parts_agree r s (layer.Switch test cases id) =
        subst (λ e. TerminalAgrees r s (layer.Switch test cases id) e)
        (sym (rebuilt-Switch rules test cases id s) ∙ ap (λ y. rebuilt_terminal rules y s)
        (sym (tree.rolls-Switch test cases id)))
        (made world r (cases_at plain functions walk id (world r s) cases) (in_order (map (rebuilt_case rules) cases) s)
        (λ y. tree.Switch test y id) (cases_agree id r s cases))
    parts_agree r s (layer.DoWhile body test id) =
        subst (λ e. TerminalAgrees r s (layer.DoWhile body test id) e)
        (sym (rebuilt-DoWhile rules body test id s) ∙ ap (λ y. rebuilt_terminal rules y s)
        (sym (tree.rolls-DoWhile body test id)))
        (made world r (walk (world r s) body) (rebuilt_block rules body s) (λ y. tree.DoWhile y test id)
        (known r s body))
    parts_agree r s (layer.While test body id) =
        subst (λ e. TerminalAgrees r s (layer.While test body id) e)
        (sym (rebuilt-While rules test body id s) ∙ ap (λ y. rebuilt_terminal rules y s)
        (sym (tree.rolls-While test body id)))
        (made world r (walk (world r s) body) (rebuilt_block rules body s) (λ y. tree.While test y id) (known r s body))
    parts_agree r s (layer.For init test None body id) =
        subst (λ e. TerminalAgrees r s (layer.For init test None body id) e)
        (sym (rebuilt-For rules init test None body id s)
        ∙ ap (λ y. rebuilt_terminal rules y s) (sym (tree.rolls-For init test None body id)))
        (made world r (walk (world r s) body) (rebuilt_block rules body s) (λ y. tree.For init test None y id)
        (known r s body))
    parts_agree r s (layer.For init test (Some update) body id) =
        subst (λ e. TerminalAgrees r s (layer.For init test (Some update) body id) e)
        (sym (rebuilt-For rules init test (Some update) body id s)
        ∙ ap (λ y. rebuilt_terminal rules y s) (sym (tree.rolls-For init test (Some update) body id)))
        (made world r (walk (world r s) body) (rebuilt_block rules body s) (λ y. tree.For init test (Some update) y id)
        (known r s body))
    parts_agree r s (layer.ForOf init test body span id) =
        subst (λ e. TerminalAgrees r s (layer.ForOf init test body span id) e)
        (sym (rebuilt-ForOf rules init test body span id s)
        ∙ ap (λ y. rebuilt_terminal rules y s) (sym (tree.rolls-ForOf init test body span id)))
        (made world r (walk (world r s) body) (rebuilt_block rules body s) (λ y. tree.ForOf init test y span id)
        (known r s body))
    parts_agree r s (layer.ForIn init body span id) =
        subst (λ e. TerminalAgrees r s (layer.ForIn init body span id) e)
        (sym (rebuilt-ForIn rules init body span id s) ∙ ap (λ y. rebuilt_terminal rules y s)
        (sym (tree.rolls-ForIn init body span id)))
        (made world r (walk (world r s) body) (rebuilt_block rules body s) (λ y. tree.ForIn init y span id)
        (known r s body))
    parts_agree r s (layer.If test consequent alternate id) =
        subst (λ e. TerminalAgrees r s (layer.If test consequent alternate id) e)
        (sym (rebuilt-If rules test consequent alternate id s)
        ∙ ap (λ y. rebuilt_terminal rules y s) (sym (tree.rolls-If test consequent alternate id)))
        (part world r r (walk (world r s) consequent) (λ c. bind (perhaps_part walk c.1.0 alternate)
        (λ d. Done (tt, (d.1.0, tree.If test c.1.1 d.1.1 id))))
        (rebuilt_block rules consequent s) (λ a. outcome.bind (if_some (rebuilt_block rules) alternate a.0)
        (λ b. Ok (b.0, tree.If test a.1 b.1 id))) (known r s consequent)
        (λ s1 y. made world r (perhaps_part walk (world r s1) alternate) (if_some (rebuilt_block rules) alternate s1)
        (λ z. tree.If test y z id) (part_if world walk (rebuilt_block rules) known r s1 alternate)))
    parts_agree r s (layer.Label body id) =
        subst (λ e. TerminalAgrees r s (layer.Label body id) e)
        (sym (rebuilt-Label rules body id s) ∙ ap (λ y. rebuilt_terminal rules y s)
        (sym (tree.rolls-Label body id)))
        (made world r (walk (world r s) body) (rebuilt_block rules body s) (λ y. tree.Label y id) (known r s body))
    parts_agree r s (layer.Try body binding handler id) =
        subst (λ e. TerminalAgrees r s (layer.Try body binding handler id) e)
        (sym (rebuilt-Try rules body binding handler id s)
        ∙ ap (λ y. rebuilt_terminal rules y s) (sym (tree.rolls-Try body binding handler id)))
        (part world r r (walk (world r s) body) (λ b. after (perhaps (plain.visit_place id) binding b.1.0)
        (λ c. bind (walk c.1 handler) (λ d. Done (tt, (d.1.0, tree.Try b.1.1 binding d.1.1 id)))))
        (rebuilt_block rules body s) (λ a. outcome.bind (rebuilt_block rules handler a.0)
        (λ b. Ok (b.0, tree.Try a.1 binding b.1 id))) (known r s body)
        (λ s1 y. subst (λ f. Agrees world r (after f (λ c. bind (walk c.1 handler)
        (λ d. Done (tt, (d.1.0, tree.Try y binding d.1.1 id)))))
        (outcome.bind (rebuilt_block rules handler s1) (λ b. Ok (b.0, tree.Try y binding b.1 id))))
        (sym (place_if id binding (world r s1)))
        (made world r (walk (world r s1) handler) (rebuilt_block rules handler s1) (λ z. tree.Try y binding z id)
        (known r s1 handler))))

    pub labeled_agrees : (r : R) (s : S) (x : ReactiveTerminalStatement)
        → Agrees world r (terminal_at plain functions walk (world r s) x) (rebuilt_labeled rules x s)
    unfolding terminal_at
    labeled_agrees r s x =
        as_left world r (terminal_inside plain functions walk (world r s) x) (rebuilt_labeled rules x s)
        (subst (λ e. Agrees world r (terminal_inside plain functions walk (world r s) x) e)
        (sym (rebuilt-labeled rules x s))
        (made world r (parts_at plain functions walk (world r s) x.terminal) (rebuilt_terminal rules x.terminal s)
        (λ y. record { terminal = y; label = x.label })
        (subst (λ y. Agrees world r (parts_at plain functions walk (world r s) x.terminal) (rebuilt_terminal rules y s))
        (roll-out-ReactiveTerminal x.terminal)
        (parts_agree r s (out-ReactiveTerminal x.terminal)))))
