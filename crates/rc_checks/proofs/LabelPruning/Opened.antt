-- A terminal whose inside is pruned, from the results of the calls on its parts: one lemma for each form.
use Rattle.std.proofs.Common.{◌≡◌, List, [], ◌++◌, Option, Result, Ok, Err, OnOk, option_map, reverse, refl, ap}
use Rattle.std.proofs.lemmas.List.{append-nil, reverse-reverse}
use Rattle.std.proofs.lemmas.Result.{on_ok_weaker}
use Rattle.rc_checks.proofs.LabelPruning.PruningLemmas.{all_cases, all_of, as_block, same_if}
use Rattle.rc_tree.proofs.StepLemmas.{Ok-injective}
use Rattle.rc_checks.specs.inside.LabelPruning.{put_behind, opened}
use Rattle.rc_checks.specs.Labels.{Targets, label_rules}
use Rattle.rc_hir.specs.Model.{Fault, Place}
use Rattle.rc_names.specs.Numbers.{BlockId, EvaluationOrder}
use Rattle.rc_names.specs.declared.span.Span.{Span}
use Rattle.rc_tree.proofs.RebuiltLemmas.{rebuilt-block, rebuilt-Break, rebuilt-Continue, rebuilt-Return, rebuilt-Throw}
use Rattle.rc_tree.proofs.RebuiltLemmas.{rebuilt-Switch, rebuilt-DoWhile, rebuilt-While, rebuilt-For, rebuilt-ForOf}
use Rattle.rc_tree.proofs.RebuiltLemmas.{rebuilt-ForIn, rebuilt-If, rebuilt-Label, rebuilt-Try}
use Rattle.rc_tree.specs.Step.{bind}
use Rattle.rc_tree.specs.Rebuilt.{if_there, rebuilt_block, rebuilt_terminal}
use Rattle.rc_tree.specs.Model.{ReactiveTerminalTargetKind, ReactiveBlock, ReactiveStatement, ReactiveSwitchCase}
use Rattle.rc_tree.specs.Model.{ReactiveTerminal, ReactiveValue}
use Rattle.rc_tree.specs.declared.terminal.ReactiveTerminal.TheVariants as tree

-- two facts of a call that answers
on_ok_both : {E P Q R : Type 0} (r : Result (Unit {0}) E) → (P → Q → R) → OnOk r P → OnOk r Q → OnOk r R
on_ok_both (Ok a) f p q = f p q
on_ok_both (Err e) f p q = tt

-- a `Label` around a block
abbrev as_terminal : EvaluationOrder → Targets × ReactiveBlock → Result (Targets × ReactiveTerminal) Fault
as_terminal id a = Ok (a.0, tree.Label a.1 id)

-- a `Label` without statements
abbrev empty_label : EvaluationOrder → ReactiveTerminal
empty_label id = tree.Label (record { statements = [] }) id

module _ (done : List ReactiveStatement) (t : Targets) where
  -- pruning the terminal's inside leaves these
  abbrev Opens : ReactiveTerminal → Targets → ReactiveTerminal → List ReactiveStatement → Type 0
  Opens x t1 left done1 = opened done (rebuilt_terminal label_rules x t) ≡ Ok (t1, (left, done1))

  pub opened-Break : (target : BlockId) (kind : ReactiveTerminalTargetKind) (id : EvaluationOrder)
      → Opens (tree.Break target kind id) t (tree.Break target kind id) done
  opened-Break target kind id =
      rw (rebuilt-Break label_rules target kind id t, tree.outs-Break target kind id, append-nil done) refl

  pub opened-Continue : (target : BlockId) (kind : ReactiveTerminalTargetKind) (id : EvaluationOrder)
      → Opens (tree.Continue target kind id) t (tree.Continue target kind id) done
  opened-Continue target kind id =
      rw (rebuilt-Continue label_rules target kind id t, tree.outs-Continue target kind id, append-nil done) refl

  pub opened-Return : (value : Place) (id : EvaluationOrder)
      → Opens (tree.Return value id) t (tree.Return value id) done
  opened-Return value id =
      rw (rebuilt-Return label_rules value id t, tree.outs-Return value id, append-nil done) refl

  pub opened-Throw : (value : Place) (id : EvaluationOrder) → Opens (tree.Throw value id) t (tree.Throw value id) done
  opened-Throw value id = rw (rebuilt-Throw label_rules value id t, tree.outs-Throw value id, append-nil done) refl

  module _ {E : Type 0} (r : Result (Unit {0}) E) (t1 : Targets) where
    pub opened-Switch : (test : Place) (cases cases1 : List ReactiveSwitchCase) (id : EvaluationOrder)
        → OnOk r (all_cases cases t ≡ Ok (t1, cases1))
        → OnOk r (Opens (tree.Switch test cases id) t1 (tree.Switch test cases1 id) done)
    opened-Switch test cases cases1 id = on_ok_weaker r (λ h.
        rw (rebuilt-Switch label_rules test cases id t, h, tree.outs-Switch test cases1 id, append-nil done) refl)

    -- the statements of a `Label` are put after those that are done, and none are left in it
    pub opened-Label : (body : ReactiveBlock) (id : EvaluationOrder) (left done1 : List ReactiveStatement)
        → OnOk r (put_behind done (all_of (reverse (reverse body.statements)) t) ≡ Ok (t1, done1)) → OnOk r (left ≡ [])
        → OnOk r (Opens (tree.Label body id) t1 (tree.Label (record { statements = left }) id) done1)
    opened-Label body id left done1 = on_ok_both r (λ h k.
        rw (rebuilt-Label label_rules body id t, rebuilt-block label_rules body t, k)
        (by (all_of body.statements t) (rw (reverse-reverse body.statements) at h)))
      where
        by : (part : Result (Targets × List ReactiveStatement) Fault) → put_behind done part ≡ Ok (t1, done1)
            → opened done (bind (bind part as_block) (as_terminal id)) ≡ Ok (t1, (empty_label id, done1))
        by (Ok a) e =
            let same : ◌≡◌ {A = Targets × List ReactiveStatement} (a.0, done ++ a.1) (t1, done1) =
            Ok-injective (a.0, done ++ a.1) (t1, done1) e in
            rw (tree.outs-Label (record { statements = a.1 }) id)
            (ap (λ (b : Targets × List ReactiveStatement). Ok (b.0, (empty_label id, b.1))) same)
        by (Err fault) e = let bad : ⊥ = cc in absurd bad

    module _ (body body1 : ReactiveBlock) (id : EvaluationOrder) where
      -- the body is pruned
      abbrev Body : Type 0
      Body = rebuilt_block label_rules body t ≡ Ok (t1, body1)

      pub opened-DoWhile : (test : ReactiveValue) → OnOk r Body
          → OnOk r (Opens (tree.DoWhile body test id) t1 (tree.DoWhile body1 test id) done)
      opened-DoWhile test = on_ok_weaker r (λ h.
          rw (rebuilt-DoWhile label_rules body test id t, h, tree.outs-DoWhile body1 test id, append-nil done) refl)

      pub opened-While : (test : ReactiveValue) → OnOk r Body
          → OnOk r (Opens (tree.While test body id) t1 (tree.While test body1 id) done)
      opened-While test = on_ok_weaker r (λ h.
          rw (rebuilt-While label_rules test body id t, h, tree.outs-While test body1 id, append-nil done) refl)

      pub opened-For : (init test : ReactiveValue) (update : Option ReactiveValue) → OnOk r Body
          → OnOk r (Opens (tree.For init test update body id) t1 (tree.For init test update body1 id) done)
      opened-For init test update = on_ok_weaker r (λ h.
          rw (
            rebuilt-For label_rules init test update body id t,
            h,
            tree.outs-For init test update body1 id,
            append-nil done,
          ) refl)

      pub opened-ForOf : (init test : ReactiveValue) (span : Option Span) → OnOk r Body
          → OnOk r (Opens (tree.ForOf init test body span id) t1 (tree.ForOf init test body1 span id) done)
      opened-ForOf init test span = on_ok_weaker r (λ h.
          rw (
            rebuilt-ForOf label_rules init test body span id t,
            h,
            tree.outs-ForOf init test body1 span id,
            append-nil done,
          ) refl)

      pub opened-ForIn : (init : ReactiveValue) (span : Option Span) → OnOk r Body
          → OnOk r (Opens (tree.ForIn init body span id) t1 (tree.ForIn init body1 span id) done)
      opened-ForIn init span = on_ok_weaker r (λ h.
          rw (
            rebuilt-ForIn label_rules init body span id t,
            h,
            tree.outs-ForIn init body1 span id,
            append-nil done,
          ) refl)

      pub opened-If : (test : Place) (alternate alternate1 : Option ReactiveBlock) (t2 : Targets) → Body
          → OnOk r (if_there (option_map (rebuilt_block label_rules) alternate) t1 ≡ Ok (t2, alternate1))
          → OnOk r (Opens (tree.If test body alternate id) t2 (tree.If test body1 alternate1 id) done)
      opened-If test alternate alternate1 t2 h = on_ok_weaker r (λ k.
          rw (
            rebuilt-If label_rules test body alternate id t,
            h,
            same_if alternate t1,
            k,
            tree.outs-If test body1 alternate1 id,
            append-nil done,
          ) refl)

      pub opened-Try : (binding : Option Place) (handler handler1 : ReactiveBlock) (t2 : Targets) → Body
          → OnOk r (rebuilt_block label_rules handler t1 ≡ Ok (t2, handler1))
          → OnOk r (Opens (tree.Try body binding handler id) t2 (tree.Try body1 binding handler1 id) done)
      opened-Try binding handler handler1 t2 h = on_ok_weaker r (λ k.
          rw (
            rebuilt-Try label_rules body binding handler id t,
            h,
            k,
            tree.outs-Try body1 binding handler1 id,
            append-nil done,
          ) refl)
