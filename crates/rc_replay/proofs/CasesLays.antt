-- What the arms of an `if` and the cases of a switch add to the table, from the last case to the first.
use Rattle.std.proofs.Common.{◌≡◌, ℕ, Bool, false, ◌||◌, List, [], ◌∷◌, ◌++◌, Option, Some, None, is_none, refl, sym, ap, ◌∙◌}
use Rattle.std.proofs.Common.{subst}
use Rattle.rc_names.specs.Numbers.{EvaluationOrder}
use Rattle.rc_hir.specs.Model.{Environment, Place}
use Rattle.rc_tree.specs.Model.{ReactiveBlock, ReactiveLabel, ReactiveTerminal}
use Rattle.rc_tree.specs.declared.terminal.ReactiveSwitchCase.{ReactiveSwitchCase, roll-ReactiveSwitchCase}
use Rattle.rc_tree.specs.declared.terminal.ReactiveTerminal.TheVariants as tree
use Rattle.rc_tree.specs.declared.statement.ReactiveStatement.TheViews.{out-ReactiveSwitchCase}
use Rattle.rc_tree.specs.declared.statement.ReactiveStatement.TheViews.{roll-out-ReactiveSwitchCase}
use Rattle.rc_runs.specs.BodyRun.{has_default}
use Rattle.rc_runs.specs.PlainTree.{If, Switch, Absent, Present, NoCases, Case}
use Rattle.rc_runs.specs.Returning.{returning_alternate, returning_cases, returning_terminal}
use Rattle.rc_replay.specs.declared.exits.Around.{Around}
use Rattle.rc_replay.specs.declared.exits.Exits.{Exits as LaidExits}
use Rattle.rc_replay.specs.declared.layout.Layout.{Layout}
use Rattle.rc_replay.specs.inside.LaidBody.{LaysPart, LaysAlternate, LaysCases, LaysSwitch, LaysTerminal}
use Rattle.rc_replay.specs.inside.LaidExits.{part_exits, laid_around, laid_before, laid_switch}
use Rattle.rc_replay.specs.inside.Layout.{Lays, Has}
use Rattle.rc_replay.specs.inside.Lowered.{LowersAlternate, all_choices}
use Rattle.rc_replay.specs.inside.Lowered as lower
use Rattle.rc_replay.specs.inside.Positions.{Choice, Chooses, Table, Tests}
use Rattle.rc_replay.proofs.LayoutLemmas.{lays_more, lays_none, lays_both}

module _ {env : Environment} where
  -- an optional block
  pub alternate_absent : {exits : LaidExits} {around : Around} {given : Option ReactiveBlock} {a : Layout} → given ≡ None
      → LaysAlternate env exits around given a a exits.normal
  unfolding returning_alternate
  alternate_absent is = record { plain = Absent; same = sym is; lays = lays_none (λ table. lower.absent) }

  pub alternate_present : {exits : LaidExits} {around : Around} {given : Option ReactiveBlock} {block : ReactiveBlock}
      {start : ℕ} {a b : Layout} → given ≡ Some block → LaysPart env exits around block a b start
      → LaysAlternate env exits around given a b start
  unfolding returning_alternate
  alternate_present is l = record {
    plain = Present l.plain;
    same = (λ i. Some (record { statements = l.same i })) ∙ sym is;
    lays = lays_more (λ table h. lower.present h) l.lays;
  }

module _ {env : Environment} {label : Option ReactiveLabel} where
  pub cases_begin : {a : Layout} (exits : LaidExits)
      → LaysCases env (laid_switch exits) (laid_around label exits) [] a a exits.normal [] false
  unfolding returning_cases
  cases_begin exits = record { plain = NoCases; same = refl; default = refl; lays = lays_none (λ table. lower.no_cases) }

  pub cases_step : {rest : List ReactiveSwitchCase} {x : LaidExits} {y : Around} {next start : ℕ} {choices : List Choice}
      {defaults : Bool} {a b c : Layout} (exits : LaidExits) (case : ReactiveSwitchCase) → x ≡ laid_before next (laid_switch exits)
      → y ≡ laid_around label exits
      → LaysCases env (laid_switch exits) (laid_around label exits) rest a b next choices defaults
      → LaysAlternate env x y (out-ReactiveSwitchCase case).block b c start
      → LaysCases env (laid_switch exits) (laid_around label exits) (case ∷ rest) a c start
      (choices ++ ((out-ReactiveSwitchCase case).test, start) ∷ [])
      (is_none (out-ReactiveSwitchCase case).test || defaults)
  unfolding returning_cases
  cases_step {rest} {x} {y} {next} {start} {b = b} {c} exits case p q following inner =
      let form = out-ReactiveSwitchCase case in
      let own : LaysAlternate env (laid_before next (laid_switch exits)) (laid_around label exits) form.block b c start =
      subst (λ y. LaysAlternate env (laid_before next (laid_switch exits)) y form.block b c start) q
      (subst (λ x. LaysAlternate env x y form.block b c start) p inner) in
      record {
        plain = Case form.test own.plain following.plain;
        same = (λ i. roll-ReactiveSwitchCase (record { test = form.test; block = own.same i }) ∷ following.same i)
            ∙ ap (λ c. c ∷ rest) (roll-out-ReactiveSwitchCase case);
        default = ap (λ d. is_none form.test || d) following.default;
        lays = lays_more (λ table h. lower.one_case h.0 (subst (λ labels. LowersAlternate table env
            (part_exits (laid_before next (laid_switch exits)) (laid_around label exits) labels)
            (returning_alternate env own.plain) start) following.lays.labels h.1)) (lays_both following.lays own.lays);
      }

module _ {env : Environment} {exits : LaidExits} {label : Option ReactiveLabel} where
  pub lays_if : {terminal : ReactiveTerminal} {place : Place} {consequent : ReactiveBlock}
      {alternate : Option ReactiveBlock} {x y : Around} {holds fails start : ℕ} {a b c d : Layout}
      (stored : Option Place) (id : EvaluationOrder) → terminal ≡ tree.If place consequent alternate id
      → x ≡ laid_around label exits → y ≡ laid_around label exits → LaysPart env exits x consequent a b holds
      → LaysAlternate env exits y alternate b c fails → Lays c d (Has start (Tests holds fails))
      → LaysTerminal env stored exits label terminal a d start
  unfolding returning_terminal
  lays_if {place = place} {consequent} {alternate} {x} {y} {holds} {fails} {a = a} {b} {c} stored id is p q first second
      tests =
      let one : LaysPart env exits (laid_around label exits) consequent a b holds =
      subst (λ x. LaysPart env exits x consequent a b holds) p first in
      let other : LaysAlternate env exits (laid_around label exits) alternate b c fails =
      subst (λ y. LaysAlternate env exits y alternate b c fails) q second in
      record {
        plain = If place one.plain other.plain id;
        same = (λ i. tree.If place (record { statements = one.same i }) (other.same i) id) ∙ sym is;
        lays = lays_more (λ table h. lower.tests h.0.0 (subst (λ labels. LowersAlternate table env
            (part_exits exits (laid_around label exits) labels) (returning_alternate env other.plain) fails)
            one.lays.labels h.0.1) h.1) (lays_both (lays_both one.lays other.lays) tests);
      }

  pub lays_switch : {cases : List ReactiveSwitchCase} {first start : ℕ} {choices : List Choice} {defaults : Bool}
      {a b c : Layout} → LaysCases env (laid_switch exits) (laid_around label exits) cases a b first choices defaults
      → Lays b c (Has start (Chooses (all_choices defaults exits.normal choices)))
      → LaysSwitch env exits label cases a c start
  unfolding returning_terminal
  lays_switch {start = start} {choices} l last stored test id = record {
    plain = Switch test l.plain id;
    same = λ i. tree.Switch test (l.same i) id;
    lays = lays_more (λ table h. lower.switches h.0 (subst (λ d. table start
        ≡ Some (Chooses (all_choices d exits.normal choices))) (sym l.default) h.1)) (lays_both l.lays last);
  }
