-- What a loop adds to the table is what its statement adds, for each of the five kinds of loops.
use Rattle.std.proofs.Common.{◌≡◌, ℕ, List, Option, Some, None, option_map, false, refl, sym, ap, ◌∙◌, subst}
use Rattle.rc_names.specs.Numbers.{EvaluationOrder}
use Rattle.rc_names.specs.declared.span.Span.{Span}
use Rattle.rc_hir.specs.Model.{Environment, Place}
use Rattle.rc_tree.specs.Model.{ReactiveBlock, ReactiveLabel, ReactiveTerminal, ReactiveValue}
use Rattle.rc_tree.specs.declared.terminal.ReactiveTerminal.TheVariants as tree
use Rattle.rc_runs.specs.PlainTree.{Value, While, DoWhile, For, ForOf, ForIn}
use Rattle.rc_runs.specs.Returning.{returning_after, returning_terminal}
use Rattle.rc_runs.specs.TreeOf.{value_of}
use Rattle.rc_replay.specs.declared.exits.Exits.{Exits as LaidExits}
use Rattle.rc_replay.specs.declared.layout.After.{After}
use Rattle.rc_replay.specs.declared.layout.Layout.{Layout}
use Rattle.rc_replay.specs.declared.layout.Turns.{Turns}
use Rattle.rc_replay.specs.inside.LaidBody.{LaysLoop, LaysTerminal}
use Rattle.rc_replay.specs.inside.LaidExits.{exits_of}
use Rattle.rc_replay.specs.inside.Layout.{LaysValue, both}
use Rattle.rc_replay.specs.inside.Lowered.{LowersLoop}
use Rattle.rc_replay.specs.inside.Lowered as lower
use Rattle.rc_replay.proofs.LayoutLemmas.{lays_more, lays_both}
use Rattle.rc_replay.proofs.ValueLays.{at_both}

-- the plain value before the test
no_value : (plain : Option Value) → option_map value_of plain ≡ None → plain ≡ None
no_value None e = refl
no_value (Some value) e = absurd (let bad : ⊥ = cc in bad)

one_value : (plain : Option Value) {value : ReactiveValue} → option_map value_of plain ≡ Some value
    → (inner : Value) × (plain ≡ Some inner) × (value_of inner ≡ value)
one_value None e = absurd (let bad : ⊥ = cc in bad)
one_value (Some inner) e = (inner, refl, cc)

module _ {env : Environment} {exits : LaidExits} {label : Option ReactiveLabel} where
  pub lays_while : {terminal : ReactiveTerminal} {test given : ReactiveValue} {body : ReactiveBlock} {turns : Turns}
      {a b : Layout} (stored : Option Place) (id : EvaluationOrder) → terminal ≡ tree.While test body id → given ≡ test
      → LaysLoop env exits label None given body a b turns → LaysTerminal env stored exits label terminal a b turns.test
  unfolding returning_terminal
  lays_while {turns = turns} {a} stored id is same l = record {
    plain = While l.plain_test l.plain_body id;
    same = (λ i. tree.While ((l.same_test ∙ same) i) (record { statements = l.same_body i }) id) ∙ sym is;
    lays = lays_more (λ table h. lower.while_loop (subst (λ v. LowersLoop table env (exits_of exits a.labels) label
        (record { before = v; test = l.plain_test; body = returning_after env None l.plain_body }) turns.turn turns.test
        turns.body) (no_value l.plain_before l.same_before) h)) l.lays;
  }

  pub lays_do_while : {terminal : ReactiveTerminal} {test given : ReactiveValue} {body : ReactiveBlock} {turns : Turns}
      {a b : Layout} (stored : Option Place) (id : EvaluationOrder) → terminal ≡ tree.DoWhile body test id
      → given ≡ test → LaysLoop env exits label None given body a b turns
      → LaysTerminal env stored exits label terminal a b turns.body
  unfolding returning_terminal
  lays_do_while {turns = turns} {a} stored id is same l = record {
    plain = DoWhile l.plain_body l.plain_test id;
    same = (λ i. tree.DoWhile (record { statements = l.same_body i }) ((l.same_test ∙ same) i) id) ∙ sym is;
    lays = lays_more (λ table h. lower.do_while_loop (subst (λ v. LowersLoop table env (exits_of exits a.labels) label
        (record { before = v; test = l.plain_test; body = returning_after env None l.plain_body }) turns.turn turns.test
        turns.body) (no_value l.plain_before l.same_before) h)) l.lays;
  }

  pub lays_for_in : {terminal : ReactiveTerminal} {init given : ReactiveValue} {body : ReactiveBlock} {turns : Turns}
      {a b : Layout} (stored : Option Place) (span : Option Span) (id : EvaluationOrder)
      → terminal ≡ tree.ForIn init body span id → given ≡ init → LaysLoop env exits label None given body a b turns
      → LaysTerminal env stored exits label terminal a b turns.test
  unfolding returning_terminal
  lays_for_in {turns = turns} {a} stored span id is same l = record {
    plain = ForIn l.plain_test l.plain_body span id;
    same = (λ i. tree.ForIn ((l.same_test ∙ same) i) (record { statements = l.same_body i }) span id) ∙ sym is;
    lays = lays_more (λ table h. lower.for_in_loop (subst (λ v. LowersLoop table env (exits_of exits a.labels) label
        (record { before = v; test = l.plain_test; body = returning_after env None l.plain_body }) turns.turn turns.test
        turns.body) (no_value l.plain_before l.same_before) h)) l.lays;
  }

  pub lays_for_of : {terminal : ReactiveTerminal} {init test given before : ReactiveValue} {body : ReactiveBlock}
      {turns : Turns} {a b : Layout} (stored : Option Place) (span : Option Span) (id : EvaluationOrder)
      → terminal ≡ tree.ForOf init test body span id → before ≡ init → given ≡ test
      → LaysLoop env exits label (Some before) given body a b turns
      → LaysTerminal env stored exits label terminal a b turns.turn
  unfolding returning_terminal
  lays_for_of {turns = turns} {a} stored span id is first same l =
      let value = one_value l.plain_before l.same_before in
      record {
        plain = ForOf value.0 l.plain_test l.plain_body span id;
        same = (λ i. tree.ForOf ((value.2 ∙ first) i) ((l.same_test ∙ same) i) (record { statements = l.same_body i })
            span id) ∙ sym is;
        lays = lays_more (λ table h. lower.for_of_loop (subst (λ v. LowersLoop table env (exits_of exits a.labels) label
            (record { before = v; test = l.plain_test; body = returning_after env None l.plain_body }) turns.turn
            turns.test turns.body) value.1 h)) l.lays;
      }

  pub lays_for : {terminal : ReactiveTerminal} {init test given first : ReactiveValue}
      {update before : Option ReactiveValue} {body : ReactiveBlock} {turns : Turns} {x : After} {start : ℕ} {a b c : Layout}
      (stored : Option Place) (id : EvaluationOrder) → terminal ≡ tree.For init test update body id → given ≡ test
      → before ≡ update → first ≡ init → LaysLoop env exits label before given body a b turns
      → x ≡ both turns.test → LaysValue env false first x b c start
      → LaysTerminal env stored exits label terminal a c start
  unfolding returning_terminal
  lays_for stored id is same next own l p init =
      let value = at_both own p init in
      record {
        plain = For value.plain l.plain_test l.plain_before l.plain_body id;
        same = (λ i. tree.For (value.same i) ((l.same_test ∙ same) i) ((l.same_before ∙ next) i)
            (record { statements = l.same_body i }) id) ∙ sym is;
        lays = lays_more (λ table h. lower.for_loop h.0 h.1) (lays_both l.lays value.lays);
      }
