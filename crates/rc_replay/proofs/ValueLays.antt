-- What the parts of a value add to the table is what the value adds.
use Rattle.std.proofs.Common.{◌≡◌, ℕ, Bool, true, false, ◌&&◌, List, [], ◌∷◌, Option, Some, None, refl, sym, ap, ◌∙◌, subst}
use Rattle.std.specs.Prelude.{if◌then◌else◌}
use Rattle.rc_names.specs.Numbers.{EvaluationOrder}
use Rattle.rc_hir.specs.Model.{Environment, InstructionValue, LogicalOperator}
use Rattle.rc_tree.specs.Model.{ReactiveInstruction, ReactiveValue}
use Rattle.rc_tree.specs.declared.value.ReactiveValue.{ReactiveValue-F, out-ReactiveValue, roll-ReactiveValue}
use Rattle.rc_tree.specs.declared.value.ReactiveValue.{roll-out-ReactiveValue}
use Rattle.rc_tree.specs.declared.value.ReactiveValue.TheOpen as layers
use Rattle.rc_tree.specs.declared.value.ReactiveValue.TheVariants as values
use Rattle.rc_runs.specs.Silent.{is_unset, is_silent_value}
use Rattle.rc_runs.specs.PlainTree.{Value, Base, Logical, Conditional, Sequence, Optional, NoRows, Row}
use Rattle.rc_runs.specs.TreeOf.{value_of}
use Rattle.rc_runs.specs.ValueRun.{is_test_and_rest}
use Rattle.rc_replay.specs.declared.layout.After.{After}
use Rattle.rc_replay.specs.declared.layout.Layout.{Layout}
use Rattle.rc_replay.specs.inside.Layout.{Lays, Has, LaysValue, LaysRows, LaysRow, LaysOptional, both, chain_of}
use Rattle.rc_replay.specs.inside.LoweredValue.{silent, visible, sequence, conditional, logical, optional_chain}
use Rattle.rc_replay.specs.inside.LoweredValue.{other_optional, no_rows, one_row, unset, set}
use Rattle.rc_replay.specs.inside.Positions.{Computes, Tests}
use Rattle.rc_replay.proofs.LayoutLemmas.{lays_more, lays_none, lays_both}

-- a value that is laid out for an equal one
pub at_both : {env : Environment} {is_test : Bool} {value other : ReactiveValue} {after : After} {next start : ℕ}
    {a b : Layout} → other ≡ value → after ≡ both next → LaysValue env is_test other after a b start
    → LaysValue env is_test value (both next) a b start
at_both {env} {is_test} {value} {start = start} {a} {b} v e l =
    subst (λ after. LaysValue env is_test value after a b start) e
    (record { plain = l.plain; same = l.same ∙ v; lays = l.lays })

-- a value is laid out as an equal one
pub equal_value : {env : Environment} {is_test : Bool} {value other : ReactiveValue} {after : After} {start : ℕ}
    {a b : Layout} → other ≡ value → LaysValue env is_test other after a b start
    → LaysValue env is_test value after a b start
equal_value v l = record { plain = l.plain; same = l.same ∙ v; lays = l.lays }

-- the form of a plain value's tree
out-plain : (value : Value) → chain_of (out-ReactiveValue (value_of value)) ≡ None → is_test_and_rest value ≡ false
out-plain (Base value) e = refl
out-plain (Logical operator left right) e = refl
out-plain (Conditional test consequent alternate) e = refl
out-plain (Sequence NoRows id value) e = refl
out-plain (Sequence (Row own target inner span NoRows) id value) e =
    let out = ap chain_of (values.outs-SequenceExpression (record {
      id = own;
      lvalue = target;
      value = value_of inner;
      span =
          span;
    } ∷ []) id (value_of value)) in
    absurd (let bad : ⊥ = cc in bad)
out-plain (Sequence (Row own target inner span (Row a b c d rest)) id value) e = refl
out-plain (Optional value optional) e = refl

-- a sequence of one row
chained : (value : ReactiveValue) {row : ReactiveInstruction} {id : EvaluationOrder} {rest : ReactiveValue}
    → chain_of (out-ReactiveValue value) ≡ Some (row, id, rest) → value ≡ values.SequenceExpression (row ∷ []) id rest
chained value {row} {id} {rest} e =
    sym (roll-out-ReactiveValue value) ∙ by (out-ReactiveValue value) e
  where
    by : (form : ReactiveValue-F ReactiveValue ReactiveInstruction) → chain_of form ≡ Some (row, id, rest)
        → roll-ReactiveValue form ≡ values.SequenceExpression (row ∷ []) id rest
    by (layers.SequenceExpression (own ∷ []) other value) e =
        let whole : (own, other, value) ≡ (row, id, rest) = cc in
        let first = ap (λ (t : ReactiveInstruction × EvaluationOrder × ReactiveValue). t.0) whole in
        let second = ap (λ (t : ReactiveInstruction × EvaluationOrder × ReactiveValue). t.1) whole in
        let third = ap (λ (t : ReactiveInstruction × EvaluationOrder × ReactiveValue). t.2) whole in
        values.rolls-SequenceExpression (own ∷ []) other value
        ∙ λ i. values.SequenceExpression (first i ∷ []) (second i) (third i)
    by (layers.SequenceExpression [] other value) e = absurd (let bad : ⊥ = cc in bad)
    by (layers.SequenceExpression (own ∷ next ∷ rows) other value) e = absurd (let bad : ⊥ = cc in bad)
    by (layers.Instruction value) e = absurd (let bad : ⊥ = cc in bad)
    by (layers.LogicalExpression operator left right) e = absurd (let bad : ⊥ = cc in bad)
    by (layers.ConditionalExpression test consequent alternate) e = absurd (let bad : ⊥ = cc in bad)
    by (layers.OptionalExpression value optional) e = absurd (let bad : ⊥ = cc in bad)

module _ {env : Environment} {is_test : Bool} {after : After} where
  pub lays_silent : {value : InstructionValue} {a : Layout} → is_silent_value env value ≡ true
      → LaysValue env is_test (values.Instruction value) after a a after.done
  lays_silent {value} e = record { plain = Base value; same = refl; lays = lays_none (λ table. silent e) }

  pub lays_visible : {value : InstructionValue} {start : ℕ} {a b : Layout} → is_silent_value env value ≡ false
      → Lays a b (Has start (Computes value after.done))
      → LaysValue env is_test (values.Instruction value) after a b start
  lays_visible {value} e l =
      record { plain = Base value; same = refl; lays = lays_more (λ table found. visible e found) l }

  pub lays_logical : {value left right r l : ReactiveValue} {x y : After} {fails branch start : ℕ} {a b c d : Layout}
      (operator : LogicalOperator) → value ≡ values.LogicalExpression operator left right → r ≡ right → l ≡ left
      → x ≡ both after.done → y ≡ both branch → LaysValue env false r x a b fails
      → Lays b c (Has branch (Tests after.done fails)) → LaysValue env false l y c d start
      → LaysValue env is_test value after a d start
  lays_logical operator is r l p q right branch left =
      let s = at_both r p right in
      let t = at_both l q left in
      record {
        plain = Logical operator t.plain s.plain;
        same = (λ i. values.LogicalExpression operator (t.same i) (s.same i)) ∙ sym is;
        lays = lays_more (λ table h. logical h.0.0 h.0.1 h.1) (lays_both (lays_both s.lays branch) t.lays);
      }

  pub lays_conditional : {value test consequent alternate t m n : ReactiveValue} {x y z : After}
      {holds fails branch start : ℕ} {a b c d e : Layout}
      → value ≡ values.ConditionalExpression test consequent alternate → m ≡ consequent → n ≡ alternate → t ≡ test
      → x ≡ both after.done → y ≡ both after.done → z ≡ both branch → LaysValue env false m x a b holds
      → LaysValue env false n y b c fails → Lays c d (Has branch (Tests holds fails))
      → LaysValue env false t z d e start → LaysValue env is_test value after a e start
  lays_conditional is m n t p q r consequent alternate branch test =
      let x = at_both m p consequent in
      let y = at_both n q alternate in
      let z = at_both t r test in
      record {
        plain = Conditional z.plain x.plain y.plain;
        same = (λ i. values.ConditionalExpression (z.same i) (x.same i) (y.same i)) ∙ sym is;
        lays = lays_more (λ table h. conditional h.0.0.0 h.0.0.1 h.0.1 h.1)
            (lays_both (lays_both (lays_both x.lays y.lays) branch) z.lays);
      }

  pub lays_sequence : {value inner last : ReactiveValue} {rows others : List ReactiveInstruction} {start : ℕ}
      {a b : Layout} (id : EvaluationOrder) → value ≡ values.SequenceExpression rows id inner → others ≡ rows
      → last ≡ inner → LaysRows env is_test others last after a b start → LaysValue env is_test value after a b start
  lays_sequence id is same same_last l =
      let rows = l.same_rows ∙ same in
      let last = l.same ∙ same_last in
      record {
        plain = Sequence l.rows_plain id l.plain;
        same = (λ i. values.SequenceExpression (rows i) id (last i)) ∙ sym is;
        lays = lays_more (λ table h. sequence h) l.lays;
      }

  pub lays_optional : {value inner other : ReactiveValue} {start : ℕ} {a b : Layout} (optional : Bool)
      → value ≡ values.OptionalExpression inner optional → other ≡ inner
      → LaysOptional env is_test other after a b start → LaysValue env is_test value after a b start
  lays_optional optional is same l =
      let whole = l optional in
      record {
        plain = whole.plain;
        same = whole.same ∙ ap (λ v. values.OptionalExpression v optional) same ∙ sym is;
        lays = whole.lays;
      }

  -- an optional of the form that graphs spell
  pub lays_chain : {rest : ReactiveValue} {row : ReactiveInstruction} {id : EvaluationOrder} {x y : After}
      {holds branch start : ℕ} {a b c d : Layout} (value : ReactiveValue) → chain_of (out-ReactiveValue value) ≡ Some (row, id, rest)
      → x ≡ both after.done → y ≡ record { done = branch; short = after.short } → LaysValue env false rest x a b holds
      → Lays b c (Has branch (Tests holds after.short)) → LaysRow env true row y c d start
      → LaysOptional env is_test value after a d start
  lays_chain {rest} {row} {id} {branch = branch} {start} {c = c} {d} value is p q inner tests test optional =
      let s = at_both refl p inner in
      let t : LaysRow env true row (record { done = branch; short = after.short }) c d start =
      subst (λ y. LaysRow env true row y c d start) q test in
      let rows : record { id = row.id; lvalue = row.lvalue; value = value_of t.plain; span = row.span } ∷ [] ≡ row ∷ [] =
      λ i. record { id = row.id; lvalue = row.lvalue; value = t.same i; span = row.span } ∷ [] in
      record {
        plain = Optional (Sequence (Row row.id row.lvalue t.plain row.span NoRows) id s.plain) optional;
        same = (λ i. values.OptionalExpression (values.SequenceExpression (rows i) id (s.same i)) optional)
            ∙ ap (λ v. values.OptionalExpression v optional) (sym (chained value is));
        lays = lays_more (λ table h. optional_chain h.0.0 h.0.1 h.1) (lays_both (lays_both s.lays tests) t.lays);
      }

  -- an optional of another form
  pub lays_other : {x : After} {start : ℕ} {a b : Layout} (value : ReactiveValue)
      → chain_of (out-ReactiveValue value) ≡ None → x ≡ both after.done → LaysValue env false value x a b start
      → LaysOptional env is_test value after a b start
  lays_other value none p inner optional =
      let s = at_both refl p inner in
      let other = out-plain s.plain (ap (λ v. chain_of (out-ReactiveValue v)) s.same ∙ none) in
      record {
        plain = Optional s.plain optional;
        same = ap (λ v. values.OptionalExpression v optional) s.same;
        lays = lays_more (λ table h. other_optional other h) s.lays;
      }

  pub lays_unset : {row : ReactiveInstruction} {a : Layout} (plain : Value) → value_of plain ≡ row.value
      → is_unset row.id ≡ true → LaysRow env is_test row after a a after.done
  lays_unset plain same u = record { plain = plain; same = same; lays = lays_none (λ table. unset u) }

  pub lays_set : {row : ReactiveInstruction} {start : ℕ} {a b : Layout} → is_unset row.id ≡ false
      → LaysValue env is_test row.value after a b start → LaysRow env is_test row after a b start
  lays_set s l = record { plain = l.plain; same = l.same; lays = lays_more (λ table h. set s h) l.lays }
