-- Flattening, sequence by sequence.
use Rattle.std.proofs.Common.{ℕ, suc, ◌<◌, arith, ◌≡◌, List, ◌++◌, sym, ap, ◌∙◌, append_assoc}
use Rattle.std.proofs.lemmas.List.{append-nil}
use Rattle.rc_names.specs.Numbers.{EvaluationOrder}
use Rattle.rc_tree.specs.Model.{ReactiveInstruction, ReactiveValue}
use Rattle.rc_tree.specs.Opened.{IsOpened}
use Rattle.rc_tree.specs.declared.value.Opened.TheVariants as opened
use Rattle.rc_tree.specs.declared.value.ReactiveValue.{out-ReactiveValue}
use Rattle.rc_tree.specs.declared.value.ReactiveValue.TheVariants as reactive_values
use Rattle.rc_tree.specs.declared.value.ReactiveValue.TheOpen as value_layers
use Rattle.rc_runs.specs.PlainTree.{Value, Base, Logical, Conditional, Sequence, Optional}
use Rattle.rc_runs.specs.TreeOf.{instructions_of, value_of}
use Rattle.rc_runs.specs.Flattened.{flat_rows, final_value}
use Rattle.rc_runs.proofs.EveryBlockIsPlain.{every_value_is_plain}
use Rattle.rc_runs.proofs.TreeOfLemmas.{value_of-injective}
use Rattle.rc_build.specs.inside.Flattening.{FlatSoFar}
use Rattle.rc_build.proofs.ValueRowsLemmas.{instructions_of-rows_join}

-- how many sequences are inside each other
abbrev pub deep : Value → ℕ
deep (Sequence rows id value) = suc (deep value)
deep value = 0

abbrev pub sequences : ReactiveValue → ℕ
sequences value = deep (every_value_is_plain value).0

-- the parts of a sequence
sequence_parts : {front more : List ReactiveInstruction} {id other : EvaluationOrder} {value inner : ReactiveValue}
    → reactive_values.SequenceExpression front id value ≡ reactive_values.SequenceExpression more other inner
    → (front ≡ more) × (value ≡ inner)
sequence_parts {front} {more} {id} {other} {value} {inner} e =
    let layer : value_layers.SequenceExpression front id value ≡ value_layers.SequenceExpression more other inner =
    sym (reactive_values.outs-SequenceExpression front id value) ∙ ap out-ReactiveValue e
    ∙ reactive_values.outs-SequenceExpression more other inner in
    (cc, cc)

-- a value has more of them than the value after its rows
pub sequences_fewer : (value inner : ReactiveValue) (more : List ReactiveInstruction) (id : EvaluationOrder)
    → value ≡ reactive_values.SequenceExpression more id inner → sequences inner < sequences value
sequences_fewer value inner more id e =
    let whole = every_value_is_plain value in
    let behind = every_value_is_plain inner in
    go whole.0 (whole.1 ∙ e) behind.0 (sym behind.1)
  where
    go : (plain : Value) → value_of plain ≡ reactive_values.SequenceExpression more id inner → (last : Value)
        → inner ≡ value_of last → deep last < deep plain
    go (Sequence front own value) e last is =
        let parts = sequence_parts e in
        let same = value_of-injective last value (sym is ∙ sym parts.1) in
        omega (arith, ap deep same)
    go (Base value) e last is = let bad : ⊥ = cc in absurd bad
    go (Logical operator left right) e last is = let bad : ⊥ = cc in absurd bad
    go (Conditional test consequent alternate) e last is = let bad : ⊥ = cc in absurd bad
    go (Optional value optional) e last is = let bad : ⊥ = cc in absurd bad

-- the rows of one more sequence
pub flat_further : {plain : Value} {rows whole : List ReactiveInstruction} {value inner : ReactiveValue}
    (more : List ReactiveInstruction) (s : FlatSoFar plain rows value) → IsOpened value (opened.Sequence more inner) → whole ≡ rows ++ more
    → FlatSoFar plain whole inner
flat_further {plain} {rows} {whole} {value} {inner} more s o w = go s.rest (sym s.is ∙ o.1) s.rows_are s.final
  where
    go : (rest : Value) → value_of rest ≡ reactive_values.SequenceExpression more o.0 inner
        → instructions_of (flat_rows plain) ≡ rows ++ instructions_of (flat_rows rest)
        → final_value plain ≡ final_value rest → FlatSoFar plain whole inner
    go (Sequence front id behind) e are final =
        let parts = sequence_parts e in record {
          rest = behind;
          is = sym parts.1;
          rows_are = are ∙ ap (λ z. rows ++ z) (instructions_of-rows_join front (flat_rows behind))
              ∙ sym (append_assoc rows (instructions_of front) (instructions_of (flat_rows behind)))
              ∙ ap (λ z. (rows ++ z) ++ instructions_of (flat_rows behind)) parts.0
              ∙ ap (λ z. z ++ instructions_of (flat_rows behind)) (sym w);
          final = final;
        }
    go (Base value) e are final = let bad : ⊥ = cc in absurd bad
    go (Logical operator left right) e are final = let bad : ⊥ = cc in absurd bad
    go (Conditional test consequent alternate) e are final = let bad : ⊥ = cc in absurd bad
    go (Optional value optional) e are final = let bad : ⊥ = cc in absurd bad

-- the value after all sequences
pub flat_done : {plain : Value} {rows : List ReactiveInstruction} {value last : ReactiveValue}
    (s : FlatSoFar plain rows value) → IsOpened value (opened.Last last)
    → (rows ≡ instructions_of (flat_rows plain)) × (last ≡ value_of (final_value plain))
flat_done {plain} {rows} {value} {last} s o = go s.rest s.is s.rows_are s.final
  where
    go : (rest : Value) → value ≡ value_of rest
        → instructions_of (flat_rows plain) ≡ rows ++ instructions_of (flat_rows rest)
        → final_value plain ≡ final_value rest
        → (rows ≡ instructions_of (flat_rows plain)) × (last ≡ value_of (final_value plain))
    go (Sequence front id behind) e are final = absurd (o.1 (instructions_of front) id (value_of behind) e)
    go (Base value) e are final = (sym (are ∙ append-nil rows), o.0 ∙ e ∙ ap value_of (sym final))
    go (Logical operator left right) e are final =
        (sym (are ∙ append-nil rows), o.0 ∙ e ∙ ap value_of (sym final))
    go (Conditional test consequent alternate) e are final =
        (sym (are ∙ append-nil rows), o.0 ∙ e ∙ ap value_of (sym final))
    go (Optional value optional) e are final = (sym (are ∙ append-nil rows), o.0 ∙ e ∙ ap value_of (sym final))
