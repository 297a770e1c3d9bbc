-- The rows of a value's block, number by number, and as rows of a sequence.
use Rattle.std.proofs.Common.{◌≡◌, Bool, true, false, List, [], ◌∷◌, ◌++◌, Option, Some, None, ◌||◌, refl, sym, ap, ◌∙◌}
use Rattle.std.proofs.Common.{ℕ, Result, Ok, Err, IfOk, ◌<◌, ◌+◌, length, take, get_or, subst, map, eq-eqb}
use Rattle.std.proofs.lemmas.List.{map-append}
use Rattle.std.specs.Prelude.{slice_get}
use Rattle.std.specs.List.{list_any}
use Rattle.std.proofs.lemmas.Bool.{or_parts}
use Rattle.std.proofs.lemmas.List.Folds.{list_any_at}
use Rattle.rc_names.specs.Numbers.{BlockId, InstructionId, EvaluationOrder, same_id, is_among}
use Rattle.rc_names.specs.declared.span.Span.{Span}
use Rattle.rc_names.proofs.NumbersLemmas.{same_id-eq}
use Rattle.rc_hir.specs.Model.{Place, Instruction, HirFunction}
use Rattle.rc_hir.specs.declared.fault.Fault.TheVariants as faults
use Rattle.rc_hir.specs.declared.fault.TableName.TheVariants as table_names
use Rattle.rc_tree.specs.Model.{ReactiveInstruction, ReactiveValue}
use Rattle.rc_tree.specs.declared.value.ReactiveValue.TheVariants as reactive_values
use Rattle.rc_runs.specs.Graph.{rows_of}
use Rattle.rc_runs.specs.Silent.{is_unset}
use Rattle.rc_runs.specs.PlainTree.{Value, Sequence, Rows, NoRows, Row}
use Rattle.rc_runs.specs.TreeOf.{instructions_of, value_of}
use Rattle.rc_runs.specs.LastRow.{rows_then, after_rows}
use Rattle.rc_runs.specs.Flattened.{rows_join}
use Rattle.rc_build.specs.RuleFacts.{FaultFact}
use Rattle.rc_build.specs.inside.ValueLoops.{value_behind}
use Rattle.rc_build.specs.inside.ValueRows.{AreListed, HasRow, HasRows, behind_rows, row_of}
use Rattle.rc_build.proofs.RowsLemmas.{first_row, none_more, rows_more}

module _ (hir : HirFunction) where
  -- a number that the block lists, and under which there is no row
  pub lacks_row : (key : BlockId) (number : InstructionId) → AreListed hir key (number ∷ [])
      → slice_get hir.instructions number.0 ≡ None →
      FaultFact hir (faults.BadName table_names.Instructions number.0)
  lacks_row key number listed none = (
    none,
    (
      key,
      record {
        block = listed.block;
        found = listed.found;
        holds = listed.holds number (ap (λ b. b || false) (eq-eqb number.0 number.0 refl));
      },
    ),
  )

  -- one more row of a sequence
  pub rows_further : (numbers : List InstructionId) (i : ℕ) (d : InstructionId) (row : Instruction)
      (mid whole : List ReactiveInstruction) (made : ReactiveInstruction) → i < length numbers
      → HasRows hir (take i numbers) mid → HasRow hir (get_or numbers i d) row → made ≡ row_of row
      → whole ≡ mid ++ made ∷ [] → HasRows hir (take (i + 1) numbers) whole
  rows_further numbers i d row mid whole made lt h has is e = record {
    rows = h.rows ++ row ∷ [];
    filled = rows_more hir.instructions numbers i d h.rows row lt h.filled has.found;
    set = none_more h.rows row h.set has.set;
    is = e ∙ ap (λ z. z ++ made ∷ []) h.is ∙ ap (λ z. map row_of h.rows ++ z ∷ []) is
        ∙ sym (map-append row_of h.rows (row ∷ []));
  }

  -- a number among those of rows is that of one of them
  pub row_among : (numbers : List InstructionId) (number : InstructionId) (rows : List Instruction)
      → is_among numbers number ≡ true → rows_of hir.instructions numbers ≡ Some rows
      → list_any (λ row. is_unset row.id) rows ≡ false → (row : Instruction) × HasRow hir number row
  row_among [] number rows among filled set = let bad : ⊥ = cc in absurd bad
  row_among (head ∷ numbers) number rows among filled set =
      let first = first_row hir.instructions head numbers rows filled in
      let parts = or_parts (is_unset first.row.id) (list_any (λ (row : Instruction). is_unset row.id) first.rest)
      (subst (λ z. list_any (λ (row : Instruction). is_unset row.id) z ≡ false) first.whole set) in
      go (same_id number head) refl among first.row first.first parts.0
      (λ later. row_among numbers number first.rest later first.later parts.1)
    where
      go : (same : Bool) → same_id number head ≡ same → (same || is_among numbers number) ≡ true → (row : Instruction)
          → slice_get hir.instructions head.0 ≡ Some row → is_unset row.id ≡ false
          → (is_among numbers number ≡ true → (row : Instruction) × HasRow hir number row)
          → (row : Instruction) × HasRow hir number row
      go true q among row found set later = (
        row,
        record {
          found = subst (λ (n : InstructionId). slice_get hir.instructions n.0 ≡ Some row)
              (sym (same_id-eq number head q)) found;
          set = set;
        },
      )
      go false q among row found set later = later among

-- the rows of a block as those of a sequence
pub instructions_of-rows_then : (rows : List Instruction) → instructions_of (rows_then rows NoRows) ≡ map row_of rows
instructions_of-rows_then [] = refl
instructions_of-rows_then (row ∷ rows) = ap (λ z. row_of row ∷ z) (instructions_of-rows_then rows)

pub instructions_of-rows_join : (rows more : Rows)
    → instructions_of (rows_join rows more) ≡ instructions_of rows ++ instructions_of more
instructions_of-rows_join NoRows more = refl
instructions_of-rows_join (Row id target value span rest) more =
    ap (λ z. record { id = id; lvalue = target; value = value_of value; span = span } ∷ z)
    (instructions_of-rows_join rest more)

-- a boxed value that is this one
pub boxed_is : {A E : Type 0} {made whole : A} (result : Result A E) → IfOk result (λ boxed. boxed ≡ made)
    → made ≡ whole → IfOk result (λ boxed. boxed ≡ whole)
boxed_is (Ok boxed) is same = is ∙ same
boxed_is (Err error) is same = tt

-- a value with rows before it is a sequence
pub sequence_is : (rows : List ReactiveInstruction) (id : EvaluationOrder) (value : ReactiveValue) → (rows ≡ [] → ⊥)
    → reactive_values.SequenceExpression rows id value ≡ behind_rows rows id value
sequence_is [] id value some = absurd (some refl)
sequence_is (row ∷ rows) id value some = refl

-- a value after rows, whether they are of the program's tree, of a plain tree or of the graph
pub behind_instructions : (rows : Rows) (id : EvaluationOrder) (value : Value)
    → behind_rows (instructions_of rows) id (value_of value) ≡ value_of (value_behind rows id value)
behind_instructions NoRows id value = refl
behind_instructions (Row own target base span rest) id value = refl

pub behind_block : (rows : List Instruction) (id : EvaluationOrder) (value : Value)
    → value_behind (rows_then rows NoRows) id value ≡ after_rows rows id value
behind_block [] id value = refl
behind_block (row ∷ rows) id value = refl

pub behind_made : (rows : List Instruction) (id : EvaluationOrder) (value : Value)
    → behind_rows (map row_of rows) id (value_of value) ≡ value_of (after_rows rows id value)
behind_made rows id value = ap (λ z. behind_rows z id (value_of value)) (sym (instructions_of-rows_then rows))
    ∙ behind_instructions (rows_then rows NoRows) id value ∙ ap value_of (behind_block rows id value)

-- rows that end in the row of a value terminal
pub behind_row : (rows : List Instruction) (own : EvaluationOrder) (target : Option Place) (base : Value)
    (span : Option Span) (id : EvaluationOrder) (value : Value)
    → value_behind (rows_then rows (Row own target base span NoRows)) id value
    ≡ Sequence (rows_then rows (Row own target base span NoRows)) id value
behind_row [] own target base span id value = refl
behind_row (row ∷ rows) own target base span id value = refl

-- the row of a number among those of rows, by its place
pub row_at : (hir : HirFunction) (numbers : List InstructionId) (i : ℕ) (d : InstructionId)
    (made : List ReactiveInstruction) → i < length numbers → HasRows hir numbers made
    → (row : Instruction) × HasRow hir (get_or numbers i d) row
row_at hir numbers i d made lt h = row_among hir numbers (get_or numbers i d) h.rows
    (list_any_at (same_id (get_or numbers i d)) numbers i d lt
    (eq-eqb (get_or numbers i d).0 (get_or numbers i d).0 refl)) h.filled h.set
