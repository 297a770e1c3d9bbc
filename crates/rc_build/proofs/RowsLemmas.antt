-- The rows that numbers name, number by number.
use Rattle.std.proofs.Common.{◌≡◌, ℕ, ◌<◌, ◌+◌, Bool, true, false, List, [], ◌∷◌, ◌++◌, Option, Some, None, ◌||◌}
use Rattle.std.proofs.Common.{length, take, get_or, map, refl, sym, ap, ◌∙◌, subst, eqb-true, true≢false, append_assoc}
use Rattle.std.specs.Prelude.{nat_eq, slice_get, option_map, option_and_then}
use Rattle.std.specs.List.{list_any}
use Rattle.std.proofs.lemmas.Bool.{and_parts, not-true, or_left, or_right}
use Rattle.std.proofs.lemmas.List.{take_more, map-append}
use Rattle.std.proofs.lemmas.List.Folds.{list_any-append}
use Rattle.rc_names.specs.Numbers.{InstructionId}
use Rattle.rc_hir.specs.Model.{Instruction, BasicBlock, HirFunction}
use Rattle.rc_tree.specs.Model.{ReactiveStatement}
use Rattle.rc_runs.specs.Graph.{rows_of}
use Rattle.rc_runs.specs.Silent.{is_unset}
use Rattle.rc_build.specs.inside.Rows.{HasIds, RowsSoFar, row_statement_of}

module _ (all : List Instruction) where
  -- what the rows of a number and of further ones are
  pub record FirstRow (number : InstructionId) (numbers : List InstructionId) (rows : List Instruction) : Type 0 where
    pub row : Instruction
    pub rest : List Instruction
    pub first : slice_get all number.0 ≡ Some row
    pub later : rows_of all numbers ≡ Some rest
    pub whole : rows ≡ row ∷ rest

  pub first_row : (number : InstructionId) (numbers : List InstructionId) (rows : List Instruction)
      → rows_of all (number ∷ numbers) ≡ Some rows → FirstRow number numbers rows
  first_row number numbers rows e = go (slice_get all number.0) refl (rows_of all numbers) refl e
    where
      go : (a : Option Instruction) → slice_get all number.0 ≡ a → (b : Option (List Instruction))
          → rows_of all numbers ≡ b →
          option_and_then (λ row. option_map (λ rest. row ∷ rest) b) a ≡ Some rows → FirstRow number numbers rows
      go None p b q h = let bad : ⊥ = cc in absurd bad
      go (Some row) p None q h = let bad : ⊥ = cc in absurd bad
      go (Some row) p (Some rest) q h = record { row = row; rest = rest; first = p; later = q; whole = cc }

  pub both_rows : (number : InstructionId) (numbers : List InstructionId) (row : Instruction) (rest : List Instruction) →
      slice_get all number.0 ≡ Some row → rows_of all numbers ≡ Some rest
      → rows_of all (number ∷ numbers) ≡ Some (row ∷ rest)
  both_rows number numbers row rest p q = ap (λ a. option_and_then
      (λ r. option_map (λ rs. r ∷ rs) (rows_of all numbers)) a) p ∙ ap (λ b. option_map (λ rs. row ∷ rs) b) q

  -- one more number
  pub rows_push : (numbers : List InstructionId) (number : InstructionId) (rows : List Instruction) (row : Instruction) →
      rows_of all numbers ≡ Some rows → slice_get all number.0 ≡ Some row
      → rows_of all (numbers ++ number ∷ []) ≡ Some (rows ++ row ∷ [])
  rows_push [] number rows row e f = both_rows number [] row [] f refl
      ∙ ap (λ (z : List Instruction). Some (z ++ row ∷ [])) (let s : [] ≡ rows = cc in s)
  rows_push (head ∷ numbers) number rows row e f =
      let k = first_row head numbers rows e in
      both_rows head (numbers ++ number ∷ []) k.row (k.rest ++ row ∷ []) k.first
      (rows_push numbers number k.rest row k.later f) ∙ ap (λ (z : List Instruction). Some (z ++ row ∷ []))
      (sym k.whole)

  pub rows_more : (numbers : List InstructionId) (i : ℕ) (d : InstructionId) (rows : List Instruction)
      (row : Instruction) → i < length numbers →
      rows_of all (take i numbers) ≡ Some rows → slice_get all (get_or numbers i d).0 ≡ Some row
      → rows_of all (take (i + 1) numbers) ≡ Some (rows ++ row ∷ [])
  rows_more numbers i d rows row lt e f =
      ap (rows_of all) (take_more numbers i d lt) ∙ rows_push (take i numbers) (get_or numbers i d) rows row e f

  -- a row with no id among the numbers is one among the rows
  pub unset_row : (numbers : List InstructionId) (number : InstructionId) (row : Instruction) (rows : List Instruction)
      → list_any (λ other. nat_eq number.0 other.0) numbers ≡ true →
      slice_get all number.0 ≡ Some row → is_unset row.id ≡ true → rows_of all numbers ≡ Some rows
      → list_any (λ other. is_unset other.id) rows ≡ true
  unset_row [] number row rows m f u e = let bad : ⊥ = cc in absurd bad
  unset_row (head ∷ numbers) number row rows m f u e =
      let k = first_row head numbers rows e in
      subst (λ z. list_any (λ (other : Instruction). is_unset other.id) z ≡ true) (sym k.whole)
      (go k (nat_eq number.0 head.0) refl m (λ h. unset_row numbers number row k.rest h f u k.later))
    where
      go : (k : FirstRow head numbers rows) (b : Bool) → nat_eq number.0 head.0 ≡ b
          → (b || list_any (λ other. nat_eq number.0 other.0) numbers) ≡ true →
          (list_any (λ other. nat_eq number.0 other.0) numbers ≡ true
          → list_any (λ other. is_unset other.id) k.rest ≡ true) →
          (is_unset k.row.id || list_any (λ other. is_unset other.id) k.rest) ≡ true
      go k true q h later =
          let same : slice_get all number.0 ≡ slice_get all head.0 = ap (slice_get all) (eqb-true number.0 head.0 q) in
          let r : row ≡ k.row = (let z = k.first in cc) in
          or_left _ _ (ap (λ (z : Instruction). is_unset z.id) (sym r) ∙ u)
      go k false q h later = or_right _ _ (later h)

pub none_more : (rows : List Instruction) (row : Instruction) → list_any (λ other. is_unset other.id) rows ≡ false
    → is_unset row.id ≡ false →
    list_any (λ other. is_unset other.id) (rows ++ row ∷ []) ≡ false
none_more rows row a b = list_any-append (λ (other : Instruction). is_unset other.id) rows (row ∷ [])
    ∙ ap (λ z. z || (is_unset row.id || false)) a ∙ ap (λ z. z || false) b

-- one more row, which has an id, and its statement
pub row_further : (hir : HirFunction) (numbers : List InstructionId) (i : ℕ) (d : InstructionId) (row : Instruction)
    (out mid whole : List ReactiveStatement) (statement : ReactiveStatement) →
    i < length numbers → RowsSoFar hir (take i numbers) out mid
    → slice_get hir.instructions (get_or numbers i d).0 ≡ Some row → is_unset row.id ≡ false
    → statement ≡ row_statement_of row → whole ≡ mid ++ statement ∷ []
    → RowsSoFar hir (take (i + 1) numbers) out whole
row_further hir numbers i d row out mid whole statement lt h f u s e = record {
  rows = h.rows ++ row ∷ [];
  filled = rows_more hir.instructions numbers i d h.rows row lt h.filled f;
  set = none_more h.rows row h.set u;
  put = e ∙ ap (λ z. z ++ statement ∷ []) h.put ∙ append_assoc out (map row_statement_of h.rows) (statement ∷ [])
      ∙ ap (λ z. out ++ (map row_statement_of h.rows ++ z ∷ [])) s
      ∙ ap (λ z. out ++ z) (sym (map-append row_statement_of h.rows (row ∷ [])));
}

-- a block with an unset row hasn't all ids
pub unset_refused : (hir : HirFunction) (block : BasicBlock) (number : InstructionId) (row : Instruction)
    → list_any (λ other. nat_eq number.0 other.0) block.instructions ≡ true →
    slice_get hir.instructions number.0 ≡ Some row → is_unset row.id ≡ true → HasIds hir block → ⊥
unset_refused hir block number row m f u h =
    let any = unset_row hir.instructions block.instructions number row h.rows m f u h.filled in
    let none = not-true (list_any (λ other. is_unset other.id) h.rows) (and_parts _ _ h.set).0 in
    true≢false (sym any ∙ none)
