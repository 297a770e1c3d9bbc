-- How the table of a graph is laid out, block by block.
use Rattle.std.proofs.Common.{◌≡◌, ◌∙◌, ◌+◌, ◌++◌, ℕ, zero, suc, Bool, true, false, List, [], ◌∷◌, Option, None, Some, refl, sym, ap, subst}
use Rattle.std.proofs.Common.{append_assoc, arith, drop, length, slice_get}
use Rattle.std.specs.Option.{option_and_then, option_map}
use Rattle.std.proofs.lemmas.List.{length-append, length-map}
use Rattle.std.specs.List.{position_or_len}
use Rattle.std.specs.Map.{keys_of, lookup, values_of}
use Rattle.rc_names.specs.Numbers.{BlockId, InstructionId, same_id}
use Rattle.rc_hir.specs.Model.{BasicBlock, Environment, HirFunction, Instruction, Terminal}
use Rattle.rc_replay.specs.declared.positions.Position.{Position as LaidPosition}
use Rattle.rc_replay.specs.declared.positions.Position.TheVariants as laid
use Rattle.rc_replay.specs.inside.GraphTable.{AreEntries, AreLaid, HasFrom, IsEntry, IsGraphTable, IsGrown, IsLaidOut}
use Rattle.rc_replay.specs.inside.GraphTable.{at_row, at_terminal, no_entry, number_of, one_entry, row_position, row_start, terminal_position}
use Rattle.rc_replay.specs.inside.Positions.{Position, Stops, Table, position_of, table_of}
use Rattle.rc_runs.specs.Graph.{block_at, rows_of, with_rows}

-- what follows a list is found after it
get_after : {X : Type 0} (before after : List X) (i : ℕ) → slice_get (before ++ after) (length before + i) ≡ slice_get after i
get_after [] after i = let zero_more : 0 + i ≡ i = omega arith in ap (slice_get after) zero_more
get_after (x ∷ before) after i = rw one_more (get_after before after i)
  where
    one_more : length (x ∷ before) + i ≡ suc (length before + i)
    one_more = omega arith

-- and what is in a list stays where more is added
get_before : {X : Type 0} (before after : List X) (i : ℕ) (x : X) → slice_get before i ≡ Some x
    → slice_get (before ++ after) i ≡ Some x
get_before [] after i x h = let bad : ⊥ = cc in absurd bad
get_before (y ∷ before) after zero x h = h
get_before (y ∷ before) after (suc i) x h = get_before before after i x h

got_before : (before after : List LaidPosition) (i : ℕ) (position : Position) → table_of before i ≡ Some position
    → table_of (before ++ after) i ≡ Some position
got_before before after i position h = by (slice_get before i) refl h
  where
    by : (found : Option LaidPosition) → slice_get before i ≡ found → option_map position_of found ≡ Some position
        → table_of (before ++ after) i ≡ Some position
    by None is h = let bad : ⊥ = cc in absurd bad
    by (Some x) is h = ap (option_map position_of) (get_before before after i x is) ∙ h

-- one more position is added
module _ (start : ℕ) (old : List LaidPosition) (added : LaidPosition) where
  grown_by_one : IsGrown start old (old ++ added ∷ [])
  grown_by_one table has i position h = has i position (got_before old (added ∷ []) i position h)

  has_added : (table : Table) → HasFrom start (old ++ added ∷ []) table → table (start + length old) ≡ Some (position_of added)
  has_added table has = has (length old) (position_of added) (ap (option_map position_of)
      (ap (slice_get (old ++ added ∷ [])) place ∙ get_after old (added ∷ []) 0))
    where
      place : length old ≡ length old + 0
      place = omega arith

module _ (hir : HirFunction) (env : Environment) (terminal : Terminal) where
  pub laid_terminal : (old : List LaidPosition) (added : LaidPosition) (next : ℕ) → next ≡ row_start hir + length old
      → position_of added ≡ terminal_position hir terminal → AreLaid hir env terminal old (old ++ added ∷ []) [] next
  laid_terminal old added next place same = record {
    grown = grown_by_one (row_start hir) old added;
    rows = [];
    known = refl;
    begin = λ table has. at_terminal (ap table place ∙ has_added (row_start hir) old added table has ∙ ap Some same);
  }

  pub laid_row : (old mid : List LaidPosition) (added : LaidPosition) (number : InstructionId) (numbers : List InstructionId)
      (row : Instruction) (next here : ℕ) → AreLaid hir env terminal old mid numbers next
      → slice_get hir.instructions number.0 ≡ Some row → here ≡ row_start hir + length mid
      → position_of added ≡ row_position env row next
      → AreLaid hir env terminal old (mid ++ added ∷ []) (number ∷ numbers) here
  laid_row old mid added number numbers row next here laid found place same = record {
    grown = λ table has. laid.grown table (grown_by_one (row_start hir) mid added table has);
    rows = row ∷ laid.rows;
    known = rw (found, laid.known) refl;
    begin = λ table has. at_row (ap table place ∙ has_added (row_start hir) mid added table has ∙ ap Some same)
        (laid.begin table (grown_by_one (row_start hir) mid added table has));
  }

-- the number of the next position that is added
pub next_place : (blocks : List (BlockId × BasicBlock)) (values : List BasicBlock) (rows slice : List LaidPosition)
    → values ≡ values_of blocks → slice ≡ rows → length values + 1 + length slice ≡ length blocks + 1 + length rows
next_place blocks values rows slice same_values same =
    ap (λ n. n + 1 + length slice) (ap length same_values ∙ length-map blocks (λ e. e.1))
    ∙ ap (λ l. length blocks + 1 + length l) same

-- a number that is none of the rows' leaves no rows
missing_row : (instructions : List Instruction) (numbers : List InstructionId) (i : ℕ)
    → rows_of instructions (drop i numbers) ≡ None → rows_of instructions numbers ≡ None
missing_row instructions numbers zero none = none
missing_row instructions [] (suc i) none = none
missing_row instructions (number ∷ numbers) (suc i) none =
    by (slice_get instructions number.0) (rows_of instructions numbers) (missing_row instructions numbers i none)
  where
    by : (found : Option Instruction) (rest : Option (List Instruction)) → rest ≡ None
        → option_and_then (λ row. option_map (λ rows. row ∷ rows) rest) found ≡ None
    by None rest is = refl
    by (Some row) rest is = ap (option_map (λ rows. row ∷ rows)) is

module _ (hir : HirFunction) (env : Environment) (block : BasicBlock) (new : List LaidPosition) where
  -- a block with such a number leads no further
  pub laid_nowhere : (number : InstructionId) (numbers : List InstructionId) (i : ℕ)
      → drop i block.instructions ≡ number ∷ numbers → slice_get hir.instructions number.0 ≡ None
      → IsLaidOut hir env new Stops block
  laid_nowhere number numbers i rest none table has = subst (λ o. IsEntry hir env table
      (option_map (λ rows. record { rows = rows; terminal = block.terminal }) o) Stops)
      (sym (missing_row hir.instructions block.instructions i (ap (rows_of hir.instructions) rest ∙ ap (option_and_then
      (λ row. option_map (λ rows. row ∷ rows) (rows_of hir.instructions numbers))) none))) refl

module _ (hir : HirFunction) (env : Environment) where
  -- one more block is laid out
  pub entries_push : {old new : List LaidPosition} {entries : List LaidPosition} {blocks : List BasicBlock}
      (entry : LaidPosition) (block : BasicBlock) → IsGrown (row_start hir) old new
      → IsLaidOut hir env new (position_of entry) block → AreEntries hir env old entries blocks
      → AreEntries hir env new (entries ++ entry ∷ []) (blocks ++ block ∷ [])
  entries_push entry block grown here no_entry = one_entry here no_entry
  entries_push entry block grown here (one_entry before entries) =
      one_entry (λ table has. before table (grown table has)) (entries_push entry block grown here entries)

  -- the position at a block's number is that of the block, if there is one
  abbrev IsFound : List LaidPosition → Option BasicBlock → LaidPosition → Type 0
  IsFound rows None entry = position_of entry ≡ Stops
  IsFound rows (Some block) entry = IsLaidOut hir env rows (position_of entry) block

  abbrev Found : (rows rest : List LaidPosition) (key : BlockId) (blocks : List (BlockId × BasicBlock))
      (entries : List LaidPosition) → Type 0
  Found rows rest key blocks entries = (entry : LaidPosition)
      × (slice_get (entries ++ laid.Stops ∷ rest) (position_or_len (same_id key) (keys_of blocks)) ≡ Some entry)
      × IsFound rows (lookup (same_id key) blocks) entry

  found_further : (rows rest : List LaidPosition) (key : BlockId) (pair : BlockId × BasicBlock)
      (blocks : List (BlockId × BasicBlock)) (entry : LaidPosition) (entries : List LaidPosition) (same : Bool)
      → same_id key pair.0 ≡ same → IsLaidOut hir env rows (position_of entry) pair.1 → Found rows rest key blocks entries
      → Found rows rest key (pair ∷ blocks) (entry ∷ entries)
  found_further rows rest key pair blocks entry entries true is here later = rw is (entry, refl, here)
  found_further rows rest key pair blocks entry entries false is here later =
      rw is (later.0, ap (slice_get (entry ∷ entries ++ laid.Stops ∷ rest)) further ∙ later.1, later.2)
    where
      further : 1 + position_or_len (same_id key) (keys_of blocks) ≡ suc (position_or_len (same_id key) (keys_of blocks))
      further = omega arith

  entry_at : (rows rest : List LaidPosition) (key : BlockId) (blocks : List (BlockId × BasicBlock))
      (entries : List LaidPosition) → AreEntries hir env rows entries (values_of blocks) → Found rows rest key blocks entries
  entry_at rows rest key [] entries no_entry = (laid.Stops, refl, refl)
  entry_at rows rest key (pair ∷ blocks) [] laid_out = elim laid_out [ ]
  entry_at rows rest key (pair ∷ blocks) (entry ∷ entries) (one_entry here later) =
      found_further rows rest key pair blocks entry entries (same_id key pair.0) refl here
      (entry_at rows rest key blocks entries later)

  entries_length : {rows entries : List LaidPosition} {blocks : List BasicBlock} → AreEntries hir env rows entries blocks
      → length entries ≡ length blocks
  entries_length no_entry = refl
  entries_length (one_entry here entries) = ap suc (entries_length entries)

  entry_of : (table : Table) (rows : List LaidPosition) (entry : LaidPosition) (found : Option BasicBlock)
      → HasFrom (row_start hir) rows table → IsFound rows found entry
      → IsEntry hir env table (option_and_then (with_rows hir) found) (position_of entry)
  entry_of table rows entry None has stops = stops
  entry_of table rows entry (Some block) has here = here table has

  -- the table is whole, once all blocks are laid out
  pub whole_table : (rows entries : List LaidPosition) → AreEntries hir env rows entries (values_of hir.body.blocks)
      → IsGraphTable hir env (table_of ((entries ++ laid.Stops ∷ []) ++ rows))
  unfolding block_at
  whole_table rows entries laid_out key = (
    position_of found.0,
    ap (option_map position_of) (ap (λ t. slice_get t (number_of hir key)) joined ∙ found.1),
    entry_of (table_of whole) rows found.0 (lookup (same_id key) hir.body.blocks) has found.2,
  )
    where
      whole : List LaidPosition
      whole = (entries ++ laid.Stops ∷ []) ++ rows

      joined : (entries ++ laid.Stops ∷ []) ++ rows ≡ entries ++ laid.Stops ∷ rows
      joined = append_assoc entries (laid.Stops ∷ []) rows

      found : Found rows rows key hir.body.blocks entries
      found = entry_at rows rows key hir.body.blocks entries laid_out

      start : length (entries ++ laid.Stops ∷ []) ≡ row_start hir
      start = length-append entries (laid.Stops ∷ []) ∙ ap (λ n. n + 1) (entries_length laid_out ∙ length-map hir.body.blocks (λ e. e.1))

      has : HasFrom (row_start hir) rows (table_of ((entries ++ laid.Stops ∷ []) ++ rows))
      has i position h = ap (option_map position_of) (ap (λ n. slice_get ((entries ++ laid.Stops ∷ []) ++ rows) (n + i)) (sym start)
          ∙ get_after (entries ++ laid.Stops ∷ []) rows i) ∙ h
