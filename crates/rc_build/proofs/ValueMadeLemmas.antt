-- The value that the builder makes of a block's rows, or of its `Branch` alone.
use Rattle.std.proofs.Common.{◌≡◌, true, false, List, [], ◌∷◌, ◌++◌, Option, Some, None, ◌&&◌, ◌||◌, not, refl, sym, ap}
use Rattle.std.proofs.Common.{◌∙◌, subst, map, eq-eqb, Result, Ok, Err, IfOk}
use Rattle.std.proofs.lemmas.Bool.{or_left, or_right}
use Rattle.std.proofs.lemmas.List.Folds.{list_any-append}
use Rattle.rc_names.specs.Numbers.{BlockId, InstructionId, same_id, is_among}
use Rattle.rc_hir.specs.Terminal.{evaluation_order}
use Rattle.rc_hir.specs.Model.{Instruction, Terminal, Fault, HirFunction, Environment}
use Rattle.rc_hir.specs.declared.instruction.InstructionValue.TheVariants as kinds
use Rattle.rc_tree.specs.Model.{ReactiveInstruction}
use Rattle.rc_runs.specs.Graph.{Block, rows_of, has_all_ids}
use Rattle.rc_runs.specs.Silent.{is_unset}
use Rattle.rc_runs.specs.LastRow.{after_rows, ends_value, last_value, last_answer}
use Rattle.rc_runs.specs.PlainTree.{Base}
use Rattle.rc_runs.specs.TreeOf.{value_of}
use Rattle.rc_runs.specs.ValueGrammar.{named_test, last_block, last_throw, may_throw as throws_on, value_row}
use Rattle.rc_runs.proofs.GraphLemmas.{usable_block-at}
use Rattle.rc_runs.proofs.OneValue.{not_empty}
use Rattle.rc_build.specs.BlockFacts.{ValueBlockIs}
use Rattle.rc_build.specs.declared.short_arms.ShortArm.{ShortArm}
use Rattle.rc_build.specs.declared.value_ends.NamedPlace.{NamedPlace}
use Rattle.rc_build.specs.declared.values.BuiltValue.{BuiltValue}
use Rattle.rc_build.specs.inside.Throws.{may_throw}
use Rattle.rc_build.specs.inside.ValueKinds.{value_terminal}
use Rattle.rc_build.specs.inside.ValueRows.{AreListed, HasRow, HasRows, behind_rows, row_of}
use Rattle.rc_build.specs.inside.ShortArms.{AreShort, alternate_of}
use Rattle.rc_build.specs.inside.ValueEnds.{IsRead, IsValueOf, IsValueOfRows, SpellsNoValue, place_named}
use Rattle.rc_build.proofs.RowsLemmas.{rows_push, none_more}
use Rattle.rc_build.proofs.UsableLemmas.{filled, usable_made, found_terminal, found_block}
use Rattle.rc_build.proofs.ValueLemmas.{Front, ends_none, ends_stays, front_rows, no_row, no_throw, place_named-branch, value_rows}
use Rattle.rc_build.proofs.ValueRowsLemmas.{behind_made, row_among}

-- the last of these numbers is among them
among_last : (front : List InstructionId) (last : InstructionId) → is_among (front ++ last ∷ []) last ≡ true
among_last [] last = ap (λ b. b || false) (eq-eqb last.0 last.0 refl)
among_last (number ∷ front) last = or_right (same_id last number) (is_among (front ++ last ∷ []) last)
    (among_last front last)

-- the block that is read is referred to as a value
read_end : {hir : HirFunction} {key other : BlockId} {terminal : Terminal} {numbers : List InstructionId}
    → (read : IsRead hir key terminal numbers) → other ≡ key
    → ValueBlockIs hir other (λ block. block.terminal ≡ read.block.terminal)
read_end {hir} read same = subst (λ z. ValueBlockIs hir z (λ block. block.terminal ≡ read.block.terminal)) (sym same)
    (record {
      referenced = read.referenced;
      here = record { block = read.block; found = read.found; holds = refl };
    })

-- the block of a short arm that isn't there
pub not_open : (hir : HirFunction) (left : Option ShortArm) → left ≡ None → AreShort hir left
not_open hir left none = subst (AreShort hir) (sym none) tt

module _ {hir : HirFunction} {key : BlockId} (front : List InstructionId) (last : InstructionId) where
  -- the last one is listed, and so are those before it
  pub listed_last : AreListed hir key (front ++ last ∷ []) → AreListed hir key (last ∷ [])
  listed_last listed = record {
    block = listed.block;
    found = listed.found;
    holds = λ number among. listed.holds number
        (list_any-append (same_id number) front (last ∷ []) ∙ or_right _ _ among);
  }

  pub listed_front : AreListed hir key (front ++ last ∷ []) → AreListed hir key front
  listed_front listed = record {
    block = listed.block;
    found = listed.found;
    holds = λ number among. listed.holds number
        (list_any-append (same_id number) front (last ∷ []) ∙ or_left _ _ among);
  }

module _ {hir : HirFunction} (front : List InstructionId) (last : InstructionId) where
  -- rows have their last one
  pub rows_without_last : ((row : Instruction) → HasRow hir last row → ⊥) → (made : List ReactiveInstruction)
      → HasRows hir (front ++ last ∷ []) made → ⊥
  rows_without_last none made has =
      let row = row_among hir (front ++ last ∷ []) last has.rows (among_last front last) has.filled has.set in
      none row.0 row.1

  -- and those before it
  pub rows_without_front : ((made : List ReactiveInstruction) → HasRows hir front made → ⊥)
      → (made : List ReactiveInstruction) → HasRows hir (front ++ last ∷ []) made → ⊥
  rows_without_front none made has =
      let rows = front_rows hir front (last ∷ []) has.rows has.filled has.set in
      none (map row_of rows.rows) (record { rows = rows.rows; filled = rows.filled; set = rows.set; is = refl })

  -- the value of these rows
  pub rows_made : {env : Environment} {block : BlockId} {terminal : Terminal} (made : List ReactiveInstruction)
      (row : Instruction) (built : BuiltValue) → HasRows hir front made → HasRow hir last row
      → built.value ≡ behind_rows made row.id (value_of (Base (last_value env row.value)))
      → built.answer ≡ last_answer env row.lvalue row.value → built.id ≡ row.id → built.block ≡ block
      → built.last.now ≡ terminal → built.left_open ≡ None
      → IsValueOfRows hir env (front ++ last ∷ []) block terminal built
  rows_made {env} made row built rows has v a i k t o = record {
    rows = rows.rows;
    row = row;
    filled = rows_push hir.instructions front last rows.rows row rows.filled has.found;
    set = none_more rows.rows row rows.set has.set;
    is = v ∙ ap (λ z. behind_rows z row.id (value_of (Base (last_value env row.value)))) rows.is
        ∙ behind_made rows.rows row.id (Base (last_value env row.value));
    answer = a;
    id = i;
    block = k;
    last = t;
    left = o;
  }

module _ {hir : HirFunction} {key : BlockId} {terminal : Terminal} {numbers : List InstructionId}
    (read : IsRead hir key terminal numbers) where
  -- where they aren't there, no value is
  pub read_refused : {env : Environment} → ((made : List ReactiveInstruction) → HasRows hir numbers made → ⊥) → SpellsNoValue hir env key
  read_refused none context value end blocks d =
      let there = subst (Front hir) read.lists (value_rows key read.block read.found d) in
      none (map row_of there.rows) (record { rows = there.rows; filled = there.filled; set = there.set; is = refl })

  -- the value of the rows is that of the block
  pub read_made : {env : Environment} {built : BuiltValue} → IsValueOfRows hir env numbers key terminal built
      → IsValueOf hir env key terminal built
  read_made {env} {built} r =
      let filled_here : rows_of hir.instructions read.block.instructions ≡ Some (r.rows ++ r.row ∷ []) =
      ap (rows_of hir.instructions) read.lists ∙ r.filled in
      let set : has_all_ids (filled read.block (r.rows ++ r.row ∷ [])) ≡ true =
      ap (λ b. not b && not (is_unset (evaluation_order read.block.terminal))) r.set
      ∙ ap (λ b. true && not b) (ap (λ z. is_unset (evaluation_order z)) read.is ∙ read.ends.set)
      in
      let usable = usable_made hir key read.block (r.rows ++ r.row ∷ []) read.found read.own filled_here set in record {
        value = after_rows r.rows r.row.id (Base (last_value env r.row.value));
        end = record {
          answer = last_answer env r.row.lvalue r.row.value;
          id = r.row.id;
          last = read.block.terminal;
          left_open = None;
        };
        is = record {
          is = r.is;
          answer = r.answer;
          id = r.id;
          last = r.last ∙ sym read.is;
          left = ap alternate_of r.left;
          at_end = read_end read r.block;
          short = not_open hir built.left_open r.left;
        };
        at_end = read.is;
        spelled = λ context. last_block r.rows r.row usable (ap ends_value read.is ∙ read.ends.ends) refl;
      }

  pub read_result : (env : Environment) (result : Result BuiltValue Fault)
      → IfOk result (IsValueOfRows hir env numbers key terminal) → IfOk result (IsValueOf hir env key terminal)
  read_result env (Ok built) r = read_made r
  read_result env (Err fault) r = tt

module _ (hir : HirFunction) (key : BlockId) (terminal : Terminal) (read : IsRead hir key terminal []) where
  no_rows : rows_of hir.instructions read.block.instructions ≡ Some []
  no_rows = ap (rows_of hir.instructions) read.lists

  ends : ends_value read.block.terminal ≡ true
  ends = ap ends_value read.is ∙ read.ends.ends

  last : value_terminal read.block.terminal ≡ None
  last = ends_none read.block.terminal ends

  stays : may_throw read.block.terminal ≡ None
  stays = ends_stays read.block.terminal ends

  -- a block without rows that spells a value ends in a `Branch`
  pub spells_unnamed : {env : Environment} → place_named terminal ≡ None → SpellsNoValue hir env key
  spells_unnamed none context value end blocks (named_test {block = whole} usable empty branch) =
      let same = found_terminal hir key read.block whole read.found (usable_block-at hir key whole usable) in
      let named = ap place_named (sym branch ∙ same ∙ read.is) ∙ none in let bad : ⊥ = cc in bad
  spells_unnamed none context value end blocks (value_row usable d e s w g u) =
      no_row key read.block read.found last stays usable d
  spells_unnamed none context value end blocks (last_throw rows row usable throws h all behind only) =
      no_throw hir key read.block read.found stays usable throws
  spells_unnamed none context value end blocks (throws_on usable throws h further d w) =
      no_throw hir key read.block read.found stays usable throws
  spells_unnamed none context value end blocks (last_block {block = whole} rows row usable ends all) =
      let at = found_block hir key read.block [] read.found no_rows in
      let same : whole ≡ filled read.block [] = (let z = usable_block-at hir key whole usable in cc) in
      not_empty rows row (ap (λ (z : Block). z.rows) (sym same) ∙ all)

  -- the value of a `Branch` alone
  pub named_made : {env : Environment} (named : NamedPlace) (built : BuiltValue) → place_named terminal ≡ Some named
      → built.value ≡ value_of (Base (kinds.LoadLocal named.place named.place.span)) → built.answer ≡ named.place
      → built.id ≡ named.id → built.block ≡ key → built.last.now ≡ terminal → built.left_open ≡ None
      → IsValueOf hir env key terminal built
  named_made named built names v a i k t o =
      let branch = place_named-branch terminal named names in
      let set : has_all_ids (filled read.block []) ≡ true =
      ap (λ b. true && not b) (ap (λ z. is_unset (evaluation_order z)) read.is ∙ read.ends.set)
      in
      let usable = usable_made hir key read.block [] read.found read.own no_rows set in record {
        value = Base (kinds.LoadLocal named.place named.place.span);
        end = record { answer = named.place; id = named.id; last = read.block.terminal; left_open = None };
        is = record {
          is = v;
          answer = a;
          id = i;
          last = t ∙ sym read.is;
          left = ap alternate_of o;
          at_end = read_end read k;
          short = not_open hir built.left_open o;
        };
        at_end = read.is;
        spelled = λ context. named_test usable refl (read.is ∙ branch.3);
      }
