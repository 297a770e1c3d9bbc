-- Ids, rows and tables stay small, and the numbers of blocks rise.
use Rattle.std.proofs.Common.{◌≡◌, ℕ, zero, suc, ◌+◌, ◌*◌, ◌<◌, ◌≤◌, List, [], ◌∷◌, ◌++◌, length, refl, sym, subst, ◌∙◌, arith, ap, add-one, nat_eq, false}
use Rattle.std.proofs.Common.{All, length-append}
use Rattle.std.proofs.lemmas.List.Elements.{All-head, All-push, All-tail, All-weaker}
use Rattle.std.proofs.lemmas.Bool.Decides.{nat_tests}
use Rattle.indexmap.specs.IndexMap.{insert_entry}
use Rattle.rc_hir.specs.Model.{BasicBlock, Terminal}
use Rattle.rc_names.specs.Numbers.{BlockId, InstructionId, same_id, to_id}
use Rattle.rc_gen.specs.declared.kind.Kind.{Kind}
use Rattle.rc_gen.specs.declared.kind.Kind.TheVariants.{Kept, Merged, NotEscaping, Unused, AlwaysInvalidating}
use Rattle.rc_gen.specs.Generated.{blocks, identifiers, scopes}
use Rattle.rc_gen.specs.Units.{ids_of, if_blocks, kind_of, rows_of, scope_blocks, scope_id, scope_row, unit_identifiers}
use Rattle.rc_gen.specs.Units.{unit_scope}
use Rattle.rc_gen.specs.inside.Keys.{AreKeysBelow}

few_ids : (kind : Kind) → ids_of kind ≤ 6
few_ids Kept = omega arith
few_ids Merged = omega arith
few_ids NotEscaping = omega arith
few_ids Unused = omega arith
few_ids AlwaysInvalidating = omega arith

few_rows : (kind : Kind) → rows_of kind ≤ 2
few_rows Kept = omega arith
few_rows Merged = omega arith
few_rows NotEscaping = omega arith
few_rows Unused = omega arith
few_rows AlwaysInvalidating = omega arith

pub scope_id_small : (unit : ℕ) → scope_id unit ≤ 6 * unit + 2
scope_id_small zero = omega arith
scope_id_small (suc unit) = omega (arith, scope_id_small unit, few_ids (kind_of unit))

pub scope_row_small : (unit : ℕ) → scope_row unit ≤ 2 * unit + 1
scope_row_small zero = omega arith
scope_row_small (suc unit) = omega (arith, scope_row_small unit, few_rows (kind_of unit))

pub identifier_count : (units : ℕ) → length (identifiers units) ≡ 3 + 2 * units
identifier_count zero = refl
identifier_count (suc unit) =
    omega (arith, identifier_count unit, length-append (identifiers unit) (unit_identifiers unit))

pub scope_count : (units : ℕ) → length (scopes units) ≡ units
scope_count zero = refl
scope_count (suc unit) =
    omega (arith, scope_count unit, length-append (scopes unit) (unit_scope unit (scope_id unit) ∷ []))

-- the number of a block is below this one
abbrev pub IsBelow : ℕ → BlockId × BasicBlock → Type 0
IsBelow number entry = entry.0.0 < number

-- the numbers of blocks are below a greater number too
pub keys_below_more : (number more : ℕ) (blocks : List (BlockId × BasicBlock)) → AreKeysBelow number blocks
    → number ≤ more → AreKeysBelow more blocks
keys_below_more number more blocks below le = All-weaker (IsBelow number) (IsBelow more) further blocks below
  where
    further : (entry : BlockId × BasicBlock) → IsBelow number entry → IsBelow more entry
    further entry less = omega (arith, less, le)

module _ (number : ℕ) (block : BasicBlock) where
  -- a number above all is a new key
  pub block_goes_last : (blocks : List (BlockId × BasicBlock)) → AreKeysBelow number blocks
      → insert_entry same_id blocks (to_id number) block ≡ blocks ++ (to_id number, block) ∷ []
  block_goes_last [] below = refl
  block_goes_last (entry ∷ blocks) below =
      let less : entry.0.0 < number = All-head (IsBelow number) entry blocks below in
      let other : nat_eq number entry.0.0 ≡ false = grind (arith, nat_tests, less) in
      rw other (ap (λ rest. entry ∷ rest)
      (block_goes_last blocks (All-tail (IsBelow number) entry blocks below)))

  pub keys_rise : (blocks : List (BlockId × BasicBlock)) → AreKeysBelow number blocks
      → AreKeysBelow (number + 1) (blocks ++ (to_id number, block) ∷ [])
  keys_rise blocks below =
      let less : IsBelow (number + 1) (to_id number, block) = omega arith in
      All-push (IsBelow (number + 1)) blocks (to_id number, block)
      (keys_below_more number (number + 1) blocks below (omega arith)) less

-- a block under a number above all others is put last
put_last : (blocks after : List (BlockId × BasicBlock)) (id : BlockId) (rows : List InstructionId) (terminal : Terminal)
    → AreKeysBelow id.0 blocks
    → after ≡ insert_entry same_id blocks id (record { id = id; instructions = rows; terminal = terminal })
    → (after ≡ blocks ++ (id, record { id = id; instructions = rows; terminal = terminal }) ∷ [])
    × AreKeysBelow (id.0 + 1) after
put_last blocks after id rows terminal below put =
    let block : BasicBlock = record { id = id; instructions = rows; terminal = terminal } in
    let last : after ≡ blocks ++ (id, block) ∷ [] = put ∙ block_goes_last id.0 block blocks below in
    (last, subst (AreKeysBelow (id.0 + 1)) (sym last) (keys_rise id.0 block blocks below))

pub block_put : (blocks after : List (BlockId × BasicBlock)) (id : BlockId) (number : ℕ) (rows : List InstructionId)
    (terminal : Terminal) → id.0 ≡ number → AreKeysBelow number blocks
    → after ≡ insert_entry same_id blocks id (record { id = id; instructions = rows; terminal = terminal })
    → (after ≡ blocks ++ (to_id number, record { id = to_id number; instructions = rows; terminal = terminal }) ∷ [])
    × AreKeysBelow (number + 1) after
block_put blocks after id number rows terminal same below put =
    subst (λ n. AreKeysBelow n blocks
    → (after ≡ blocks ++ (to_id n, record { id = to_id n; instructions = rows; terminal = terminal }) ∷ [])
    × AreKeysBelow (n + 1) after)
    same (λ below. put_last blocks after id rows terminal below put) below

-- the blocks of one more unit are put after the others
pub next_blocks : (unit id number : ℕ) (old middle new : List (BlockId × BasicBlock)) → old ≡ blocks unit
    → id ≡ scope_id unit → number ≡ scope_row unit → middle ≡ old ++ scope_blocks unit id number
    → new ≡ middle ++ if_blocks (kind_of unit) unit id number → new ≡ blocks (unit + 1)
next_blocks unit id number old middle new was at row one two = whole ∙ ap blocks (sym (add-one unit))
  where
    whole : new ≡ blocks (suc unit)
    whole = rw (two, one, was, at, row) refl

-- so do its ids and its rows
pub next_id : (unit id step : ℕ) (kind : Kind) → id ≡ scope_id unit → step ≡ ids_of kind → kind ≡ kind_of unit
    → id + step ≡ scope_id (unit + 1)
next_id unit id step kind was is of = whole ∙ ap scope_id (sym (add-one unit))
  where
    whole : id + step ≡ scope_id (suc unit)
    whole = rw (was, is, of) refl

pub next_row : (unit number step : ℕ) (kind : Kind) → number ≡ scope_row unit → step ≡ rows_of kind
    → kind ≡ kind_of unit → number + step ≡ scope_row (unit + 1)
next_row unit number step kind was is of = whole ∙ ap scope_row (sym (add-one unit))
  where
    whole : number + step ≡ scope_row (suc unit)
    whole = rw (was, is, of) refl
