-- The lookups of blocks, compared with each other.
use Rattle.std.proofs.Common.{◌≡◌, List, Bool, true, false, Option, Some, None, ap, option_and_then}
use Rattle.std.proofs.Common.{option_map, if◌then◌else◌, sym, ◌∙◌}
use Rattle.rc_names.specs.Numbers.{BlockId, EvaluationOrder, same_id}
use Rattle.rc_names.specs.declared.span.Span.{Span}
use Rattle.rc_hir.specs.Model.{Terminal, Instruction, BasicBlock, HirFunction}
use Rattle.rc_hir.specs.declared.terminal.Terminal.TheVariants as terminals
use Rattle.rc_runs.specs.Graph.{Block, basic_block, rows_of, with_rows, block_at, has_all_ids, with_ids}
use Rattle.rc_runs.specs.Graph.{under_own_number, usable_block, only_goes, is_empty_goto, is_unreachable}
use Rattle.rc_runs.specs.Graph.{block_ends_unreachable, ends_unreachable}

-- an option has at most one value
pub one_held : {A : Type 0} {option : Option A} {a b : A} → option ≡ Some a → option ≡ Some b → b ≡ a
one_held e f = cc

-- a block whose ids are set is that block
with_ids-same : (found : Option Block) (block : Block) → option_and_then with_ids found ≡ Some block
    → found ≡ Some block
with_ids-same None block e = absurd (let bad : ⊥ = cc in bad)
with_ids-same (Some other) block e = go (has_all_ids other) e
  where
    go : (set : Bool) → (if set then Some other else None) ≡ Some block → Some other ≡ Some block
    go true e = e
    go false e = absurd (let bad : ⊥ = cc in bad)

-- a usable block is the block with its key
pub usable_block-at : (hir : HirFunction) (key : BlockId) (block : Block) → usable_block hir key ≡ Some block
    → block_at hir key ≡ Some block
unfolding usable_block block_at
usable_block-at hir key block e =
    go (basic_block hir key) (with_ids-same (option_and_then (with_rows hir)
    (option_and_then (under_own_number key) (basic_block hir key))) block e)
  where
    own : (basic : BasicBlock) (same : Bool) → option_and_then (with_rows hir) (if same then Some basic else None)
        ≡ Some block →
        with_rows hir basic ≡ Some block
    own basic true e = e
    own basic false e = absurd (let bad : ⊥ = cc in bad)

    go : (found : Option BasicBlock) → option_and_then (with_rows hir) (option_and_then (under_own_number key) found)
        ≡ Some block →
        option_and_then (with_rows hir) found ≡ Some block
    go None e = absurd (let bad : ⊥ = cc in bad)
    go (Some basic) e = own basic (same_id basic.id key) e

-- a usable block only goes on exactly if it has no rows and a terminal that does
pub is_empty_goto-at : (hir : HirFunction) (key : BlockId) (block : Block) → usable_block hir key ≡ Some block
    → is_empty_goto (block_at hir key) ≡ only_goes block.rows block.terminal
is_empty_goto-at hir key block e = ap is_empty_goto (usable_block-at hir key block e)

-- a block ends in `Unreachable` exactly if its terminal is that
pub ends_unreachable-at : (hir : HirFunction) (key : BlockId) (block : Block) → block_at hir key ≡ Some block
    → ends_unreachable hir key ≡ is_unreachable block.terminal
unfolding block_at
ends_unreachable-at hir key block e = go (basic_block hir key) e
  where
    same : (basic : BasicBlock) (rows : Option (List Instruction)) →
        option_map (λ (r : List Instruction). record { rows = r; terminal = basic.terminal }) rows ≡ Some block →
        is_unreachable basic.terminal ≡ is_unreachable block.terminal
    same basic None e = absurd (let bad : ⊥ = cc in bad)
    same basic (Some rows) e = let equal : basic.terminal ≡ block.terminal = cc in ap is_unreachable equal

    go : (found : Option BasicBlock) → option_and_then (with_rows hir) found ≡ Some block
        → block_ends_unreachable found ≡ is_unreachable block.terminal
    go None e = absurd (let bad : ⊥ = cc in bad)
    go (Some basic) e = same basic (rows_of hir.instructions basic.instructions) e

-- the terminal of the block under a key isn't of two kinds
pub one_kind : (hir : HirFunction) (kind : Terminal → Bool) (key : BlockId) {block other : Block}
    → usable_block hir key ≡ Some block → kind block.terminal ≡ false → usable_block hir key ≡ Some other
    → kind other.terminal ≡ true → ⊥
one_kind hir kind key found is_other found' is_kind =
    let same = ap (λ (b : Block). kind b.terminal) (one_held found found') in
    let bad : ⊥ = cc in bad

-- a block that may throw goes on at one block
pub one_continuation : (hir : HirFunction) (key : BlockId) {block other : Block} {c d : BlockId}
    {n m : Option BlockId} {id number : EvaluationOrder} {s t : Option Span} → usable_block hir key ≡ Some block
    → block.terminal ≡ terminals.MaybeThrow c n id s → usable_block hir key ≡ Some other
    → other.terminal ≡ terminals.MaybeThrow d m number t → d ≡ c
one_continuation hir key {c = c} {d} {n} {m} {id} {number} {s} {t} found ends found' ends' =
    let alike : terminals.MaybeThrow d m number t ≡ terminals.MaybeThrow c n id s =
    sym ends' ∙ ap (λ (b : Block). b.terminal) (one_held found found') ∙ ends in
    cc
