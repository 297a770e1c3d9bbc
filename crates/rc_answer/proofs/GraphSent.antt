-- Blocks under their keys, and that the keys are distinct.
use Rattle.std.proofs.Common.{◌≡◌, ℕ, ◌+◌, ◌<◌, Bool, true, false, List, [], ◌∷◌, Option, None, Some, length, nat_eq}
use Rattle.std.proofs.Common.{arith, inl, inr, refl, slice_get, subst, sym, take}
use Rattle.std.proofs.lemmas.Option.{slice_get_cases}
use Rattle.std.specs.Prelude.{◌==◌, codes, if◌then◌else◌}
use Rattle.std.specs.List.{AllByRecursion, IsDistinct}
use Rattle.std.specs.Map.{keys_of}
use Rattle.std.proofs.lemmas.Map.Keys.{IsDistinct-head, IsDistinct-tail}
use Rattle.serde.specs.Event.{Log}
use Rattle.serde_json.specs.Data.{no_members, object}
use Rattle.rc_names.proofs.NumbersLemmas.{same_id-eq}
use Rattle.rc_names.specs.Numbers.{BlockId}
use Rattle.rc_hir.specs.Model.{BasicBlock}
use Rattle.rc_doc.specs.Graph.{are_distinct, has_key, keyed_block_of}
use Rattle.rc_doc.specs.Numbers.{id_of}
use Rattle.rc_doc.specs.Reading.{list_of}
use Rattle.rc_doc.specs.Terminals.{terminal_of}
use Rattle.rc_show.proofs.ShownLists.{next_sent, SentSoFar}
use Rattle.rc_show.specs.Sending.{Sends}
use Rattle.rc_show.specs.Showing.{◌▸◌, add, add_some, id_data, list_data, IsReadAgain}
use Rattle.rc_flat.proofs.Again.{IsAgain}
use Rattle.rc_flat.proofs.GraphReadsBack.{block_again}
use Rattle.rc_flat.specs.ShownGraph.{add_id, keyed_block_data, other_key, terminal_data}

-- a key that is left out is the block's id, which reads as itself again
key_again : (same : Bool) (key id : BlockId) → (key.0 == id.0) ≡ same
    → IsReadAgain id_of id_data (if same then None else Some key) → IsAgain id_of id_data id → IsAgain id_of id_data key
key_again true key id e o h = subst (λ k. IsAgain id_of id_data k) (sym (same_id-eq key id e)) h
key_again false key id e o h = o

pub keyed_again : (key : BlockId) (x : BasicBlock) (other : Option BlockId) → other ≡ other_key key x.id
    → IsReadAgain id_of id_data other → IsAgain id_of id_data x.id
    → IsAgain (list_of id_of) (list_data id_data) x.instructions → IsAgain terminal_of terminal_data x.terminal
    → IsAgain keyed_block_of keyed_block_data (key, x)
keyed_again key x other e o h i t =
    block_again key x
    (key_again (key.0 == x.id.0) key x.id refl (subst (λ k. IsReadAgain id_of id_data k) e o) h) h i t

pub keyed_sent : (key : BlockId) (x : BasicBlock) (other : Option BlockId) (old new : Log) → other ≡ other_key key x.id
    → Sends (object (no_members ▸ add_id (codes "id") x.id
    ▸ add (codes "instructions") (list_data id_data x.instructions) ▸ add_some id_data (codes "key") other
    ▸ add (codes "terminal") (terminal_data x.terminal))) old new → Sends (keyed_block_data (key, x)) old new
unfolding keyed_block_data
keyed_sent key x other old new e sent =
    subst (λ k. Sends (object (no_members ▸ add_id (codes "id") x.id
    ▸ add (codes "instructions") (list_data id_data x.instructions) ▸ add_some id_data (codes "key") k
    ▸ add (codes "terminal") (terminal_data x.terminal))) old new) e sent

no_key : (key : BlockId) (blocks : List (BlockId × BasicBlock))
    → AllByRecursion (λ other. nat_eq key.0 other.0 ≡ false) (keys_of blocks) → has_key key blocks ≡ false
no_key key [] h = refl
no_key key (x ∷ blocks) h = rw (h.0, no_key key blocks h.1) refl

pub keys_distinct : (blocks : List (BlockId × BasicBlock)) → IsDistinct (λ a b. nat_eq a.0 b.0) (keys_of blocks)
    → are_distinct blocks ≡ true
keys_distinct [] h = refl
keys_distinct (x ∷ blocks) h =
    rw (
      no_key x.0 blocks (IsDistinct-head _ x.0 (keys_of blocks) h),
      keys_distinct blocks (IsDistinct-tail _ x.0 (keys_of blocks) h),
    ) refl

-- the block at an index is sent
pub next_sent_at : (blocks : List (BlockId × BasicBlock)) (i : ℕ) (old mid new : Log) → i < length blocks
    → SentSoFar keyed_block_of keyed_block_data (take i blocks) old mid
    → ((entry : BlockId × BasicBlock) → slice_get blocks i ≡ Some entry → Sends (keyed_block_data entry) mid new)
    → ((entry : BlockId × BasicBlock) → slice_get blocks i ≡ Some entry
    → keyed_block_of (keyed_block_data entry) ≡ Some entry)
    → SentSoFar keyed_block_of keyed_block_data (take (i + 1) blocks) old new
next_sent_at blocks i old mid new lt so_far sends again = elim (slice_get_cases blocks i).1 [
  | inl found ↦ next_sent keyed_block_of keyed_block_data blocks i found.0 old mid new lt (sym found.3) so_far
      (sends found.0 found.2) (again found.0 found.2)
  | inr past ↦ absurd (omega (arith, past.0, lt))
]
