-- The bits of blocks, at the positions of the blocks in the graph.
use Rattle.std.proofs.Common.{◌≡◌, ◌≢◌, ◌<◌, ℕ, Bool, true, false, List, [], ◌∷◌, ◌++◌, Some, ◌||◌, length}
use Rattle.std.proofs.Common.{refl, sym, ap, ◌∙◌, subst, arith, get_or, set, slice_get, replicate, eqb-true, position}
use Rattle.std.specs.Prelude.{nat_eq, if◌then◌else◌}
use Rattle.std.specs.Map.{keys_of}
use Rattle.std.proofs.Math.Bool.{or-false, or-true}
use Rattle.std.proofs.lemmas.Grind.{get_or-set_at}
use Rattle.std.proofs.lemmas.List.{get_or-replicate, get_or-set_other, length-replicate, length-set}
use Rattle.std.proofs.lemmas.List.Folds.{list_any-append}
use Rattle.std.proofs.lemmas.Option.{get_or_from_slice_get, slice_get-get_or, slice_get_within}
use Rattle.rc_names.specs.Numbers.{BlockId, is_among, same_id}
use Rattle.rc_names.proofs.NumbersLemmas.{ids_equivalence}
use Rattle.rc_hir.specs.Model.{HirFunction}
use Rattle.rc_build.specs.inside.CanBuild.{TellUsed, place_of}
use Rattle.rc_build.specs.inside.LiveBlocks.{TellBlocks}
use Rattle.rc_build.proofs.PositionLemmas.{one_block, other_block, position_within}

module _ {X : Type 0} (blocks : List (BlockId × X)) where
  -- no bit is set
  pub none_set : TellBlocks blocks (replicate (length blocks) false) (λ key. false)
  none_set key place at =
      let count = length blocks in
      let within = position_within blocks key place at in
      slice_get-get_or (replicate count false) place false
      (subst (λ n. place < n) (sym (length-replicate count false)) within)
      ∙ ap Some (get_or-replicate count place false false within)

  module _ (bits : List Bool) (told : BlockId → Bool) (tell : TellBlocks blocks bits told) (key : BlockId) (place : ℕ)
      (at : position (same_id key) (keys_of blocks) ≡ Some place) (bit : Bool) where
    -- one bit is set
    pub bit_set : TellBlocks blocks (set bits place bit) (λ other. if same_id key other then bit else told other)
    bit_set other there found = by (nat_eq there place) refl
      where
        within : place < length bits
        within = slice_get_within bits place (told key) (tell key place at)

        old : slice_get bits there ≡ Some (told other)
        old = tell other there found

        read : slice_get (set bits place bit) there ≡ Some (get_or (set bits place bit) there false)
        read = slice_get-get_or (set bits place bit) there false
            (subst (λ n. there < n) (sym (length-set bits place bit)) (slice_get_within bits there _ old))

        by : (b : Bool) → nat_eq there place ≡ b → slice_get (set bits place bit) there
            ≡ Some (if same_id key other then bit else told other)
        by true same =
            let equal : there ≡ place = eqb-true there place same in
            let block : other ≡ key = one_block (keys_of blocks) key other place at (found ∙ ap Some equal) in
            read ∙ ap Some (get_or-set_at bits place there bit false equal within
            ∙ sym (ap (λ b. if b then bit else told other) (ap (same_id key) block ∙ ids_equivalence.refl key)))
        by false other_place =
            let elsewhere : there ≢ place = grind (arith, other_place) in
            let apart = other_block (keys_of blocks) other key
            (λ same. let equal : there ≡ place = cc in elsewhere equal) in
            read ∙ ap Some (get_or-set_other bits place there bit false elsewhere
            ∙ get_or_from_slice_get bits there (told other) false old
            ∙ sym (ap (λ b. if b then bit else told other) apart))

module _ (hir : HirFunction) (bits : List Bool) (used : List BlockId) (key : BlockId) (place : ℕ)
    (told : TellUsed hir bits used) (at : place_of hir key ≡ Some place) where
  -- there is a bit for the block, which says whether it is used
  pub bit_within : place < length bits
  bit_within = slice_get_within bits place (is_among used key) (told key place at)

  pub bit_tells : (bit : Bool) → slice_get bits place ≡ Some bit → is_among used key ≡ bit
  bit_tells bit is = let both = told key place at in cc

  -- the bit of one more used block is set
  pub one_more_told : TellUsed hir (set bits place true) (used ++ key ∷ [])
  one_more_told other there found =
      bit_set hir.body.blocks bits (is_among used) told key place at true other there found
      ∙ ap Some (by (same_id key other) refl)
    where
      added : is_among (used ++ key ∷ []) other ≡ (is_among used other || (same_id other key || false))
      added = list_any-append (same_id other) used (key ∷ [])

      by : (b : Bool) → same_id key other ≡ b
          → (if b then true else is_among used other) ≡ is_among (used ++ key ∷ []) other
      by true same = sym (added ∙ ap (λ b. is_among used other || (b || false))
          (ids_equivalence.symm other key ∙ same) ∙ or-true (is_among used other))
      by false apart = sym (added ∙ ap (λ b. is_among used other || (b || false))
          (ids_equivalence.symm other key ∙ apart) ∙ or-false (is_among used other))
