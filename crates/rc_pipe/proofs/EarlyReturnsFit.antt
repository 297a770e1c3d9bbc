-- The tree and the environment before early returns have room for them, and the next block is above each block number
-- of the tree, so early returns keep the runs.
use Rattle.std.proofs.Common.{◌≡◌, ◌∙◌, ◌<◌, ◌≤◌, ◌⊎◌, inl, inr, All, Bool, IsTrue, Option, None, Some}
use Rattle.std.proofs.Common.{is_some, length, slice_index_or, arith, false, ap, subst, sym}
use Rattle.rc_early.proofs.RoomLemmas.{fits_room}
use Rattle.rc_early.specs.Entries.{has_room}
use Rattle.rc_early.specs.NewBlocks.{HasNewBlocks, IsLabelBelow, blocks_in}
use Rattle.rc_checks.proofs.ScopeBlocks.SpelledOnce.{spelled_once}
use Rattle.rc_hir.specs.declared.fault.Fault.TheVariants as faults
use Rattle.rc_hir.specs.Model.{Environment, Fault, HirFunction, ReactiveScope, ReactiveScopeEarlyReturn}
use Rattle.rc_names.specs.Numbers.{BlockId, ScopeId, times}
use Rattle.rc_runs.proofs.ReturningLemmas.{none_passes}
use Rattle.rc_runs.specs.EarlyReturns.{NoEarlyReturnSet, returns_early}
use Rattle.rc_runs.specs.Spelled.{Spells}
use Rattle.rc_tree.proofs.DistinctLemmas.{at_least_once, at_most_once, differ, from_times}
use Rattle.rc_tree.specs.ScopesIn.{HasScopesOnce, scopes_in}
use Rattle.rc_pipe.proofs.ErasedBlocks.{same_blocks}
use Rattle.rc_pipe.proofs.LabelBlocks.{blocks_stay}
use Rattle.rc_pipe.proofs.PassesLemmas.{escape_decided, fewer, no_more, none_set, only_scopes, others_decided}
use Rattle.rc_pipe.proofs.RoomHolds.{blocks_below, no_more_scopes}
use Rattle.rc_pipe.specs.Causes.{HasRoom, scope_count}
use Rattle.rc_pipe.specs.Passes.{PassState, other_rules}
use Rattle.rc_pipe.specs.declared.passes.Decisions.{Decisions}
use Rattle.rc_pipe.specs.inside.PrunedParts.{HasScopesPruned}

-- a scope without an early return has no label of one
no_label : (next : _) (early : Option ReactiveScopeEarlyReturn) → is_some early ≡ false → IsLabelBelow next early
no_label next None none = tt
no_label next (Some early) none = absurd (let bad : ⊥ = cc in bad)

module _ {explain : Bool} {spelled pruned : PassState} {decisions : Decisions}
    (parts : HasScopesPruned explain spelled pruned decisions) where
  kept_environment : parts.escaping.env ≡ spelled.env
  kept_environment = parts.escapes.kept_environment ∙ parts.checked.labels.kept_environment

  left : pruned.env ≡ record spelled.env { scopes = parts.others.merged.env.scopes }
  left = only_scopes parts.others
      ∙ ap (λ (env : Environment). record env { scopes = parts.others.merged.env.scopes }) kept_environment

  -- each scope has a block at most as often as before
  pruned_fewer : HasScopesOnce spelled.func.body → (scope : ScopeId)
      → times scope (scopes_in pruned.func.body) ≤ times scope (scopes_in spelled.func.body)
  pruned_fewer once scope =
      let left = escaping_fewer scope in
      let others = no_more (other_rules parts.others) parts.escaping.func.body pruned.func.body parts.log
      (others_decided parts.others (λ other.
      let most = at_most_once (scopes_in spelled.func.body) once other in
      let still = escaping_fewer other in
      omega (arith, most, still))) scope in
      omega (arith, left, others)
    where
      escaping_fewer : (scope : ScopeId)
          → times scope (scopes_in parts.escaping.func.body) ≤ times scope (scopes_in spelled.func.body)
      escaping_fewer = fewer _ spelled.func.body parts.escaping.func.body parts.not_escaping
          (escape_decided parts.checked.labels parts.escapes)

  module _ (hir : HirFunction) (spells : Spells hir spelled.env spelled.func) (room : HasRoom hir spelled.env) where
    -- the tree that is left has no more scope blocks than the graph opens
    few_scopes : length (scopes_in pruned.func.body) ≤ scope_count hir
    few_scopes =
        let once = spelled_once hir spelled.env spelled.func spells in
        no_more_scopes hir spelled.env spelled.func spells (scopes_in pruned.func.body)
        (differ (scopes_in pruned.func.body) (λ scope.
        let most = at_most_once (scopes_in spelled.func.body) once scope in
        omega (arith, most, pruned_fewer once scope)))
        (λ scope there. from_times scope (scopes_in spelled.func.body)
        (omega (arith, at_least_once scope (scopes_in pruned.func.body) there, pruned_fewer once scope)))

    -- so enough numbers are left for its early returns
    pub still_room : IsTrue (has_room pruned.env (length (scopes_in pruned.func.body)))
    still_room = subst (λ env. IsTrue (has_room env (length (scopes_in pruned.func.body)))) (sym left)
        (fits_room (record spelled.env { scopes = parts.others.merged.env.scopes })
        (length (scopes_in pruned.func.body)) (record {
          identifiers = omega (arith, room.identifiers, few_scopes);
          types = omega (arith, room.types, few_scopes);
          blocks = omega (arith, room.blocks, few_scopes);
        }))

    -- and a new block number is none of the tree's
    pub new_blocks : NoEarlyReturnSet spelled.env → HasNewBlocks pruned.func.body pruned.env
    new_blocks none = record { blocks = blocks; labels = labels }
      where
        below : (env : Environment) → BlockId → Type 0
        below env block = block.0 < env.next_block

        same : All (below spelled.env) (blocks_in pruned.func.body)
        same = subst (All (below spelled.env)) (sym (same_blocks parts.labeled.func pruned.func parts.kept_erased))
            (blocks_stay (below spelled.env) spelled.func.body parts.labeled.func.body parts.checked.labels.labels
            (blocks_below hir spelled.env spelled.func spells room))

        blocks : All (below pruned.env) (blocks_in pruned.func.body)
        blocks = subst (λ env. All (below env) (blocks_in pruned.func.body)) (sym left) same

        still : NoEarlyReturnSet pruned.env
        still = none_set parts.others (subst NoEarlyReturnSet (sym kept_environment) none)

        labels : All (λ (scope : ReactiveScope). IsLabelBelow pruned.env.next_block scope.early_return_value)
            pruned.env.scopes
        labels k d lt = no_label pruned.env.next_block (slice_index_or pruned.env.scopes k d).early_return_value
            (none_passes returns_early pruned.env.scopes still k d lt)

-- where enough numbers are left, early returns fail only when out of memory
pub only_memory_left : (fault : Fault) → ¬ (fault ≡ faults.NoIds) → (fault ≡ faults.NoMemory) ⊎ (fault ≡ faults.NoIds)
    → fault ≡ faults.NoMemory
only_memory_left fault some (inl memory) = memory
only_memory_left fault some (inr none) = absurd (some none)
