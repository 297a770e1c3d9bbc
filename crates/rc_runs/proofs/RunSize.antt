-- The number of rows and edges of a run of a graph, by which the lemmas from graphs to bodies recur.
use Rattle.std.proofs.Common.{◌≡◌, ℕ, suc, ◌<◌, List, subst}
use Rattle.rc_names.specs.Numbers.{BlockId}
use Rattle.rc_hir.specs.Model.{Terminal, Instruction, HirFunction, Environment}
use Rattle.rc_runs.specs.Event.{Event, End}
use Rattle.rc_runs.specs.GraphRun.{GraphRunAt, arrives, enters, GraphRun, stopped, quiet, did, moved, returned, thrown}

module _ {hir : HirFunction} {env : Environment} where
  unfoldable mutual
    pub size : {rows : List Instruction} {terminal : Terminal} {events : List Event} {end : End}
        → GraphRun hir env rows terminal events end → ℕ
    size stopped = 0
    size (quiet h run) = suc (size run)
    size (did h run) = suc (size run)
    size (moved edge run e) = suc (size_at run)
    size returned = 0
    size thrown = 0

    pub size_at : {key : BlockId} {events : List Event} {end : End} → GraphRunAt hir env key events end → ℕ
    size_at arrives = 0
    size_at (enters found run) = size run

  -- a run from an equal block
  pub run_to : {key other : BlockId} {events : List Event} {end : End} {bound : ℕ} → key ≡ other
      → (run : GraphRunAt hir env key events end) → size_at run < bound
      → (same : GraphRunAt hir env other events end) × (size_at same < bound)
  run_to {events = events} {end} {bound} e run small =
      subst (λ k. (same : GraphRunAt hir env k events end) × (size_at same < bound)) e (run, small)
