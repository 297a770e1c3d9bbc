-- A list without scope blocks stays as it is.
use Rattle.std.proofs.Common.{◌≡◌, ◌∙◌, Bool, true, false, List, [], ◌∷◌, ◌++◌, None, map, refl, sym, ap, append_assoc}
use Rattle.std.proofs.lemmas.List.{append-nil}
use Rattle.std.specs.List.{list_any}
use Rattle.std.specs.Prelude.{◌||◌}
use Rattle.rc_hir.specs.Model.{Environment, ReactiveScope}
use Rattle.rc_merge.specs.LastUses.{LastUses}
use Rattle.rc_merge.specs.declared.tables.Log.{Log}
use Rattle.rc_merge.specs.inside.ListSteps.{Going, close, is_scope, step, step_row, steps, went}
use Rattle.rc_merge.specs.inside.Rows.{CopyPairs, row_passes}
use Rattle.rc_tree.specs.Unrolled.{UnrolledStatement}
use Rattle.rc_tree.specs.Model.{ReactiveInstruction, ReactiveStatement}
use Rattle.rc_tree.specs.declared.statement.ReactiveStatement.{out-ReactiveStatement, roll-ReactiveStatement}
use Rattle.rc_tree.specs.declared.statement.ReactiveStatement.{roll-out-ReactiveStatement}
use Rattle.rc_tree.specs.declared.statement.ReactiveStatement.TheOpen as layer
use Rattle.rc_tree.specs.declared.statement.ReactiveStatement.TheVariants as reactive

module _ (env : Environment) (uses : LastUses) (scopes : List ReactiveScope) (copies : CopyPairs)
    (log : Log) where
  -- these statements are done, and no group is open
  abbrev done_only : List ReactiveStatement → Going
  done_only done =
      record { done = done; open_group = None; scopes = scopes; copies = copies; log = log }

  row_done : (row : ReactiveInstruction) (done : List ReactiveStatement) (passes : Bool)
      → step_row env uses passes row (done_only done) ≡ done_only (done ++ reactive.Instruction row ∷ [])
  row_done row done true = refl
  row_done row done false = refl

  -- a statement that is no scope block is done at once
  step_done : (u : UnrolledStatement) (done : List ReactiveStatement) → is_scope u ≡ false
      → step env uses (done_only done) u ≡ done_only (done ++ roll-ReactiveStatement u ∷ [])
  step_done (layer.Instruction row) done is = row_done row done (row_passes row)
      ∙ ap (λ x. done_only (done ++ x ∷ [])) (sym (reactive.rolls-Instruction row))
  step_done (layer.Terminal statement) done is = refl
  step_done (layer.Scope block) done is = let bad : ⊥ = cc in absurd bad
  step_done (layer.PrunedScope block) done is = refl

  steps_done : (xs : List ReactiveStatement) (done : List ReactiveStatement)
      → list_any (λ x. is_scope (out-ReactiveStatement x)) xs ≡ false
      → steps env uses (done_only done) (map out-ReactiveStatement xs) ≡ done_only (done ++ xs)
  steps_done [] done none = ap done_only (sym (append-nil done))
  steps_done (x ∷ xs) done none =
      by (is_scope (out-ReactiveStatement x)) refl none (λ before rest. steps_done xs before rest)
    where
      by : (first : Bool) → is_scope (out-ReactiveStatement x) ≡ first
          → (first || list_any (λ y. is_scope (out-ReactiveStatement y)) xs) ≡ false
          → ((before : List ReactiveStatement) → list_any (λ y. is_scope (out-ReactiveStatement y)) xs ≡ false
          → steps env uses (done_only before) (map out-ReactiveStatement xs) ≡ done_only (before ++ xs))
          → steps env uses (done_only done) (map out-ReactiveStatement (x ∷ xs)) ≡ done_only (done ++ x ∷ xs)
      by true is none later = let bad : ⊥ = cc in absurd bad
      by false is none later =
          ap (λ g. steps env uses g (map out-ReactiveStatement xs)) (step_done (out-ReactiveStatement x) done is
          ∙ ap (λ y. done_only (done ++ y ∷ [])) (roll-out-ReactiveStatement x))
          ∙ later (done ++ x ∷ []) none ∙ ap done_only (append_assoc done (x ∷ []) xs)

  pub unmerged : (xs : List ReactiveStatement)
      → list_any (λ x. is_scope (out-ReactiveStatement x)) xs ≡ false
      → done_only xs ≡ went env uses (map out-ReactiveStatement xs) scopes copies log
  unmerged xs none = sym (ap close (steps_done xs [] none))
