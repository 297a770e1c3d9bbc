-- A body with early returns has the runs that it had, and no others.
use Rattle.std.proofs.Common.{◌≡◌, ◌∙◌, ◌↔◌, ◌<◌, ◌≤◌, Bool, true, false, List, None, refl, sym, ap, arith}
use Rattle.std.proofs.Common.{OnOk, Result, Ok, Err, subst}
use Rattle.std.specs.Prelude.{All, IfSome, ◌||◌, slice_index_or}
use Rattle.std.proofs.lemmas.List.Folds.{list_any_at, list_any_none}
use Rattle.std.proofs.Math.Bool.{or-false}
use Rattle.rc_names.specs.Numbers.{BlockId, same_id}
use Rattle.rc_names.proofs.NumbersLemmas.{ids_equivalence, same_id-eq}
use Rattle.rc_hir.specs.Names.{IsInTable, lengths}
use Rattle.rc_hir.specs.Model.{Environment, Fault}
use Rattle.rc_tree.specs.Model.{ReactiveBlock, ReactiveFunction}
use Rattle.rc_tree.specs.Rebuilt.{rebuilt_block}
use Rattle.rc_tree.specs.TreeNames.{TreeInTables, names_in, names_of_parts}
use Rattle.rc_runs.specs.BodyRun.{IsBodyRun, RunsList}
use Rattle.rc_runs.specs.Completion.{Ended}
use Rattle.rc_runs.specs.Event.{End, Event}
use Rattle.rc_runs.specs.PlainTree.{Statements}
use Rattle.rc_runs.specs.Returning.{is_early_label, returning}
use Rattle.rc_runs.specs.TreeOf.{block_of}
use Rattle.rc_runs.proofs.AllLemmas.{All-left, All-right}
use Rattle.rc_runs.proofs.EveryBlockIsPlain.{every_block_is_plain}
use Rattle.rc_runs.proofs.TreeOfLemmas.{block_of-injective}
use Rattle.rc_early.specs.EarlyReturned.{HasEarlyReturns, MakesEarlyReturns, Progress}
use Rattle.rc_early.specs.EarlyReturned.{early_return_rules as rules, nothing_met}
use Rattle.rc_early.specs.Entries.{with_early_returns}
use Rattle.rc_early.specs.NewBlocks.{HasNewBlocks, block_parts, blocks_in}
use Rattle.rc_early.specs.declared.early_return.EarlyReturn.{EarlyReturn}
use Rattle.rc_early.proofs.KeptRuns.EarlyLabels.{same_identifiers}
use Rattle.rc_early.proofs.KeptRuns.HeldParts.{Gives, all_held}
use Rattle.rc_early.proofs.KeptRuns.KeptLeaves.{old_blocks}
use Rattle.rc_early.proofs.KeptRuns.KeptParts.{BodyAlike, Fits, Kept, Suits, kept_body}
use Rattle.rc_early.proofs.KeptRuns.KeptTree.{kept_list}
use Rattle.rc_early.proofs.KeptRuns.PlainParts.{HoldsAll, returning_holds}
use Rattle.rc_early.proofs.KeptRuns.ProgressHolds.{Moved, after_body}
use Rattle.rc_early.proofs.KeptRuns.ProgressHolds as progress
use Rattle.rc_early.proofs.KeptRuns.RunsElsewhere.{list_elsewhere}
use Rattle.rc_early.proofs.KeptRuns.ValuesAlike.{alike_values, names_give}

-- none of the blocks is a new one
abbrev AreOld : Environment → List BlockId → Type 0
AreOld env = All (λ block. block.0 < env.next_block)

-- the blocks of a tree give what is asked of its jumps
blocks_give : (env : Environment) → Gives block_parts (AreOld env) (old_blocks env)
blocks_give env = record {
  left = All-left (λ (block : BlockId). block.0 < env.next_block);
  right = All-right (λ (block : BlockId). block.0 < env.next_block);
  row = λ id target value span all. tt;
  value = λ id value all. tt;
  jump = λ target all. all 0 target (omega arith);
  scope = λ scope inside all. all;
  pruned_scope = λ scope inside all. all;
}

or_true : (b : Bool) → (b || true) ≡ true
or_true true = refl
or_true false = refl

-- a new block isn't one that was there
apart : (old : Environment) (label block : BlockId) → old.next_block ≤ label.0 → block.0 < old.next_block
    → same_id label block ≡ false
apart old label block new below = by (same_id label block) refl
  where
    by : (same : Bool) → same_id label block ≡ same → same ≡ false
    by false is = refl
    by true is = absurd (let equal : label.0 ≡ block.0 = ap (λ (x : BlockId). x.0) (same_id-eq label block is) in
        let bad : ⊥ = omega (arith, equal) in bad)

module _ (before after : ReactiveBlock) (old : Environment) (made : List EarlyReturn)
    (makes : MakesEarlyReturns old before after made) where
  -- the environment with all early returns
  abbrev all : Environment
  all = progress.after old made

  abbrev last : Progress
  last = record { at = makes.at; met = makes.met; made = made }

  moved : Moved old nothing_met last
  moved = after_body old before after made makes

  -- a block that was there is the label of an early return where it was one before
  same_labels : (block : BlockId) → block.0 < old.next_block → is_early_label all block ≡ is_early_label old block
  same_labels block below = moved.sound.labels block ∙ ap (λ made. is_early_label old block || made)
      (list_any_none (λ (early : EarlyReturn). same_id early.entry.label block) made
      (λ k d lt. apart old (slice_index_or made k d).entry.label block (moved.sound.new k d lt) below))
      ∙ or-false (is_early_label old block)

  -- each label of an early return that was made is an early return label of the environment
  made_labels : All (λ (early : EarlyReturn). Fits old all early.entry) made
  made_labels k d lt =
      let label = (slice_index_or made k d).entry.label in (
        moved.sound.labels label ∙ ap (λ made. is_early_label old label || made)
            (list_any_at (λ (early : EarlyReturn). same_id early.entry.label label) made k d lt
            (ids_equivalence.refl label)) ∙ or_true (is_early_label old label),
        moved.sound.new k d lt,
      )

  suits : Suits old all last
  suits = (subst (λ met. IfSome met (Fits old all)) (sym (moved.sound.outside moved.place)) tt, made_labels)

  -- the first body as plain statements, whose numbers are in their tables and whose jumps name no new block
  module _ (statements : Statements) (is : before ≡ block_of statements) (blocks : HasNewBlocks before old)
      (known : All (IsInTable (lengths old 0)) (names_in before)) where
    jumps : HoldsAll (old_blocks old) statements
    jumps = all_held block_parts (AreOld old) (old_blocks old) (blocks_give old) statements
        (subst (λ b. AreOld old (blocks_in b)) is blocks.blocks)

    -- the second body as plain statements
    kept : Kept old all block_of (BodyAlike old all statements) nothing_met after
    kept = kept_body old all statements (kept_list old all same_labels statements jumps) nothing_met (last, after)
        (ap (λ b. rebuilt_block (rules old) b nothing_met) (sym is) ∙ makes.rebuilt) suits

    in_tables : All (IsInTable (lengths old 0)) (names_in (block_of statements))
    in_tables = subst (λ b. All (IsInTable (lengths old 0)) (names_in b)) is known

    -- the statements have the same runs in both environments
    forth : (events : List Event) (end : End) → RunsList old (returning old statements) events (Ended end)
        → RunsList all (returning old statements) events (Ended end)
    forth events end = list_elsewhere old all (returning_holds (alike_values old all) old None statements
        (all_held names_of_parts (All (IsInTable (lengths old 0))) (alike_values old all)
        (names_give old all (lengths old 0) (same_identifiers made old)) statements in_tables))

    back : (events : List Event) (end : End) → RunsList all (returning old statements) events (Ended end)
        → RunsList old (returning old statements) events (Ended end)
    back events end = list_elsewhere all old (returning_holds (alike_values all old) old None statements
        (all_held names_of_parts (All (IsInTable (lengths old 0))) (alike_values all old)
        (names_give all old (lengths old 0) (λ n lt. sym (same_identifiers made old n lt))) statements in_tables))

module _ (before after : ReactiveFunction) (old : Environment) (made : List EarlyReturn)
    (makes : MakesEarlyReturns old before.body after.body made) (tables : TreeInTables before old)
    (blocks : HasNewBlocks before.body old) where
  run_after : (events : List Event) (end : End) → IsBodyRun before old events end
      → IsBodyRun after (progress.after old made) events end
  run_after events end run =
      let kept = kept before.body after.body old made makes run.statements run.body blocks tables.body in
      record {
        statements = kept.after;
        body = kept.tree;
        run = kept.alike.0 events (Ended end) (forth before.body after.body old made makes run.statements run.body
            blocks tables.body events end run.run);
      }

  run_before : (events : List Event) (end : End) → IsBodyRun after (progress.after old made) events end
      → IsBodyRun before old events end
  run_before events end run =
      let plain = every_block_is_plain before.body in
      let kept = kept before.body after.body old made makes plain.0 (sym plain.1) blocks tables.body in
      let same : run.statements ≡ kept.after =
      block_of-injective run.statements kept.after (sym run.body ∙ kept.tree) in
      record {
        statements = plain.0;
        body = sym plain.1;
        run = back before.body after.body old made makes plain.0 (sym plain.1) blocks tables.body events end
            (kept.alike.1 events (Ended end) (subst (λ s. RunsList (progress.after old made)
            (returning (progress.after old made) s) events (Ended end)) same run.run));
      }

-- early returns keep the set of body runs of each tree whose numbers are in their tables, if the next new block is
-- above its block numbers and above the labels of early returns
pub early_returns_keep_runs : (before after : ReactiveFunction) (old new : Environment)
    → HasEarlyReturns before.body old after.body new → TreeInTables before old → HasNewBlocks before.body old
    → (events : List Event) (end : End) → IsBodyRun before old events end ↔ IsBodyRun after new events end
early_returns_keep_runs before after old new returned tables blocks events end =
    subst (λ env. IsBodyRun before old events end ↔ IsBodyRun after env events end) (sym returned.entries) (
      run_after before after old returned.made returned.makes tables blocks events end,
      run_before before after old returned.made returned.makes tables blocks events end,
    )

-- the same of a call that adds the entries of early returns that were made in a body, if it succeeds
pub keep_runs_if_ok : (result : Result (Unit {0}) Fault) (before after : ReactiveFunction) (old new : Environment)
    (made : List EarlyReturn) → MakesEarlyReturns old before.body after.body made
    → OnOk result (new ≡ with_early_returns made old) → TreeInTables before old → HasNewBlocks before.body old
    → OnOk result ((events : List Event) (end : End) → IsBodyRun before old events end ↔ IsBodyRun after new events end)
keep_runs_if_ok (Ok done) before after old new made makes entries tables blocks =
    early_returns_keep_runs before after old new (record { made = made; makes = makes; entries = entries }) tables
    blocks
keep_runs_if_ok (Err fault) before after old new made makes entries tables blocks = tt
