-- The steps of the pass on scope blocks that compute nothing memoized.
use Rattle.std.specs.Prelude.{◌≡◌, Bool, true, false, List, None, Ok}
use Rattle.std.specs.Map.{lookup}
use Rattle.rc_hir.specs.Model.{Environment}
use Rattle.rc_names.specs.Numbers.{DeclarationId, same_id}
use Rattle.rc_tree.specs.Model.{ReactiveScopeBlock, ReactiveStatement, Transformed}
use Rattle.rc_tree.proofs.NoDeeper.{goes_inside_no_deeper, skips_no_deeper}
use Rattle.rc_tree.specs.Pruned.{emptied_scope}
use Rattle.rc_tree.specs.RewriteSteps.{EntersNoDeeper, RewriteSteps, idle, skips}
use Rattle.rc_tree.specs.declared.hooks.Transformed.TheVariants.{Keep, ReplaceMany}
use Rattle.rc_escape.specs.Outputs.{is_dissolved}
use Rattle.rc_escape.specs.Flags.{flagged_row, stored_by_value}
use Rattle.rc_escape.specs.Met.{Stores, with_dissolved_if, with_store, with_store_if}
use Rattle.rc_escape.specs.declared.not_escaping.met.Met.{Met}
use Rattle.rc_escape.specs.declared.not_escaping.met.Store.{Store}

-- whether a declaration has scopes that were stored into it; if so, one more is put to them
abbrev pub PutsScope : Bool → Store → Stores → Stores → Type 0
PutsScope true store old new = new ≡ with_store store old
PutsScope false store old new = (new ≡ old) × (lookup (same_id store.declaration) old ≡ None)

-- the answer for a scope block, with the block that is left
abbrev pub answer_if : Bool → ReactiveScopeBlock → Transformed ReactiveStatement × ReactiveScopeBlock
answer_if false block = (Keep, block)
answer_if true block = (ReplaceMany block.instructions.statements, emptied_scope block)

module _ {T : Type 0} (env_of : T → Environment) (set_of : T → List DeclarationId) where
  -- rows and scope blocks are judged by the memoized names; rows and values are skipped, and other parts are entered
  abbrev pub not_escaping_steps : RewriteSteps (T × Met)
  not_escaping_steps = record idle {
    enter_instruction = skips;
    enter_value = λ id. skips;
    transform_instruction = λ w row. Ok (
      Keep,
      (
        (w.0, with_store_if (stored_by_value (env_of w.0) row.lvalue row.value) w.1),
        flagged_row (env_of w.0) w.1 row,
      ),
    );
    transform_scope = λ w block. Ok (
      (answer_if (is_dissolved (env_of w.0) (set_of w.0) block.scope) block).0,
      (
        (w.0, with_dissolved_if (is_dissolved (env_of w.0) (set_of w.0) block.scope) block.scope w.1),
        (answer_if (is_dissolved (env_of w.0) (set_of w.0) block.scope) block).1,
      ),
    );
  }

  pub enters_no_deeper : EntersNoDeeper not_escaping_steps
  enters_no_deeper = record {
    instruction = skips_no_deeper _;
    value = λ id. skips_no_deeper _;
    terminal = goes_inside_no_deeper _;
    scope = goes_inside_no_deeper _;
    pruned_scope = goes_inside_no_deeper _;
    block = goes_inside_no_deeper _;
  }
