-- Causes exclude a graph whose numbers are in their tables and that spells a function, and what the walk refuses of it
-- has a cause.
use Rattle.std.proofs.Common.{◌≡◌, ℕ, ◌<◌, ◌≤◌, ◌⊎◌, inl, inr, true, List, [], ◌∷◌, ◌++◌, length, Option, Some, None}
use Rattle.std.proofs.Common.{refl, eqb-true, arith, slice_get}
use Rattle.std.proofs.lemmas.Bool.{or_cases}
use Rattle.std.proofs.lemmas.Map.Views.{Contains-from_lookup}
use Rattle.std.specs.List.{All, flat_map, list_any}
use Rattle.std.specs.Prelude.{nat_eq}
use Rattle.rc_names.specs.Numbers.{BlockId, InstructionId}
use Rattle.rc_hir.specs.Model.{Fault, Rule, HirFunction, Environment}
use Rattle.rc_hir.specs.declared.fault.Fault.TheVariants as faults
use Rattle.rc_hir.specs.declared.fault.TableName.TheVariants as table_names
use Rattle.rc_hir.specs.GraphNames.{Name, row_name, block_names, under_key, parameter_names}
use Rattle.rc_hir.specs.GraphNames.{place_names, instruction_names, terminal_names}
use Rattle.rc_hir.specs.Names.{IsInTable, lengths, FunctionInTables, NamesInTables}
use Rattle.rc_tree.specs.Model.{ReactiveFunction}
use Rattle.rc_tree.proofs.PlaceLemmas.{past_end}
use Rattle.rc_runs.specs.Spelled.{Spells}
use Rattle.rc_runs.proofs.AllLemmas.{All-left, All-right, All-flat_map}
use Rattle.rc_names.proofs.NumbersLemmas.{same_id-eq}
use Rattle.rc_runs.proofs.NamesOutsideLemmas.{no_name_outside}
use Rattle.rc_build.specs.BuildCauses.{IsBuildCause, SpellsNone}
use Rattle.rc_build.specs.BlockFacts.{BlockIs}
use Rattle.rc_build.specs.RuleFacts.{LacksRow, FaultFact}
use Rattle.rc_build.specs.inside.Built.{refusal}

module _ (hir : HirFunction) (env : Environment) where
  -- the number is in its table, where the function's rows count
  abbrev Held : Name → Type 0
  Held name = IsInTable (lengths env (length hir.instructions)) name

  -- rows that are there are not past the end
  none_past : (index : ℕ) (numbers : List InstructionId) → All Held (flat_map row_name numbers)
      → length hir.instructions ≤ index
      → list_any (λ number. nat_eq index number.0) numbers ≡ true → ⊥
  none_past index [] all past any = let no : ⊥ = cc in no
  none_past index (n ∷ ns) all past any =
      let here : n.0 < length hir.instructions = All-left Held (row_name n) (flat_map row_name ns) all 0
      (table_names.Instructions, 0) (omega arith) in
      split here (λ any. none_past index ns (All-right Held (row_name n) (flat_map row_name ns) all) past any)
      (or_cases (nat_eq index n.0) _ any)
    where
      split : n.0 < length hir.instructions → (list_any (λ number. nat_eq index number.0) ns ≡ true → ⊥)
          → (nat_eq index n.0 ≡ true) ⊎ (list_any (λ number. nat_eq index number.0) ns ≡ true) → ⊥
      split here later (inl same) = omega (arith, eqb-true index n.0 same)
      split here later (inr any) = later any

  -- a block of a named function names no row that isn't there
  no_row_lacks : FunctionInTables env hir → (key : BlockId) (index : ℕ) → slice_get hir.instructions index ≡ None
      → BlockIs hir key (LacksRow hir index) → ⊥
  no_row_lacks names key index none at =
      let held = Contains-from_lookup same_id-eq key at.block hir.body.blocks at.found in
      let later : All Held (flat_map place_names hir.context
      ++ (flat_map (under_key block_names) hir.body.blocks ++ flat_map instruction_names hir.instructions)) =
      All-right Held (flat_map parameter_names hir.params) _ names
      in
      let blocks : All Held (flat_map (under_key block_names) hir.body.blocks) =
      All-left Held (flat_map (under_key block_names) hir.body.blocks) (flat_map instruction_names hir.instructions)
      (All-right Held (flat_map place_names hir.context) _ later)
      in
      let here : All Held (flat_map row_name at.block.instructions ++ terminal_names at.block.terminal) =
      All-flat_map Held (under_key block_names) hir.body.blocks blocks held.0 (key, at.block) held.1 held.2
      in
      none_past index at.block.instructions (All-left Held (flat_map row_name at.block.instructions)
      (terminal_names at.block.terminal) here)
      (past_end hir.instructions index none) at.holds

module _ (hir : HirFunction) (env : Environment) (names : NamesInTables hir env) where
  -- a graph whose numbers are in their tables and that spells a function is refused only if memory runs out
  pub only_memory : (func : ReactiveFunction) → Spells hir env func → (fault : Fault) → IsBuildCause hir env fault
      → fault ≡ faults.NoMemory
  only_memory func spelled (faults.BadName table index) cause =
      absurd (no_name_outside hir env names (faults.BadName table index) cause)
  only_memory func spelled (faults.Malformed block rule) cause = absurd (cause.1 func spelled)
  only_memory func spelled faults.NoMemory cause = refl
  only_memory func spelled (faults.Todo block) cause = absurd (cause.1 func spelled)
  only_memory func spelled (faults.EarlyReturnSet scope) cause = absurd cause
  only_memory func spelled (faults.ScopeCompleted id scope) cause = absurd cause
  only_memory func spelled (faults.Uninitialised declaration) cause = absurd cause
  only_memory func spelled (faults.NoScopeNode scope) cause = absurd cause
  only_memory func spelled faults.NoIds cause = absurd cause
  only_memory func spelled (faults.BadTarget target) cause = absurd cause
  only_memory func spelled (faults.FunctionCycle function) cause = absurd cause

  -- what the walk refuses of such a graph has a cause
  pub cause_of : (fault : Fault) → FaultFact hir fault →
      ((block : BlockId) (rule : Option Rule) → fault ≡ refusal block rule → SpellsNone hir env)
      → IsBuildCause hir env fault
  cause_of (faults.Malformed block rule) fact none = (names, none block (Some rule) refl, fact)
  cause_of (faults.BadName table_names.Instructions index) fact none =
      absurd (no_row_lacks hir env names.graph fact.1.0 index fact.0 fact.1.1)
  cause_of faults.NoMemory fact none = tt
  cause_of (faults.BadName table_names.Identifiers index) fact none = absurd fact
  cause_of (faults.BadName table_names.Declarations index) fact none = absurd fact
  cause_of (faults.BadName table_names.Types index) fact none = absurd fact
  cause_of (faults.BadName table_names.Scopes index) fact none = absurd fact
  cause_of (faults.BadName table_names.Functions index) fact none = absurd fact
  cause_of (faults.BadName table_names.Shapes index) fact none = absurd fact
  cause_of (faults.Todo block) fact none = (names, none block None refl, fact)
  cause_of (faults.EarlyReturnSet scope) fact none = absurd fact
  cause_of (faults.ScopeCompleted id scope) fact none = absurd fact
  cause_of (faults.Uninitialised declaration) fact none = absurd fact
  cause_of (faults.NoScopeNode scope) fact none = absurd fact
  cause_of faults.NoIds fact none = absurd fact
  cause_of (faults.BadTarget target) fact none = absurd fact
  cause_of (faults.FunctionCycle function) fact none = absurd fact
