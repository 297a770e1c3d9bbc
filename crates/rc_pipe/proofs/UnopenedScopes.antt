-- Where no block of a graph opens a scope, the tree that it spells has no scope block.
use Rattle.std.proofs.Common.{◌≡◌, ◌∙◌, ◌≤◌, ◌+◌, true, List, [], ◌∷◌, Option, None, Some, refl, ap, subst, arith}
use Rattle.std.proofs.Common.{if◌then◌else◌, is_none, option_and_then, option_map}
use Rattle.std.proofs.lemmas.List.Elements.{All-contains}
use Rattle.std.proofs.lemmas.Map.Views.{Contains-from_lookup}
use Rattle.std.specs.List.{cons_option, filter_map}
use Rattle.rc_hir.specs.Model.{BasicBlock, Environment, HirFunction, Instruction}
use Rattle.rc_names.specs.Numbers.{BlockId, ScopeId, same_id, times}
use Rattle.rc_names.proofs.NumbersLemmas.{ids_equivalence, same_id-eq}
use Rattle.rc_tree.specs.Model.{ReactiveFunction}
use Rattle.rc_runs.specs.Graph.{Block, basic_block, block_at, rows_of, with_rows}
use Rattle.rc_runs.specs.Spelled.{Spells, scope_at, scope_named}
use Rattle.rc_runs.specs.TreeOf.{block_of}
use Rattle.rc_checks.proofs.ScopeBlocks.SpelledOnce.{body_times}
use Rattle.rc_tree.specs.ScopesIn.{scopes_in}
use Rattle.rc_pipe.specs.inside.OpenedScopes.{OpensNoScope}

-- a list in which no scope occurs is empty
none_among : (scopes : List ScopeId) → ((scope : ScopeId) → times scope scopes ≤ 0) → scopes ≡ []
none_among [] never = refl
none_among (scope ∷ scopes) never =
    let own : same_id scope scope ≡ true = ids_equivalence.refl scope in
    let all : (if same_id scope scope then 1 else 0) + times scope scopes ≤ 0 = never scope in
    absurd (omega (arith, rw own at all))

empty : (scope : Option ScopeId) → is_none scope ≡ true → scope ≡ None
empty None is = refl
empty (Some scope) is = absurd (let bad : ⊥ = cc in bad)

module _ (hir : HirFunction) (none : OpensNoScope hir) where
  -- the block under a key opens none
  none_at : (key : BlockId) → scope_at hir key ≡ None
  unfolding block_at
  none_at key = of_block (basic_block hir key) refl
    where
      of_rows : (block : BasicBlock) (rows : Option (List Instruction)) → is_none (scope_named block.terminal) ≡ true
          → option_and_then (λ (b : Block). scope_named b.terminal)
          (option_map (λ (r : List Instruction). record { rows = r; terminal = block.terminal }) rows) ≡ None
      of_rows block None is = refl
      of_rows block (Some rows) is = empty (scope_named block.terminal) is

      of_block : (found : Option BasicBlock) → basic_block hir key ≡ found
          → option_and_then (λ (b : Block). scope_named b.terminal) (option_and_then (with_rows hir) found) ≡ None
      of_block None is = refl
      of_block (Some block) is = of_rows block (rows_of hir.instructions block.instructions)
          (All-contains (λ (entry : BlockId × BasicBlock). is_none (scope_named entry.1.terminal) ≡ true)
          hir.body.blocks (key, block) none (Contains-from_lookup same_id-eq key block hir.body.blocks is))

  none_opened : (used : List BlockId) → filter_map (scope_at hir) used ≡ []
  none_opened [] = refl
  none_opened (key ∷ used) =
      ap (λ scope. cons_option scope (filter_map (scope_at hir) used)) (none_at key) ∙ none_opened used

  pub none_spelled : (env : Environment) (func : ReactiveFunction) → Spells hir env func → scopes_in func.body ≡ []
  none_spelled env func spelled =
      ap (λ (f : ReactiveFunction). scopes_in f.body) spelled.whole
      ∙ none_among (scopes_in (block_of spelled.statements)) (λ scope.
      subst (λ opened. times scope (scopes_in (block_of spelled.statements)) ≤ times scope opened)
      (none_opened spelled.body.used) (body_times hir env scope spelled.body.list))
