-- A tree without its unused scopes: the block of a scope that gives nothing becomes a pruned one.
--
-- A scope gives something where it reassigns a name, declares one of its own, or has a `Return` in its block outside
-- nested scope blocks. Blocks are judged from the inside. A `Return` in a nested scope block doesn't count, also where
-- that block becomes a pruned one; one in a block that was pruned before does.
use Rattle.std.specs.Prelude.{◌≡◌, Bool, true, false, List, [], ◌∷◌, Option, None, Some, Ok, Err, nat_eq}
use Rattle.std.specs.Prelude.{◌++◌, length, map, not, slice_get, ◌≤◌, ◌||◌, if◌then◌else◌}
use Rattle.std.specs.List.{Contains, filter, list_any}
use Rattle.std.specs.Option.{option_map_or}
use Rattle.rc_hir.specs.Model.{Environment, Fault, DeclarationEntry, ReactiveScope}
use Rattle.rc_hir.specs.declared.fault.Fault.TheVariants.{BadName}
use Rattle.rc_hir.specs.declared.fault.TableName.TheVariants.{Scopes}
use Rattle.rc_names.specs.Numbers.{ScopeId}
use Rattle.rc_checks.specs.ScopeBlocks.{ScopeBlock, scope_blocks}
use Rattle.rc_tree.specs.Unrolled.{UnrolledTerminal}
use Rattle.rc_tree.specs.Rebuilt.{Rebuilds, Rules, keeps_statements, rebuilt_block}
use Rattle.rc_tree.specs.declared.fate.Fate.TheVariants.{Unused}
use Rattle.rc_tree.specs.declared.fate.ScopeFate.{ScopeFate}
use Rattle.rc_tree.specs.Model.{ReactiveScopeBlock, ReactiveBlock, ReactiveStatement}
use Rattle.rc_tree.specs.Decided.{FateRule}
use Rattle.rc_tree.specs.Pruned.{as_pruned}
use Rattle.rc_tree.specs.declared.statement.ReactiveStatement.TheOpen as layer
use Rattle.rc_tree.specs.declared.statement.ReactiveStatement.TheVariants as reactive
use Rattle.rc_tree.specs.declared.terminal.ReactiveTerminal.{out-ReactiveTerminal}

-- the list has an entry
abbrev pub has_entry : {X : Type 0} → List X → Bool
has_entry [] = false
has_entry (x ∷ xs) = true

-- the declaration belongs to that scope
abbrev pub belongs_to : ScopeId → DeclarationEntry → Bool
belongs_to id entry = nat_eq entry.value.scope.0 id.0

-- the scope reassigns a name, or declares one of its own
abbrev pub has_own_output : ReactiveScope → ScopeId → Bool
has_own_output scope id = has_entry scope.reassignments || list_any (belongs_to id) scope.declarations

-- the scope gives something, where `returns` says whether a `Return` is in its block
abbrev pub is_used : ReactiveScope → ScopeId → Bool → Bool
is_used scope id returns = returns || has_own_output scope id

-- how far the pass has come: whether a `Return` was met since the innermost scope block began, and what was decided
pub record Progress : Type 0 where
  pub returns : Bool
  pub log : List ScopeFate

-- the state after a scope block and the block's replacement, from the state before it and the one at the end of its
-- inside
abbrev pub judged_by : Bool → Progress → ReactiveScopeBlock → Progress → Progress × List ReactiveStatement
judged_by used around block met =
    if used then (record { returns = around.returns; log = met.log }, reactive.Scope block ∷ [])
    else (
      record {
        returns = around.returns;
        log = met.log ++ record { scope = block.scope; fate = Unused } ∷ [];
      },
      reactive.PrunedScope (as_pruned block) ∷ [],
    )

-- the same by the scope of the block's number; there is none where the number is outside the table
abbrev pub judged : Option ReactiveScope → Progress → ReactiveScopeBlock → Rebuilds Progress (List ReactiveStatement)
judged None around block met = Err (BadName Scopes block.scope.0)
judged (Some scope) around block met = Ok (judged_by (is_used scope block.scope met.returns) around block met)

-- the terminal is a `Return`
abbrev pub is_return : UnrolledTerminal → Bool
is_return (layer.Return value id) = true
is_return _ = false

-- the rule for each statement
abbrev pub unused_scope_rules : Environment → Rules Progress
unused_scope_rules env = record {
  row = λ row met. Ok (met, reactive.Instruction row ∷ []);
  terminal = λ statement met. Ok (
    record met { returns = met.returns || is_return (out-ReactiveTerminal statement.terminal) },
    reactive.Terminal statement ∷ [],
  );
  pruned_scope = λ block met. Ok (met, reactive.PrunedScope block ∷ []);
  into_scope = λ scope met. record met { returns = false };
  scope = λ around block met. judged (slice_get env.scopes block.scope.0) around block met;
  block = keeps_statements;
}

-- nothing is met yet
abbrev pub nothing_met : Progress
nothing_met = record { returns = false; log = [] }

-- the second block is the first one without its unused scopes, and the log says which they are
pub record LosesUnusedScopes (env : Environment) (before after : ReactiveBlock) (log : List ScopeFate) : Type 0 where
  -- a `Return` is in it outside its scope blocks
  pub returns : Bool
  pub rebuilt : rebuilt_block (unused_scope_rules env) before nothing_met
      ≡ Ok (record { returns = returns; log = log }, after)

-- the second block is the first one without its unused scopes
pub record IsWithoutUnusedScopes (env : Environment) (before after : ReactiveBlock) : Type 0 where
  pub log : List ScopeFate
  pub loses : LosesUnusedScopes env before after log

-- the fault of the rules: it names the scope of the first scope block, from the inside, that is outside the table
abbrev pub IsFirstScopeOutside : Environment → ReactiveBlock → Fault → Type 0
IsFirstScopeOutside env before fault = rebuilt_block (unused_scope_rules env) before nothing_met ≡ Err fault

-- the scope of that block gives something
abbrev pub stays : Environment → ScopeBlock → Bool
stays env block = option_map_or (λ scope. is_used scope block.scope block.returns) (slice_get env.scopes block.scope.0)
    false

-- the scope blocks that stay where unused scopes are pruned
abbrev pub staying_blocks : Environment → ReactiveBlock → List ScopeBlock
staying_blocks env before = filter (stays env) (scope_blocks before)

-- the decisions on the others, in the order in which they end
abbrev pub decisions : Environment → List ScopeBlock → List ScopeFate
decisions env blocks =
    map (λ (block : ScopeBlock). record { scope = block.scope; fate = Unused }) (filter (λ block. not (stays env block))
    blocks)

-- the fault names the block's scope, which is outside the table
abbrev pub IsBlockOutside : Environment → Fault → ScopeBlock → Type 0
IsBlockOutside env fault block = (fault ≡ BadName Scopes block.scope.0) × (length env.scopes ≤ block.scope.0)

-- the fault names the scope of one of the tree's scope blocks, which is outside the table
abbrev pub IsScopeOutside : Environment → ReactiveBlock → Fault → Type 0
IsScopeOutside env before fault =
    (block : ScopeBlock) × Contains (scope_blocks before) block × IsBlockOutside env fault block

-- the scope is unused: a block of it gives nothing
abbrev pub IsUnused : Environment → ReactiveBlock → ScopeId → Type 0
IsUnused env body scope = (block : ScopeBlock) × Contains (scope_blocks body) block × (block.scope ≡ scope)
    × (stays env block ≡ false)

-- the rule of the pass: it gives unused scopes that fate, and no others
abbrev pub unused_rule : Environment → ReactiveBlock → FateRule
unused_rule env body scope fate = (fate ≡ Unused) × IsUnused env body scope
