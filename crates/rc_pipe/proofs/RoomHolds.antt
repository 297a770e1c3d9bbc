-- A graph with room for early returns leaves it for the tree that it spells: each block number of the tree is a key of
-- the graph, and the tree has no more scope blocks than the graph opens.
use Rattle.std.proofs.Common.{◌≡◌, ◌∙◌, ◌<◌, ◌≤◌, ◌++◌, ℕ, Bool, true, false, List, [], ◌∷◌, All, Contains, Option}
use Rattle.std.proofs.Common.{None, Some, filter, get_or, if◌then◌else◌, length, option_and_then, option_map, suc}
use Rattle.std.proofs.Common.{zero, arith}
use Rattle.std.proofs.Common.{refl, ap}
use Rattle.std.proofs.lemmas.List.Elements.{All-append, All-contains, All-nil}
use Rattle.std.proofs.lemmas.List.Sums.{length-filter}
use Rattle.std.proofs.lemmas.Map.Made.{length-le_from_is_member}
use Rattle.std.proofs.lemmas.Map.Views.{Contains-from_any, Contains-from_lookup, list_any-from_Contains}
use Rattle.std.specs.List.{IsDistinct, cons_option, filter_map}
use Rattle.rc_early.specs.NewBlocks.{blocks_in, label_block}
use Rattle.rc_hir.specs.Model.{BasicBlock, Environment, HirFunction, Instruction, Terminal}
use Rattle.rc_hir.specs.declared.terminal.Terminal.TheVariants as terminals
use Rattle.rc_names.proofs.NumbersLemmas.{ids_equivalence, same_id-eq}
use Rattle.rc_names.specs.Numbers.{BlockId, ScopeId, same_id}
use Rattle.rc_runs.proofs.GraphLemmas.{usable_block-at}
use Rattle.rc_runs.specs.Fallthrough.{label_of}
use Rattle.rc_runs.specs.Graph.{Block, basic_block, block_at, rows_of, usable_block, with_rows}
use Rattle.rc_runs.specs.Spelled.{Spells}
use Rattle.rc_tree.specs.Model.{ReactiveFunction}
use Rattle.rc_tree.specs.ScopesIn.{scopes_in}
use Rattle.rc_pipe.proofs.SpelledContents.{IsKey, IsOpened, Opens, scope_opened, spelled_held}
use Rattle.rc_pipe.specs.Causes.{HasRoom, is_scope, scope_count}

-- what a list of entries gives has what each of its entries gives
given : {X Y : Type 0} (f : X → Option Y) (xs : List X) (x : X) (y : Y) → Contains xs x → f x ≡ Some y
    → Contains (filter_map f xs) y
given f [] x y there is = absurd (omega (arith, there.1))
given f (z ∷ xs) x y there is = at (given f xs x y) there.0 there.1 there.2
  where
    later : (found : Option _) → Contains (filter_map f xs) y → Contains (cons_option found (filter_map f xs)) y
    later None rest = rest
    later (Some first) rest = (suc rest.0, omega (arith, rest.1), rest.2)

    at : (Contains xs x → f x ≡ Some y → Contains (filter_map f xs) y) → (place : ℕ) → place < length (z ∷ xs)
        → get_or (z ∷ xs) place x ≡ x → Contains (filter_map f (z ∷ xs)) y
    at rest zero below same = rw (ap f same ∙ is) (0, omega arith, refl)
    at rest (suc place) below same = later (f z) (rest (place, omega (arith, below), same) is)

-- a property of one element
one : {X : Type 0} (P : X → Type 0) (x : X) → P x → All P (x ∷ [])
one P x is zero other below = is
one P x is (suc place) other below = absurd (omega (arith, below))

module _ (hir : HirFunction) where
  abbrev Entry : Type 0
  Entry = BlockId × BasicBlock

  -- the scopes whose blocks the graph opens
  abbrev opened_by : Entry → Option ScopeId
  opened_by entry = scope_opened entry.1.terminal

  abbrev scopes_opened : List ScopeId
  scopes_opened = filter_map opened_by hir.body.blocks

  as_many : (entries : List Entry)
      → length (filter_map opened_by entries) ≡ length (filter (λ entry. is_scope entry.1.terminal) entries)
  as_many [] = refl
  as_many (entry ∷ entries) = by (as_many entries) entry.1.terminal
    where
      by : length (filter_map opened_by entries) ≡ length (filter (λ e. is_scope e.1.terminal) entries)
          → (terminal : Terminal) → length (cons_option (scope_opened terminal) (filter_map opened_by entries))
          ≡ length (if is_scope terminal then entry ∷ filter (λ e. is_scope e.1.terminal) entries
          else filter (λ e. is_scope e.1.terminal) entries)
      by rest (terminals.Scope fallthrough block scope id span) = ap suc rest
      by rest terminal = rest

  count_opened : length scopes_opened ≡ scope_count hir
  count_opened = as_many hir.body.blocks ∙ length-filter (λ entry. is_scope entry.1.terminal) hir.body.blocks

  -- a block that a tree may use is an entry of the graph
  entry_of : (key : BlockId) (block : Block) → usable_block hir key ≡ Some block
      → (basic : BasicBlock) × Contains hir.body.blocks (key, basic) × (basic.terminal ≡ block.terminal)
  unfolding block_at
  entry_of key block usable = go (basic_block hir key) refl (usable_block-at hir key block usable)
    where
      same : (basic : BasicBlock) (rows : Option (List Instruction))
          → option_map (λ (r : List Instruction). record { rows = r; terminal = basic.terminal }) rows ≡ Some block
          → basic.terminal ≡ block.terminal
      same basic None e = absurd (let bad : ⊥ = cc in bad)
      same basic (Some rows) e = let it : record { rows = rows; terminal = basic.terminal } ≡ block = cc in
          ap (λ (b : Block). b.terminal) it

      go : (found : Option BasicBlock) → basic_block hir key ≡ found
          → option_and_then (with_rows hir) found ≡ Some block
          → (basic : BasicBlock) × Contains hir.body.blocks (key, basic) × (basic.terminal ≡ block.terminal)
      go None is e = absurd (let bad : ⊥ = cc in bad)
      go (Some basic) is e = (
        basic,
        Contains-from_lookup same_id-eq key basic hir.body.blocks is,
        same basic (rows_of hir.instructions basic.instructions) e,
      )

  opens_one : (scope : ScopeId) → Opens hir scope → Contains scopes_opened scope
  opens_one scope opens =
      let entry = entry_of opens.0 opens.1 opens.2 in
      given opened_by hir.body.blocks (opens.0, entry.0) scope entry.1 (ap scope_opened entry.2 ∙ opens.3)

  module _ (env : Environment) (func : ReactiveFunction) (spelled : Spells hir env func) where
    -- each scope of the tree is one that the graph opens
    pub scopes_among : All (Contains scopes_opened) (scopes_in func.body)
    scopes_among = spelled_held (Contains scopes_opened) (λ label. []) (λ target. [])
        (λ scope inside. inside ++ scope ∷ []) hir env (λ opened key is. All-nil (Contains scopes_opened))
        (λ key is. All-nil (Contains scopes_opened))
        (λ scope inside opens all. All-append (Contains scopes_opened) inside (scope ∷ []) all
        (one (Contains scopes_opened) scope (opens_one scope opens))) func spelled

    -- so a tree with some of its scopes, each once, has no more than the graph opens
    pub no_more_scopes : (scopes : List ScopeId) → IsDistinct same_id scopes
        → ((scope : ScopeId) → Contains scopes scope → Contains (scopes_in func.body) scope)
        → length scopes ≤ scope_count hir
    no_more_scopes scopes once among =
        let most = length-le_from_is_member ids_equivalence scopes scopes_opened once
        (λ scope there. list_any-from_Contains ids_equivalence scope scopes_opened
        (All-contains (Contains scopes_opened) (scopes_in func.body) scope scopes_among
        (among scope (Contains-from_any same_id-eq scope scopes there)))) in
        omega (arith, most, count_opened)

    module _ (room : HasRoom hir env) where
      -- a key of the graph is below the next block
      key_below : (key : BlockId) → IsKey hir key → key.0 < env.next_block
      key_below key is =
          let entry = entry_of key is.0 is.1 in
          All-contains (λ (entry : Entry). entry.0.0 < env.next_block) hir.body.blocks (key, entry.0)
          room.above_keys entry.1

      -- and so is each block number of the tree
      pub blocks_below : All (λ block. block.0 < env.next_block) (blocks_in func.body)
      blocks_below = spelled_held IsBelow label_block (λ target. target ∷ []) (λ scope inside. inside) hir env of_label
          (λ key is. one IsBelow key (key_below key is)) (λ scope inside opens all. all) func spelled
        where
          IsBelow : BlockId → Type 0
          IsBelow block = block.0 < env.next_block

          of_label : (opened : Bool) (key : BlockId) → IsOpened hir opened (Some key)
              → All IsBelow (label_block (label_of opened key))
          of_label true key is = one IsBelow key (key_below key is)
          of_label false key is = All-nil IsBelow
