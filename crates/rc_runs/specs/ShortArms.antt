-- Short arms: the alternate of an optional, which leads to its short end through silent blocks.
--
-- The optional that ends the test of another optional may answer that test: then both share one alternate, the short
-- arm, which is used once, by the outermost of them.
use Rattle.std.specs.Prelude.{◌≡◌, Bool, true, false, List, [], ◌∷◌, Option, Some, None}
use Rattle.std.specs.List.{list_all}
use Rattle.rc_names.specs.Numbers.{BlockId, same_id}
use Rattle.rc_hir.specs.Model.{Instruction, HirFunction, Environment}
use Rattle.rc_hir.specs.declared.terminal.Terminal.TheVariants as terminals
use Rattle.rc_runs.specs.Silent.{is_silent}
use Rattle.rc_runs.specs.Graph.{Block, usable_block}
use Rattle.rc_runs.specs.ListContext.{is_current}

-- no row has an event
abbrev pub are_silent : Environment → List Instruction → Bool
are_silent env rows = list_all (λ row. is_silent env row.id row.value) rows

-- a silent arm under a handler: a chain of blocks without events, after which the graph goes on at the next block
pub data SpellsSilentArm (hir : HirFunction) (env : Environment) (handler : Option BlockId) (next : BlockId) : BlockId
    → List BlockId → Type 0 where
  silent_block : {key : _} {block : Block} {variant id span : _} → usable_block hir key ≡ Some block →
      are_silent env block.rows ≡ true → block.terminal ≡ terminals.Goto next variant id span →
      SpellsSilentArm hir env handler next key (key ∷ [])
  silent_chain : {key continuation : _} {block : Block} {named id span used : _} → usable_block hir key ≡ Some block →
      are_silent env block.rows ≡ true → block.terminal ≡ terminals.MaybeThrow continuation named id span →
      is_current named handler ≡ true → SpellsSilentArm hir env handler next continuation used →
      SpellsSilentArm hir env handler next key (key ∷ used)

-- the short arm of a value terminal: there is none, it is left to the test that the value answers, or it is its own.
-- It says which alternate is left open then, given the one that the value after the terminal leaves open
pub data SpellsShortArm (hir : HirFunction) (env : Environment) (handler : Option BlockId) (next : BlockId) : Bool →
    Option BlockId → Option BlockId → Option BlockId → List BlockId → Type 0 where
  no_arm : {answers behind : _} → SpellsShortArm hir env handler next answers None behind behind []
  left_to_test : {alternate behind : _} →
      SpellsShortArm hir env handler next true (Some alternate) behind (Some alternate) []
  own_arm : {alternate behind used : _} → SpellsSilentArm hir env handler next alternate used →
      SpellsShortArm hir env handler next false (Some alternate) behind behind used

-- the alternate that a test leaves open, if there is one, is that of the optional
abbrev pub shares_alternate : Option BlockId → BlockId → Bool
shares_alternate None alternate = true
shares_alternate (Some left) alternate = same_id left alternate
