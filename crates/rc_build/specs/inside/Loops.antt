-- Loops: when their values and their turns can be built, and what is built of them.
use Rattle.std.specs.Prelude.{◌≡◌, Bool, true, false, List, [], ◌∷◌, ◌++◌, Option, Some, Result, option_map}
use Rattle.std.specs.Option.{option_to_list}
use Rattle.rc_names.specs.Numbers.{BlockId}
use Rattle.rc_hir.specs.Model.{Fault, HirFunction}
use Rattle.rc_tree.specs.Model.{ReactiveStatement, ReactiveTerminal, ReactiveValue}
use Rattle.rc_tree.specs.declared.terminal.ReactiveTerminal.TheVariants as tree
use Rattle.rc_runs.specs.declared.frames.Frame.{Frame}
use Rattle.rc_runs.specs.Frames.{is_jump_target}
use Rattle.rc_runs.specs.Graph.{ends_unreachable}
use Rattle.rc_runs.specs.ListContext.{value_context}
use Rattle.rc_runs.specs.LoopParts.{LoopParts, loop_frame, turn_start}
use Rattle.rc_runs.specs.LoopValues.{SpellsTest}
use Rattle.rc_runs.specs.PlainTree.{Value}
use Rattle.rc_runs.specs.TreeOf.{statements_of, value_of}
use Rattle.rc_runs.specs.Grammar.{SpellsBefore, SpellsTurns}
use Rattle.rc_build.specs.declared.builder.Builder.{Builder}
use Rattle.rc_build.specs.declared.builder.Marks.{Marks}
use Rattle.rc_build.specs.declared.builder.Site.{Site}
use Rattle.rc_build.specs.declared.loops.LoopTerminal.{LoopTerminal}
use Rattle.rc_build.specs.declared.loops.LoopKind.{LoopKind}
use Rattle.rc_build.specs.declared.loops.LoopKind.TheVariants as kinds
use Rattle.rc_build.specs.declared.loops.LoopBody.{LoopBody}
use Rattle.rc_build.specs.declared.loops.LoopValues.{LoopValues}
use Rattle.rc_build.specs.declared.loops.TurnValues.{TurnValues}
use Rattle.rc_build.specs.BlockFacts.{BlockIs}
use Rattle.rc_build.specs.inside.CanBuild.{AreMarked, AreOwned, AreReferenced, AreUsed, IsHandler, IsUsed}
use Rattle.rc_build.specs.inside.CanBuild.{pending_blocks, used_blocks}
use Rattle.rc_build.specs.inside.Setting.{Setting, label_at, setting_of, terminal_statement}
use Rattle.rc_build.specs.inside.Task.{FromTerminal, Progress, Spells, progress_of}
use Rattle.rc_build.specs.inside.Built.{Builds, BuiltPart, Refused}
use Rattle.rc_build.specs.inside.Values.{CanBuildValue}
use Rattle.rc_build.specs.inside.LoopKinds.{before_of, blocks_of, init_of, is_flat, is_while_kind, shown_blocks}
use Rattle.rc_build.specs.inside.LoopKinds.{terminal_of, value_blocks}

-- a value can be built from the block on, where there is one
pub record CanBuildBefore (hir : HirFunction) (marks : Marks) (at : Option BlockId) : Type 0 where
  pub marked : AreMarked hir marks
  pub value : (key : BlockId) → at ≡ Some key → CanBuildValue hir marks key

-- the value from the block on is built as it is before the loop's test, if there is a block
abbrev pub BuildsBefore : Builder → Builder → Site → LoopTerminal → Bool → Option BlockId →
    Result (Option ReactiveValue) Fault → Type 0
BuildsBefore old new site t flat at result = Builds old new site
    (λ built. BuiltPart (option_map value_of)
    (SpellsBefore old.hir.now old.env.now (shown_blocks flat t) (setting_of old site).context at) old.hir.now
    (option_to_list at) built (progress_of old) (progress_of new))
    (Refused old.hir.now (SpellsBefore old.hir.now old.env.now (shown_blocks flat t) (setting_of old site).context at)
    old.marks.used) result

-- the turns of a used block's loop can be built under the handler: their blocks are pending, and no jump can name where
-- they begin or where they lead
pub record CanBuildTurns (hir : HirFunction) (marks : Marks) (handler : Option BlockId) (frames : List Frame)
    (t : LoopTerminal) : Type 0 where
  pub marked : AreMarked hir marks
  pub handled : IsHandler hir handler
  pub referenced : AreReferenced hir marks.used
      ((value_blocks t ++ t.body ∷ t.fallthrough ∷ []) ++ pending_blocks frames)
  pub used_before : AreUsed marks (used_blocks frames)
  pub owned : AreOwned hir (IsUsed marks) frames
  pub owner : BlockId
  pub used : IsUsed marks owner
  pub here : BlockIs hir owner (λ block. block.terminal ≡ terminal_of t)
  pub falls_apart : is_jump_target frames t.fallthrough ≡ false
  pub starts_apart : is_jump_target frames (turn_start (blocks_of t)) ≡ false

-- the setting asks for these turns, which use these blocks
abbrev pub SpellsTurnsOf : Setting → LoopTerminal → LoopParts → List BlockId → Type 0
SpellsTurnsOf setting t parts used = SpellsTurns setting.hir setting.env (blocks_of t) setting.context parts used

-- the values of a turn, and its body, in the program's tree
abbrev pub turn_of : LoopParts → TurnValues
turn_of parts = record { before = option_map value_of parts.before; test = value_of parts.test }

abbrev pub turns_of : LoopParts → TurnValues × List ReactiveStatement
turns_of parts = (turn_of parts, statements_of parts.body)

-- the values of a loop in the program's tree
abbrev pub values_of : Option Value → LoopParts → LoopValues
values_of init parts = record { init = option_map value_of init; turn = turn_of parts }

-- the turns are built, as a part
abbrev pub TurnsBuilt : Setting → LoopTerminal → TurnValues × List ReactiveStatement → Progress → Progress → Type 0
TurnsBuilt setting t built old new =
    BuiltPart turns_of (SpellsTurnsOf setting t) setting.hir (value_blocks t ++ t.body ∷ []) built old new

module _ (s : Setting) (t : LoopTerminal) where
  -- what the setting asks for before all turns, as the loop's test, and before that
  abbrev pub SpellsInit : Option Value → List BlockId → Type 0
  SpellsInit value used = SpellsBefore s.hir s.env (shown_blocks true t) s.context (init_of t.kind) value used

  abbrev pub SpellsLoopTest : Value → List BlockId → Type 0
  SpellsLoopTest value used =
      SpellsTest s.hir s.env (is_flat t.kind) t.test (value_context t.span s.context) t.body t.fallthrough value used

  abbrev pub SpellsLoopBefore : Option Value → List BlockId → Type 0
  SpellsLoopBefore value used = SpellsBefore s.hir s.env (blocks_of t) s.context (before_of t.kind) value used

  -- the values of a turn are built: its test, and what runs before it
  pub record TurnValuesBuilt (turn : TurnValues) (old new : Progress) : Type 0 where
    pub mid : Progress
    pub tested : BuiltPart value_of SpellsLoopTest s.hir (t.test ∷ []) turn.test old mid
    pub begun : BuiltPart (option_map value_of) SpellsLoopBefore s.hir (option_to_list (before_of t.kind)) turn.before mid
        new

  -- the values of a loop are built: what runs before all turns, and those of a turn; no jump can name its blocks yet
  pub record LoopValuesBuilt (values : LoopValues) (old new : Progress) : Type 0 where
    pub mid : Progress
    pub init : BuiltPart (option_map value_of) SpellsInit s.hir (option_to_list (init_of t.kind)) values.init old mid
    pub turn : TurnValuesBuilt values.turn mid new
    pub falls_apart : is_jump_target s.context.frames t.fallthrough ≡ false
    pub starts_apart : is_jump_target s.context.frames (turn_start (blocks_of t)) ≡ false
    pub reached : is_while_kind t.kind ≡ true → ends_unreachable s.hir t.fallthrough ≡ false

-- what a function ensures that builds the values of a loop
abbrev pub BuildsLoopValues : Builder → Builder → Site → LoopTerminal → Result LoopValues Fault → Type 0
BuildsLoopValues old new site t result = Builds old new site
    (λ values. LoopValuesBuilt (setting_of old site) t values (progress_of old) (progress_of new))
    (Refused old.hir.now (Spells (setting_of old site) (FromTerminal (terminal_of t))) old.marks.used) result

-- the block and the frame of a loop's body, and the loop's fallthrough
abbrev pub body_of : LoopTerminal → LoopBody
body_of t = record { block = t.body; frame = loop_frame (blocks_of t); fallthrough = t.fallthrough }

-- the tree of a loop, where the values are there that its kind has
abbrev pub tree_with : LoopKind → LoopTerminal → LoopValues → List ReactiveStatement → Option ReactiveTerminal
tree_with kinds.While t values body = Some (tree.While values.turn.test (record { statements = body }) t.id)
tree_with kinds.DoWhile t values body = Some (tree.DoWhile (record { statements = body }) values.turn.test t.id)
tree_with (kinds.For first update) t values body = option_map
    (λ value. tree.For value values.turn.test values.turn.before (record { statements = body }) t.id) values.init
tree_with (kinds.ForOf first) t values body = option_map
    (λ value. tree.ForOf value values.turn.test (record { statements = body }) t.span t.id) values.turn.before
tree_with kinds.ForIn t values body = Some (tree.ForIn values.turn.test (record { statements = body }) t.span t.id)

abbrev pub tree_of : LoopTerminal → LoopValues → List ReactiveStatement → Option ReactiveTerminal
tree_of t values body = tree_with t.kind t values body

-- the statement of a loop with these parts is appended
abbrev pub PutsLoop : List ReactiveStatement → List ReactiveStatement → LoopTerminal → LoopValues
    → List ReactiveStatement → Type 0
PutsLoop before after t values body = (looping : ReactiveTerminal) × (tree_of t values body ≡ Some looping)
    × (after ≡ before ++ terminal_statement looping (label_at (Some t.fallthrough)) ∷ [])
