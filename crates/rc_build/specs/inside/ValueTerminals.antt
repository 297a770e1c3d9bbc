-- Value terminals: when one can be built, and what is built of it.
use Rattle.std.specs.Prelude.{◌≡◌, List, ◌∷◌, Option, Result}
use Rattle.rc_names.specs.Numbers.{BlockId}
use Rattle.rc_hir.specs.Model.{Fault, HirFunction, Environment}
use Rattle.rc_runs.specs.TreeOf.{value_of}
use Rattle.rc_runs.specs.ValueGrammar.{Nested, SpellsNested}
use Rattle.rc_build.specs.declared.builder.Builder.{Builder}
use Rattle.rc_build.specs.declared.builder.Marks.{Marks}
use Rattle.rc_build.specs.declared.builder.Site.{Site}
use Rattle.rc_build.specs.declared.value_terminals.NestedValue.{NestedValue}
use Rattle.rc_build.specs.declared.value_terminals.ValueTerminal.{ValueTerminal}
use Rattle.rc_build.specs.References.{referenced_blocks}
use Rattle.rc_build.specs.BlockFacts.{BlockIs}
use Rattle.rc_build.specs.inside.CanBuild.{AreMarked, AreReferenced}
use Rattle.rc_build.specs.inside.Marks.{MarksBlocks}
use Rattle.rc_build.specs.inside.Task.{Progress, progress_of}
use Rattle.rc_build.specs.inside.Built.{Builds, Refused}
use Rattle.rc_build.specs.inside.ValueKinds.{terminal_of}
use Rattle.rc_build.specs.inside.ShortArms.{AreShort, alternate_of, arm_blocks}

-- a value terminal can be built: a block of the graph ends in it, and the blocks that it refers to are pending
pub record CanBuildNested (hir : HirFunction) (marks : Marks) (terminal : ValueTerminal) : Type 0 where
  pub marked : AreMarked hir marks
  pub referenced : AreReferenced hir marks.used (referenced_blocks (terminal_of terminal))
  pub owner : BlockId
  pub here : BlockIs hir owner (λ block. block.terminal ≡ terminal_of terminal)

-- the value terminal is what was built
pub record IsNested (hir : HirFunction) (nested : Nested) (built : NestedValue) : Type 0 where
  pub is : built.value ≡ value_of nested.value
  pub answer : built.answer ≡ nested.answer
  pub left : alternate_of built.short ≡ nested.short
  pub short : AreShort hir built.short

-- a value terminal is built under the handler, and its blocks are marked; its fallthrough and its short arm are pending
pub record NestedBuilt (hir : HirFunction) (env : Environment) (handler : Option BlockId) (terminal : ValueTerminal)
    (built : NestedValue) (old new : Progress) : Type 0 where
  pub nested : Nested
  pub newly : List BlockId
  pub is : IsNested hir nested built
  pub spelled : SpellsNested hir env handler (terminal_of terminal) nested newly
  pub marking : MarksBlocks hir (referenced_blocks (terminal_of terminal))
      (terminal.fallthrough ∷ arm_blocks built.short) old.marks new.marks newly
  pub kept : new.out ≡ old.out

-- what a function ensures that builds a value terminal
abbrev pub BuildsNested : Builder → Builder → Site → Option BlockId → ValueTerminal → Result NestedValue Fault → Type 0
BuildsNested old new site handler terminal result = Builds old new site
    (λ built. NestedBuilt old.hir.now old.env.now handler terminal built (progress_of old) (progress_of new))
    (Refused old.hir.now (SpellsNested old.hir.now old.env.now handler (terminal_of terminal)) old.marks.used) result
