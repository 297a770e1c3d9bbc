-- Short arms as the builder keeps them: when one can be built, and what is built or left open of it.
use Rattle.std.specs.Prelude.{◌≡◌, Bool, List, [], Option, Some, None, if◌then◌else◌}
use Rattle.std.specs.Option.{option_to_list}
use Rattle.rc_names.specs.Numbers.{BlockId, same_id}
use Rattle.rc_hir.specs.Model.{HirFunction, Environment}
use Rattle.rc_runs.specs.ShortArms.{SpellsShortArm}
use Rattle.rc_build.specs.declared.builder.Marks.{Marks}
use Rattle.rc_build.specs.declared.short_arms.ShortArm.{ShortArm}
use Rattle.rc_build.specs.TerminalForms.{branch_alternate}
use Rattle.rc_build.specs.BlockFacts.{BlockIs, IsValueReferenced}
use Rattle.rc_build.specs.inside.CanBuild.{AreMarked, AreReferenced}
use Rattle.rc_build.specs.inside.Marks.{MarksBlocks}
use Rattle.rc_build.specs.inside.Task.{Progress}

-- the block of a short arm, which may be open
abbrev pub alternate_of : Option ShortArm → Option BlockId
alternate_of None = None
alternate_of (Some arm) = Some arm.alternate

-- the `Branch` that leaves another arm open than this one
abbrev pub other_arm_of : Option ShortArm → BlockId → Option BlockId
other_arm_of None alternate = None
other_arm_of (Some arm) alternate = if same_id arm.alternate alternate then None else Some arm.branch

-- the arm is the alternate of that `Branch`, to which a block refers as to a value
pub record IsShort (hir : HirFunction) (arm : ShortArm) : Type 0 where
  pub referenced : IsValueReferenced hir arm.branch
  pub here : BlockIs hir arm.branch (λ block. branch_alternate block.terminal ≡ Some arm.alternate)

abbrev pub AreShort : HirFunction → Option ShortArm → Type 0
AreShort hir None = Unit {0}
AreShort hir (Some arm) = IsShort hir arm

-- the block of a short arm
abbrev pub arm_blocks : Option ShortArm → List BlockId
arm_blocks short = option_to_list (alternate_of short)

-- a short arm can be built: it is the alternate of a `Branch`, and it is pending
pub record CanBuildShort (hir : HirFunction) (marks : Marks) (short : Option ShortArm) : Type 0 where
  pub marked : AreMarked hir marks
  pub referenced : AreReferenced hir marks.used (arm_blocks short)
  pub short_is : AreShort hir short

-- the short arm is built or left open
pub record ShortBuilt (hir : HirFunction) (env : Environment) (handler : Option BlockId) (next : BlockId) (answers : Bool)
    (short behind left : Option ShortArm) (old new : Progress) : Type 0 where
  pub newly : List BlockId
  pub spelled : SpellsShortArm hir env handler next answers (alternate_of short) (alternate_of behind)
      (alternate_of left) newly
  pub left_is : AreShort hir behind → AreShort hir left
  pub marking : MarksBlocks hir (arm_blocks short) [] old.marks new.marks newly
  pub kept : new.out ≡ old.out
