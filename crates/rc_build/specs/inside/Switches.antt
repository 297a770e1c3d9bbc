-- The cases of a switch: when they can be built, and what is built of them.
use Rattle.std.specs.Prelude.{◌≡◌, true, List, [], ◌∷◌, ◌++◌, Option, Some, Result, length, reverse}
use Rattle.rc_names.specs.Numbers.{BlockId, is_among}
use Rattle.rc_hir.specs.Model.{Place, Case, Fault, HirFunction}
use Rattle.rc_hir.specs.Successors.{case_blocks}
use Rattle.rc_tree.specs.Model.{ReactiveStatement, ReactiveSwitchCase}
use Rattle.rc_tree.specs.declared.terminal.ReactiveSwitchCase.{roll-ReactiveSwitchCase}
use Rattle.rc_runs.specs.declared.frames.Frame.{Frame}
use Rattle.rc_runs.specs.PlainTree.{Cases}
use Rattle.rc_runs.specs.TreeOf.{cases_of}
use Rattle.rc_runs.specs.SwitchCases.{case_context}
use Rattle.rc_runs.specs.Grammar.{SpellsCases}
use Rattle.rc_build.specs.declared.builder.Builder.{Builder}
use Rattle.rc_build.specs.declared.builder.Marks.{Marks}
use Rattle.rc_build.specs.declared.builder.Site.{Site}
use Rattle.rc_build.specs.References.{InCase, blocks_as}
use Rattle.rc_build.specs.BlockFacts.{BlockIs}
use Rattle.rc_build.specs.inside.CanBuild.{AreMarked, AreOwned, AreReferenced, AreUsed, IsHandler, IsUsed, pending_blocks}
use Rattle.rc_build.specs.inside.CanBuild.{used_blocks}
use Rattle.rc_build.specs.inside.Marks.{MarksBlocks}
use Rattle.rc_build.specs.inside.Setting.{Setting, setting_of}
use Rattle.rc_build.specs.inside.Task.{Progress, progress_of}
use Rattle.rc_build.specs.inside.Built.{Builds, BuiltPart, Refused}

-- these cases of a switch can be built under the handler: they are pending cases of a used block, and the frames are
-- those of used blocks
pub record CanBuildCases (hir : HirFunction) (marks : Marks) (handler : Option BlockId) (frames : List Frame)
    (cases : List Case) : Type 0 where
  pub marked : AreMarked hir marks
  pub handled : IsHandler hir handler
  pub referenced : AreReferenced hir marks.used (case_blocks cases ++ pending_blocks frames)
  pub used_before : AreUsed marks (used_blocks frames)
  pub owned : AreOwned hir (IsUsed marks) frames
  pub owner : BlockId
  pub used : IsUsed marks owner
  pub here : BlockIs hir owner (λ block. (key : BlockId) → is_among (case_blocks cases) key ≡ true →
      is_among (blocks_as InCase block.terminal) key ≡ true)

-- the case of the tree with that test and these statements
abbrev pub switch_case : Option Place → List ReactiveStatement → ReactiveSwitchCase
switch_case test list = roll-ReactiveSwitchCase (record { test = test; block = Some (record { statements = list }) })

-- the last of these cases has that block
pub record EndsAt (cases : List Case) (block : BlockId) : Type 0 where
  pub front : List Case
  pub last : Case
  pub split : cases ≡ front ++ last ∷ []
  pub is : last.block ≡ block

-- the last case is taken out, and its test is appended with these statements as a case of the tree
pub record TakesCase (front : List Case) (last : Case) (statements : List ReactiveStatement)
    (old new : List ReactiveSwitchCase) (left : List Case) : Type 0 where
  pub taken : left ≡ front
  pub put : new ≡ old ++ switch_case last.test statements ∷ []

-- the setting asks for these cases, which use these blocks
abbrev pub SpellsKept : Setting → List Case → Cases → List BlockId → Type 0
SpellsKept setting kept parts used = SpellsCases setting.hir setting.env kept setting.context parts used

-- the cases are built, as a part
abbrev pub BuiltCases : Setting → List Case → List ReactiveSwitchCase → Progress → Progress → Type 0
BuiltCases setting kept built old new =
    BuiltPart cases_of (SpellsKept setting kept) setting.hir (case_blocks kept) built old new

-- what a function ensures that builds cases in a setting
abbrev pub BuildsCases : Builder → Builder → Site → Setting → List Case → List ReactiveSwitchCase
    → Result (Unit {0}) Fault → Type 0
BuildsCases old new site setting kept parts result = Builds old new site
    (λ _. BuiltCases setting kept parts (progress_of old) (progress_of new))
    (Refused old.hir.now (SpellsKept setting kept) old.marks.used) result

-- the setting of a case with these cases after it
abbrev pub setting_after : List Case → Setting → Setting
setting_after later setting =
    record { hir = setting.hir; env = setting.env; context = case_context later setting.context }

-- how far the loop over the kept cases has come: some wait, and the later ones are built, the last one first
pub record CasesSoFar (old now : Builder) (site : Site) (kept waiting : List Case) (parts : List ReactiveSwitchCase)
    (next : Option BlockId) : Type 0 where
  pub later : List Case
  pub split : kept ≡ waiting ++ later
  pub plain : Cases
  pub newly : List BlockId
  pub is : reverse parts ≡ cases_of plain
  pub spelled : SpellsKept (setting_of old site) later plain newly
  pub marking : MarksBlocks old.hir.now (case_blocks kept) (case_blocks waiting) old.marks now.marks newly
  pub can : CanBuildCases now.hir.now now.marks site.handler now.frames waiting
  pub setting : setting_of now (record { block = site.block; next = next; handler = site.handler })
      ≡ setting_after later (setting_of old site)
  pub kept_out : now.out ≡ old.out
  pub count : length parts ≡ length later
