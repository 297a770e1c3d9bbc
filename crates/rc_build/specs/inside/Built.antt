-- What the functions of the builder ensure.
use Rattle.std.specs.Prelude.{◌≡◌, ◌<◌, List, [], ◌∷◌, ◌++◌, Option, Some, None, Result, Err, IfOk, IfErr, length}
use Rattle.rc_names.specs.Numbers.{BlockId, EvaluationOrder}
use Rattle.rc_hir.specs.Model.{Fault, Rule, Terminal, HirFunction}
use Rattle.rc_hir.specs.declared.fault.Fault.TheVariants as faults
use Rattle.rc_tree.specs.Model.{ReactiveBlock, ReactiveStatement}
use Rattle.rc_build.specs.declared.builder.Builder.{Builder}
use Rattle.rc_build.specs.declared.builder.Site.{Site}
use Rattle.rc_runs.specs.PlainTree.{Statements}
use Rattle.rc_runs.specs.TreeOf.{alternate_of, statements_of}
use Rattle.rc_runs.specs.Frames.{resolve_break}
use Rattle.rc_runs.specs.SimpleStatements.{break_statements}
use Rattle.rc_runs.specs.Spelled.{AreSound}
use Rattle.rc_build.specs.RuleFacts.{FaultFact}
use Rattle.rc_build.specs.inside.Marks.{MarksBlocks}
use Rattle.rc_build.specs.inside.CanBuild.{CanBuildTerminal}
use Rattle.rc_build.specs.inside.Setting.{Setting, setting_of}
use Rattle.rc_build.specs.inside.Task.{FromBlock, FromTerminal, Progress, Spells, SpellsAlternate, Task, join, left, pending}
use Rattle.rc_build.specs.inside.Task.{SpellsConsequent, progress_of}

-- the statements of the task in front of its `rest` are appended to the old ones, and their blocks are marked
pub record BuiltPrefix (setting : Setting) (task rest : Task) (old new : Progress) : Type 0 where
  pub statements : Statements
  pub newly : List BlockId
  pub put : new.out ≡ old.out ++ statements_of statements
  pub marking : MarksBlocks setting.hir (pending task) (pending rest) old.marks new.marks newly
  pub onward : (later : Statements) (used : List BlockId) → Spells setting rest later used →
      Spells setting task (join statements later) (newly ++ used)
  pub only : (all : Statements) (used : List BlockId) → Spells setting task all used →
      (later : Statements) × (later_used : List BlockId) × Spells setting rest later later_used
      × (used ≡ newly ++ later_used)

-- what was built is the view of a value that S asks for, and its blocks are marked; the list around it is the same
pub record BuiltPart {A C : Type 0} (view : A → C) (S : A → List BlockId → Type 0) (hir : HirFunction)
    (before : List BlockId) (built : C) (old new : Progress) : Type 0 where
  pub value : A
  pub newly : List BlockId
  pub is : built ≡ view value
  pub spelled : S value newly
  pub marking : MarksBlocks hir before [] old.marks new.marks newly
  pub kept : new.out ≡ old.out

-- the list from a block on is built, as a part
abbrev pub BuiltList : Setting → BlockId → List ReactiveStatement → Progress → Progress → Type 0
BuiltList setting key list old new =
    BuiltPart statements_of (Spells setting (FromBlock key)) setting.hir (key ∷ []) list old new

-- the alternate of an if is built, as a part
abbrev pub BuiltAlternate : Setting → BlockId → BlockId → Option ReactiveBlock → Progress → Progress → Type 0
BuiltAlternate setting alternate fallthrough built old new =
    BuiltPart alternate_of (SpellsAlternate setting alternate fallthrough) setting.hir (alternate ∷ []) built old new

-- the consequent of a branch is built, as a part
abbrev pub BuiltConsequent : Setting → BlockId → EvaluationOrder → List ReactiveStatement → Progress → Progress → Type 0
BuiltConsequent setting consequent id list old new =
    BuiltPart statements_of (SpellsConsequent setting consequent id) setting.hir (consequent ∷ []) list old new

-- the statements of a break are appended, and nothing is marked
pub record PutsBreak (old new : Builder) (target : BlockId) (id : EvaluationOrder) : Type 0 where
  pub statements : Statements
  pub asked : break_statements (resolve_break old.frames target) target id ≡ Some statements
  pub put : new.out ≡ old.out ++ statements_of statements
  pub kept : new.marks ≡ old.marks

-- nothing that S asks for uses blocks that are sound after the used ones
abbrev pub Refused : {A : Type 0} → HirFunction → (A → List BlockId → Type 0) → List BlockId → Type 0
Refused {A} hir S used = (value : A) (blocks : List BlockId) → S value blocks → AreSound hir (used ++ blocks) → ⊥

-- the fault of a block that no tree may use: it breaks a rule, or ends in a `Label` where a value must be
abbrev pub refusal : BlockId → Option Rule → Fault
refusal block (Some rule) = faults.Malformed block rule
refusal block None = faults.Todo block

-- where the fault refuses the graph, P holds
abbrev pub IfRefused : {A : Type 0} → Result A Fault → Type 0 → Type 0
IfRefused result P = (block : BlockId) (rule : Option Rule) → result ≡ Err (refusal block rule) → P

-- what each function ensures that builds a part of a tree at a site
pub record Builds {A : Type 0} (old new : Builder) (site : Site) (Built : A → Type 0) (NoTree : Type 0)
    (result : Result A Fault) : Type 0 where
  pub ok : IfOk result Built
  pub refused : IfRefused result NoTree
  pub facts : IfErr result (FaultFact old.hir.now)
  -- the graph, the environment and the frames are the same as before
  pub frames : IfOk result (λ _. setting_of new site ≡ setting_of old site)

-- a task is built, as far as what the answer leaves of it
abbrev pub BuildsTask : {A : Type 0} → Builder → Builder → Site → Task → (A → Task) → Result A Fault → Type 0
BuildsTask old new site task rest result = Builds old new site
    (λ answer. BuiltPrefix (setting_of old site) task (rest answer) (progress_of old) (progress_of new))
    (Refused old.hir.now (Spells (setting_of old site) task) old.marks.used) result

-- the list from a block on is built, as a part
abbrev pub BuildsList : Builder → Builder → Site → BlockId → Result (List ReactiveStatement) Fault → Type 0
BuildsList old new site key result = Builds old new site
    (λ list. BuiltList (setting_of old site) key list (progress_of old) (progress_of new))
    (Refused old.hir.now (Spells (setting_of old site) (FromBlock key)) old.marks.used) result

-- the rows of a block are built, the block is marked, and its terminal can be built
pub record TakesBlock (old new : Builder) (site : Site) (terminal : Terminal) : Type 0 where
  pub rows : BuiltPrefix (setting_of old site) (FromBlock site.block) (FromTerminal terminal)
      (progress_of old) (progress_of new)
  pub ready : CanBuildTerminal old.hir.now new.marks site.handler old.frames site.block terminal
  pub more : length old.marks.used < length new.marks.used

-- how far the loop over the blocks of a list has come
pub record ListSoFar (old now : Builder) (site : Site) (at : Option BlockId) : Type 0 where
  pub built : BuiltPrefix (setting_of old site) (FromBlock site.block) (left at) (progress_of old) (progress_of now)
  pub setting : setting_of now site ≡ setting_of old site
