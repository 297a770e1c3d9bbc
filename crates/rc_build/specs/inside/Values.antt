-- Values as the builder makes them: when one can be built from a block on, and the value with its end.
use Rattle.std.specs.Prelude.{◌≡◌, Bool, true, false, List, [], ◌∷◌, ◌++◌, Option, Some, None, Result}
use Rattle.rc_names.specs.Numbers.{BlockId, EvaluationOrder, same_id}
use Rattle.rc_hir.specs.Model.{Terminal, Fault, HirFunction, Environment}
use Rattle.rc_hir.specs.declared.terminal.Terminal.TheVariants as terminals
use Rattle.rc_tree.specs.Model.{ReactiveValue}
use Rattle.rc_runs.specs.PlainTree.{Value}
use Rattle.rc_runs.specs.TreeOf.{value_of}
use Rattle.rc_runs.specs.ListContext.{ValueContext}
use Rattle.rc_runs.specs.AnsweredTest.{same_declaration}
use Rattle.rc_runs.specs.ValueEnd.{ValueEnd, ChoosesBetween}
use Rattle.rc_runs.specs.ValueGrammar.{SpellsValue}
use Rattle.rc_runs.specs.Spelled.{AreSound}
use Rattle.rc_build.specs.declared.builder.Builder.{Builder}
use Rattle.rc_build.specs.declared.builder.Marks.{Marks}
use Rattle.rc_build.specs.declared.builder.Site.{Site}
use Rattle.rc_build.specs.declared.short_arms.ShortArm.{ShortArm}
use Rattle.rc_build.specs.declared.values.BuiltValue.{BuiltValue}
use Rattle.rc_build.specs.declared.values.Condition.{Condition}
use Rattle.rc_build.specs.declared.values.TestArms.{TestArms}
use Rattle.rc_build.specs.References.{referenced_blocks}
use Rattle.rc_build.specs.BlockFacts.{IsValueReferenced, ValueBlockIs}
use Rattle.rc_build.specs.inside.CanBuild.{CanBuildList}
use Rattle.rc_build.specs.inside.Marks.{MarksBlocks}
use Rattle.rc_build.specs.inside.Setting.{setting_of}
use Rattle.rc_build.specs.inside.Task.{Progress, progress_of}
use Rattle.rc_build.specs.inside.Built.{Builds, BuiltPart, Refused}
use Rattle.rc_build.specs.inside.ShortArms.{alternate_of, AreShort}

-- the terminal goes to the block
abbrev pub goes_to : Terminal → BlockId → Bool
goes_to (terminals.Goto block variant id span) next = same_id block next
goes_to _ next = false

-- the arms of a `Branch`
abbrev pub arms_of : Terminal → Option TestArms
arms_of (terminals.Branch test consequent alternate id span) =
    Some (record { test = test; consequent = consequent; alternate = alternate; span = span })
arms_of _ = None

-- a value can be built from the block on: a block refers to it as to a value, and no frame is around it
pub record CanBuildValue (hir : HirFunction) (marks : Marks) (key : BlockId) : Type 0 where
  pub can : CanBuildList hir marks None [] key
  pub referenced : IsValueReferenced hir key

-- the value with that end is what was built
pub record IsBuilt (hir : HirFunction) (value : Value) (end : ValueEnd) (built : BuiltValue) : Type 0 where
  pub is : built.value ≡ value_of value
  pub answer : built.answer ≡ end.answer
  pub id : built.id ≡ end.id
  pub last : built.last.now ≡ end.last
  pub left : alternate_of built.left_open ≡ end.left_open
  pub at_end : ValueBlockIs hir built.block (λ block. block.terminal ≡ end.last)
  pub short : AreShort hir built.left_open

-- both values have one end, but for the arm that the later one leaves open
pub record EndsAlike (built : BuiltValue) (left : Option ShortArm) (whole : BuiltValue) : Type 0 where
  pub answer : whole.answer ≡ built.answer
  pub id : whole.id ≡ built.id
  pub block : whole.block ≡ built.block
  pub last : whole.last.now ≡ built.last.now
  pub left_is : whole.left_open ≡ left

-- the value from a block on is built, its end is as Q asks, and its blocks are marked
pub record ValueBuilt (hir : HirFunction) (env : Environment) (key : BlockId) (context : ValueContext)
    (Q : ValueEnd → Type 0) (built : BuiltValue) (old new : Progress) : Type 0 where
  pub value : Value
  pub end : ValueEnd
  pub newly : List BlockId
  pub is : IsBuilt hir value end built
  pub spelled : SpellsValue hir env key context value end newly
  pub ends : Q end
  pub marking : MarksBlocks hir (key ∷ []) (referenced_blocks end.last) old.marks new.marks newly
  pub kept : new.out ≡ old.out

-- no value from the block on with an end as Q asks uses blocks that are sound after the used ones
abbrev pub HasNoValue : HirFunction → Environment → BlockId → ValueContext → (ValueEnd → Type 0) → List BlockId → Type 0
HasNoValue hir env key context Q used = (value : Value) (end : ValueEnd) (blocks : List BlockId) →
    SpellsValue hir env key context value end blocks → Q end → AreSound hir (used ++ blocks) → ⊥

-- any end
abbrev pub any_end : ValueEnd → Type 0
any_end end = Unit {0}

-- what a function ensures that builds a value
abbrev pub BuildsValue : Builder → Builder → Site → BlockId → ValueContext → (ValueEnd → Type 0)
    → Result BuiltValue Fault → Type 0
BuildsValue old new site key context Q result = Builds old new site
    (λ built. ValueBuilt old.hir.now old.env.now key context Q built (progress_of old) (progress_of new))
    (HasNoValue old.hir.now old.env.now key context Q old.marks.used) result

-- the value from a block on was built, from the old builder to this one
pub record IsBuiltSince (old now : Builder) (site : Site) (key : BlockId) (context : ValueContext) (built : BuiltValue)
    : Type 0 where
  pub ok : ValueBuilt old.hir.now old.env.now key context any_end built (progress_of old) (progress_of now)
  pub frames : setting_of now site ≡ setting_of old site

-- the value ends in that `Branch`, which tests its answer
pub record HasArms (env : Environment) (arms : TestArms) (end : ValueEnd) : Type 0 where
  pub id : EvaluationOrder
  pub chooses : end.last ≡ terminals.Branch arms.test arms.consequent arms.alternate id arms.span
  pub answers : same_declaration env arms.test end.answer ≡ true

-- the value chooses between two blocks
abbrev pub IsChoice : Environment → ValueEnd → Type 0
IsChoice env end = (consequent : BlockId) × (alternate : BlockId) × ChoosesBetween env consequent alternate end

-- what is built of a condition
abbrev pub BuildsCondition : Builder → Builder → Site → BlockId → ValueContext → Result Condition Fault → Type 0
BuildsCondition old new site key context result = Builds old new site
    (λ built. ValueBuilt old.hir.now old.env.now key context (HasArms old.env.now built.arms) built.tested
    (progress_of old) (progress_of new))
    (HasNoValue old.hir.now old.env.now key context (IsChoice old.env.now) old.marks.used) result

-- what a function ensures that builds a value as a loop shows it
abbrev pub BuildsShown : Builder → Builder → Site → BlockId → (Value → List BlockId → Type 0) → Result ReactiveValue Fault
    → Type 0
BuildsShown old new site key Spelled result = Builds old new site
    (λ built. BuiltPart value_of Spelled old.hir.now (key ∷ []) built (progress_of old) (progress_of new))
    (Refused old.hir.now Spelled old.marks.used) result
