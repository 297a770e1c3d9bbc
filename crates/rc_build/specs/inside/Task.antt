-- What the builder is asked for, and how far it has come.
use Rattle.std.specs.Prelude.{◌≡◌, ◌⊎◌, ℕ, true, false, List, [], ◌∷◌, Option, Some, None, length, replicate}
use Rattle.rc_names.specs.Numbers.{BlockId, EvaluationOrder, same_id}
use Rattle.rc_hir.specs.Model.{HirFunction, Terminal}
use Rattle.rc_tree.specs.Model.{ReactiveStatement}
use Rattle.rc_build.specs.declared.builder.Builder.{Builder}
use Rattle.rc_build.specs.declared.builder.Marks.{Marks}
use Rattle.rc_runs.specs.PlainTree.{Statements, Nil, Cons, Alternate, Absent, Present}
use Rattle.rc_runs.specs.Frames.{is_jump_target, resolve_break}
use Rattle.rc_runs.specs.SimpleStatements.{break_statements}
use Rattle.rc_runs.specs.Grammar.{SpellsList, SpellsTerminal}
use Rattle.rc_build.specs.References.{referenced_blocks}
use Rattle.rc_build.specs.inside.Setting.{Setting}

-- how far a list is built: the marks, and its statements
pub record Progress : Type 0 where
  pub marks : Marks
  pub out : List ReactiveStatement

-- how far the builder has come
abbrev pub progress_of : Builder → Progress
progress_of builder = record { marks = builder.marks; out = builder.out }

-- nothing is marked, of that many blocks
abbrev pub no_marks : ℕ → Marks
no_marks blocks = record { used = []; bits = replicate blocks false; scopes = [] }

-- nothing is marked, and no statement is built
abbrev pub no_progress : HirFunction → Progress
no_progress hir = record { marks = no_marks (length hir.body.blocks); out = [] }

-- these statements, and then those
abbrev pub join : Statements → Statements → Statements
join Nil rest = rest
join (Cons statement statements) rest = Cons statement (join statements rest)

-- what is to be built: the list from a block on, or from the terminal of a block on, or nothing
pub data Task : Type 0 where
  FromBlock : BlockId → Task
  FromTerminal : Terminal → Task
  Nothing : Task

-- what is left of a list after a statement: the list from the block where it goes on, if it does
abbrev pub left : Option BlockId → Task
left None = Nothing
left (Some key) = FromBlock key

-- the graph asks for these statements, which use these blocks
abbrev pub Spells : Setting → Task → Statements → List BlockId → Type 0
Spells setting (FromBlock key) statements used =
    SpellsList setting.hir setting.env key setting.context statements used
Spells setting (FromTerminal terminal) statements used =
    SpellsTerminal setting.hir setting.env terminal setting.context statements used
Spells setting Nothing statements used = (statements ≡ Nil) × (used ≡ [])

-- the blocks that a task refers to
abbrev pub pending : Task → List BlockId
pending (FromBlock key) = key ∷ []
pending (FromTerminal terminal) = referenced_blocks terminal
pending Nothing = []

-- the alternate of an if: none where it is the fallthrough, else the list from it on
abbrev pub SpellsAlternate : Setting → BlockId → BlockId → Alternate → List BlockId → Type 0
SpellsAlternate setting alternate fallthrough Absent used = (same_id alternate fallthrough ≡ true) × (used ≡ [])
SpellsAlternate setting alternate fallthrough (Present statements) used =
    (same_id alternate fallthrough ≡ false) × Spells setting (FromBlock alternate) statements used

-- the consequent of a branch: a break to it where a jump can name it, else the list from it on
abbrev pub SpellsConsequent : Setting → BlockId → EvaluationOrder → Statements → List BlockId → Type 0
SpellsConsequent setting consequent id statements used =
    ((is_jump_target setting.context.frames consequent ≡ true) × (used ≡ [])
    × (break_statements (resolve_break setting.context.frames consequent) consequent id ≡ Some statements))
    ⊎ Spells setting (FromBlock consequent) statements used
