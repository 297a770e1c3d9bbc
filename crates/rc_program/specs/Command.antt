-- The commands: the words of each, where its document comes from, and its text.
--
-- The statuses speak of these three and of what a text may exceed, so a further command is a line in each.
use Rattle.std.specs.Prelude.{◌≡◌, ℕ, ◌≤◌, List, [], ◌∷◌, codes, decimal, ⊤}
use Rattle.rc_hir.specs.Model.{Environment}
use Rattle.rc_pipe.specs.declared.pipeline.Pruned.{Pruned}
use Rattle.rc_gen.specs.Generated.{generated, most_units}
use Rattle.rc_program.specs.declared.command.Command.{Command}
use Rattle.rc_program.specs.declared.command.Command.TheVariants.{Tree, Fates, Why, Slots, Json, Replay}
use Rattle.rc_program.specs.declared.command.Command.TheVariants.{Generate}
use Rattle.rc_lines.specs.Counts.{count_lines}
use Rattle.rc_lines.specs.FunctionLines.{fate_lines, lines_of}
use Rattle.rc_program.specs.Given.{without_run}
use Rattle.rc_program.specs.JsonLine.{IsJsonLine}
use Rattle.rc_program.specs.ReasonLines.{IsReasonText}
use Rattle.rc_program.specs.ReplayLines.{IsReplayText}
use Rattle.rc_program.specs.SlotLines.{slot_lines}
use Rattle.rc_program.specs.declared.given.Given.{Given}
use Rattle.rc_program.specs.declared.given.Form.{Form}
use Rattle.rc_program.specs.declared.given.Form.TheVariants.{Alone, WithRun}
use Rattle.rc_slots.specs.Slots.{slots_of}

-- the words of a command; a number has no sign and no zero in front
abbrev pub words_of : Command → List (List ℕ)
words_of Tree = codes "tree" ∷ []
words_of Fates = codes "fates" ∷ []
words_of Why = codes "why" ∷ []
words_of Slots = codes "slots" ∷ []
words_of Json = codes "json" ∷ []
words_of Replay = codes "replay" ∷ []
words_of (Generate units) = codes "gen" ∷ (decimal units ∷ [])

-- a generated graph has 1 to 2000 units
abbrev pub IsInRange : Command → Type 0
IsInRange (Generate units) = (1 ≤ units) × (units ≤ most_units)
IsInRange command = ⊤

-- the words are those of this command
pub record IsCommand (words : List (List ℕ)) (command : Command) : Type 0 where
  pub same : words ≡ words_of command
  pub in_range : IsInRange command

-- the words are those of a command
abbrev pub AreWords : List (List ℕ) → Type 0
AreWords words = (command : Command) × IsCommand words command

-- a document of this form is read from the source, or this one is made
pub data Origin : Type 0 where
  Read : Form → Origin
  Made : Given → Origin

-- where the document of a command comes from
abbrev pub origin_of : Command → Origin
origin_of Tree = Read Alone
origin_of Fates = Read Alone
origin_of Why = Read Alone
origin_of Slots = Read Alone
origin_of Json = Read Alone
origin_of Replay = Read WithRun
origin_of (Generate units) = Made (without_run (generated units))

-- the document isn't read
abbrev pub IsMade : Origin → Type 0
IsMade (Read form) = ⊥
IsMade (Made given) = ⊤

-- the words are those of no command that reads the source
abbrev pub ReadNothing : List (List ℕ) → Type 0
ReadNothing words = (command : Command) → IsCommand words command → IsMade (origin_of command)

-- the text of a command for a document and the run with it, its answer, and the environment of that
abbrev pub IsTextOf : Command → Given → Environment → Pruned → List ℕ → Type 0
IsTextOf Tree given env pruned text = text ≡ lines_of pruned.func pruned.fates
IsTextOf Fates given env pruned text = text ≡ fate_lines pruned.fates 0
IsTextOf Why given env pruned text = IsReasonText given.doc pruned text
IsTextOf Slots given env pruned text = text ≡ slot_lines (slots_of env pruned.func)
IsTextOf Json given env pruned text = IsJsonLine env pruned text
IsTextOf Replay given env pruned text = IsReplayText given env pruned.func text
IsTextOf (Generate units) given env pruned text = text ≡ count_lines given.doc.hir pruned.func pruned.fates
