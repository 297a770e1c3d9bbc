-- Numbers that are given to parts in the order of the text.
use Rattle.std.specs.Prelude.{◌≡◌, ◌+◌, List, ◌++◌, length}
use Rattle.rc_flat.specs.Blocks.{Next}
use Rattle.rc_answer.specs.declared.numbering.Numbered.{Numbered}
use Rattle.rc_answer.specs.declared.numbering.statements.Numbering.{Numbering}

-- these parts got the next numbers, and wait
pub record Grows {T : Type 0} (parts : List T) (old new : Numbered T) : Type 0 where
  pub waiting : new.waiting ≡ old.waiting ++ parts
  pub next : new.next ≡ old.next + length parts

-- the next numbers
abbrev pub next_of : Numbering → Next
next_of numbering = record { block = numbering.blocks.next; value = numbering.values.next }
