-- The first of the parts of a value that aren't read as they are asked.
use Rattle.std.specs.Prelude.{◌≡◌, true, Option, Some, None, is_some}
use Rattle.serde_json.specs.Data.{Data}
use Rattle.rc_doc.specs.Document.{doc_of}
use Rattle.rc_misread.specs.Misread.{IsFinding}
use Rattle.rc_misread.specs.declared.misreads.Misreads.{Misreads}

-- the first is where a value isn't read as a document; nothing of a document
abbrev pub IsFirstFinding : Data → Option Misreads → Type 0
IsFirstFinding whole None = is_some (doc_of whole) ≡ true
IsFirstFinding whole (Some found) = IsFinding whole (Some found.first)
