-- A part that the code found, as the definition has it.
use Rattle.serde_json.specs.View.{view}
use Rattle.rc_misread.specs.Misread.{Found, move_of}
use Rattle.rc_misread.specs.declared.misread.Part.{Part}

-- a part that the code found
abbrev pub found_of : Part → Found
found_of part = record { move = move_of part.step; asked = part.asked; value = view part.value.now }
