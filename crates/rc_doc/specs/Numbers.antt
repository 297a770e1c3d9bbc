-- The typed numbers, each of which is a whole number.
use Rattle.std.specs.Prelude.{Option, option_map}
use Rattle.serde_json.specs.Data.{Data}
use Rattle.rc_names.specs.Numbers.{to_id}
use Rattle.rc_names.specs.declared.numbers.Id.{Id}
use Rattle.rc_doc.specs.Reading.{number_of}

-- a typed number
abbrev pub id_of : {K : Type 0} → Data → Option (Id K)
id_of d = option_map to_id (number_of d)
