-- What a command reads: a document, or a document with a run beside it, in the forms of `rc_doc`.
use Rattle.std.specs.Prelude.{List, [], ◌∷◌, Option, Some, codes, option_map}
use Rattle.serde_json.specs.Data.{Data}
use Rattle.rc_doc.specs.Document.{doc_of}
use Rattle.rc_doc.specs.Environment.{environment_of}
use Rattle.rc_doc.specs.Graph.{function_of}
use Rattle.rc_doc.specs.Kinds.{instruction_value_of}
use Rattle.rc_doc.specs.Places.{place_of}
use Rattle.rc_doc.specs.Reading.{◌>>=◌, content, field, flag_field, list_field, named, only, option_field, or_tagged}
use Rattle.rc_doc.specs.Reading.{tag_of, variant}
use Rattle.rc_doc.specs.declared.document.Doc.{Doc}
use Rattle.rc_replay.specs.declared.given.Event.{Event}
use Rattle.rc_replay.specs.declared.given.Event.TheVariants as events
use Rattle.rc_replay.specs.declared.given.End.{End}
use Rattle.rc_replay.specs.declared.given.End.TheVariants as ends
use Rattle.rc_replay.specs.declared.given.GivenRun.{GivenRun}
use Rattle.rc_program.specs.declared.given.Given.{Given}
use Rattle.rc_program.specs.declared.given.Form.{Form}
use Rattle.rc_program.specs.declared.given.Form.TheVariants.{Alone, WithRun}

-- an event with a content; a flag that is left out is false, and a test that is left out or null is none
unfoldable pub event_content_of : Data → Option Event
event_content_of d = do
  _ ← only (codes "k" ∷ codes "v" ∷ []) d
  name ← tag_of d
  variant (
      (codes "Did", option_map events.Did (content instruction_value_of d))
      ∷ (codes "Arm", option_map events.Arm (flag_field (codes "v") d))
      ∷ (codes "Chose", option_map events.Chose (option_field place_of (codes "v") d))
      ∷ []) name

-- an event; a throw is only its name
abbrev pub given_event_of : Data → Option Event
given_event_of d = or_tagged (named ((codes "Threw", events.Threw) ∷ [])) event_content_of d

-- an end with its place
unfoldable pub end_content_of : Data → Option End
end_content_of d = do
  _ ← only (codes "k" ∷ codes "v" ∷ []) d
  name ← tag_of d
  variant (
      (codes "Returned", option_map ends.Returned (content place_of d))
      ∷ (codes "Thrown", option_map ends.Thrown (content place_of d))
      ∷ []) name

-- an end; an open one is only its name
abbrev pub given_end_of : Data → Option End
given_end_of d = or_tagged (named ((codes "Open", ends.Open) ∷ [])) end_content_of d

-- a run; events that are left out are none
unfoldable pub given_run_of : Data → Option GivenRun
given_run_of d = do
  _ ← only (codes "end" ∷ codes "events" ∷ []) d
  events ← list_field given_event_of (codes "events") d
  end ← field given_end_of (codes "end") d
  Some (record { events = events; end = end })

-- the document that has a run beside it
unfoldable pub doc_beside_run_of : Data → Option Doc
doc_beside_run_of d = do
  hir ← field function_of (codes "hir") d
  env ← field environment_of (codes "env") d
  Some (record { hir = hir; env = env })

-- a document with a run
unfoldable pub with_run_of : Data → Option Given
with_run_of d = do
  _ ← only (codes "env" ∷ codes "hir" ∷ codes "run" ∷ []) d
  doc ← doc_beside_run_of d
  run ← field given_run_of (codes "run") d
  Some (record { doc = doc; run = run })

-- a document with the run without events
abbrev pub without_run : Doc → Given
without_run doc = record { doc = doc; run = record { events = []; end = ends.Open } }

-- what a value of that form gives
abbrev pub read_in_form : Form → Data → Option Given
read_in_form Alone d = option_map without_run (doc_of d)
read_in_form WithRun d = with_run_of d
