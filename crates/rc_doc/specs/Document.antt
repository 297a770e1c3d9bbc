-- The whole document.
use Rattle.std.specs.Prelude.{[], ◌∷◌, Option, Some, codes}
use Rattle.serde_json.specs.Data.{Data}
use Rattle.rc_doc.specs.Environment.{environment_of}
use Rattle.rc_doc.specs.Graph.{function_of}
use Rattle.rc_doc.specs.Reading.{◌>>=◌, field, only}
use Rattle.rc_doc.specs.declared.document.Doc.{Doc}

-- a function and its environment
unfoldable pub doc_of : Data → Option Doc
doc_of d = do
  _ ← only (codes "env" ∷ codes "hir" ∷ []) d
  hir ← field function_of (codes "hir") d
  env ← field environment_of (codes "env") d
  Some (record { hir = hir; env = env })
