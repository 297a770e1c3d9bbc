-- The words that printed lines are made of. A line begins with spaces, two more for each level that it is deeper.
use Rattle.std.specs.Prelude.{ℕ, ◌+◌, Bool, List, [], ◌++◌, Option, Some, None, if◌then◌else◌, codes, decimal}
use Rattle.std.specs.Prelude.{replicate}
use Rattle.serde_json.specs.Data.{string}
use Rattle.serde_json.specs.Written.{compact_text}
use Rattle.rc_names.specs.declared.span.Span.{Span}
use Rattle.rc_names.specs.Numbers.{EvaluationOrder}
use Rattle.rc_hir.specs.Model.{Place}
use Rattle.rc_tree.specs.Model.{ReactiveLabel}
use Rattle.rc_show.specs.ShownParts.Places.{place_data}

-- a text and then another
infixr 6 ◌&◌
abbrev pub ◌&◌ : List ℕ → List ℕ → List ℕ
text & more = text ++ more

-- the line with this text, after `indent` spaces
abbrev pub line : ℕ → List ℕ → List ℕ
line indent text = replicate indent 32 & text & codes "\n"

-- the spaces of a line one level below
abbrev pub deeper : ℕ → ℕ
deeper indent = indent + 2

-- a truth value
abbrev pub bool_text : Bool → List ℕ
bool_text b = if b then codes "true" else codes "false"

-- a text in JSON's quotes
abbrev pub quoted_text : List ℕ → List ℕ
quoted_text text = compact_text (string text)

-- a text in JSON's quotes, or `null`
abbrev pub json_text : Option (List ℕ) → List ℕ
json_text None = codes "null"
json_text (Some text) = quoted_text text

-- a part of the source, where it is known
abbrev pub span_text : Option Span → List ℕ
span_text None = []
span_text (Some span) = codes " @" & decimal span.start & codes ".." & decimal span.end

-- a place in the shortest of its three forms
abbrev pub place_text : Place → List ℕ
place_text place = compact_text (place_data place)

-- the mark of a label that no labeled jump names
abbrev pub implicit_text : Bool → List ℕ
implicit_text implicit = if implicit then codes " implicit" else []

-- a statement's label, where it has one
abbrev pub label_text : Option ReactiveLabel → List ℕ
label_text None = []
label_text (Some label) = codes " as bb" & decimal label.id.0 & implicit_text label.implicit

-- a statement's number in the order of evaluation, and its label
abbrev pub id_text : EvaluationOrder → Option ReactiveLabel → List ℕ
id_text id label = codes " id " & decimal id.0 & label_text label
