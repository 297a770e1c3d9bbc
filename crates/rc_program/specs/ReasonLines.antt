-- The lines of reasons: what the rule read, after the scope and its fate.
use Rattle.std.specs.Prelude.{◌≡◌, ℕ, List, [], ◌∷◌, Option, Some, None, codes, decimal, flat_map, if◌then◌else◌, map}
use Rattle.rc_doc.specs.declared.document.Doc.{Doc}
use Rattle.rc_hir.specs.Model.{DependencyPathEntry, PropertyLiteral}
use Rattle.rc_hir.specs.declared.pattern.PropertyLiteral.TheVariants as literals
use Rattle.rc_merge.specs.declared.facts.DepPair.{DepPair}
use Rattle.rc_merge.specs.declared.facts.MergeCondition.{MergeCondition}
use Rattle.rc_merge.specs.declared.facts.MergeCondition.TheVariants as conditions
use Rattle.rc_names.specs.declared.numbers.Id.{Id}
use Rattle.rc_names.specs.Numbers.{DeclarationId, IdentifierId, ScopeId}
use Rattle.rc_pipe.specs.declared.pipeline.Pruned.{Pruned}
use Rattle.rc_why.specs.ReasonOf.{AreReasons, fate_of}
use Rattle.rc_why.specs.declared.reason.Facts.{Facts}
use Rattle.rc_why.specs.declared.reason.Facts.TheVariants as facts
use Rattle.rc_why.specs.declared.reason.Reason.{Reason}
use Rattle.rc_lines.specs.FunctionLines.{scope_fate_text}
use Rattle.rc_lines.specs.LineText.{◌&◌, line, quoted_text}

-- an entry of a list after the first
abbrev pub further_text : List ℕ → List ℕ
further_text entry = codes "," & entry

-- the entries of a list with commas between them, or `none` where there is no entry
abbrev pub list_text : List (List ℕ) → List ℕ
list_text [] = codes "none"
list_text (entry ∷ entries) = entry & flat_map further_text entries

-- the number of a scope or of a declaration
abbrev pub number_text : {K : Type 0} → Id K → List ℕ
number_text number = decimal number.0

-- a list of numbers
abbrev pub numbers_text : {K : Type 0} → List (Id K) → List ℕ
numbers_text numbers = list_text (map number_text numbers)

-- the text of a property, which is a name or a number as it is written in the source
abbrev pub property_text : PropertyLiteral → List ℕ
property_text (literals.String text) = text
property_text (literals.Number text) = text

-- a step of a path: its sign, and its property in JSON's quotes
abbrev pub step_text : DependencyPathEntry → List ℕ
step_text step = (if step.optional then codes "?." else codes ".") & quoted_text (property_text step.property)

-- a dependency: its declaration, and the path from there
abbrev pub pair_text : DepPair → List ℕ
pair_text pair = decimal pair.declaration.0 & flat_map step_text pair.path

-- a list of dependencies
abbrev pub pairs_text : List DepPair → List ℕ
pairs_text pairs = list_text (map pair_text pairs)

-- the first output that is memoized, or `none` where there is none
abbrev pub output_text : Option DeclarationId → List ℕ
output_text None = codes "none"
output_text (Some output) = decimal output.0

-- by which scopes the values of a scope were declared, and how many names it reassigns and how many `Return`s it has
abbrev pub unused_text : List ScopeId → ℕ → ℕ → List ℕ
unused_text declared_by reassignments returns =
    (codes "declared-by " & numbers_text declared_by) & (codes " reassignments " & decimal reassignments)
    & codes " returns " & decimal returns

-- the dependency that is new each time
abbrev pub dependency_text : IdentifierId → List ℕ
dependency_text dependency = codes "dependency " & decimal dependency.0

-- the condition of merging
abbrev pub condition_text : MergeCondition → List ℕ
condition_text conditions.Same = codes "same"
condition_text conditions.Outputs = codes "outputs"
condition_text conditions.Sources = codes "sources"

-- what a rule read; of what merging compared, the condition alone
abbrev pub facts_text : Facts → List ℕ
facts_text (facts.Kept output) = codes "output " & output_text output
facts_text (facts.NotEscaping outputs memoized) =
    (codes "outputs " & numbers_text outputs) & codes " memoized " & numbers_text memoized
facts_text (facts.Unused declared_by reassignments returns) = unused_text declared_by reassignments returns
facts_text (facts.Dissolved own parent) = (codes "own " & pairs_text own) & codes " parent " & pairs_text parent
facts_text (facts.Merged condition head outputs next sources uses end) =
    (codes "by " & condition_text condition) & codes " end " & decimal end.0
facts_text (facts.AlwaysInvalidating dependency) = dependency_text dependency

-- a scope with its fate, and what the rule of that fate read
abbrev pub reason_text : Reason → List ℕ
reason_text reason = scope_fate_text (fate_of reason) & codes " " & facts_text reason.facts

-- one line for each reason
abbrev pub reason_line : Reason → List ℕ
reason_line reason = line 0 (reason_text reason)

abbrev pub reason_lines : List Reason → List ℕ
reason_lines = flat_map reason_line

-- the lines of why each scope of the document has the fate that is listed with the answer
pub record IsReasonText (doc : Doc) (pruned : Pruned) (text : List ℕ) : Type 0 where
  pub reasons : List Reason
  pub explained : AreReasons doc.hir doc.env reasons
  pub listed : map fate_of reasons ≡ pruned.fates
  pub same : text ≡ reason_lines reasons
