-- What the frames of the walk by a stack still do. The walk is that of the record that the rows stand for.
use Rattle.std.specs.Prelude.{◌≡◌, ◌<◌, ℕ, Bool, true, false, List, [], ◌∷◌, None, Some, drop, length, slice_get}
use Rattle.std.specs.Prelude.{if◌then◌else◌}
use Rattle.std.specs.List.{IsDistinct, list_any}
use Rattle.std.specs.Map.{keys_of}
use Rattle.rc_names.specs.Numbers.{DeclarationId, ScopeId, same_id}
use Rattle.rc_memo.specs.RowRecord.{node_of_rows, operands_at, operands_of, record_of_rows}
use Rattle.rc_memo.specs.declared.record.MemoNode.{MemoNode}
use Rattle.rc_memo.specs.declared.record.MemoRecord.{MemoRecord}
use Rattle.rc_memo.specs.declared.row_record.RowNode.{RowNode}
use Rattle.rc_memo.specs.declared.row_record.RowRecord.{RowRecord}
use Rattle.rc_escape.specs.declared.walk_state.WalkState.{WalkState}
use Rattle.rc_escape.specs.declared.walk_state.VisitFrame.{VisitFrame}
use Rattle.rc_escape.specs.declared.walk_state.VisitFrame.TheVariants.{Escaping, Dependencies, Scopes}
use Rattle.rc_escape.specs.declared.walk_state.VisitFrame.TheVariants.{ScopeDependencies}
use Rattle.rc_escape.specs.MemoWalk.{memoizes, node_of, Progress, with_seen}
use Rattle.rc_escape.specs.MemoWalk.{VisitsName, VisitsNames, DecidesNode, TakesScopes}
use Rattle.rc_escape.specs.inside.RowUsers.{AreUsers}
use Rattle.rc_escape.specs.inside.WalkPlaces.{entry_or, is_set, progress}

-- a name that has a node is visited
abbrev pub IsMet : MemoRecord → Progress → DeclarationId → Type 0
IsMet r met name = (node : MemoNode) → node_of r name ≡ Some node → met.seen name ≡ true

-- the operands of a row before a place are met
abbrev pub AreMet : RowRecord → Progress → ℕ → ℕ → Type 0
AreMet rows met row count = (place : ℕ) (operand : DeclarationId) → place < count
    → slice_get (operands_at rows.operands row) place ≡ Some operand → IsMet (record_of_rows rows) met operand

-- how many operands of a row were visited through it
abbrev pub passed_of : WalkState → ℕ → ℕ
passed_of state row = entry_or 0 state.passed row

-- the state has an entry for each node, row and scope; the operands that a row has passed are met; it is known which
-- rows have a memoized operand; and no name has two nodes
pub record FitsRecord (rows : RowRecord) (state : WalkState) : Type 0 where
  pub marks : length state.marks ≡ length rows.nodes
  pub taken : length state.taken ≡ length rows.scopes
  pub passed : length state.passed ≡ length rows.operands
  pub answers : length state.answered ≡ length rows.operands
  pub users : AreUsers rows state.users
  pub met : (row : ℕ) → AreMet rows (progress rows state) row (passed_of state row)
  pub answered : (row : ℕ)
      → is_set state.answered row ≡ list_any (progress rows state).memoized (operands_at rows.operands row)
  pub distinct : IsDistinct same_id (keys_of rows.nodes)

-- whether a node with these rows is memoized, where a visit is forced or not
abbrev pub needs : RowRecord → RowNode → Bool → Progress → Bool
needs rows node forced met = memoizes node.level forced (list_any met.memoized (operands_of rows.operands node.rows))

-- what is met where a node is decided: a node that is memoized counts as seen
abbrev pub at_decision : Progress → DeclarationId → Bool → Progress
at_decision met name memoized = if memoized then with_seen met name else met

-- what a frame still does
pub data FinishesFrame (rows : RowRecord) : VisitFrame → Progress → Progress → Type 0 where
  escaping : {i : ℕ} {met end : Progress} {answer : Bool}
      → VisitsNames (record_of_rows rows) (drop i rows.escaping) false met end answer
      → FinishesFrame rows (Escaping i) met end
  dependencies : {p i : ℕ} {name : DeclarationId} {node : RowNode} {forced later answer : Bool}
      {met visited end : Progress}
      → slice_get rows.nodes p ≡ Some (name, node)
      → VisitsNames (record_of_rows rows) (operands_of rows.operands (drop i node.rows)) false met visited later
      → answer ≡ needs rows node forced visited
      → DecidesNode (record_of_rows rows) name (node_of_rows rows.operands name node) answer
      (at_decision visited name answer) end
      → FinishesFrame rows (Dependencies p forced i) met end
  scopes : {p i : ℕ} {name : DeclarationId} {node : RowNode} {met end : Progress}
      → slice_get rows.nodes p ≡ Some (name, node)
      → TakesScopes (record_of_rows rows) (drop i node.scopes) met end
      → FinishesFrame rows (Scopes p i) met end
  scope_dependencies : {q i : ℕ} {scope : ScopeId} {names : List DeclarationId} {answer : Bool} {met end : Progress}
      → slice_get rows.scopes q ≡ Some (scope, names)
      → VisitsNames (record_of_rows rows) (drop i names) true met end answer
      → FinishesFrame rows (ScopeDependencies q i) met end
  -- no frame has a position outside the record; with these three that needs no proof
  no_node : {p i : ℕ} {forced : Bool} {met : Progress}
      → slice_get rows.nodes p ≡ None → FinishesFrame rows (Dependencies p forced i) met met
  no_scopes : {p i : ℕ} {met : Progress} → slice_get rows.nodes p ≡ None → FinishesFrame rows (Scopes p i) met met
  no_scope : {q i : ℕ} {met : Progress}
      → slice_get rows.scopes q ≡ None → FinishesFrame rows (ScopeDependencies q i) met met

-- the frames, the innermost first, end the walk
unfoldable pub Finishes : RowRecord → List VisitFrame → Progress → Progress → Type 0
Finishes rows [] met end = met ≡ end
Finishes rows (frame ∷ frames) met end =
    (visited : Progress) × FinishesFrame rows frame met visited × Finishes rows frames visited end

-- where the later frames end the walk, the part `Does` was done from what was met, and then the frames below end it
abbrev pub Leads : RowRecord → List VisitFrame → Progress → (Progress → Type 0) → List VisitFrame → Type 0
Leads rows later met Does frames = (end : Progress) → Finishes rows later met end
    → (visited : Progress) × Does visited × Finishes rows frames visited end

-- the frame is resumed
unfoldable pub ResumesFrame : RowRecord → List VisitFrame → Progress → VisitFrame → List VisitFrame → Progress → Type 0
ResumesFrame rows later met frame frames before = Leads rows later met (FinishesFrame rows frame before) frames

-- the visit of a name is begun
unfoldable pub BeginsVisit : RowRecord → List VisitFrame → Progress → DeclarationId → Bool → List VisitFrame → Progress
    → Type 0
BeginsVisit rows later met name forced frames before =
    Leads rows later met
    (λ visited. (answer : Bool) × VisitsName (record_of_rows rows) name forced before visited answer) frames

-- the decision on a node is begun
unfoldable pub BeginsDecision : RowRecord → List VisitFrame → Progress → DeclarationId → RowNode → Bool
    → List VisitFrame → Progress → Type 0
BeginsDecision rows later met name node memoized frames before =
    Leads rows later met
    (DecidesNode (record_of_rows rows) name (node_of_rows rows.operands name node) memoized
    (at_decision before name memoized)) frames

-- one scope is taken, and then others
abbrev pub TakesOne : RowRecord → ScopeId → Progress → Progress → Type 0
TakesOne rows scope before visited =
    (scopes : List ScopeId) (end : Progress) → TakesScopes (record_of_rows rows) scopes visited end
    → TakesScopes (record_of_rows rows) (scope ∷ scopes) before end

-- the taking of a scope is begun
unfoldable pub BeginsScope : RowRecord → List VisitFrame → Progress → ScopeId → List VisitFrame → Progress → Type 0
BeginsScope rows later met scope frames before = Leads rows later met (TakesOne rows scope before) frames

-- each way in which the later frames end the walk is one in which the earlier frames end it
unfoldable pub Continues : RowRecord → List VisitFrame → Progress → List VisitFrame → Progress → Type 0
Continues rows later met earlier before =
    (end : Progress) → Finishes rows later met end → Finishes rows earlier before end
