-- How many steps the walk by a stack has left.
use Rattle.std.specs.Prelude.{◌+◌, ◌-◌, ℕ, Bool, List, [], ◌∷◌, Option, None, Some, length, map, slice_get, sum_by}
use Rattle.std.specs.Prelude.{if◌then◌else◌}
use Rattle.rc_names.specs.Numbers.{DeclarationId, ScopeId}
use Rattle.rc_memo.specs.declared.row_record.RowNode.{RowNode}
use Rattle.rc_memo.specs.declared.row_record.RowRecord.{RowRecord}
use Rattle.rc_escape.specs.declared.walk_state.WalkState.{WalkState}
use Rattle.rc_escape.specs.declared.walk_state.VisitFrame.{VisitFrame}
use Rattle.rc_escape.specs.declared.walk_state.VisitFrame.TheVariants.{Escaping, Dependencies, Scopes}
use Rattle.rc_escape.specs.declared.walk_state.VisitFrame.TheVariants.{ScopeDependencies}
use Rattle.rc_escape.specs.inside.WalkPlaces.{says_seen}

-- the sum of the costs whose entries aren't done
abbrev pub open_costs : {X : Type 0} → (X → Bool) → List X → List ℕ → ℕ
open_costs is_done [] costs = 0
open_costs is_done (entry ∷ entries) [] = 0
open_costs is_done (entry ∷ entries) (cost ∷ costs) =
    (if is_done entry then 0 else cost) + open_costs is_done entries costs

-- how many operands no row has passed
abbrev pub operands_left : List ℕ → List (List DeclarationId) → ℕ
operands_left [] operands = 0
operands_left (count ∷ counts) [] = 0
operands_left (count ∷ counts) (names ∷ operands) = (length names - count) + operands_left counts operands

-- how many steps a node brings, and a scope
abbrev pub node_cost : DeclarationId × RowNode → ℕ
node_cost entry = length entry.1.rows + (length entry.1.scopes + 2)

abbrev pub scope_cost : ScopeId × List DeclarationId → ℕ
scope_cost entry = length entry.1 + 1

-- how many steps a frame has left
abbrev pub dependencies_left : Option (DeclarationId × RowNode) → ℕ → ℕ
dependencies_left None i = 1
dependencies_left (Some entry) i = (length entry.1.rows - i) + (length entry.1.scopes + 2)

abbrev pub scopes_left : Option (DeclarationId × RowNode) → ℕ → ℕ
scopes_left None i = 1
scopes_left (Some entry) i = (length entry.1.scopes - i) + 1

abbrev pub names_left : Option (ScopeId × List DeclarationId) → ℕ → ℕ
names_left None i = 1
names_left (Some entry) i = (length entry.1 - i) + 1

abbrev pub steps_left : RowRecord → VisitFrame → ℕ
steps_left rows (Escaping i) = (length rows.escaping - i) + 1
steps_left rows (Dependencies p forced i) = dependencies_left (slice_get rows.nodes p) i
steps_left rows (Scopes p i) = scopes_left (slice_get rows.nodes p) i
steps_left rows (ScopeDependencies q i) = names_left (slice_get rows.scopes q) i

-- how many steps a walk has left
unfoldable pub work : RowRecord → WalkState → List VisitFrame → ℕ
work rows state frames =
    open_costs says_seen state.marks (map node_cost rows.nodes)
    + (open_costs (λ bit. bit) state.taken (map scope_cost rows.scopes)
    + (operands_left state.passed rows.operands + sum_by (steps_left rows) frames))
