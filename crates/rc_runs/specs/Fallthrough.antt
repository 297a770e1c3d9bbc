-- Where the parts of a statement meet again.
--
-- A fallthrough is the block where the parts of a statement meet again. If it is opened, the parts fall off to it, the
-- jumps in them may name it, and it is spelled once, after the statement. A fallthrough that a jump can name already
-- is spelled further out. So it isn't opened again, and the list ends with the statement.
use Rattle.std.specs.Prelude.{Bool, true, false, List, Option, Some, None, not, if◌then◌else◌}
use Rattle.rc_names.specs.Numbers.{BlockId, same_id}
use Rattle.rc_hir.specs.Model.{HirFunction}
use Rattle.rc_tree.specs.Model.{ReactiveLabel}
use Rattle.rc_runs.specs.declared.frames.Frame.{Frame}
use Rattle.rc_runs.specs.Graph.{ends_unreachable}
use Rattle.rc_runs.specs.Frames.{is_jump_target}

-- a fallthrough is opened unless a jump can name it already
abbrev pub opens : List Frame → BlockId → Bool
opens frames fallthrough = not (is_jump_target frames fallthrough)

-- the same, but a fallthrough that ends in `Unreachable` isn't opened either
abbrev pub opens_reachable : HirFunction → List Frame → BlockId → Bool
opens_reachable hir frames fallthrough =
    if is_jump_target frames fallthrough then false else not (ends_unreachable hir fallthrough)

-- the label of a statement, which is its fallthrough if that is opened
abbrev pub label_of : Bool → BlockId → Option ReactiveLabel
label_of opened fallthrough = if opened then Some (record { id = fallthrough; implicit = false }) else None

-- falling off reaches the block
abbrev pub is_next : Option BlockId → BlockId → Bool
is_next None key = false
is_next (Some next) key = same_id next key

-- leaving a statement leads to its fallthrough, in the tree as in the graph
abbrev pub falls_to : Bool → BlockId → Option BlockId → Bool
falls_to opened fallthrough next = if opened then true else is_next next fallthrough
