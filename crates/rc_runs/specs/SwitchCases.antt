-- The cases of a switch that a tree keeps, and the context of each.
use Rattle.std.specs.Prelude.{Bool, true, List, [], ◌∷◌, not, ◌&&◌}
use Rattle.std.specs.List.{list_any, filter}
use Rattle.rc_names.specs.Numbers.{BlockId, same_id}
use Rattle.rc_hir.specs.Model.{Case}
use Rattle.rc_hir.specs.Successors.{is_default}
use Rattle.rc_runs.specs.declared.frames.Frame.TheVariants as frame_kinds
use Rattle.rc_runs.specs.ListContext.{ListContext, inside}

-- a case leads straight to the fallthrough
abbrev pub leads_past : BlockId → Case → Bool
leads_past fallthrough case = same_id case.block fallthrough

-- the case is kept: it isn't a default that leads straight to a fallthrough which a jump can name
abbrev pub is_kept : Bool → BlockId → Case → Bool
is_kept is_target fallthrough case = not (is_default case && (leads_past fallthrough case && is_target))

-- the cases that are kept
abbrev pub kept_cases : Bool → BlockId → List Case → List Case
kept_cases is_target fallthrough cases = filter (is_kept is_target fallthrough) cases

-- at most one case is a default
abbrev pub has_one_default : List Case → Bool
has_one_default [] = true
has_one_default (case ∷ cases) = not (is_default case && list_any is_default cases) && has_one_default cases

-- a case with a test leads straight to the fallthrough
abbrev pub tests_past : BlockId → List Case → Bool
tests_past fallthrough cases = list_any (λ case. not (is_default case) && leads_past fallthrough case) cases

-- the context of a case with these kept cases after it, in the marked context of the switch: falling off reaches the
-- next of them, and each has a frame
abbrev pub case_context : List Case → ListContext → ListContext
case_context [] context = context
case_context (case ∷ later) context = inside true (frame_kinds.Case case.block) (case_context later context)
