use Rattle.std.proofs.Common.{take}
use Rattle.std.specs.List.{list_any}
use Rattle.rc_escape.specs.inside.RowUsers.{AddsUsers}
use Rattle.rc_escape.specs.inside.WalkPlaces.{is_place_of}
use Rattle.rc_escape.proofs.row_users.put_operands.Given as goal

abbrev pub invariant-loop-operand : goal.invariant-loop-operand
invariant-loop-operand l =
    AddsUsers l.fn.users l.users l.row (λ place. list_any (is_place_of l.rows place) (take l.operand-index l.operands))
