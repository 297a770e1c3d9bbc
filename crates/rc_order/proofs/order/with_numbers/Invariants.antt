use Rattle.std.proofs.Common.{◌≡◌, ◌++◌, map}
use Rattle.rc_names.specs.Numbers.{to_id}
use Rattle.rc_order.proofs.order.with_numbers.Given as goal

abbrev pub invariant-loop-number : goal.invariant-loop-number
invariant-loop-number l = l.names ++ map to_id l.number-iterator ≡ map to_id l.numbers.keys
