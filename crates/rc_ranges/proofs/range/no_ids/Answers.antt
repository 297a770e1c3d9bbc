use Rattle.std.proofs.Common.{arith, nat_le, nat_lt}
use Rattle.std.proofs.lemmas.Bool.{and_right, le-ltb}
use Rattle.rc_ranges.proofs.range.no_ids.Goals as goal

pub returns-clause-empty : goal.returns-clause-empty
returns-clause-empty c = λ id.
    and_right (nat_le c.new.result.0 id.0) (nat_lt id.0 c.new-2.result.0)
    (le-ltb id.0 c.new-2.result.0 (omega (arith, c.new-2.ensures)))
