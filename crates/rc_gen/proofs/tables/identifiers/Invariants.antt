use Rattle.std.proofs.Common.{◌≡◌}
use Rattle.rc_gen.specs.Generated.{identifiers}
use Rattle.rc_gen.proofs.tables.identifiers.Given as goal

abbrev pub invariant-loop-unit : goal.invariant-loop-unit
invariant-loop-unit l = l.table ≡ identifiers l.unit
