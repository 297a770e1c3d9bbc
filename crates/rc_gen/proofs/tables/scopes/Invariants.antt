use Rattle.std.proofs.Common.{◌≡◌}
use Rattle.rc_gen.specs.Generated.{scopes}
use Rattle.rc_gen.specs.Units.{scope_id}
use Rattle.rc_gen.proofs.tables.scopes.Given as goal

abbrev pub invariant-loop-unit : goal.invariant-loop-unit
invariant-loop-unit l = (l.table ≡ scopes l.unit) × (l.id ≡ scope_id l.unit)
