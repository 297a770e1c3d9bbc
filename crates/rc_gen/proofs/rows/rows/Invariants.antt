use Rattle.std.proofs.Common.{◌≡◌}
use Rattle.rc_gen.specs.Generated.{items, rows}
use Rattle.rc_gen.specs.Units.{scope_id}
use Rattle.rc_gen.proofs.rows.rows.Given as goal

abbrev pub invariant-loop-unit : goal.invariant-loop-unit
invariant-loop-unit l = (l.rows ≡ rows l.unit) × (l.items ≡ items l.unit) × (l.id ≡ scope_id l.unit)
