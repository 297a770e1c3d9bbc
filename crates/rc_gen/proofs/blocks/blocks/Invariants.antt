use Rattle.std.proofs.Common.{◌≡◌, ◌*◌}
use Rattle.rc_gen.specs.Generated.{blocks}
use Rattle.rc_gen.specs.Units.{scope_id, scope_row}
use Rattle.rc_gen.specs.inside.Keys.{AreKeysBelow}
use Rattle.rc_gen.proofs.blocks.blocks.Given as goal

abbrev pub invariant-loop-unit : goal.invariant-loop-unit
invariant-loop-unit l = (l.blocks ≡ blocks l.unit) × AreKeysBelow (4 * l.unit) l.blocks
    × (l.id ≡ scope_id l.unit) × (l.number ≡ scope_row l.unit)
