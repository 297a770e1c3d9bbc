use Rattle.std.proofs.Common.{sym}
use Rattle.indexmap.proofs.MapLemmas.{Missing-position}
use Rattle.rc_names.specs.Numbers.{same_id}
use Rattle.rc_build.proofs.PositionLemmas.{value_there}
use Rattle.rc_build.proofs.places.block_from.Goals as goal

pub returns-in-Some : goal.returns-in-Some
returns-in-Some c = sym (value_there c.args.blocks.now c.args.key (sym c.in-Some.ensures) c.values.ensures
    c.index-values-place.is)

pub returns-in-None : goal.returns-in-None
returns-in-None c = sym (Missing-position (same_id c.args.key) c.args.blocks.now (sym c.in-None.ensures)).value
