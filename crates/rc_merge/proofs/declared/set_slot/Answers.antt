use Rattle.std.proofs.Common.{sym}
use Rattle.rc_merge.proofs.DeclaredLemmas.{set_none}
use Rattle.rc_merge.proofs.declared.set_slot.Goals as goal

pub returns-in_default : goal.returns-in_default
returns-in_default c = sym (set_none c.args.slots.now c.args.place c.args.slot (sym c.in_default.ensures.value))
