use Rattle.std.proofs.Common.{ap}
use Rattle.rc_merge.specs.inside.Declarations.{entries_of}
use Rattle.rc_merge.specs.inside.LastUsesMet.{uses_of}
use Rattle.rc_merge.proofs.declared.Declared.index.Goals as goal

pub loop-entry-init : goal.loop-entry-init
loop-entry-init c = record {
  entries = ap entries_of c.empty-declared.ensures.slots;
  whole = c.empty-declared.ensures.whole;
  indexed = c.empty-declared.ensures.indexed c.args.known.now.env.now (uses_of c.args.known.now.uses.now);
}
