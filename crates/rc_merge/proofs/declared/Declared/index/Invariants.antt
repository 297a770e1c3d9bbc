use Rattle.std.proofs.Common.{◌≡◌, take}
use Rattle.rc_merge.specs.inside.Declarations.{entries_of}
use Rattle.rc_merge.specs.inside.Indexed.{IsIndexed}
use Rattle.rc_merge.specs.inside.LastUsesMet.{uses_of}
use Rattle.rc_merge.proofs.declared.Declared.index.Given as goal

abbrev pub invariant-loop-entry : goal.invariant-loop-entry
invariant-loop-entry l = record {
  entries : entries_of l.declared.slots ≡ take l.entry-index l.entries;
  whole : l.declared.end.0 ≡ 0;
  indexed : IsIndexed l.known.env.now (uses_of l.known.uses.now) l.declared;
}
