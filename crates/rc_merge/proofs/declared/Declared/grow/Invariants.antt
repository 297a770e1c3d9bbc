use Rattle.std.proofs.Common.{◌≡◌, drop}
use Rattle.rc_merge.specs.Joining.{put_declarations}
use Rattle.rc_merge.specs.inside.Indexed.{IsIndexed, current}
use Rattle.rc_merge.specs.inside.LastUsesMet.{uses_of}
use Rattle.rc_merge.proofs.declared.Declared.grow.Given as goal

abbrev pub invariant-loop-entry : goal.invariant-loop-entry
invariant-loop-entry l = record {
  current : put_declarations (current l.declared) (drop l.entry-index l.more)
      ≡ put_declarations (current l.fn.self) l.more;
  indexed : IsIndexed l.known.env.now (uses_of l.known.uses.now) l.declared;
}
