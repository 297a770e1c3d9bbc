use Rattle.std.proofs.Common.{rules}
use Rattle.rc_lines.proofs.KnownBytes.{Appends-more}
use Rattle.rc_lines.proofs.write.write_bytes.Goals as goal

pub loop-at-preserved : goal.loop-at-preserved
loop-at-preserved g c = record {
  within = search rules;
  written = Appends-more _ _ _ _ _ _ c.loop-at.invariant.written c.in_ok-at.ensures.bytes;
  later = search rules;
}
