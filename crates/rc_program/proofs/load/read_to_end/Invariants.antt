-- The bytes that were taken are kept, and are at most one buffer more than a document may have.
use Rattle.std.proofs.Common.{◌≤◌, ◌+◌, ◌-◌, ◌≡◌, length, vec_len}
use Rattle.std.specs.Io.KnownBytes.{Consumes}
use Rattle.rc_program.specs.Device.{most_bytes}
use Rattle.rc_program.proofs.load.read_to_end.Given as goal

abbrev pub invariant-loop-buffer : goal.invariant-loop-buffer
invariant-loop-buffer g l = record {
  size : length l.buffer ≡ 65536;
  few : vec_len l.bytes ≤ most_bytes + 65536;
  taken : Consumes (g.S.Source.left l.fn.source) (g.S.Source.left l.source) l.bytes.items;
  later : g.S.Source.faults l.fn.source ≤ g.S.Source.faults l.source;
}

abbrev pub decreases-loop-buffer : goal.decreases-loop-buffer
decreases-loop-buffer g l = most_bytes + 1 - vec_len l.bytes
