-- what was sent and what is left are the whole, and the count hasn't fallen
use Rattle.std.proofs.Common.{◌++◌, ◌≤◌, ◌-◌, drop, length}
use Rattle.rc_lines.specs.inside.Sent.{HasSent}
use Rattle.rc_lines.proofs.buffer.Buffer.put.Given as goal

abbrev pub invariant-loop-at : goal.invariant-loop-at
invariant-loop-at g l = record {
  within : l.at ≤ length l.piece;
  sent : HasSent (g.K.Sink.written l.fn.sink) (g.K.Sink.written l.sink) (l.fn.self ++ l.piece)
      (l.self ++ drop l.at l.piece);
  later : g.K.Sink.faults l.fn.sink ≤ g.K.Sink.faults l.sink;
}

abbrev pub decreases-loop-at : goal.decreases-loop-at
decreases-loop-at g l = length l.piece - l.at
