-- what was sent and what is left are the whole, and the count hasn't fallen
use Rattle.std.proofs.Common.{◌++◌, ◌≤◌, replicate}
use Rattle.rc_lines.specs.inside.Sent.{HasSent}
use Rattle.rc_lines.proofs.buffer.Buffer.put_spaces.Given as goal

abbrev pub invariant-loop-left : goal.invariant-loop-left
invariant-loop-left g l = record {
  sent : HasSent (g.K.Sink.written l.fn.sink) (g.K.Sink.written l.sink) (l.fn.self ++ replicate l.fn.count 32)
      (l.self ++ replicate l.left 32);
  later : g.K.Sink.faults l.fn.sink ≤ g.K.Sink.faults l.sink;
}

abbrev pub decreases-loop-left : goal.decreases-loop-left
decreases-loop-left g l = l.left
