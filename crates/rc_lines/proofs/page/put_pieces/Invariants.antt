-- what was sent and what is left are the whole, and the count hasn't fallen
use Rattle.std.proofs.Common.{◌++◌, ◌≤◌, drop}
use Rattle.rc_lines.specs.inside.Pieces.{text_of}
use Rattle.rc_lines.specs.inside.Sent.{HasSent}
use Rattle.rc_lines.proofs.page.put_pieces.Given as goal

abbrev pub invariant-loop-piece : goal.invariant-loop-piece
invariant-loop-piece g l = record {
  sent : HasSent (g.K.Sink.written l.fn.sink) (g.K.Sink.written l.sink) (l.fn.buffer ++ text_of l.pieces)
      (l.buffer ++ text_of (drop l.piece-index l.pieces));
  later : g.K.Sink.faults l.fn.sink ≤ g.K.Sink.faults l.sink;
}
