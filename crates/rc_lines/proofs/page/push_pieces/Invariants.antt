use Rattle.std.proofs.Common.{◌≡◌, ◌++◌, drop, string_bytes}
use Rattle.rc_lines.specs.inside.Pieces.{text_of}
use Rattle.rc_lines.proofs.page.push_pieces.Given as goal

-- the text so far and the pieces that are left are the whole
abbrev pub invariant-loop-piece : goal.invariant-loop-piece
invariant-loop-piece l =
    string_bytes l.text ++ text_of (drop l.piece-index l.pieces) ≡ string_bytes l.fn.text ++ text_of l.pieces
