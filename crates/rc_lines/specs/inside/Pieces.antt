-- The text of a page, whose pieces keep the spaces in front of them as numbers.
use Rattle.std.specs.Prelude.{ℕ, List, ◌++◌, flat_map, replicate, string_bytes}
use Rattle.rc_lines.specs.declared.page.Piece.{Piece}

-- the spaces of a piece, and its text
abbrev pub piece_text : Piece → List ℕ
piece_text piece = replicate piece.spaces 32 ++ string_bytes piece.text

-- the pieces one after the other
abbrev pub text_of : List Piece → List ℕ
text_of = flat_map piece_text
