-- The words so far and those that are left are all words after the first.
use Rattle.std.proofs.Common.{◌≡◌, ◌++◌, drop, map, string_bytes}
use Rattle.std.specs.Vec.Iter.{into_iter_items, into_iter_len}
use Rattle.rc_program.proofs.command_line.words_after_name.Given as goal

abbrev pub invariant-loop-word : goal.invariant-loop-word
invariant-loop-word l =
    l.words ++ map string_bytes (into_iter_items l.rest) ≡ map string_bytes (drop 1 (into_iter_items l.fn.args))

abbrev pub decreases-loop-word : goal.decreases-loop-word
decreases-loop-word l = into_iter_len l.rest
