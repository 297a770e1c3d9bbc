use Rattle.std.proofs.Common.{◌≡◌, ◌++◌, drop, map}
use Rattle.std.specs.Prelude.{flat_map}
use Rattle.rc_program.specs.ReasonLines.{further_text}
use Rattle.rc_program.proofs.printing.reason.write_further.Given as goal

-- the entries so far and those that are left are the whole
abbrev pub invariant-loop-entry : goal.invariant-loop-entry
invariant-loop-entry g l =
    l.page ++ flat_map further_text (map g.T.Entry.text (drop l.entry-index l.entries))
    ≡ l.fn.page ++ flat_map further_text (map g.T.Entry.text l.entries)
