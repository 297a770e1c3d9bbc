use Rattle.std.proofs.Common.{◌≡◌, ◌++◌, drop, map}
use Rattle.rc_hir.specs.Environment.{declaration_of}
use Rattle.rc_escape.proofs.not_escaping.outputs.add_reassigned.Given as goal

-- the names so far and those still to come are all that are added
abbrev pub invariant-loop-number : goal.invariant-loop-number
invariant-loop-number l =
    l.names ++ map (declaration_of l.env) (drop l.number-index l.numbers)
    ≡ l.initial.names ++ map (declaration_of l.env) l.numbers
