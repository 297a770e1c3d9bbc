use Rattle.std.proofs.Common.{◌≡◌, ◌++◌}
use Rattle.rc_names.proofs.keyed.KeyedCloneIn.clone_in.Given as goal

-- the copy, followed by the pairs that are left, is the whole list
abbrev pub invariant-loop-key : goal.invariant-loop-key
invariant-loop-key g l = l.copy ++ l.key-iterator ≡ l.self
