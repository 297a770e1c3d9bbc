use Rattle.std.proofs.Common.{◌≡◌, take}
use Rattle.rc_names.proofs.key_set.KeySetCloneIn.clone_in.Given as goal

abbrev pub invariant-loop-key : goal.invariant-loop-key
invariant-loop-key g l = l.copy ≡ take l.key-index l.key-items
