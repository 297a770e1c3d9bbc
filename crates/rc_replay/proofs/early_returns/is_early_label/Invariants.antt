use Rattle.std.proofs.Common.{◌≡◌, false, take}
use Rattle.std.specs.List.{list_any}
use Rattle.rc_runs.specs.Returning.{is_label_of}
use Rattle.rc_replay.proofs.early_returns.is_early_label.Given as goal

abbrev pub invariant-loop-scope : goal.invariant-loop-scope
invariant-loop-scope l = list_any (is_label_of l.block) (take l.scope-index l.scope-items) ≡ false
