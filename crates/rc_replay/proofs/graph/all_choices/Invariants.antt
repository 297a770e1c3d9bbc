use Rattle.std.proofs.Common.{◌≡◌, take}
use Rattle.rc_replay.specs.inside.GraphTable.{case_choices}
use Rattle.rc_replay.proofs.graph.all_choices.Given as goal

abbrev pub invariant-loop-case : goal.invariant-loop-case
invariant-loop-case l = l.choices ≡ case_choices l.hir (take l.case-index l.cases)
