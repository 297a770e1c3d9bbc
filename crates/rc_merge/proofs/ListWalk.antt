-- A list whose statements are taken from its first to its last, as the code takes them.
use Rattle.std.proofs.Common.{List, map, reverse}
use Rattle.rc_hir.specs.Model.{Environment}
use Rattle.rc_tree.specs.Model.{ReactiveStatement}
use Rattle.rc_tree.specs.declared.statement.ReactiveStatement.{out-ReactiveStatement}
use Rattle.rc_merge.specs.LastUses.{LastUses}
use Rattle.rc_merge.specs.inside.ListSteps.{Going, steps}

-- after the statements that are left, of which the next one is the last
abbrev pub through : Environment → LastUses → Going → List ReactiveStatement → Going
through env uses g left = steps env uses g (map out-ReactiveStatement (reverse left))
