use Rattle.std.proofs.Common.{◌≡◌, drop}
use Rattle.std.specs.List.{list_all}
use Rattle.rc_merge.specs.Joining.{is_from}
use Rattle.rc_merge.specs.inside.Indexed.{current}
use Rattle.rc_merge.specs.inside.Rows.{copies_of}
use Rattle.rc_merge.proofs.declared.Declared.are_sources_of.Given as goal

abbrev pub invariant-loop-dependency : goal.invariant-loop-dependency
invariant-loop-dependency l = list_all (is_from l.known.env.now (copies_of l.copies) (current l.self)) l.dependencies
    ≡ list_all (is_from l.known.env.now (copies_of l.copies) (current l.self)) (drop l.dependency-index l.dependencies)
