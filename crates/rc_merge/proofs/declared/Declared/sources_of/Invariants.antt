-- the declared names that the dependencies so far are or copy
use Rattle.std.proofs.Common.{◌≡◌, take}
use Rattle.std.specs.List.{filter_map}
use Rattle.rc_merge.specs.Explained.{source_by}
use Rattle.rc_merge.specs.inside.Indexed.{current}
use Rattle.rc_merge.specs.inside.Rows.{copies_of}
use Rattle.rc_merge.proofs.declared.Declared.sources_of.Given as goal

abbrev pub invariant-loop-dependency : goal.invariant-loop-dependency
invariant-loop-dependency l =
    l.sources ≡ filter_map (source_by l.known.env.now (copies_of l.copies) (current l.self))
    (take l.dependency-index l.dependencies)
