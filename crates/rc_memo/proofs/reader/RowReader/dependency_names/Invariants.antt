use Rattle.std.proofs.Common.{◌≡◌, map, take}
use Rattle.rc_memo.specs.Record.{dependency_name}
use Rattle.rc_memo.proofs.reader.RowReader.dependency_names.Given as goal

abbrev pub invariant-loop-dependency : goal.invariant-loop-dependency
invariant-loop-dependency l =
    l.names ≡ map (dependency_name l.self.env.now) (take l.dependency-index l.dependency-items)
