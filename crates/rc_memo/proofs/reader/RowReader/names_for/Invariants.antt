use Rattle.std.proofs.Common.{◌≡◌, take}
use Rattle.rc_memo.specs.inside.Recording.{place_names}
use Rattle.rc_memo.specs.inside.RowNodes.{resolved}
use Rattle.rc_memo.proofs.reader.RowReader.names_for.Given as goal

abbrev pub invariant-loop-place : goal.invariant-loop-place
invariant-loop-place l =
    l.names ≡ place_names l.self.env.now (resolved l.definitions) (take l.place-index l.places)
