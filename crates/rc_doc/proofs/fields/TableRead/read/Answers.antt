-- The list has as many entries as the array has items, so it fits.
use Rattle.std.proofs.Common.{◌≡◌, length, arith}
use Rattle.serde_json.specs.View.{view}
use Rattle.rc_doc.specs.Reading.{array_len}
use Rattle.rc_doc.proofs.Lengths.{length-list_of}
use Rattle.rc_doc.proofs.fields.TableRead.read.Goals as goal

pub from_list-requires : goal.from_list-requires
from_list-requires g c =
    let same : length c.in_ok-read.field-0 ≡ array_len (view c.args.value.now) =
    length-list_of g.T.Read.reads (view c.args.value.now) c.in_ok-read.field-0 c.in_ok-read.ensures
    in
    omega (arith, c.array_len.ensures, c.if-array_len.false)
