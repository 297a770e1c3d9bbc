use Rattle.std.proofs.Common.{None}
use Rattle.serde_json.specs.View.{view}
use Rattle.rc_flat.proofs.TablesRead.{answered}
use Rattle.rc_flat.proofs.tables.read_function.Goals as goal

pub returns-in-Ok : goal.returns-in-Ok
returns-in-Ok c = answered (view c.args.value.now) _ c.in-Ok.ensures

pub returns-in-Err-NotDoc : goal.returns-in-Err-NotDoc
returns-in-Err-NotDoc c =
    answered (view c.args.value.now) None (rw c.in-Err-NotDoc.field-0-is at c.in-Err-NotDoc.ensures)
