use Rattle.std.proofs.Common.{arith}
use Rattle.serde_json.proofs.Views.{items_len-items_view}
use Rattle.rc_doc.proofs.fields.array_len.Goals as goal

pub returns-in-Some : goal.returns-in-Some
returns-in-Some c = let e = items_len-items_view c.in-Some.items.now.items in grind (arith, c.in-Some.ensures)
