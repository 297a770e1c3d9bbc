use Rattle.std.proofs.Common.{◌∙◌, ap}
use Rattle.indexmap.specs.IndexSet.{insert_key}
use Rattle.rc_names.specs.Numbers.{same_id}
use Rattle.rc_memo.proofs.TellsLemmas.{tells_escape}
use Rattle.rc_hir.specs.Environment.{declaration_of}
use Rattle.rc_memo.proofs.reader.RowReader.record_escape.Goals as goal

pub returns : goal.returns
returns c =
    let env = c.args.self.now.env.now in
    let old = c.args.recording.now in
    tells_escape env (declaration_of env c.args.number) old c.insert.new.self
    (c.in_ok-insert.ensures.keys ∙ ap (insert_key same_id old.escaping) c.declaration.ensures)
