use Rattle.std.proofs.Common.{◌∙◌, ap}
use Rattle.indexmap.specs.IndexMap.{insert_entry}
use Rattle.rc_names.specs.Numbers.{same_id}
use Rattle.rc_memo.proofs.TellsLemmas.{tells_load}
use Rattle.rc_hir.specs.Environment.{declaration_of}
use Rattle.rc_memo.proofs.reader.RowReader.record_load.Goals as goal

pub returns : goal.returns
returns c =
    let env = c.args.self.now.env.now in
    let old = c.args.recording.now in
    tells_load env (declaration_of env c.args.target) (declaration_of env c.args.loaded) old c.insert.new.self
    c.new.result
    (c.in_ok-insert.ensures.entries
    ∙ ap (λ w. insert_entry same_id old.definitions w c.declaration-2.result) c.declaration.ensures
    ∙ ap (insert_entry same_id old.definitions (declaration_of env c.args.target)) c.declaration-2.ensures)
    c.new.ensures
