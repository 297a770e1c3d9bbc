use Rattle.std.proofs.Common.{[], ◌∷◌}
use Rattle.rc_memo.proofs.TellsLemmas.{tells_next}
use Rattle.rc_hir.specs.Environment.{declaration_of}
use Rattle.rc_memo.specs.declared.event.MemoEvent.TheVariants as kinds
use Rattle.rc_memo.proofs.tree.add_returned.Goals as goal

pub returns : goal.returns
returns c =
    let env = c.args.reader.now.env.now in
    let name = declaration_of env c.args.place.identifier in
    tells_next env (kinds.Escape name ∷ []) (kinds.Within name c.args.around.now ∷ []) c.args.recording.now
    c.record_escape.new.recording c.record_within.new.recording c.in_ok-record_escape.ensures
    c.in_ok-record_within.ensures
