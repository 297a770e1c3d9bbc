use Rattle.std.proofs.Common.{◌≡◌, ◌∙◌, ◌<◌, ◌≤◌, ◌+◌, ◌++◌, [], ◌∷◌, ap, get_or, length, subst, sym, take}
use Rattle.std.proofs.lemmas.List.{take_all, take_more}
use Rattle.std.specs.Map.{values_of}
use Rattle.rc_replay.specs.declared.positions.Position.TheVariants.{Stops}
use Rattle.rc_replay.specs.inside.GraphTable.{AreEntries, IsGraphTable, no_entry}
use Rattle.rc_replay.specs.inside.Positions.{table_of}
use Rattle.rc_replay.proofs.GraphTableLemmas.{entries_push, whole_table}
use Rattle.rc_replay.proofs.graph.graph_table.Goals as goal

pub loop-block-init : goal.loop-block-init
loop-block-init c = subst (λ l. AreEntries c.args.hir.now c.args.env.now c.new-rows.result l []) (sym c.new-table.ensures)
    no_entry

pub loop-block-preserved : goal.loop-block-preserved
loop-block-preserved c =
    let hir = c.args.hir.now in
    let env = c.args.env.now in
    let values = values_of hir.body.blocks in
    let i = c.loop-block.block-index in
    let block = c.block-item.result in
    let rows = c.add_block.new.rows in
    let entry = c.in_ok-add_block.field-0 in
    let inside : i < length values =
    subst (λ l. i < length l) c.values-block-items.ensures c.loop-block-test.true in
    let read : block ≡ get_or values i block = c.block-item.is ∙ ap (λ l. get_or l i block) c.values-block-items.ensures in
    let taken : take i values ++ block ∷ [] ≡ take (i + 1) values =
    ap (λ b. take i values ++ b ∷ []) read ∙ sym (take_more values i block inside) in
    subst (λ l. AreEntries hir env rows l (take (i + 1) values)) (sym c.in_ok-push.ensures.ok)
    (subst (AreEntries hir env rows (c.loop-block.table ++ entry ∷ [])) taken
    (entries_push hir env entry block c.in_ok-add_block.ensures.grown c.in_ok-add_block.ensures.entry c.loop-block.invariant))

pub returns : goal.returns
returns c =
    let hir = c.args.hir.now in
    let env = c.args.env.now in
    let values = values_of hir.body.blocks in
    let i = c.loop-block.block-index in
    let rows = c.loop-block.rows in
    let entries = c.loop-block.table in
    let all : length values ≤ i = subst (λ l. length l ≤ i) c.values-block-items.ensures c.loop-block-test.false in
    let table : (entries ++ Stops ∷ []) ++ rows ≡ c.append.new.self =
    sym (c.in_ok-append.ensures.ok ∙ ap (λ l. l ++ rows) c.in_ok-push-2.ensures.ok) in
    subst (λ l. IsGraphTable hir env (table_of l)) table (whole_table hir env rows entries
    (subst (AreEntries hir env rows entries) (take_all i values all) c.loop-block.invariant))
