use Rattle.std.proofs.Common.{◌≡◌, ◌∙◌, ◌<◌, ◌+◌, ◌++◌, [], ◌∷◌, ap, get_or, length, sym, subst, take}
use Rattle.std.proofs.lemmas.List.{take_more}
use Rattle.rc_replay.specs.GivenRun.{event_of}
use Rattle.rc_replay.specs.inside.Closing.{Adds, IsNextOf}
use Rattle.rc_replay.specs.inside.Paths.{Steps}
use Rattle.rc_replay.proofs.AddsLemmas.{adds_next}
use Rattle.rc_replay.proofs.paths.after.Goals as goal

pub loop-at-preserved : goal.loop-at-preserved
loop-at-preserved c =
    let table = c.args.table.now in
    let keys = c.args.here.now.keys in
    let items = c.as_slice-at-items.result.now in
    let same : items ≡ keys = c.as_slice-at-items.ensures.keys in
    let i = c.loop-at.at-index in
    let wanted = event_of c.args.event.now ∷ [] in
    let at = get_or items i 0 in
    let mid = c.loop-at.next.keys in
    let new = c.add_next.new.next.keys in
    let inside : i < length keys = subst (λ l. i < length l) same c.loop-at-test.true in
    let taken : take i keys ++ at ∷ [] ≡ take (i + 1) keys =
    ap (λ l. take i keys ++ get_or l i 0 ∷ []) same ∙ sym (take_more keys i 0 inside) in
    subst (λ l. Adds (IsNextOf table l wanted) [] new) taken
    (adds_next table wanted [] new mid (take i keys) at c.loop-at.invariant
    (subst (λ w. Adds (Steps table at w) mid new) c.of.ensures c.in_ok-add_next.ensures))
