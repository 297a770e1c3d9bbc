use Rattle.std.proofs.Common.{◌≡◌, ◌∙◌, ◌<◌, ◌≤◌, ◌+◌, [], ◌∷◌, ap, drop, get_or, length, map, min, refl, subst, sym}
use Rattle.std.proofs.lemmas.List.{drop_all, drop_more}
use Rattle.rc_replay.specs.GivenRun.{end_of, event_of, events_of}
use Rattle.rc_replay.specs.inside.Closing.{Following}
use Rattle.rc_replay.proofs.ClosingLemmas.{following_end, following_next}
use Rattle.rc_replay.proofs.PathLemmas.{path_run, run_path}
use Rattle.rc_replay.proofs.paths.follows.Goals as goal

pub loop-event-preserved : goal.loop-event-preserved
loop-event-preserved c =
    let table = c.args.table.now in
    let start = min c.args.start (length table) in
    let all = events_of c.args.run.now in
    let end = end_of c.args.run.now in
    let here = c.loop-event.here.keys in
    let given = c.args.run.now.events in
    let i = c.loop-event.event-index in
    let item = c.event-item.result in
    let same : c.as_slice-event-items.result.now ≡ given = c.as_slice-event-items.ensures in
    let inside : i < length given = subst (λ l. i < length l) same c.loop-event-test.true in
    let read : item ≡ get_or given i item = c.event-item.is ∙ ap (λ l. get_or l i item) same in
    let split : drop i given ≡ item ∷ drop (i + 1) given =
    drop_more given i item inside ∙ ap (λ e. e ∷ drop (i + 1) given) (sym read) in
    following_next table start all end here c.close.new.here.keys c.in_ok-close.ensures c.in_ok-here.here.keys (event_of item)
    (map event_of (drop (i + 1) given))
    (subst (λ l. Following table start all here (map event_of l) end) split c.loop-event.invariant) c.in_ok-here.ensures

pub returns : goal.returns
returns c =
    let table = c.args.table.now in
    let start = min c.args.start (length table) in
    let all = events_of c.args.run.now in
    let end = end_of c.args.run.now in
    let here = c.loop-event.here.keys in
    let given = c.args.run.now.events in
    let i = c.loop-event.event-index in
    let past : length given ≤ i = subst (λ l. length l ≤ i) c.as_slice-event-items.ensures c.loop-event-test.false in
    let following : Following table start all here [] end = subst (λ l. Following table start all here (map event_of l) end)
    (drop_all i given past) c.loop-event.invariant in
    let same = following_end table start all end here c.close-2.new.here.keys c.in_ok-close-2.ensures following in (
      λ yes. path_run table c.args.start refl (same.1 (c.may_end.ensures.0 yes)),
      λ follows. c.may_end.ensures.1 (same.0 (run_path table follows)),
    )
