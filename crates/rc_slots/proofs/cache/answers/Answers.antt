use Rattle.std.proofs.Common.{◌∙◌, ◌++◌, length, drop, sym, ap, arith}
use Rattle.std.proofs.lemmas.List.{append-nil, drop_all}
use Rattle.std.proofs.lemmas.Slice.Zip.{zip_end, AllZip-long}
use Rattle.rc_slots.specs.CacheRun.{Fits, answers}
use Rattle.rc_slots.specs.inside.CachedSlots.{items_in}
use Rattle.rc_slots.proofs.cache.answers.Goals as goal

pub returns : goal.returns
returns c =
    let entries = c.args.scopes.now in
    let given = c.args.given.now in
    let turns = length c.loop-entry.yielded in
    let ended = zip_end entries given c.loop-entry.yielded c.into_iter-entry-iterator.result c.loop-entry.entry-iterator
    c.next.new.self c.next.result (cc) (cc) c.loop-entry.yielded_by c.in-None.is c.next.ensures.steps in
    let past = drop_all turns entries (omega (arith, ended, AllZip-long Fits entries given c.requires.fit)) in
    sym (append-nil c.loop-entry.answers)
    ∙ sym (ap (λ rest. c.loop-entry.answers ++ answers rest (items_in rest c.loop-entry.rest.now) (drop turns given)) past)
    ∙ c.loop-entry.invariant.2
