use Rattle.std.proofs.Common.{None, get_or, subst, sym, take}
use Rattle.std.proofs.lemmas.List.{take_more}
use Rattle.rc_replay.specs.inside.Closing.{Adds}
use Rattle.rc_replay.specs.inside.Paths.{LeadsWithin, shown}
use Rattle.rc_replay.specs.inside.Positions.{Choice, Chooses}
use Rattle.rc_replay.proofs.AddsLemmas.{adds_choice, adds_no_choice}
use Rattle.rc_replay.proofs.paths.add_choices.Goals as goal

pub loop-test-init : goal.loop-test-init
loop-test-init c = adds_no_choice c.args.last (shown c.args.wanted) c.args.next.now.keys
    c.args.next.now.keys

pub loop-test-preserved : goal.loop-test-preserved
loop-test-preserved c =
    let choices = c.args.choices.now in
    let i = c.loop-test.test-index in
    let nothing : Choice = (None, 0) in
    let last = c.args.last in
    let wanted = shown c.args.wanted in
    let old = c.args.next.now.keys in
    let new = c.add_move.new.next.keys in
    subst (λ l. Adds (LeadsWithin (Chooses l) last wanted) old new) (sym (take_more choices i nothing c.loop-test-test.true))
    (adds_choice last wanted old new c.loop-test.next.keys (take i choices) (get_or choices i nothing) c.loop-test.invariant
    c.in_ok-add_move.ensures)
