use Rattle.rc_replay.specs.inside.Paths.{shown}
use Rattle.rc_replay.proofs.AddsLemmas.{attempts_ok, computes_ok, passes_ok, tests_ok}
use Rattle.rc_replay.proofs.paths.add_moves.Goals as goal

pub returns-in-Passes : goal.returns-in-Passes
returns-in-Passes c = rw c.in-Passes.is (passes_ok c.args.last (shown c.args.wanted) c.args.next.now.keys
    c.add_move.new.next.keys c.add_move.result c.in-Passes.to c.add_move.ensures)

pub returns-in-Computes : goal.returns-in-Computes
returns-in-Computes c = rw c.in-Computes.is (computes_ok c.args.last (shown c.args.wanted) c.args.next.now.keys
    c.add_move-in-Computes.new.next.keys c.add_move-in-Computes.result c.in-Computes.value.now c.in-Computes.to
    c.add_move-in-Computes.ensures)

pub returns-in_ok-add_move-in-Tests : goal.returns-in_ok-add_move-in-Tests
returns-in_ok-add_move-in-Tests c = rw c.in-Tests.is (tests_ok c.args.last (shown c.args.wanted) c.args.next.now.keys
    c.add_move-in-Tests-2.new.next.keys c.add_move-in-Tests-2.result c.add_move-in-Tests.new.next.keys c.in-Tests.holds
    c.in-Tests.fails c.in_ok-add_move-in-Tests.ensures c.add_move-in-Tests-2.ensures)

pub returns-in_ok-add_move-in-Attempts : goal.returns-in_ok-add_move-in-Attempts
returns-in_ok-add_move-in-Attempts c = rw c.in-Attempts.is (attempts_ok c.args.last (shown c.args.wanted)
    c.args.next.now.keys c.add_move-in-Attempts-2.new.next.keys c.add_move-in-Attempts-2.result
    c.add_move-in-Attempts.new.next.keys c.in-Attempts.on c.in-Attempts.handler c.in_ok-add_move-in-Attempts.ensures
    c.add_move-in-Attempts-2.ensures)
