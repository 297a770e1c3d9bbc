use Rattle.std.proofs.Common.{subst, sym}
use Rattle.rc_replay.specs.GivenRun.{end_of, events_of}
use Rattle.rc_replay.specs.inside.Positions.{FollowsAt, table_of}
use Rattle.rc_replay.proofs.GraphReplay.{follows_are_runs}
use Rattle.rc_replay.proofs.graph.replay_graph.Goals as goal

pub returns-clause-found : goal.returns-clause-found
returns-clause-found c =
    let table = table_of c.in_ok-table.table in
    let events = events_of c.args.run.now in
    let end = end_of c.args.run.now in
    let same = follows_are_runs c.args.hir.now c.args.env.now table c.in_ok-table.ensures {events = events} {end = end} in (
      λ yes. same.0 (subst (λ n. FollowsAt table n events end) c.number_of-start.ensures (c.in_ok-follows.ensures.0 yes)),
      λ run. c.in_ok-follows.ensures.1
          (subst (λ n. FollowsAt table n events end) (sym c.number_of-start.ensures) (same.1 run)),
    )
