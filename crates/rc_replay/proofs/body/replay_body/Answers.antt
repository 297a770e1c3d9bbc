use Rattle.std.proofs.Common.{◌∷◌, [], ◌++◌, ◌∙◌, ap}
use Rattle.rc_replay.specs.declared.positions.Position.TheVariants as laid
use Rattle.rc_replay.proofs.BodyReplay.{body_follows}
use Rattle.rc_replay.proofs.body.replay_body.Goals as goal

pub returns-clause-found : goal.returns-clause-found
returns-clause-found c =
    let positions = c.in_ok-push.ensures.ok ∙ ap (λ front. front ++ laid.Stops ∷ []) c.new-positions.ensures in
    let same = body_follows {func = c.args.func.now} positions c.new.ensures c.outermost.ensures c.in_ok-start.ensures
    c.requires.no_throw in
    (λ yes. same.0 (c.in_ok-follows.ensures.0 yes), λ run. c.in_ok-follows.ensures.1 (same.1 run))
