use Rattle.rc_escape.proofs.FitsLemmas.{fits_memoized}
use Rattle.rc_escape.proofs.walk_state.WalkState.decide.Goals as goal

pub returns-in_ok-push-clause-fits : goal.returns-in_ok-push-clause-fits
returns-in_ok-push-clause-fits c =
    let after = c.memoize.ensures in
    fits_memoized c.args.rows.now c.args.self.now c.memoize.new.self c.args.name c.args.node.now c.args.place
    c.requires.fits c.requires.found after.marks after.taken after.passed after.users after.answers after.answered
