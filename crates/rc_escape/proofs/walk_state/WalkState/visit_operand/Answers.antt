use Rattle.std.proofs.Common.{◌<◌, false, reverse, subst, sym}
use Rattle.rc_escape.specs.inside.WalkFrames.{BeginsVisit, FitsRecord}
use Rattle.rc_escape.specs.inside.WalkPlaces.{progress}
use Rattle.rc_escape.specs.inside.WalkWork.{work}
use Rattle.rc_escape.proofs.FitsLemmas.{fits_passed, progress-passed}
use Rattle.rc_escape.proofs.WorkLemmas.{passed_less}
use Rattle.rc_escape.proofs.walk_state.WalkState.visit_operand.Goals as goal

pub returns-clause-fits : goal.returns-clause-fits
returns-clause-fits c =
    let visited = c.in_ok-visit.ensures in
    let state = c.visit.new.self in
    subst (λ w. FitsRecord c.args.rows.now (record state { passed = w })) (sym c.set.ensures)
    (fits_passed c.args.rows.now c.args.self.now state c.args.row c.args.after c.args.operand visited.fits
    visited.passed c.requires.found c.requires.next visited.met)

pub returns-clause-visits : goal.returns-clause-visits
returns-clause-visits c =
    let rows = c.args.rows.now in
    subst (λ w. BeginsVisit rows (reverse c.visit.new.stack) w c.args.operand false (reverse c.args.stack.now)
    (progress rows c.args.self.now)) (sym (progress-passed rows c.visit.new.self c.set.new.self))
    c.in_ok-visit.ensures.visits

pub returns-clause-less : goal.returns-clause-less
returns-clause-less c =
    let visited = c.in_ok-visit.ensures in
    let state = c.visit.new.self in
    let most = work c.args.rows.now c.args.self.now c.args.stack.now in
    subst (λ w. work c.args.rows.now (record state { passed = w }) c.visit.new.stack < most) (sym c.set.ensures)
    (passed_less c.args.rows.now c.args.self.now state c.args.row c.args.after c.args.operand c.visit.new.stack most
    visited.fits visited.passed c.requires.found c.requires.next visited.less)
