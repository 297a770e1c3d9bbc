-- The lemmas on each step of the walk by a stack, by the name of the step.
use Rattle.std.proofs.lemmas.Option.{slice_get_within}
use Rattle.rc_escape.proofs.FitsLemmas.{fits_at_start, fits_seen, fits_taken}
use Rattle.rc_escape.proofs.FitsLemmas.{nothing_is_met, seen_there}
use Rattle.rc_escape.proofs.FrameLemmas.{decided, decided_not, dependencies_gone, entered, escaping_end, escaping_step}
use Rattle.rc_escape.proofs.FrameLemmas.{names_end, names_gone, names_step, scopes_end, scopes_gone, scopes_step, taken}
use Rattle.rc_escape.proofs.RowWalks.{dependencies_end, operand_step, row_step}
use Rattle.rc_escape.proofs.WalkLoop.{loop_begins, loop_ends, loop_goes_on, loop_less}
use Rattle.rc_escape.proofs.WorkLemmas.{decided_less, dependencies_last, dependencies_less, entered_less, escaping_less}
use Rattle.rc_escape.proofs.WorkLemmas.{names_less, row_less, scopes_less, steps_left_some, taken_less}
use Rattle.rc_escape.proofs.WorkLemmas.{undecided_less}

pub ruleset begin = (fits_at_start, nothing_is_met)

pub ruleset enter = (entered, entered_less, fits_seen, seen_there, slice_get_within)

pub ruleset decide = (decided, decided_not, decided_less, undecided_less, slice_get_within)

pub ruleset open_scope = (taken, taken_less, fits_taken, slice_get_within)

pub ruleset resume_escaping = (escaping_step, escaping_end, escaping_less, steps_left_some)

pub ruleset resume_dependencies = (
  operand_step,
  row_step,
  dependencies_end,
  dependencies_gone,
  row_less,
  dependencies_less,
  dependencies_last,
  steps_left_some,
)

pub ruleset resume_scopes = (scopes_step, scopes_end, scopes_gone, scopes_less, steps_left_some)

pub ruleset resume_scope_dependencies = (names_step, names_end, names_gone, names_less, steps_left_some)

pub ruleset run = (loop_begins, loop_goes_on, loop_ends, loop_less)
