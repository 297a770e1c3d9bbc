use Rattle.std.proofs.Common.{sym, ◌∙◌}
use Rattle.std.proofs.lemmas.Result.{err_from_is_err_and}
use Rattle.rc_flat.specs.inside.Assembly.{wait_block}
use Rattle.rc_flat.proofs.FromLast.{step_fails, steps_go_on}
use Rattle.rc_flat.proofs.assembly.wait_blocks.Goals as goal

pub returns-in_err-found : goal.returns-in_err-found
returns-in_err-found c =
    let p = err_from_is_err_and c.from_residual.result c.from_residual.ensures.1 in
    rw (p.1, p.2)
    (step_fails wait_block c.loop-entry.left c.pop.new.self c.in-Some.entry c.in_err-found.field-0.0
    c.loop-entry.found _ c.in-Some.ensures.last c.in_err-found.ensures c.loop-entry.invariant)

pub loop-entry-preserved : goal.loop-entry-preserved
loop-entry-preserved c =
    sym (steps_go_on wait_block c.loop-entry.left c.pop.new.self c.in-Some.entry c.loop-entry.found c.in_ok-found.found
    c.in-Some.ensures.last c.in_ok-found.ensures)
    ∙ c.loop-entry.invariant
