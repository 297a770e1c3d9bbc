use Rattle.std.proofs.Common.{◌∙◌, reverse}
use Rattle.std.proofs.lemmas.Result.{err_from_is_err_and}
use Rattle.rc_flat.proofs.FromLast.{read_fails, read_put}
use Rattle.rc_flat.proofs.assembly.ListAssemble.assemble.Goals as goal

pub returns-in_err-part : goal.returns-in_err-part
returns-in_err-part g c =
    let p = err_from_is_err_and c.from_residual-in_err-part.result c.from_residual-in_err-part.ensures.1 in
    rw (p.1, p.2)
    (read_fails g.P.Assemble.takes c.loop-last.left c.pop.new.self c.in-Some.last (reverse c.loop-last.later)
    c.in_err-part.field-0.0 c.loop-last.found _ c.in-Some.ensures.last c.in_err-part.ensures c.loop-last.invariant)

pub loop-last-preserved : goal.loop-last-preserved
loop-last-preserved g c =
    read_put g.P.Assemble.takes c.loop-last.left c.pop.new.self c.in-Some.last c.loop-last.later c.push.new.self
    c.in_ok-part.part c.loop-last.found c.in_ok-part.rest c.in-Some.ensures.last c.in_ok-part.ensures
    c.in_ok-push.ensures.ok ∙ c.loop-last.invariant
