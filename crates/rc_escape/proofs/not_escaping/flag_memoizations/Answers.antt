-- The names decide nothing, so the body is the one that is rebuilt for the memoized names.
use Rattle.std.proofs.lemmas.Result.{err_from_is_err_and}
use Rattle.rc_escape.proofs.NotEscaping.EscapeFaults.{memory_fault}
use Rattle.rc_escape.proofs.NotEscaping.FlagsAlone.{flags_alone}
use Rattle.rc_escape.proofs.NotEscaping.KeptParts.{erased_kept, still_known}
use Rattle.rc_escape.proofs.NotEscaping.NeededOutputs.{needed_left}
use Rattle.rc_escape.proofs.not_escaping.flag_memoizations.Goals as goal

pub returns-clause-ok : goal.returns-clause-ok
returns-clause-ok c =
    flags_alone c.args.env.now c.args.func.now _ c.rebuild.new.func.body c.in_ok-check_record.ensures.ok
    c.requires.none c.in_ok-rebuild.ensures.ok.0

pub returns-clause-needed : goal.returns-clause-needed
returns-clause-needed c =
    needed_left c.args.env.now c.args.func.now c.rebuild.new.func.body (returns-clause-ok c).without

pub returns-clause-kept_erased : goal.returns-clause-kept_erased
returns-clause-kept_erased c =
    let is = (returns-clause-ok c).without in
    erased_kept c.args.env.now is.set c.args.func.now c.rebuild.new.func c.rebuild.ensures.header is.rebuilt

pub returns-clause-known : goal.returns-clause-known
returns-clause-known c =
    let is = (returns-clause-ok c).without in
    still_known c.args.env.now is.set c.args.func.now c.rebuild.new.func c.rebuild.ensures.header is.rebuilt

pub returns-in_err-rebuild-clause-refused : goal.returns-in_err-rebuild-clause-refused
returns-in_err-rebuild-clause-refused c =
    let exit = c.from_residual-in_err-rebuild in
    let p = err_from_is_err_and exit.result exit.ensures.1 in
    rw (p.1, p.2)
    (memory_fault c.args.env.now c.args.func.now c.in_err-rebuild.field-0.0 c.in_err-rebuild.ensures.refused)

pub returns-in_err-check_record-clause-refused : goal.returns-in_err-check_record-clause-refused
returns-in_err-check_record-clause-refused c =
    let p = err_from_is_err_and c.from_residual.result c.from_residual.ensures.1 in
    rw (p.1, p.2) c.in_err-check_record.ensures.refused
