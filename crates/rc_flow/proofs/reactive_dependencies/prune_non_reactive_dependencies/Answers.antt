use Rattle.std.proofs.Common.{◌∙◌, ap, Err}
use Rattle.std.proofs.lemmas.Result.{err_from_is_err_and}
use Rattle.rc_hir.specs.Names.{NamesInTables}
use Rattle.rc_tree.specs.TreeNames.{TreeInTables}
use Rattle.rc_flow.proofs.ReactiveDependencies.KnownLemmas.{names_known, pruned_known}
use Rattle.rc_flow.proofs.ReactiveDependencies.StayLemmas.{refused, refused_sound, scopes_keep, scopes_named}
use Rattle.rc_flow.proofs.ReactiveDependencies.StayLemmas.{scopes_right}
use Rattle.rc_flow.proofs.reactive_dependencies.prune_non_reactive_dependencies.Goals as goal
use Rattle.rc_flow.specs.inside.Pruned.{scopes_after}

pub returns-in_err-scopes-clause-named : goal.returns-in_err-scopes-clause-named
returns-in_err-scopes-clause-named c =
    let env = c.args.env.now in
    let func = c.args.func.now in
    let p = err_from_is_err_and c.from_residual.result c.from_residual.ensures.1 in
    refused env func (scopes_after func.body env) (scopes_named env func) c.from_residual.result
    c.in_err-scopes.field-0.0 (p.1 ∙ ap (λ f. Err f) p.2) c.in_err-scopes.ensures

pub returns-in_err-scopes-clause-sound : goal.returns-in_err-scopes-clause-sound
returns-in_err-scopes-clause-sound c = λ known.
    refused_sound c.args.env.now c.args.func.now c.from_residual.result known (returns-in_err-scopes-clause-named c)

pub returns-clause-ok : goal.returns-clause-ok
returns-clause-ok c =
    scopes_right c.args.env.now c.args.func.now.body c.in_ok-scopes.scopes c.in_ok-scopes.ensures

pub returns-clause-known : goal.returns-clause-known
returns-clause-known c = λ known.
    let env = c.args.env.now in
    let func = c.args.func.now in
    scopes_keep env func.body (TreeInTables func) (λ s. pruned_known env s func known) c.in_ok-scopes.scopes
    c.in_ok-scopes.ensures

pub returns-clause-known_names : goal.returns-clause-known_names
returns-clause-known_names c = λ hir known.
    let env = c.args.env.now in
    scopes_keep env c.args.func.now.body (NamesInTables hir) (λ s. names_known env s hir known)
    c.in_ok-scopes.scopes c.in_ok-scopes.ensures
