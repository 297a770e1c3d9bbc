use Rattle.std.proofs.Common.{◌≡◌, ◌∙◌, Err, OnOk, ap, length, subst, sym}
use Rattle.std.proofs.lemmas.Result.{err_from_is_err_and}
use Rattle.rc_early.proofs.FaultLemmas.{has_numbers, named_outside, only_numbers}
use Rattle.rc_early.proofs.GrowsLemmas.{graph_known, grows_itself}
use Rattle.rc_early.proofs.KeptRuns.KeepRuns.{early_returns_keep_runs, keep_runs_if_ok}
use Rattle.rc_early.proofs.KnownLemmas.{early_returns_known, known_if_ok}
use Rattle.rc_early.proofs.MadeLemmas.{has_some, made_numbered}
use Rattle.rc_early.proofs.ScopesLemmas.{scopes_stay}
use Rattle.rc_tree.proofs.StepLemmas.{any_case}
use Rattle.rc_early.specs.Entries.{with_early_returns}
use Rattle.rc_early.specs.inside.Growing.{AreNumbered, Fits}
use Rattle.rc_early.proofs.pass.propagate_early_returns.Goals as goal

pub add_early_returns-requires-clause-numbered : goal.add_early_returns-requires-clause-numbered
add_early_returns-requires-clause-numbered c = subst (AreNumbered c.args.env.now) (sym c.as_slice.ensures)
    (made_numbered c.args.env.now c.args.func.now.body c.replace_returns.new.func.body c.in_ok-made.made
    c.in_ok-made.ensures.ok).0

pub add_early_returns-requires-clause-room : goal.add_early_returns-requires-clause-room
add_early_returns-requires-clause-room c = subst (λ made. Fits c.args.env.now (length made)) (sym c.as_slice.ensures)
    ((made_numbered c.args.env.now c.args.func.now.body c.replace_returns.new.func.body c.in_ok-made.made
    c.in_ok-made.ensures.ok).1
    (has_some c.in_ok-made.made c.is_empty.result c.is_empty.ensures c.if-is_empty.false))

pub returns-clause-known_names : goal.returns-clause-known_names
returns-clause-known_names c = λ graph.
    graph_known c.args.env.now c.add_early_returns.new.env c.add_early_returns.ensures.grows graph

pub returns-in_err-made-clause-has_ids : goal.returns-in_err-made-clause-has_ids
returns-in_err-made-clause-has_ids c =
    let p = err_from_is_err_and c.from_residual.result c.from_residual.ensures.1 in
    has_numbers c.args.env.now c.args.func.now c.in_err-made.field-0.0 c.in_err-made.ensures.refused
    c.from_residual.result
    (p.1 ∙ ap (λ f. Err f) p.2)

pub returns-in_err-made-clause-named : goal.returns-in_err-made-clause-named
returns-in_err-made-clause-named c =
    let p = err_from_is_err_and c.from_residual.result c.from_residual.ensures.1 in
    named_outside c.args.env.now c.args.func.now c.in_err-made.field-0.0 c.in_err-made.ensures.refused
    c.from_residual.result
    (p.1 ∙ ap (λ f. Err f) p.2)

pub returns-in_err-made-clause-sound : goal.returns-in_err-made-clause-sound
returns-in_err-made-clause-sound c =
    let p = err_from_is_err_and c.from_residual.result c.from_residual.ensures.1 in
    only_numbers c.args.env.now c.args.func.now c.in_err-made.field-0.0 c.in_err-made.ensures.refused
    c.from_residual.result
    (p.1 ∙ ap (λ f. Err f) p.2)

pub returns-then-is_empty-clause-kept_scopes : goal.returns-then-is_empty-clause-kept_scopes
returns-then-is_empty-clause-kept_scopes c = scopes_stay c.args.env.now c.args.func.now.body
    c.replace_returns.new.func.body c.in_ok-made.made c.in_ok-made.ensures.ok

pub returns-clause-kept_scopes : goal.returns-clause-kept_scopes
returns-clause-kept_scopes c = any_case c.add_early_returns.result
    (scopes_stay c.args.env.now c.args.func.now.body c.replace_returns.new.func.body c.in_ok-made.made
    c.in_ok-made.ensures.ok)

pub returns-then-is_empty-clause-kept_runs : goal.returns-then-is_empty-clause-kept_runs
returns-then-is_empty-clause-kept_runs c = early_returns_keep_runs c.args.func.now c.replace_returns.new.func
    c.args.env.now c.args.env.now (record {
      made = c.in_ok-made.made;
      makes = c.in_ok-made.ensures.ok;
      entries = sym (ap (λ made. with_early_returns made c.args.env.now) (c.is_empty.ensures.0 c.if-is_empty.true));
    })

pub returns-clause-kept_runs : goal.returns-clause-kept_runs
returns-clause-kept_runs c = keep_runs_if_ok c.add_early_returns.result c.args.func.now c.replace_returns.new.func
    c.args.env.now c.add_early_returns.new.env c.in_ok-made.made c.in_ok-made.ensures.ok
    (subst
    (λ made. OnOk c.add_early_returns.result (c.add_early_returns.new.env ≡ with_early_returns made c.args.env.now))
    c.as_slice.ensures c.add_early_returns.ensures.ok)

pub returns-then-is_empty-clause-known : goal.returns-then-is_empty-clause-known
returns-then-is_empty-clause-known c = early_returns_known c.args.func.now c.replace_returns.new.func c.args.env.now
    c.args.env.now c.in_ok-made.made c.in_ok-made.ensures.ok
    (sym (ap (λ made. with_early_returns made c.args.env.now) (c.is_empty.ensures.0 c.if-is_empty.true)))
    (grows_itself c.args.env.now) c.replace_returns.ensures.header

pub returns-clause-known : goal.returns-clause-known
returns-clause-known c = known_if_ok c.add_early_returns.result c.args.func.now c.replace_returns.new.func
    c.args.env.now c.add_early_returns.new.env c.in_ok-made.made c.in_ok-made.ensures.ok
    c.replace_returns.ensures.header
    (subst
    (λ made. OnOk c.add_early_returns.result (c.add_early_returns.new.env ≡ with_early_returns made c.args.env.now))
    c.as_slice.ensures c.add_early_returns.ensures.ok) c.add_early_returns.ensures.grows
