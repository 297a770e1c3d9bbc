-- The clauses of the pass on early returns, after those of the other passes.
use Rattle.std.proofs.Common.{◌≡◌, [], Err, ap, inl, refl, rules}
use Rattle.std.proofs.lemmas.Result.{err_from_is_err_and}
use Rattle.rc_pipe.specs.Passes.{state}
use Rattle.rc_pipe.proofs.EarlyReturnsFit.{new_blocks, only_memory_left, still_room}
use Rattle.rc_pipe.proofs.EnvironmentStays.{keeps_through}
use Rattle.rc_pipe.proofs.PassesLemmas.{all_passes, memory_fault, runs_after}
use Rattle.rc_pipe.proofs.ScopelessPasses.{none_returned}
use Rattle.rc_pipe.proofs.passes.prune.Goals as goal

pub returns-clause-ok : goal.returns-clause-ok
returns-clause-ok c =
    let returns = c.in_ok-propagate_early_returns.ensures in
    all_passes c.in_ok-decisions.ensures.ok
    (record { returns = returns.ok; header = returns.header; kept_scopes = returns.kept_scopes })

-- where no scope has a block, early returns are left out
pub returns-then-is_empty-clause-ok : goal.returns-then-is_empty-clause-ok
returns-then-is_empty-clause-ok c =
    let empty : c.in_ok-decisions.decisions.spelled ≡ [] = search rules in
    let passed = c.in_ok-decisions.ensures in
    all_passes passed.ok (record {
      returns = none_returned c.prune_scopes.new.env c.prune_scopes.new.func.body (passed.still_none empty);
      header = refl;
      kept_scopes = refl;
    })

pub returns-clause-still_known : goal.returns-clause-still_known
returns-clause-still_known c = c.in_ok-propagate_early_returns.ensures.known c.in_ok-decisions.ensures.still_known

-- the tree before early returns has its numbers in their tables, and a new block is none of its own
pub returns-clause-kept_runs : goal.returns-clause-kept_runs
returns-clause-kept_runs c = λ none.
    runs_after c.args.func.now c.prune_scopes.new.func c.propagate_early_returns.new.func c.args.env.now
    c.prune_scopes.new.env c.propagate_early_returns.new.env (c.in_ok-decisions.ensures.kept_runs none)
    (c.in_ok-propagate_early_returns.ensures.kept_runs c.in_ok-decisions.ensures.still_known
    (new_blocks c.in_ok-decisions.ensures.ok c.args.hir.now c.requires.spelled c.requires.room none))

-- a refusal of the passes before is one of the passes
pub returns-in_err-decisions-clause-refused : goal.returns-in_err-decisions-clause-refused
returns-in_err-decisions-clause-refused c =
    let p = err_from_is_err_and c.from_residual.result c.from_residual.ensures.1 in
    rw (p.1, p.2) (c.in_err-decisions.ensures.refused)

pub returns-in_err-decisions-clause-kept_environment : goal.returns-in_err-decisions-clause-kept_environment
returns-in_err-decisions-clause-kept_environment c =
    let p = err_from_is_err_and c.from_residual.result c.from_residual.ensures.1 in
    rw (p.1, p.2) (c.in_err-decisions.ensures.kept_environment)

-- early returns fail only when out of memory, since enough numbers are left
pub returns-in_err-propagate_early_returns-clause-refused : goal.returns-in_err-propagate_early_returns-clause-refused
returns-in_err-propagate_early_returns-clause-refused c =
    let exit = c.from_residual-in_err-propagate_early_returns in
    let p = err_from_is_err_and exit.result exit.ensures.1 in
    let fault = c.in_err-propagate_early_returns.field-0.0 in
    let returns = c.in_err-propagate_early_returns.ensures in
    rw (p.1, p.2) (memory_fault (state c.args.func.now c.args.env.now) fault (only_memory_left fault
    (λ none. returns.has_ids (still_room c.in_ok-decisions.ensures.ok c.args.hir.now c.requires.spelled
    c.requires.room) (ap Err none)) (returns.sound c.in_ok-decisions.ensures.still_known)))

pub returns-in_err-propagate_early_returns-clause-kept_environment :
    goal.returns-in_err-propagate_early_returns-clause-kept_environment
returns-in_err-propagate_early_returns-clause-kept_environment c =
    let exit = c.from_residual-in_err-propagate_early_returns in
    let p = err_from_is_err_and exit.result exit.ensures.1 in
    let fault = c.in_err-propagate_early_returns.field-0.0 in
    let returns = c.in_err-propagate_early_returns.ensures in
    rw (p.1, p.2) (inl (only_memory_left fault
    (λ none. returns.has_ids (still_room c.in_ok-decisions.ensures.ok c.args.hir.now c.requires.spelled
    c.requires.room) (ap Err none)) (returns.sound c.in_ok-decisions.ensures.still_known)))

-- numbers stay in their tables through all passes
pub returns-clause-kept_numbers : goal.returns-clause-kept_numbers
returns-clause-kept_numbers c =
    keeps_through c.prune_scopes.ensures.kept_numbers c.propagate_early_returns.ensures.kept_numbers

pub returns-in_err-propagate_early_returns-clause-kept_numbers :
    goal.returns-in_err-propagate_early_returns-clause-kept_numbers
returns-in_err-propagate_early_returns-clause-kept_numbers c =
    keeps_through c.prune_scopes.ensures.kept_numbers c.propagate_early_returns.ensures.kept_numbers

pub returns-clause-known_names : goal.returns-clause-known_names
returns-clause-known_names c = λ names.
    c.propagate_early_returns.ensures.known_names c.args.hir.now (c.prune_scopes.ensures.known_names names)

pub returns-in_err-propagate_early_returns-clause-known_names :
    goal.returns-in_err-propagate_early_returns-clause-known_names
returns-in_err-propagate_early_returns-clause-known_names c = λ names.
    c.propagate_early_returns.ensures.known_names c.args.hir.now (c.prune_scopes.ensures.known_names names)
