-- The clauses of the parts of the passes before early returns, put together.
use Rattle.std.proofs.Common.{◌≡◌, ◌∙◌, [], Err, ap, inl, inr, refl, rules, sym}
use Rattle.std.proofs.lemmas.Result.{err_from_is_err_and}
use Rattle.rc_checks.proofs.MembershipCheck.WithoutBlocks.{inside_without_blocks}
use Rattle.rc_checks.proofs.ScopeBlocks.SpelledOnce.{spelled_once}
use Rattle.rc_escape.specs.Outputs.{staying_scopes}
use Rattle.rc_pipe.specs.Passes.{state}
use Rattle.rc_pipe.proofs.EnvironmentStays.{keeps_own}
use Rattle.rc_pipe.proofs.PassesLemmas.{checked, escape_fault, labels_keep_once, labels_keep_scopes, memory_fault}
use Rattle.rc_pipe.proofs.PassesLemmas.{outside_fault, runs_through}
use Rattle.rc_pipe.proofs.ScopelessPasses.{others_pruned}
use Rattle.rc_pipe.proofs.passes.prune_scopes.Goals as goal

pub returns-clause-ok : goal.returns-clause-ok
returns-clause-ok c =
    let before = c.in_ok-spelled.ensures in
    let escape = c.in_ok-escape.ensures in
    record {
      labeled = state c.check.new.func c.args.env.now;
      checked = checked c.args.env.now c.args.func.now c.check.new.func before.ok before.kept_visits
          c.in_ok-assert_known_instructions_within_scopes.ensures.ok;
      escaping = state c.escape_decisions.new.func c.args.env.now;
      not_escaping = c.in_ok-escape.escape.log;
      escapes = record { scopes = escape.ok.0; header = escape.header; kept_environment = refl };
      log = c.in_ok-others.others.log;
      others = c.in_ok-others.ensures.ok.0;
      kept_erased = c.in_ok-others.ensures.kept_erased ∙ escape.kept_erased;
      listed = before.listed ∙ labels_keep_scopes before.ok;
      told = c.in_ok-append.ensures.ok;
      explained = λ asked. inr (escape.ok.1 asked, c.in_ok-others.ensures.ok.1 asked);
      needed = escape.needed;
    }

-- where no scope has a block, the other passes are left out
pub returns-then-is_empty-clause-ok : goal.returns-then-is_empty-clause-ok
returns-then-is_empty-clause-ok c =
    let before = c.in_ok-spelled.ensures in
    let escape = c.in_ok-flag_memoizations.ensures in
    let empty : c.in_ok-spelled.spelled ≡ [] = search rules in
    let none = sym before.listed ∙ empty in
    let env = c.args.env.now in
    record {
      labeled = state c.check.new.func env;
      checked = checked env c.args.func.now c.check.new.func before.ok before.kept_visits
          (inside_without_blocks env c.check.new.func before.still_known none);
      escaping = state c.flag_memoizations.new.func env;
      not_escaping = [];
      escapes = record { scopes = escape.ok; header = escape.header; kept_environment = refl };
      log = [];
      others = others_pruned (state c.flag_memoizations.new.func env) (escape.known before.still_known)
          (escape.ok.without.left ∙ ap (staying_scopes env escape.ok.without.set) none);
      kept_erased = escape.kept_erased;
      listed = before.listed ∙ labels_keep_scopes before.ok;
      told = search rules;
      explained = λ asked. inl empty;
      needed = escape.needed;
    }

-- and the tree has no scope block after them
pub returns-then-is_empty-clause-still_none : goal.returns-then-is_empty-clause-still_none
returns-then-is_empty-clause-still_none c = λ empty.
    let without = c.in_ok-flag_memoizations.ensures.ok.without in
    without.left ∙ ap (staying_scopes c.args.env.now without.set) (sym c.in_ok-spelled.ensures.listed ∙ empty)

pub returns-clause-still_none : goal.returns-clause-still_none
returns-clause-still_none c = λ empty.
    let filled : ¬ (c.in_ok-spelled.spelled ≡ []) = search rules in absurd (filled empty)

pub flag_memoizations-requires : goal.flag_memoizations-requires
flag_memoizations-requires c =
    let empty : c.in_ok-spelled.spelled ≡ [] = search rules in
    record { none = sym c.in_ok-spelled.ensures.listed ∙ empty }

-- the spelled tree has each scope once, and so has the tree after each pass
pub decide_others-requires-clause-once : goal.decide_others-requires-clause-once
decide_others-requires-clause-once c =
    let spelled = spelled_once c.args.hir.now c.args.env.now c.args.func.now c.requires.spelled in
    c.in_ok-escape.ensures.scopes_once (labels_keep_once c.in_ok-spelled.ensures.ok spelled)

pub decide_others-requires-clause-known : goal.decide_others-requires-clause-known
decide_others-requires-clause-known c = c.in_ok-escape.ensures.known c.in_ok-spelled.ensures.still_known

pub returns-clause-still_known : goal.returns-clause-still_known
returns-clause-still_known c = c.in_ok-others.ensures.still_known

pub returns-clause-kept_runs : goal.returns-clause-kept_runs
returns-clause-kept_runs c = λ none.
    runs_through c.args.env.now c.decide_others.new.env c.args.func.now c.check.new.func
    c.escape_decisions.new.func c.decide_others.new.func c.in_ok-others.others.log
    (c.in_ok-spelled.ensures.kept_runs none) c.in_ok-escape.ensures.kept_erased c.in_ok-others.ensures.kept_erased
    c.in_ok-others.ensures.ok.0 none

pub returns-then-is_empty-clause-kept_runs : goal.returns-then-is_empty-clause-kept_runs
unfolding returns-then-is_empty-clause-ok
returns-then-is_empty-clause-kept_runs c = λ none.
    runs_through c.args.env.now c.args.env.now c.args.func.now c.check.new.func c.flag_memoizations.new.func
    c.flag_memoizations.new.func [] (c.in_ok-spelled.ensures.kept_runs none)
    c.in_ok-flag_memoizations.ensures.kept_erased refl (returns-then-is_empty-clause-ok c).others none

-- the checks fail only when out of memory
pub returns-in_err-spelled-clause-refused : goal.returns-in_err-spelled-clause-refused
returns-in_err-spelled-clause-refused c =
    let p = err_from_is_err_and c.from_residual.result c.from_residual.ensures.1 in
    rw (p.1, p.2) (memory_fault (state c.args.func.now c.args.env.now) c.in_err-spelled.field-0.0
    c.in_err-spelled.ensures.refused)

-- a refusal of the check of operands is one of the passes
pub returns-in_err-assert_known_instructions_within_scopes-clause-refused :
    goal.returns-in_err-assert_known_instructions_within_scopes-clause-refused
returns-in_err-assert_known_instructions_within_scopes-clause-refused c =
    let exit = c.from_residual-in_err-assert_known_instructions_within_scopes in
    let refused = c.in_err-assert_known_instructions_within_scopes in
    let before = c.in_ok-spelled.ensures in
    let p = err_from_is_err_and exit.result exit.ensures.1 in
    rw (p.1, p.2) (outside_fault c.args.env.now c.args.func.now c.check.new.func before.ok before.kept_visits
    refused.field-0.0 (λ id scope is. refused.ensures.scope_completed id scope (ap Err is)) refused.ensures.only)

-- and so is one of the escape pass
pub returns-in_err-flag_memoizations-clause-refused : goal.returns-in_err-flag_memoizations-clause-refused
returns-in_err-flag_memoizations-clause-refused c =
    let exit = c.from_residual-in_err-flag_memoizations in
    let before = c.in_ok-spelled.ensures in
    let empty : c.in_ok-spelled.spelled ≡ [] = search rules in
    let p = err_from_is_err_and exit.result exit.ensures.1 in
    rw (p.1, p.2) (escape_fault c.args.env.now c.args.func.now c.check.new.func
    (checked c.args.env.now c.args.func.now c.check.new.func before.ok before.kept_visits
    (inside_without_blocks c.args.env.now c.check.new.func before.still_known (sym before.listed ∙ empty)))
    c.in_err-flag_memoizations.field-0.0 c.in_err-flag_memoizations.ensures.refused)

pub returns-in_err-escape-clause-refused : goal.returns-in_err-escape-clause-refused
returns-in_err-escape-clause-refused c =
    let exit = c.from_residual-in_err-escape in
    let before = c.in_ok-spelled.ensures in
    let p = err_from_is_err_and exit.result exit.ensures.1 in
    rw (p.1, p.2) (escape_fault c.args.env.now c.args.func.now c.check.new.func
    (checked c.args.env.now c.args.func.now c.check.new.func before.ok before.kept_visits
    c.in_ok-assert_known_instructions_within_scopes.ensures.ok) c.in_err-escape.field-0.0
    c.in_err-escape.ensures.refused)

-- pruning of other scopes refuses nothing that a graph spells, unless memory runs out
pub returns-in_err-others-clause-refused : goal.returns-in_err-others-clause-refused
returns-in_err-others-clause-refused c =
    let exit = c.from_residual-in_err-others in
    let p = err_from_is_err_and exit.result exit.ensures.1 in
    rw (p.1, p.2) (memory_fault (state c.args.func.now c.args.env.now) c.in_err-others.field-0.0
    c.in_err-others.ensures.refused)

pub returns-in_err-others-clause-kept_environment : goal.returns-in_err-others-clause-kept_environment
returns-in_err-others-clause-kept_environment c =
    let exit = c.from_residual-in_err-others in
    let p = err_from_is_err_and exit.result exit.ensures.1 in
    rw (p.1, p.2) (inl c.in_err-others.ensures.refused)

-- whatever the passes give, numbers stay in their tables
pub returns-then-is_empty-clause-still_known : goal.returns-then-is_empty-clause-still_known
returns-then-is_empty-clause-still_known c = c.in_ok-flag_memoizations.ensures.known c.in_ok-spelled.ensures.still_known

pub returns-then-is_empty-clause-kept_numbers : goal.returns-then-is_empty-clause-kept_numbers
returns-then-is_empty-clause-kept_numbers c = keeps_own c.args.env.now

pub returns-clause-known_names : goal.returns-clause-known_names
returns-clause-known_names c = c.decide_others.ensures.known_names c.args.hir.now

pub returns-in_err-append-clause-known_names : goal.returns-in_err-append-clause-known_names
returns-in_err-append-clause-known_names c = c.decide_others.ensures.known_names c.args.hir.now

pub returns-in_err-others-clause-known_names : goal.returns-in_err-others-clause-known_names
returns-in_err-others-clause-known_names c = c.decide_others.ensures.known_names c.args.hir.now

pub returns-in_err-spelled-clause-kept_numbers : goal.returns-in_err-spelled-clause-kept_numbers
returns-in_err-spelled-clause-kept_numbers c = keeps_own c.args.env.now

pub returns-in_err-flag_memoizations-clause-kept_numbers : goal.returns-in_err-flag_memoizations-clause-kept_numbers
returns-in_err-flag_memoizations-clause-kept_numbers c = keeps_own c.args.env.now

pub returns-in_err-escape-clause-kept_numbers : goal.returns-in_err-escape-clause-kept_numbers
returns-in_err-escape-clause-kept_numbers c = keeps_own c.args.env.now
