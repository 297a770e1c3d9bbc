-- Each fault of the call has its cause, and each success meets the headline.
use Rattle.std.proofs.Common.{◌≡◌, ◌↔◌, All, Contains, Err, ap, inr, subst}
use Rattle.std.proofs.lemmas.Result.{err_from_is_err_and}
use Rattle.rc_checks.proofs.ScopeBlocks.SpelledOnce.{spelled_once}
use Rattle.rc_names.specs.Numbers.{ScopeId}
use Rattle.rc_tree.specs.inside.DecisionLogs.{fate_by}
use Rattle.rc_pipe.specs.Fates.{listed_scopes}
use Rattle.rc_pipe.proofs.CausesLemmas.{build_cause, only_memory}
use Rattle.rc_pipe.proofs.EnvironmentStays.{keeps_own}
use Rattle.rc_pipe.proofs.FatesHold.{among, fates_told, kept_exactly, none_needed, told_if_listed}
use Rattle.rc_pipe.proofs.FatesHold.{whole_record}
use Rattle.rc_pipe.proofs.FreshHolds.{fates_dissolve_fresh, fates_join_fresh, fates_parts_fresh}
use Rattle.rc_pipe.proofs.PassesLemmas.{graph_header, pass_cause}
use Rattle.rc_pipe.proofs.pipeline.answer.Goals as goal

pub returns-clause-ok : goal.returns-clause-ok
returns-clause-ok c =
    let built = c.in_ok-func.ensures in
    let parts = c.in_ok-decided.ensures.ok in
    let none = c.in_ok-accept.ensures.ok.no_early_return in
    let runs = c.in_ok-decided.ensures.kept_runs none in
    let once = spelled_once c.args.hir.now c.args.env.now c.in_ok-func.func built.ok in
    let fates = c.in_ok-fates.fates in
    let listed = subst (λ scopes. (scope : ScopeId) → Contains (listed_scopes fates) scope ↔ Contains scopes scope)
    c.as_slice.ensures c.in_ok-fates.ensures.listed in
    let told = subst (λ log. All (λ entry. entry.fate ≡ fate_by log entry.scope) fates) c.as_slice-2.ensures
    c.in_ok-fates.ensures.told in
    let by_rules = fates_told parts once fates listed told in
    record {
      answer = record {
        accepted = c.in_ok-accept.ensures.ok;
        spelled = c.in_ok-func.func;
        spells = built.ok;
        one_tree = built.one_tree;
        header = graph_header built.ok parts.passes;
        passes = parts.passes;
        graph_to_body = λ events end run. (runs events end).0 (built.graph_to_body none events end run);
        body_to_graph = λ events end calm run. built.body_to_graph none events end calm ((runs events end).1 run);
        fates = record {
          rising = c.in_ok-fates.ensures.rising;
          listed = among parts once fates listed told;
          told = by_rules;
        };
        kept = kept_exactly parts once fates listed told;
        recorded = whole_record parts once;
        needed = none_needed parts once fates listed told;
        joins_fresh = fates_join_fresh parts.passes fates by_rules;
        parts_fresh = fates_parts_fresh parts.passes fates by_rules;
        dissolves_fresh = fates_dissolve_fresh parts.passes fates by_rules;
        known = c.in_ok-decided.ensures.still_known;
      };
      explained = told_if_listed parts once fates listed told;
    }

pub returns-in_err-accept-clause-complete : goal.returns-in_err-accept-clause-complete
returns-in_err-accept-clause-complete c =
    let p = err_from_is_err_and c.from_residual.result c.from_residual.ensures.1 in
    rw (p.1, p.2) (λ func accepted answer.
    inr (ap Err (only_memory c.args.hir.now c.args.env.now accepted func answer c.in_err-accept.field-0.0
    c.in_err-accept.ensures.refused.0)))

-- the fault of the builder has a cause
pub returns-in_err-func-clause-refused : goal.returns-in_err-func-clause-refused
returns-in_err-func-clause-refused c =
    let p = err_from_is_err_and c.from_residual-in_err-func.result c.from_residual-in_err-func.ensures.1 in
    rw (p.1, p.2) (build_cause c.args.hir.now c.args.env.now c.in_ok-accept.ensures.ok c.in_err-func.field-0.0
    c.in_err-func.ensures.refused)

pub returns-in_err-func-clause-complete : goal.returns-in_err-func-clause-complete
returns-in_err-func-clause-complete c =
    let p = err_from_is_err_and c.from_residual-in_err-func.result c.from_residual-in_err-func.ensures.1 in
    let cause = build_cause c.args.hir.now c.args.env.now c.in_ok-accept.ensures.ok c.in_err-func.field-0.0
    c.in_err-func.ensures.refused
    in
    rw (p.1, p.2) (λ func accepted answer. inr (ap Err (only_memory c.args.hir.now c.args.env.now accepted func answer
    c.in_err-func.field-0.0 cause)))

-- a pass's refusal of the one tree has a cause
pub returns-in_err-decided-clause-refused : goal.returns-in_err-decided-clause-refused
returns-in_err-decided-clause-refused c =
    let p = err_from_is_err_and c.from_residual-in_err-decided.result c.from_residual-in_err-decided.ensures.1 in
    let built = c.in_ok-func.ensures in
    rw (p.1, p.2) (pass_cause c.args.hir.now c.args.env.now c.in_ok-accept.ensures.ok
    c.in_ok-func.func built.ok c.in_err-decided.field-0.0
    c.in_err-decided.ensures.refused)

pub returns-in_err-decided-clause-complete : goal.returns-in_err-decided-clause-complete
returns-in_err-decided-clause-complete c =
    let p = err_from_is_err_and c.from_residual-in_err-decided.result c.from_residual-in_err-decided.ensures.1 in
    let built = c.in_ok-func.ensures in
    let cause = pass_cause c.args.hir.now c.args.env.now c.in_ok-accept.ensures.ok
    c.in_ok-func.func built.ok c.in_err-decided.field-0.0
    c.in_err-decided.ensures.refused
    in
    rw (p.1, p.2) (λ func accepted answer. inr (ap Err (only_memory c.args.hir.now c.args.env.now accepted func answer
    c.in_err-decided.field-0.0 cause)))

-- the passes keep numbers in their tables, whatever comes
pub returns-clause-known_names : goal.returns-clause-known_names
returns-clause-known_names c = c.prune.ensures.known_names

pub returns-in_err-decided-clause-known_names : goal.returns-in_err-decided-clause-known_names
returns-in_err-decided-clause-known_names c = c.prune.ensures.known_names

pub returns-in_err-fates-clause-known_names : goal.returns-in_err-fates-clause-known_names
returns-in_err-fates-clause-known_names c = c.prune.ensures.known_names

pub returns-in_err-accept-clause-kept_numbers : goal.returns-in_err-accept-clause-kept_numbers
returns-in_err-accept-clause-kept_numbers c = keeps_own c.args.env.now

pub returns-in_err-func-clause-kept_numbers : goal.returns-in_err-func-clause-kept_numbers
returns-in_err-func-clause-kept_numbers c = keeps_own c.args.env.now
