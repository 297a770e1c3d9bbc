-- Each fault has its cause, and what is built is the one function that the graph spells, with the graph's runs.
use Rattle.std.proofs.Common.{inr, ap, subst, Err}
use Rattle.std.proofs.lemmas.Result.{err_from_is_err_and}
use Rattle.rc_hir.specs.declared.fault.Fault.TheVariants as faults
use Rattle.rc_runs.proofs.BodyToGraph.{function_to_graph}
use Rattle.rc_runs.proofs.GraphToBody.{graph_to_function}
use Rattle.rc_runs.proofs.NamesOutsideLemmas.{no_name_outside}
use Rattle.rc_runs.proofs.OneTree.{spells_one_function}
use Rattle.rc_runs.proofs.SpelledInTables.{spelled_in_tables}
use Rattle.rc_tree.proofs.StepLemmas.{Err-injective}
use Rattle.rc_build.specs.BuildCauses.{IsBuildCause}
use Rattle.rc_build.proofs.BuildCausesLemmas.{cause_of, only_memory}
use Rattle.rc_build.proofs.reactive_function.build_known_function.Goals as goal

pub returns-clause-one_tree : goal.returns-clause-one_tree
returns-clause-one_tree c = λ func spelled. spells_one_function spelled c.in_ok-built.ensures.ok

pub returns-clause-known : goal.returns-clause-known
returns-clause-known c =
    spelled_in_tables c.args.hir.now c.args.env.now c.in_ok-built.built c.requires.known c.in_ok-built.ensures.ok

pub returns-clause-graph_to_body : goal.returns-clause-graph_to_body
returns-clause-graph_to_body c = λ none events end run. graph_to_function c.in_ok-built.ensures.ok none events end run

pub returns-clause-body_to_graph : goal.returns-clause-body_to_graph
returns-clause-body_to_graph c = λ none events end quiet run.
    function_to_graph c.args.hir.now c.args.env.now c.in_ok-built.built c.in_ok-built.ensures.ok none events end quiet run

-- what the walk refuses has a cause, and `Malformed` leaves no function
pub returns-in_err-built-clause-refused : goal.returns-in_err-built-clause-refused
returns-in_err-built-clause-refused c =
    let p = err_from_is_err_and c.from_residual.result c.from_residual.ensures.1 in
    rw (p.1, p.2) (cause_of c.args.hir.now c.args.env.now c.requires.known c.in_err-built.field-0.0
    c.in_err-built.ensures.facts (λ block rule is. c.in_err-built.ensures.refused block rule (ap Err is)))

pub returns-in_err-built-clause-sound : goal.returns-in_err-built-clause-sound
returns-in_err-built-clause-sound c =
    let p = err_from_is_err_and c.from_residual.result c.from_residual.ensures.1 in
    let cause = cause_of c.args.hir.now c.args.env.now c.requires.known c.in_err-built.field-0.0
    c.in_err-built.ensures.facts (λ block rule is. c.in_err-built.ensures.refused block rule (ap Err is))
    in
    rw (p.1, p.2) (λ table index is. no_name_outside c.args.hir.now c.args.env.now c.requires.known
    (faults.BadName table index) (subst (IsBuildCause c.args.hir.now c.args.env.now) (Err-injective _ _ is) cause))

pub returns-in_err-built-clause-complete : goal.returns-in_err-built-clause-complete
returns-in_err-built-clause-complete c =
    let p = err_from_is_err_and c.from_residual.result c.from_residual.ensures.1 in
    let cause = cause_of c.args.hir.now c.args.env.now c.requires.known c.in_err-built.field-0.0
    c.in_err-built.ensures.facts (λ block rule is. c.in_err-built.ensures.refused block rule (ap Err is))
    in
    rw (p.1, p.2) (λ func spelled. inr (ap Err (only_memory c.args.hir.now c.args.env.now c.requires.known func spelled
    c.in_err-built.field-0.0 cause)))
