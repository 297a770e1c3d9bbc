-- The clauses of the passes on other scopes, one after the other.
use Rattle.std.proofs.Common.{◌∙◌, ◌++◌, List, ap, append_assoc, refl, subst, sym}
use Rattle.rc_tree.specs.Model.{ReactiveFunction}
use Rattle.rc_tree.specs.ScopesIn.{HasScopesOnce}
use Rattle.rc_tree.specs.declared.fate.ScopeFate.{ScopeFate}
use Rattle.rc_pipe.specs.Passes.{state}
use Rattle.rc_pipe.proofs.passes.decide_others.Goals as goal

pub returns-clause-ok : goal.returns-clause-ok
returns-clause-ok c =
    let reactive = c.in_ok-prune_non_reactive_dependencies.ensures in
    let unused = c.in_ok-log.ensures in
    let merging = c.in_ok-merging.ensures in
    let causes = c.in_ok-causes.ensures in
    let invalidating = c.in_ok-invalidating.ensures in
    let env = c.prune_non_reactive_dependencies.new.env in
    let once = unused.scopes_once
    (subst (λ (func : ReactiveFunction). HasScopesOnce func.body) (sym reactive.tree) c.requires.once) in (
      record {
        reactive = state c.prune_non_reactive_dependencies.new.func env;
        dependencies = record { scopes = reactive.ok; kept_function = reactive.tree };
        used = state c.decide_unused_scopes.new.func env;
        unused = c.in_ok-log.log;
        scopes = record { scopes = unused.loses; header = unused.header; kept_environment = refl };
        merged = state c.merging_decisions.new.func c.merging_decisions.new.env;
        joined = c.in_ok-merging.merging.log;
        merges = record { scopes = merging.ok once; header = merging.header };
        always_invalidating = c.in_ok-invalidating.invalidating;
        invalidating = record {
          scopes = invalidating.ok;
          header = invalidating.header;
          kept_environment = refl;
        };
        told = c.in_ok-append-2.ensures.ok
            ∙ ap (λ (log : List ScopeFate). log ++ c.in_ok-invalidating.invalidating) c.in_ok-append.ensures.ok
            ∙ append_assoc c.in_ok-log.log c.in_ok-merging.merging.log c.in_ok-invalidating.invalidating;
      },
      λ asked. record {
        received = merging.received asked;
        merged = merging.told asked once;
        causes = causes.told asked;
        each = causes.each asked;
      },
    )

-- merging keeps the numbers of what it received in their tables, and the last pass leaves its environment
pub returns-clause-known_names : goal.returns-clause-known_names
returns-clause-known_names c = λ graph names.
    c.in_ok-merging.ensures.known_names
    (c.in_ok-log.ensures.known (c.in_ok-prune_non_reactive_dependencies.ensures.known c.requires.known)) graph
    (c.in_ok-prune_non_reactive_dependencies.ensures.known_names graph names)

pub returns-in_err-merging-clause-known_names : goal.returns-in_err-merging-clause-known_names
returns-in_err-merging-clause-known_names c = λ graph names.
    c.in_err-merging.ensures.known_names
    (c.in_ok-log.ensures.known (c.in_ok-prune_non_reactive_dependencies.ensures.known c.requires.known)) graph
    (c.in_ok-prune_non_reactive_dependencies.ensures.known_names graph names)

pub returns-in_err-append-clause-known_names : goal.returns-in_err-append-clause-known_names
returns-in_err-append-clause-known_names c = λ graph names.
    c.in_ok-merging.ensures.known_names
    (c.in_ok-log.ensures.known (c.in_ok-prune_non_reactive_dependencies.ensures.known c.requires.known)) graph
    (c.in_ok-prune_non_reactive_dependencies.ensures.known_names graph names)

pub returns-in_err-causes-clause-known_names : goal.returns-in_err-causes-clause-known_names
returns-in_err-causes-clause-known_names c = λ graph names.
    c.in_ok-merging.ensures.known_names
    (c.in_ok-log.ensures.known (c.in_ok-prune_non_reactive_dependencies.ensures.known c.requires.known)) graph
    (c.in_ok-prune_non_reactive_dependencies.ensures.known_names graph names)

pub returns-in_err-invalidating-clause-known_names : goal.returns-in_err-invalidating-clause-known_names
returns-in_err-invalidating-clause-known_names c = λ graph names.
    c.in_ok-merging.ensures.known_names
    (c.in_ok-log.ensures.known (c.in_ok-prune_non_reactive_dependencies.ensures.known c.requires.known)) graph
    (c.in_ok-prune_non_reactive_dependencies.ensures.known_names graph names)

pub returns-in_err-append-2-clause-known_names : goal.returns-in_err-append-2-clause-known_names
returns-in_err-append-2-clause-known_names c = λ graph names.
    c.in_ok-merging.ensures.known_names
    (c.in_ok-log.ensures.known (c.in_ok-prune_non_reactive_dependencies.ensures.known c.requires.known)) graph
    (c.in_ok-prune_non_reactive_dependencies.ensures.known_names graph names)
