use Rattle.std.proofs.Common.{◌↔◌, IfOk, IsNone, sym, subst, true≢false}
use Rattle.rc_names.specs.Numbers.{BlockId}
use Rattle.rc_hir.specs.Model.{Fault, HirFunction, Environment}
use Rattle.rc_hir.specs.declared.fault.Fault.TheVariants as faults
use Rattle.rc_tree.specs.Model.{ReactiveFunction}
use Rattle.rc_runs.specs.Spelled.{Spells}
use Rattle.rc_build.specs.BuildCauses.{IsBuildCause}
use Rattle.rc_build.specs.inside.Answered.{answer_to}
use Rattle.rc_build.proofs.given_tree.spells.Goals as goal

-- the graph spells the built function alone, so it spells the tree exactly where the two are equal
pub returns-in-Ok-clause-same : goal.returns-in-Ok-clause-same
returns-in-Ok-clause-same c =
    let compared = c.difference.ensures.same in (
      λ none. subst (Spells c.args.hir.now c.args.env.now) (compared.0 none) c.in-Ok.ensures.ok,
      λ spelled. compared.1 (sym (c.in-Ok.ensures.one_tree c.args.tree.now spelled)),
    )

-- a graph that the builder refuses spells no tree
none_spelled : (hir : HirFunction) (env : Environment) (tree : ReactiveFunction) (entry : BlockId) (fault : Fault)
    → IsBuildCause hir env fault → IfOk (answer_to fault entry) (λ broken. IsNone broken ↔ Spells hir env tree)
none_spelled hir env tree entry (faults.Malformed block rule) cause =
    (λ none. absurd (true≢false none), λ spelled. absurd (cause.1 tree spelled))
none_spelled hir env tree entry (faults.Todo block) cause =
    (λ none. absurd (true≢false none), λ spelled. absurd (cause.1 tree spelled))
none_spelled hir env tree entry fault cause = tt

pub returns-in-Err-clause-same : goal.returns-in-Err-clause-same
returns-in-Err-clause-same c =
    let hir = c.args.hir.now in
    subst (λ answer. IfOk answer (λ broken. IsNone broken ↔ Spells hir c.args.env.now c.args.tree.now))
    (sym c.answer.ensures)
    (none_spelled hir c.args.env.now c.args.tree.now hir.body.entry c.in-Err.fault c.in-Err.ensures.refused)
