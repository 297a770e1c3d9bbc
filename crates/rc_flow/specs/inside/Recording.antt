-- The collecting steps as the read walk lists them.
use Rattle.std.specs.Prelude.{List, [], ◌++◌, Result, Ok}
use Rattle.rc_hir.specs.Model.{Environment, Fault}
use Rattle.rc_tree.specs.Model.{ReactiveBlock}
use Rattle.rc_tree.specs.Read.{read_block}
use Rattle.rc_tree.specs.ReadSteps.{ReadSteps, idle}
use Rattle.rc_tree.specs.Step.{bind}
use Rattle.rc_flow.specs.Collected.{place_steps, pruned_scope_steps}
use Rattle.rc_flow.specs.declared.step.Step.{Step}

-- the read walk that lists the steps: places and targets mark, and so do declarations at the end of a pruned scope
-- block
abbrev pub recording : Environment → ReadSteps (List Step)
recording env = record idle {
  visit_place = λ id place steps. Ok (tt, steps ++ place_steps place);
  visit_lvalue = λ id place steps. Ok (tt, steps ++ place_steps place);
  leave_pruned_scope = λ block steps. Ok (tt, steps ++ pruned_scope_steps env block.scope);
}

-- the steps that the walk of a body lists, or the fault of an operand that can't be read
abbrev pub walked_steps : Environment → ReactiveBlock → Result (List Step) Fault
walked_steps env body = bind (read_block (recording env) env.functions body []) (λ walked. Ok walked.1)
